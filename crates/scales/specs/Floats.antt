-- The order of the 32-bit floats by their bits.
use Rattle.std.specs.Prelude.{◌≡◌, ℕ, zero, suc, ◌+◌, ◌-◌, ◌*◌, ◌/◌, ◌%◌, ◌^◌, ◌<◌, ◌≤◌, Bool, true, false, cond, not, T, ltb, leb, ◌⊎◌, pos, ◌==◌, is_nan, nat_le, nat_lt, to_bits, refl, Float}
use Rattle.std.proofs.Common.{sym, ap, subst, ◌∙◌, inl, inr, true≢false, mul_assoc, mul_comm, mul_right_comm, mul-lt-mul_of_pos_right, mul-le-mul_right, mul-le-mul_left, lt_of_mul-lt-mul_right, mul-pos, pow-suc, zero-mul, eq-or-lt_of_le, arith, lt→ltb, ltb→lt, leb→le, le→leb, T_not, eqb→eq, pow_pos, pow_mono}
use Rattle.std.proofs.Math.Dec.{not_T}
use Rattle.std.proofs.lemmas.Float.{not_nan_f32_bits, lt_irrefl, lt_trans}
use Rattle.std.specs.Float.{nan, inf, fin, binary32}
use Rattle.std.specs.Float.Ieee.{fits, lt, of_bits, of_fields, odd, up, down}
use Rattle.std.specs.Float.Ieee.Bits.{of_bits-to_bits, to_bits-lt, to_bits-of_bits, nan_bits_is, nan_bits_above, of_bits-fits, is_true, is_false, cond_no}
use Rattle.std.specs.Float.Ieee.Exact.{HasValue, odd_sign}
use Rattle.std.specs.Float.Ieee.Fits.{down_pos}
use Rattle.scales.specs.Laws.{ScaleLaws}
use Rattle.scales.specs.Orders.{laws_by_places}
use Rattle.scales.specs.Readings.{OnReading, EarlierReading, place_bits, bits_at, place_reading, value_reading}

-- ---- which patterns are numbers

pub small_rest : (x : Float) → T (fits binary32 x) → T (not (is_nan x)) → to_bits binary32 x % 2147483648 ≤ 2139095040
small_rest x f n =
    let b = to_bits binary32 x in
    let same : ltb 2139095040 (b % 2147483648) ≡ is_nan x = sym (nan_bits_above binary32 b) ∙ nan_bits_is binary32 b ∙ ap is_nan (of_bits-to_bits binary32 x f) in
    let no : T (not (nat_lt 2139095040 (b % 2147483648))) = subst (λ (t : Bool). T (not t)) (sym same) n in
    over b (λ l. T_not (nat_lt 2139095040 (b % 2147483648)) no (lt→ltb 2139095040 (b % 2147483648) l))
  where
    over : (b : ℕ) → (2139095040 < b % 2147483648 → ⊥) → b % 2147483648 ≤ 2139095040
    over b h = omega arith

-- ---- sizes, in units of 2 ^ -149, by the exponent's field and the digits

abbrev mag : ℕ → ℕ → ℕ
mag zero t = t * 1
mag (suc x) t = (8388608 + t) * 2 ^ x

fields_value : (s : Bool) (x t : ℕ) → x < 255 → HasValue (of_fields binary32 s x t) s (mag x t) (2 ^ 149)
unfolding of_fields
fields_value s zero t h = odd_sign 24 s t 0 149
fields_value s (suc x) t h =
    subst (λ (v : Float). HasValue v s (mag (suc x) t) (2 ^ 149))
    (sym (cond_no (suc x == 255) (cond (t == 0) (inf s) nan) (odd 24 s (8388608 + t) x 149) (not_T (suc x == 255) (λ k. let e = eqb→eq (suc x) 255 k in omega arith))))
    (odd_sign 24 s (8388608 + t) x 149)

same_field : (x t u : ℕ) → t < u → (8388608 + t) * 2 ^ x < (8388608 + u) * 2 ^ x
same_field x t u h = let l : 8388608 + t < 8388608 + u = omega arith in mul-lt-mul_of_pos_right l (pow_pos x)

next_field : (x y t u : ℕ) → t < 8388608 → x < y → (8388608 + t) * 2 ^ x < (8388608 + u) * 2 ^ y
next_field x y t u h l =
    let a : 8388608 + t < 16777216 = omega arith in
    let b : (8388608 + t) * 2 ^ x < 16777216 * 2 ^ x = mul-lt-mul_of_pos_right a (pow_pos x) in
    let d : 2 ^ suc x ≤ 2 ^ y = pow_mono l in
    let e : 2 ^ suc x ≡ 2 ^ x * 2 = pow-suc 2 x in
    let k : 8388608 * 2 ^ y ≤ (8388608 + u) * 2 ^ y = mul-le-mul_right (2 ^ y) (plus u) in
    omega arith
  where
    plus : (u : ℕ) → 8388608 ≤ 8388608 + u
    plus u = omega arith

mag_mono : (x t y u : ℕ) → t < 8388608 → u < 8388608 → x * 8388608 + t < y * 8388608 + u → mag x t < mag y u
mag_mono zero t zero u a b h = omega arith
mag_mono (suc x) t zero u a b h = absurd (omega arith)
mag_mono zero t (suc y) u a b h =
    let l : (8388608 + u) * 1 ≤ (8388608 + u) * 2 ^ y = mul-le-mul_left (8388608 + u) (pow_pos y) in
    omega arith
mag_mono (suc x) t (suc y) u a b h = go (split x y t u a b h)
  where
    split : (x y t u : ℕ) → t < 8388608 → u < 8388608 → suc x * 8388608 + t < suc y * 8388608 + u → ((x ≡ y) × (t < u)) ⊎ (x < y)
    split x y t u a b h = grind arith

    go : ((x ≡ y) × (t < u)) ⊎ (x < y) → (8388608 + t) * 2 ^ x < (8388608 + u) * 2 ^ y
    go (inl e) = subst (λ (z : ℕ). (8388608 + t) * 2 ^ x < (8388608 + u) * 2 ^ z) e.0 (same_field x t u e.1)
    go (inr l) = next_field x y t u a l

abbrev size_of : ℕ → ℕ
size_of m = mag (m / 8388608) (m % 8388608)

size_lt : (m n : ℕ) → m < n → size_of m < size_of n
size_lt m n h = mag_mono (m / 8388608) (m % 8388608) (n / 8388608) (n % 8388608) (omega arith) (omega arith) (omega arith)

-- ---- the values of the patterns

plus_fields : (m : ℕ) → m < 2147483648 → of_bits binary32 m ≡ of_fields binary32 false (m / 8388608) (m % 8388608)
unfolding of_bits
plus_fields m h =
    let s : leb 2147483648 m ≡ false = is_false (nat_le 2147483648 m) (not_T (nat_le 2147483648 m) (λ k. let l = leb→le 2147483648 m k in omega arith)) in
    let r : m % 2147483648 ≡ m = omega arith in
    ap (λ (b : Bool). of_fields binary32 b (m % 2147483648 / 8388608) (m % 8388608)) s ∙ ap (λ (n : ℕ). of_fields binary32 false (n / 8388608) (m % 8388608)) r

minus_fields : (m : ℕ) → m < 2147483648 → of_bits binary32 (2147483648 + m) ≡ of_fields binary32 true (m / 8388608) (m % 8388608)
unfolding of_bits
minus_fields m h =
    let n = 2147483648 + m in
    let s : leb 2147483648 (2147483648 + m) ≡ true = is_true (nat_le 2147483648 n) (le→leb 2147483648 n (omega arith)) in
    let r : (2147483648 + m) % 2147483648 ≡ m = omega arith in
    let q : (2147483648 + m) % 8388608 ≡ m % 8388608 = omega arith in
    ap (λ (b : Bool). of_fields binary32 b (n % 2147483648 / 8388608) (n % 8388608)) s
    ∙ ap (λ (k : ℕ). of_fields binary32 true (k / 8388608) (n % 8388608)) r
    ∙ ap (λ (k : ℕ). of_fields binary32 true (m / 8388608) k) q

plus_value : (m : ℕ) → m < 2139095040 → HasValue (of_bits binary32 m) false (size_of m) (2 ^ 149)
plus_value m h = subst (λ (v : Float). HasValue v false (size_of m) (2 ^ 149)) (sym (plus_fields m (omega arith))) (fields_value false (m / 8388608) (m % 8388608) (omega arith))

minus_value : (m : ℕ) → m < 2139095040 → HasValue (of_bits binary32 (2147483648 + m)) true (size_of m) (2 ^ 149)
minus_value m h = subst (λ (v : Float). HasValue v true (size_of m) (2 ^ 149)) (sym (minus_fields m (omega arith))) (fields_value true (m / 8388608) (m % 8388608) (omega arith))

plus_inf : of_bits binary32 2139095040 ≡ inf false
unfolding of_bits
plus_inf = refl

minus_inf : of_bits binary32 (2147483648 + 2139095040) ≡ inf true
unfolding of_bits
minus_inf = refl

plus_zero : of_bits binary32 0 ≡ fin false 0 (pos 0)
unfolding of_bits
plus_zero = refl

minus_zero : of_bits binary32 2147483648 ≡ fin true 0 (pos 0)
unfolding of_bits
minus_zero = refl

-- ---- the order of two values, by their sizes

cross : (x y de dd a b c : ℕ) → 0 < de → 0 < dd → x * c ≡ a * de → y * c ≡ b * dd → a < b → x * dd < y * de
cross x y de dd a b c E D p q h =
    let l : x * dd * c ≡ a * (de * dd) = mul_right_comm x dd c ∙ ap (λ (z : ℕ). z * dd) p ∙ mul_assoc a de dd in
    let r : y * de * c ≡ b * (de * dd) = mul_right_comm y de c ∙ ap (λ (z : ℕ). z * de) q ∙ mul_assoc b dd de ∙ ap (λ (z : ℕ). b * z) (mul_comm dd de) in
    let k : a * (de * dd) < b * (de * dd) = mul-lt-mul_of_pos_right h (mul-pos E D) in
    lt_of_mul-lt-mul_right c (subst (λ (z : ℕ). x * dd * c < z) (sym r) (subst (λ (z : ℕ). z < b * (de * dd)) (sym l) k))

some : (z c k : ℕ) → z * c ≡ k → 0 < k → 0 < z
some zero c k e h = let q = zero-mul c in absurd (omega arith)
some (suc z) c k e h = omega arith

lt_plus : (x y : Float) (a b c : ℕ) → HasValue x false a c → HasValue y false b c → a < b → T (lt x y)
unfolding lt
lt_plus nan y a b c p q h = absurd p
lt_plus (inf s) y a b c p q h = absurd p
lt_plus (fin true m e) y a b c p q h = absurd (true≢false p.0)
lt_plus (fin false m e) nan a b c p q h = absurd q
lt_plus (fin false m e) (inf t) a b c p q h = absurd q
lt_plus (fin false m e) (fin true n d) a b c p q h = absurd (true≢false q.0)
lt_plus (fin false m e) (fin false n d) a b c p q h =
    lt→ltb (m * up e * down d) (n * up d * down e) (cross (m * up e) (n * up d) (down e) (down d) a b c (down_pos e) (down_pos d) p.1 q.1 h)

lt_minus : (x y : Float) (a b c : ℕ) → HasValue x true a c → HasValue y true b c → b < a → T (lt x y)
unfolding lt
lt_minus nan y a b c p q h = absurd p
lt_minus (inf s) y a b c p q h = absurd p
lt_minus (fin false m e) y a b c p q h = absurd (true≢false (sym p.0))
lt_minus (fin true m e) nan a b c p q h = absurd q
lt_minus (fin true m e) (inf t) a b c p q h = absurd q
lt_minus (fin true m e) (fin false n d) a b c p q h = absurd (true≢false (sym q.0))
lt_minus (fin true m e) (fin true n d) a b c p q h =
    lt→ltb (n * up d * down e) (m * up e * down d) (cross (n * up d) (m * up e) (down d) (down e) b a c (down_pos d) (down_pos e) q.1 p.1 h)

lt_signs : (x y : Float) (a b c : ℕ) → HasValue x true a c → HasValue y false b c → (0 < a) ⊎ (0 < b) → T (lt x y)
unfolding lt
lt_signs nan y a b c p q h = absurd p
lt_signs (inf s) y a b c p q h = absurd p
lt_signs (fin false m e) y a b c p q h = absurd (true≢false (sym p.0))
lt_signs (fin true m e) nan a b c p q h = absurd q
lt_signs (fin true m e) (inf t) a b c p q h = absurd q
lt_signs (fin true m e) (fin true n d) a b c p q h = absurd (true≢false q.0)
lt_signs (fin true m e) (fin false n d) a b c p q (inl h) =
    let z : 0 < m * up e * down d = mul-pos (some (m * up e) c (a * down e) p.1 (mul-pos h (down_pos e))) (down_pos d) in
    lt→ltb 0 (m * up e * down d + n * up d * down e) (omega arith)
lt_signs (fin true m e) (fin false n d) a b c p q (inr h) =
    let z : 0 < n * up d * down e = mul-pos (some (n * up d) c (b * down d) q.1 (mul-pos h (down_pos d))) (down_pos e) in
    lt→ltb 0 (m * up e * down d + n * up d * down e) (omega arith)

lt_inf : (x : Float) (s : Bool) (a c : ℕ) → HasValue x s a c → T (lt x (inf false))
unfolding lt
lt_inf nan s a c p = absurd p
lt_inf (inf t) s a c p = absurd p
lt_inf (fin t m e) s a c p = tt

inf_lt : (x : Float) (s : Bool) (a c : ℕ) → HasValue x s a c → T (lt (inf true) x)
unfolding lt
inf_lt nan s a c p = absurd p
inf_lt (inf t) s a c p = absurd p
inf_lt (fin t m e) s a c p = tt

inf_inf : T (lt (inf true) (inf false))
unfolding lt
inf_inf = tt

-- ---- the order of two patterns

plus_lt : (m n : ℕ) → m < n → n ≤ 2139095040 → T (lt (of_bits binary32 m) (of_bits binary32 n))
plus_lt m n h k = go (eq-or-lt_of_le k)
  where
    go : (n ≡ 2139095040) ⊎ (n < 2139095040) → T (lt (of_bits binary32 m) (of_bits binary32 n))
    go (inl e) =
        let z : of_bits binary32 n ≡ inf false = ap (of_bits binary32) e ∙ plus_inf in
        subst (λ (v : Float). T (lt (of_bits binary32 m) v)) (sym z) (lt_inf (of_bits binary32 m) false (size_of m) (2 ^ 149) (plus_value m (omega arith)))
    go (inr l) = lt_plus (of_bits binary32 m) (of_bits binary32 n) (size_of m) (size_of n) (2 ^ 149) (plus_value m (omega arith)) (plus_value n l) (size_lt m n h)

minus_lt : (m n : ℕ) → n < m → m ≤ 2139095040 → T (lt (of_bits binary32 (2147483648 + m)) (of_bits binary32 (2147483648 + n)))
minus_lt m n h k = go (eq-or-lt_of_le k)
  where
    go : (m ≡ 2139095040) ⊎ (m < 2139095040) → T (lt (of_bits binary32 (2147483648 + m)) (of_bits binary32 (2147483648 + n)))
    go (inl e) =
        let z : of_bits binary32 (2147483648 + m) ≡ inf true = ap (λ (i : ℕ). of_bits binary32 (2147483648 + i)) e ∙ minus_inf in
        subst (λ (v : Float). T (lt v (of_bits binary32 (2147483648 + n)))) (sym z) (inf_lt (of_bits binary32 (2147483648 + n)) true (size_of n) (2 ^ 149) (minus_value n (omega arith)))
    go (inr l) = lt_minus (of_bits binary32 (2147483648 + m)) (of_bits binary32 (2147483648 + n)) (size_of m) (size_of n) (2 ^ 149) (minus_value m l) (minus_value n (omega arith)) (size_lt n m h)

size_pos : (m : ℕ) → 0 < m → 0 < size_of m
size_pos m h = let l = size_lt 0 m h in omega arith

signs_lt : (m n : ℕ) → m ≤ 2139095040 → n ≤ 2139095040 → (0 < m) ⊎ (0 < n) → T (lt (of_bits binary32 (2147483648 + m)) (of_bits binary32 n))
signs_lt m n k l some_size = go (eq-or-lt_of_le k) (eq-or-lt_of_le l)
  where
    sizes : (0 < m) ⊎ (0 < n) → (0 < size_of m) ⊎ (0 < size_of n)
    sizes (inl h) = inl (size_pos m h)
    sizes (inr h) = inr (size_pos n h)

    low_inf : m ≡ 2139095040 → of_bits binary32 (2147483648 + m) ≡ inf true
    low_inf e = ap (λ (i : ℕ). of_bits binary32 (2147483648 + i)) e ∙ minus_inf

    high_inf : n ≡ 2139095040 → of_bits binary32 n ≡ inf false
    high_inf e = ap (of_bits binary32) e ∙ plus_inf

    go : (m ≡ 2139095040) ⊎ (m < 2139095040) → (n ≡ 2139095040) ⊎ (n < 2139095040) → T (lt (of_bits binary32 (2147483648 + m)) (of_bits binary32 n))
    go (inl a) (inl b) = subst (λ (v : Float). T (lt v (of_bits binary32 n))) (sym (low_inf a)) (subst (λ (v : Float). T (lt (inf true) v)) (sym (high_inf b)) inf_inf)
    go (inl a) (inr b) = subst (λ (v : Float). T (lt v (of_bits binary32 n))) (sym (low_inf a)) (inf_lt (of_bits binary32 n) false (size_of n) (2 ^ 149) (plus_value n b))
    go (inr a) (inl b) = subst (λ (v : Float). T (lt (of_bits binary32 (2147483648 + m)) v)) (sym (high_inf b)) (lt_inf (of_bits binary32 (2147483648 + m)) true (size_of m) (2 ^ 149) (minus_value m a))
    go (inr a) (inr b) = lt_signs (of_bits binary32 (2147483648 + m)) (of_bits binary32 n) (size_of m) (size_of n) (2 ^ 149) (minus_value m a) (plus_value n b) (sizes some_size)

-- ---- the order goes one way

lt_asym : (x y : Float) → T (lt x y) → T (lt y x) → ⊥
lt_asym x y p q = lt_irrefl x (lt_trans x y x p q)

zeros_back : T (lt (fin false 0 (pos 0)) (fin true 0 (pos 0))) → ⊥
unfolding lt
zeros_back p = p

abbrev minus_sign : Float → Bool
minus_sign nan = false
minus_sign (inf s) = s
minus_sign (fin s m e) = s

pub earlier_asym : (x y : Float) → EarlierReading x y → EarlierReading y x → ⊥
earlier_asym x y (inl p) (inl q) = lt_asym x y p q
earlier_asym x y (inl p) (inr q) = zeros_back (subst (λ (v : Float). T (lt (fin false 0 (pos 0)) v)) q.0 (subst (λ (v : Float). T (lt v y)) q.1 p))
earlier_asym x y (inr p) (inl q) = zeros_back (subst (λ (v : Float). T (lt (fin false 0 (pos 0)) v)) p.0 (subst (λ (v : Float). T (lt v x)) p.1 q))
earlier_asym x y (inr p) (inr q) = true≢false (ap minus_sign (sym p.0 ∙ q.1))

-- ---- positions

low_bits : (p : ℕ) → p < 2139095041 → bits_at p ≡ 2147483648 + (2139095040 - p)
low_bits p h = ap (λ (b : Bool). cond b (2147483648 + (2139095040 - p)) (p - 2139095041)) (is_true (nat_lt p 2139095041) (lt→ltb p 2139095041 h))

high_bits : (p : ℕ) → 2139095041 ≤ p → bits_at p ≡ p - 2139095041
high_bits p h = cond_no (nat_lt p 2139095041) (2147483648 + (2139095040 - p)) (p - 2139095041) (not_T (nat_lt p 2139095041) (λ k. let l = ltb→lt p 2139095041 k in omega arith))

pub bits_good : (p : ℕ) → p ≤ 4278190081 → (bits_at p < 4294967296) × (bits_at p % 2147483648 ≤ 2139095040)
bits_good p h = grind arith

pub places : (p : ℕ) → p ≤ 4278190081 → place_bits (bits_at p) ≡ p
places p h = grind arith

pub patterns : (b : ℕ) → b < 4294967296 → b % 2147483648 ≤ 2139095040 → (place_bits b ≤ 4278190081) × (bits_at (place_bits b) ≡ b)
patterns b h k = grind arith

number_at : (p : ℕ) → p ≤ 4278190081 → T (not (is_nan (value_reading p)))
number_at p h = subst (λ (t : Bool). T (not t)) (nan_bits_is binary32 (bits_at p)) (not_nan_f32_bits (bits_at p) (bits_good p h).1)

in_order : (p q : ℕ) → p < q → q ≤ 4278190081 → EarlierReading (value_reading p) (value_reading q)
in_order p q h k = go (sides p q h)
  where
    sides : (p q : ℕ) → p < q → ((p < 2139095041) × (q < 2139095041)) ⊎ (((2139095041 ≤ p) × (2139095041 ≤ q)) ⊎ (((p ≡ 2139095040) × (q ≡ 2139095041)) ⊎ ((p < 2139095041) × (2139095041 ≤ q) × ((0 < 2139095040 - p) ⊎ (0 < q - 2139095041)))))
    sides p q h = grind arith

    at_zeros : p ≡ 2139095040 → q ≡ 2139095041 → (value_reading p ≡ fin true 0 (pos 0)) × (value_reading q ≡ fin false 0 (pos 0))
    at_zeros a b = (ap value_reading a ∙ minus_zero, ap value_reading b ∙ plus_zero)

    move : (a b : ℕ) → bits_at p ≡ a → bits_at q ≡ b → T (lt (of_bits binary32 a) (of_bits binary32 b)) → T (lt (value_reading p) (value_reading q))
    move a b e d t =
        subst (λ (i : ℕ). T (lt (of_bits binary32 i) (of_bits binary32 (bits_at q)))) (sym e) (subst (λ (i : ℕ). T (lt (of_bits binary32 a) (of_bits binary32 i))) (sym d) t)

    go : ((p < 2139095041) × (q < 2139095041)) ⊎ (((2139095041 ≤ p) × (2139095041 ≤ q)) ⊎ (((p ≡ 2139095040) × (q ≡ 2139095041)) ⊎ ((p < 2139095041) × (2139095041 ≤ q) × ((0 < 2139095040 - p) ⊎ (0 < q - 2139095041))))) → EarlierReading (value_reading p) (value_reading q)
    go (inl s) = inl (move (2147483648 + (2139095040 - p)) (2147483648 + (2139095040 - q)) (low_bits p s.0) (low_bits q s.1) (minus_lt (2139095040 - p) (2139095040 - q) (omega arith) (omega arith)))
    go (inr (inl s)) = inl (move (p - 2139095041) (q - 2139095041) (high_bits p s.0) (high_bits q s.1) (plus_lt (p - 2139095041) (q - 2139095041) (omega arith) (omega arith)))
    go (inr (inr (inl s))) = inr (at_zeros s.0 s.1)
    go (inr (inr (inr s))) = inl (move (2147483648 + (2139095040 - p)) (q - 2139095041) (low_bits p s.0) (high_bits q s.1) (signs_lt (2139095040 - p) (q - 2139095041) (omega arith) (omega arith) s.2))

pub reading_laws : ScaleLaws OnReading EarlierReading place_reading value_reading 4278190081
reading_laws =
    laws_by_places OnReading EarlierReading place_reading value_reading 4278190081 (omega arith)
    (λ v o. (patterns (to_bits binary32 v) (to_bits-lt binary32 v o.0) (small_rest v o.0 o.1)).0)
    (λ p h. (of_bits-fits binary32 (bits_at p), number_at p h))
    (λ p h. ap place_bits (to_bits-of_bits binary32 (bits_at p) (bits_good p h).0 (number_at p h)) ∙ places p h)
    (λ v o. ap (of_bits binary32) (patterns (to_bits binary32 v) (to_bits-lt binary32 v o.0) (small_rest v o.0 o.1)).1 ∙ of_bits-to_bits binary32 v o.0)
    in_order
    earlier_asym
