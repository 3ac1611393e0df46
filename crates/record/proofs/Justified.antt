-- A number in its columns, byte by byte.
use Rattle.std.proofs.Common.{◌≡◌, ℕ, zero, suc, ◌+◌, ◌-◌, ◌/◌, ◌%◌, ◌^◌, ◌<◌, ◌≤◌, false, eqb, List, [], ◌∷◌, ◌++◌, length, replicate, sym, refl, ap, ◌∙◌, pow-suc, add-one, arith}
use Rattle.std.proofs.lemmas.List.{append_assoc, length_push, replicate_more}
use Rattle.std.proofs.lemmas.Bool.{ne_eqb, cond-false}
use Rattle.std.proofs.lemmas.Fmt.{decimal_by_steps}
use Rattle.std.proofs.lemmas.Bool.Decides.{nat_tests}
use Rattle.record.specs.Columns.{column}
use Rattle.record.specs.Digits.{last_digit, front_byte, worth}

-- the k bytes before the last columns, where so much of the number is left
abbrev pub fronts : ℕ → ℕ → List ℕ
fronts zero left = []
fronts (suc k) left = fronts k (left / 10) ++ front_byte left ∷ []

fronts_blank : (k : ℕ) → fronts k 0 ≡ replicate k 32
fronts_blank zero = refl
fronts_blank (suc k) = ap (λ xs. xs ++ 32 ∷ []) (fronts_blank k) ∙ replicate_more k 32 ∙ ap (λ n. replicate n 32) (add-one k)

abbrev justified : ℕ → List ℕ → List ℕ
justified width ds = replicate (width - length ds) 32 ++ ds

push_justified : (width b : ℕ) (ds : List ℕ) → justified (suc width) (ds ++ b ∷ []) ≡ justified width ds ++ b ∷ []
push_justified width b ds =
    let e : suc width - length (ds ++ b ∷ []) ≡ width - length ds = omega (arith, length_push ds b) in
    ap (λ n. replicate n 32 ++ (ds ++ b ∷ [])) e ∙ sym (append_assoc (replicate (width - length ds) 32) ds (b ∷ []))

-- digits that fit are the bytes in front and the last digit
abbrev ByBytes : ℕ → List ℕ → Type 0
ByBytes n ds = (k : ℕ) → n < 10 ^ suc k → justified (suc k) ds ≡ fronts k (n / 10) ++ last_digit n ∷ []

one_digit : (n : ℕ) → n < 10 → ByBytes n ((48 + n) ∷ [])
one_digit n h k w =
    let z : n / 10 ≡ 0 = omega arith in
    let m : n % 10 ≡ n = omega arith in
    let e : suc k - 1 ≡ k = omega arith in
    rw (z, m, e) (ap (λ xs. xs ++ (48 + n) ∷ []) (sym (fronts_blank k)))

more_digits : (n : ℕ) (ds : List ℕ) → 10 ≤ n → ByBytes (n / 10) ds → ByBytes n (ds ++ last_digit n ∷ [])
more_digits n ds h before zero w = absurd (omega arith)
more_digits n ds h before (suc k) w =
    let p = pow-suc 10 (suc k) in
    let small : n / 10 < 10 ^ suc k = omega arith in
    let some : eqb (n / 10) 0 ≡ false = ne_eqb (n / 10) 0 (λ e. omega arith) in
    let same = cond-false (eqb (n / 10) 0) 32 (last_digit (n / 10)) some in
    push_justified (suc k) (last_digit n) ds ∙ ap (λ xs. xs ++ last_digit n ∷ []) (before k small ∙ ap (λ b. fronts k (n / 10 / 10) ++ b ∷ []) (sym same))

pub column_bytes : (k n : ℕ) → n < 10 ^ suc k → n < 2 ^ 64 → column (suc k) n ≡ fronts k (n / 10) ++ last_digit n ∷ []
column_bytes k n w h = decimal_by_steps ByBytes one_digit more_digits n h k w

-- five columns and three
pub five_columns : (n : ℕ) → n ≤ 99999
    → column 5 n ≡ front_byte (n / 10000) ∷ front_byte (n / 1000) ∷ front_byte (n / 100) ∷ front_byte (n / 10) ∷ last_digit n ∷ []
five_columns n h =
    let a : n / 10 / 10 ≡ n / 100 = omega arith in
    let b : n / 10 / 10 / 10 ≡ n / 1000 = omega arith in
    let d : n / 10 / 10 / 10 / 10 ≡ n / 10000 = omega arith in
    column_bytes 4 n (omega arith) (omega arith) ∙ (λ i. front_byte (d i) ∷ front_byte (b i) ∷ front_byte (a i) ∷ front_byte (n / 10) ∷ last_digit n ∷ [])

pub three_columns : (n : ℕ) → n ≤ 999 → column 3 n ≡ front_byte (n / 100) ∷ front_byte (n / 10) ∷ last_digit n ∷ []
three_columns n h =
    let a : n / 10 / 10 ≡ n / 100 = omega arith in
    column_bytes 2 n (omega arith) (omega arith) ∙ (λ i. front_byte (a i) ∷ front_byte (n / 10) ∷ last_digit n ∷ [])

-- read as digits, the bytes are worth the number
pub last_worth : (n : ℕ) → worth (last_digit n) ≡ n % 10
last_worth n = grind (arith, nat_tests)

pub front_worth : (n : ℕ) → worth (front_byte n) ≡ n % 10
front_worth n = grind (arith, nat_tests)
