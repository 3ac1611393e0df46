-- Ranges, setting by setting.
use Rattle.std.proofs.Common.{◌≡◌, ℕ, zero, suc, pred, ◌<◌, ◌≤◌, min, max, ◌≢◌, ◌⊎◌, ◌↔◌, sym, refl, ap, subst, inl, inr, arith}
use Rattle.std.proofs.lemmas.Bool.{cases_eq, cases_lt, eq-eqb, ne_eqb}
use Rattle.blocks.specs.declared.bound.Bound.{Bound}
use Rattle.blocks.specs.declared.bound.Bound.TheVariants.{AtMost, AtLeast}
use Rattle.blocks.specs.Bounds.{Profile, setting, Meets}
use Rattle.blocks.specs.Ranges.{Ranges, Stands, In, AllIn, Inside, end, with_end, narrow, resolve, Resolvable}
use Rattle.blocks.specs.Status.{BoundOf, True, False, Open, Dead, Broken, Forces}

-- at one setting, and at every other
pub by_setting : (P : ℕ → Type 0) (s : ℕ) → P s → ((i : ℕ) → i ≢ s → P i) → (i : ℕ) → P i
by_setting P s here there i = elim (cases_eq i s) [ inl e ↦ subst P (sym e) here | inr n ↦ there i n ]

pub sides_apart : (s p t q : ℕ) → AtMost s p ≢ AtLeast t q
sides_apart s p t q e = let z : ◌≡◌ {A = ℕ} 0 1 = cc in omega arith

-- resolving, at each setting
pub resolve_at : (s : ℕ) (a b : Ranges) (i : ℕ)
    → ((i ≡ s) × ((resolve s a b).low i ≡ min (a.low i) (b.low i)) × ((resolve s a b).high i ≡ max (a.high i) (b.high i)))
    ⊎ ((i ≢ s) × ((resolve s a b).low i ≡ max (a.low i) (b.low i)) × ((resolve s a b).high i ≡ min (a.high i) (b.high i)))
resolve_at s a b i = elim (cases_eq i s) [
  | inl e ↦ inl (e, rw (eq-eqb i s e), rw (eq-eqb i s e))
  | inr n ↦ inr (n, rw (ne_eqb i s n), rw (ne_eqb i s n))
]

-- every profile in the resolved block is in one of the two
pub resolve_in : (s : ℕ) (a b : Ranges) → Resolvable s a b → (x : Profile) → In (resolve s a b) x → In a x ⊎ In b x
resolve_in s a b ok x h = elim (cases_lt (x s) (a.low s)) [
  | inl p ↦ inr (in_b (inl p))
  | inr p ↦ elim (cases_lt (a.high s) (x s)) [ inl q ↦ inr (in_b (inr q)) | inr q ↦ inl (in_a (p, q)) ]
]
  where
    both : (i : ℕ) → i ≢ s → ((a.low i ≤ x i) × (x i ≤ a.high i)) × ((b.low i ≤ x i) × (x i ≤ b.high i))
    both i n = let r = resolve_at s a b i in let k = h i in omega arith

    mid : (min (a.low s) (b.low s) ≤ x s) × (x s ≤ max (a.high s) (b.high s))
    mid = let r = resolve_at s a b s in let k = h s in omega arith

    in_a : (a.low s ≤ x s) × (x s ≤ a.high s) → In a x
    in_a p = by_setting (λ i. (a.low i ≤ x i) × (x i ≤ a.high i)) s p (λ i n. (both i n).0)

    in_b : (x s < a.low s) ⊎ (a.high s < x s) → In b x
    in_b p = by_setting (λ i. (b.low i ≤ x i) × (x i ≤ b.high i)) s (let m = mid in let j = ok.joins in omega arith) (λ i n. (both i n).1)

-- a bound in a region, in numbers
abbrev pub TrueAt : Ranges → Bound → Type 0
TrueAt g (AtMost s p) = g.high s ≤ p
TrueAt g (AtLeast s p) = p ≤ g.low s

abbrev pub FalseAt : Ranges → Bound → Type 0
FalseAt g (AtMost s p) = p < g.low s
FalseAt g (AtLeast s p) = g.high s < p

abbrev pub OpenAt : Ranges → Bound → Type 0
OpenAt g (AtMost s p) = (g.low s ≤ p) × (p < g.high s)
OpenAt g (AtLeast s p) = (g.low s < p) × (p ≤ g.high s)

module _ (last : ℕ → ℕ) (g : Ranges) (st : Stands last g) where
  in_low : In g g.low
  in_low i = let k = st i in omega arith

  in_high : In g g.high
  in_high i = let k = st i in omega arith

  pub true_at : (β : Bound) → True g β ↔ TrueAt g β
  true_at (AtMost s p) = (λ t. t g.high in_high, λ k x h. let m = h s in omega arith)
  true_at (AtLeast s p) = (λ t. t g.low in_low, λ k x h. let m = h s in omega arith)

  pub false_at : (β : Bound) → False g β ↔ FalseAt g β
  false_at (AtMost s p) = (λ t. let m = t g.low in_low in omega arith, λ k x h. let m = h s in omega arith)
  false_at (AtLeast s p) = (λ t. let m = t g.high in_high in omega arith, λ k x h. let m = h s in omega arith)

  pub open_at : (β : Bound) → Open g β ↔ OpenAt g β
  open_at β = (λ o. numbers β (λ t. o.0 ((true_at β).1 t)) (λ f. o.1 ((false_at β).1 f)), λ o. (λ t. (apart β o).0 ((true_at β).0 t), λ f. (apart β o).1 ((false_at β).0 f)))
    where
      numbers : (β : Bound) → ¬ TrueAt g β → ¬ FalseAt g β → OpenAt g β
      numbers (AtMost s p) t f = omega arith
      numbers (AtLeast s p) t f = omega arith

      apart : (β : Bound) → OpenAt g β → (¬ TrueAt g β) × (¬ FalseAt g β)
      apart (AtMost s p) o = omega arith
      apart (AtLeast s p) o = omega arith

  -- a side of the block whose bound is false, or that has none, does not cut the region
  pub low_held : (b : Ranges) (i : ℕ) → ((p : ℕ) → b.low i ≡ suc p → False g (AtMost i p)) → b.low i ≤ g.low i
  low_held b i h = go (b.low i) refl
    where
      go : (n : ℕ) → b.low i ≡ n → n ≤ g.low i
      go zero e = omega arith
      go (suc p) e = (false_at (AtMost i p)).0 (h p e)

  pub high_held : (b : Ranges) (i : ℕ) → (b.high i < last i → False g (AtLeast i (suc (b.high i)))) → g.high i ≤ b.high i
  high_held b i h = elim (cases_lt (b.high i) (last i)) [
    | inl l ↦ let k = (false_at (AtLeast i (suc (b.high i)))).0 (h l) in omega arith
    | inr l ↦ let k = st i in omega arith
  ]

  -- broken: the region is inside the block
  pub broken_inside : (b : Ranges) → Broken last g b → Inside g b
  broken_inside b h i = (low_held b i (λ p. h (AtMost i p)), high_held b i (λ l. h (AtLeast i (suc (b.high i))) (refl, l)))

  pub inside_broken : (b : Ranges) → Inside g b → Broken last g b
  inside_broken b h (AtMost s p) e = (false_at (AtMost s p)).1 (let k = h s in omega arith)
  inside_broken b h (AtLeast s p) e = (false_at (AtLeast s p)).1 (let k = h s in omega arith)

  -- dead: no profile is in both
  pub dead_apart : (b : Ranges) → Dead last g b → (x : Profile) → In g x → ¬ In b x
  dead_apart b (β, e, t) x h k = go β e (t x h)
    where
      go : (β : Bound) → BoundOf last b β → Meets x β → ⊥
      go (AtMost s p) e m = let j = k s in omega arith
      go (AtLeast s p) e m = let j = k s in omega arith

-- what a forcing block is: it holds all of the region past the bound
abbrev pub Covers : Ranges → Ranges → Bound → Type 0
Covers g b (AtMost s p) = (b.low s ≡ suc p) × (g.high s ≤ b.high s) × ((i : ℕ) → i ≢ s → (b.low i ≤ g.low i) × (g.high i ≤ b.high i))
Covers g b (AtLeast s p) = (p ≡ suc (b.high s)) × (b.low s ≤ g.low s) × ((i : ℕ) → i ≢ s → (b.low i ≤ g.low i) × (g.high i ≤ b.high i))

module _ (last : ℕ → ℕ) (g : Ranges) (st : Stands last g) where
  pub forces_covers : (b : Ranges) (β : Bound) → Forces last g b β → OpenAt g β × Covers g b β
  forces_covers b β f = ((open_at last g st β).0 f.open', go β f.bound f.others)
    where
      low : (β : Bound) → ((γ : Bound) → BoundOf last b γ → γ ≢ β → False g γ) → (i : ℕ) → ((p : ℕ) → AtMost i p ≢ β) → b.low i ≤ g.low i
      low β o i n = low_held last g st b i (λ p e. o (AtMost i p) e (n p))

      high : (β : Bound) → ((γ : Bound) → BoundOf last b γ → γ ≢ β → False g γ) → (i : ℕ) → ((p : ℕ) → AtLeast i p ≢ β) → g.high i ≤ b.high i
      high β o i n = high_held last g st b i (λ l. o (AtLeast i (suc (b.high i))) (refl, l) (n (suc (b.high i))))

      go : (β : Bound) → BoundOf last b β → ((γ : Bound) → BoundOf last b γ → γ ≢ β → False g γ) → Covers g b β
      go (AtMost s p) e o = (e, high (AtMost s p) o s (λ q k. sides_apart s p s q (sym k)), λ i n. (low (AtMost s p) o i (λ q k. n (ap setting k)), high (AtMost s p) o i (λ q k. n (ap setting k))))
      go (AtLeast s p) e o = (e.0, low (AtLeast s p) o s (λ q. sides_apart s q s p), λ i n. (low (AtLeast s p) o i (λ q k. n (ap setting k)), high (AtLeast s p) o i (λ q k. n (ap setting k))))

  pub covers_forces : (b : Ranges) (β : Bound) → OpenAt g β → Covers g b β → Forces last g b β
  covers_forces b (AtMost s p) o c = record
      { bound = c.0; open' = (open_at last g st (AtMost s p)).1 o; others = λ γ e n. (false_at last g st γ).1 (others γ e n) }
    where
      others : (γ : Bound) → BoundOf last b γ → γ ≢ AtMost s p → FalseAt g γ
      others (AtMost i q) = by_setting (λ i. b.low i ≡ suc q → AtMost i q ≢ AtMost s p → q < g.low i) s
          (λ e n. absurd (n (let z : q ≡ p = omega arith in ap (AtMost s) z))) (λ i n e m. let k = c.2 i n in omega arith) i
      others (AtLeast i q) = by_setting (λ i. (q ≡ suc (b.high i)) × (b.high i < last i) → AtLeast i q ≢ AtMost s p → g.high i < q) s
          (λ e n. omega arith) (λ i n e m. let k = c.2 i n in omega arith) i
  covers_forces b (AtLeast s p) o c = record
      { bound = (c.0, let k = st s in omega arith); open' = (open_at last g st (AtLeast s p)).1 o; others = λ γ e n. (false_at last g st γ).1 (others γ e n) }
    where
      others : (γ : Bound) → BoundOf last b γ → γ ≢ AtLeast s p → FalseAt g γ
      others (AtLeast i q) = by_setting (λ i. (q ≡ suc (b.high i)) × (b.high i < last i) → AtLeast i q ≢ AtLeast s p → g.high i < q) s
          (λ e n. absurd (n (let z : q ≡ p = omega arith in ap (AtLeast s) z))) (λ i n e m. let k = c.2 i n in omega arith) i
      others (AtMost i q) = by_setting (λ i. b.low i ≡ suc q → AtMost i q ≢ AtLeast s p → q < g.low i) s
          (λ e n. omega arith) (λ i n e m. let k = c.2 i n in omega arith) i

-- narrowing, at each setting
pub narrow_high : (g : Ranges) (s p i : ℕ) → ((i ≡ s) × ((narrow (AtMost s p) g).high i ≡ min (g.high i) p)) ⊎ ((i ≢ s) × ((narrow (AtMost s p) g).high i ≡ g.high i))
narrow_high g s p i = elim (cases_eq i s) [ inl e ↦ inl (e, rw (eq-eqb i s e) (ap (λ (k : ℕ). min (g.high k) p) (sym e))) | inr n ↦ inr (n, rw (ne_eqb i s n)) ]

pub narrow_low : (g : Ranges) (s p i : ℕ) → ((i ≡ s) × ((narrow (AtLeast s p) g).low i ≡ max (g.low i) p)) ⊎ ((i ≢ s) × ((narrow (AtLeast s p) g).low i ≡ g.low i))
narrow_low g s p i = elim (cases_eq i s) [ inl e ↦ inl (e, rw (eq-eqb i s e) (ap (λ (k : ℕ). max (g.low k) p) (sym e))) | inr n ↦ inr (n, rw (ne_eqb i s n)) ]

pub narrow_inside : (g : Ranges) (β : Bound) → Inside (narrow β g) g
narrow_inside g (AtMost s p) i = let k = narrow_high g s p i in omega arith
narrow_inside g (AtLeast s p) i = let k = narrow_low g s p i in omega arith

pub narrow_stands : (last : ℕ → ℕ) (g : Ranges) (β : Bound) → Stands last g → OpenAt g β → Stands last (narrow β g)
narrow_stands last g (AtMost s p) st o =
    by_setting (λ i. (g.low i ≤ (narrow (AtMost s p) g).high i) × ((narrow (AtMost s p) g).high i ≤ last i)) s
    (let k = narrow_high g s p s in let j = st s in omega arith) (λ i n. let k = narrow_high g s p i in let j = st i in omega arith)
narrow_stands last g (AtLeast s p) st o =
    by_setting (λ i. ((narrow (AtLeast s p) g).low i ≤ g.high i) × (g.high i ≤ last i)) s
    (let k = narrow_low g s p s in let j = st s in omega arith) (λ i n. let k = narrow_low g s p i in let j = st i in omega arith)

pub narrow_true : (g : Ranges) (β : Bound) → TrueAt (narrow β g) β
narrow_true g (AtMost s p) = let k = narrow_high g s p s in omega arith
narrow_true g (AtLeast s p) = let k = narrow_low g s p s in omega arith

pub true_inside : (g h : Ranges) (β : Bound) → Inside h g → TrueAt g β → TrueAt h β
true_inside g h (AtMost s p) e t = let k = e s in omega arith
true_inside g h (AtLeast s p) e t = let k = e s in omega arith

pub inside_trans : (a b c : Ranges) → Inside a b → Inside b c → Inside a c
inside_trans a b c p q i = let j = p i in let k = q i in omega arith

pub resolve_stands : (last : ℕ → ℕ) (s : ℕ) (a b : Ranges) → Stands last a → Stands last b → Resolvable s a b → Stands last (resolve s a b)
resolve_stands last s a b sa sb ok = by_setting (λ i. ((resolve s a b).low i ≤ (resolve s a b).high i) × ((resolve s a b).high i ≤ last i)) s
    (let r = resolve_at s a b s in let j = sa s in let k = sb s in omega arith)
    (λ i n. let r = resolve_at s a b i in let j = sa i in let k = sb i in let m = ok.others i n in omega arith)

-- a forced entry is undone by resolving its reason into the work block
module _ (last : ℕ → ℕ) (g w : Ranges) (st : Stands last g) where
  pub undo_forced : (b : Ranges) (β : Bound) → OpenAt g β → Covers g b β → Inside (narrow β g) w
      → Resolvable (setting β) w b × Inside g (resolve (setting β) w b)
  undo_forced b (AtMost s p) o c h = (
    record { joins = let k = narrow_high g s p s in let j = st s in let m = h s in omega arith; others = λ i n. let k = narrow_high g s p i in let j = st i in let m = h i in let q = c.2 i n in omega arith },
    by_setting (λ i. ((resolve s w b).low i ≤ g.low i) × (g.high i ≤ (resolve s w b).high i)) s
        (let r = resolve_at s w b s in let k = narrow_high g s p s in let j = st s in let m = h s in omega arith)
        (λ i n. let r = resolve_at s w b i in let k = narrow_high g s p i in let m = h i in let q = c.2 i n in omega arith),
  )
  undo_forced b (AtLeast s p) o c h = (
    record { joins = let k = narrow_low g s p s in let j = st s in let m = h s in omega arith; others = λ i n. let k = narrow_low g s p i in let j = st i in let m = h i in let q = c.2 i n in omega arith },
    by_setting (λ i. ((resolve s w b).low i ≤ g.low i) × (g.high i ≤ (resolve s w b).high i)) s
        (let r = resolve_at s w b s in let k = narrow_low g s p s in let j = st s in let m = h s in omega arith)
        (λ i n. let r = resolve_at s w b i in let k = narrow_low g s p i in let m = h i in let q = c.2 i n in omega arith),
  )

  -- at a needed decided entry the work block forces
  pub undo_decided : (β : Bound) → OpenAt g β → Inside (narrow β g) w → ¬ Inside g w → (γ : Bound) × OpenAt g γ × Covers g w γ
  undo_decided (AtMost s p) o h out =
      (AtLeast s (suc (w.high s)), (let k = narrow_high g s p s in let m = h s in let q = past in omega arith), (refl, (let m = h s in omega arith), rest))
    where
      rest : (i : ℕ) → i ≢ s → (w.low i ≤ g.low i) × (g.high i ≤ w.high i)
      rest i n = let k = narrow_high g s p i in let m = h i in omega arith

      past : w.high s < g.high s
      past = elim (cases_lt (w.high s) (g.high s))
          [ inl l ↦ l | inr l ↦ absurd (out (by_setting (λ i. (w.low i ≤ g.low i) × (g.high i ≤ w.high i)) s (let m = h s in omega arith) rest)) ]
  undo_decided (AtLeast s p) o h out =
      elim (cases_lt (g.low s) (w.low s)) [
        | inl l ↦ (AtMost s (pred (w.low s)), (let k = narrow_low g s p s in let m = h s in omega arith), (omega arith, (let m = h s in omega arith), rest))
        | inr l ↦ absurd (out (by_setting (λ i. (w.low i ≤ g.low i) × (g.high i ≤ w.high i)) s (let m = h s in omega arith) rest))
      ]
    where
      rest : (i : ℕ) → i ≢ s → (w.low i ≤ g.low i) × (g.high i ≤ w.high i)
      rest i n = let k = narrow_low g s p i in let m = h i in omega arith

pub same_block : (a b : Ranges) → ((i : ℕ) → (a.low i ≡ b.low i) × (a.high i ≡ b.high i)) → a ≡ b
same_block a b h = λ j. record { low = λ i. (h i).0 j; high = λ i. (h i).1 j }

-- a bound's end put back
pub undo_narrow : (β : Bound) (g : Ranges) → with_end β (end β g) (narrow β g) ≡ g
undo_narrow (AtMost s p) g = same_block (with_end (AtMost s p) (g.high s) (narrow (AtMost s p) g)) g
    (λ i. (refl, elim (cases_eq i s) [ inl e ↦ rw (eq-eqb i s e) (ap g.high (sym e)) | inr n ↦ rw (ne_eqb i s n) ]))
undo_narrow (AtLeast s p) g = same_block (with_end (AtLeast s p) (g.low s) (narrow (AtLeast s p) g)) g
    (λ i. (elim (cases_eq i s) [ inl e ↦ rw (eq-eqb i s e) (ap g.low (sym e)) | inr n ↦ rw (ne_eqb i s n) ], refl))

-- narrowing keeps just the profiles that meet the bound
pub narrow_in : (g : Ranges) (β : Bound) (x : Profile) → In (narrow β g) x ↔ (In g x × Meets x β)
narrow_in g (AtMost s p) x = (
  (λ h. ((λ i. let k = narrow_high g s p i in let j = h i in omega arith), (let k = narrow_high g s p s in let j = h s in omega arith))),
  λ h. by_setting (λ i. (g.low i ≤ x i) × (x i ≤ (narrow (AtMost s p) g).high i)) s
      (let k = narrow_high g s p s in let j = h.0 s in omega arith) (λ i n. let k = narrow_high g s p i in let j = h.0 i in omega arith),
)
narrow_in g (AtLeast s p) x = (
  (λ h. ((λ i. let k = narrow_low g s p i in let j = h i in omega arith), (let k = narrow_low g s p s in let j = h s in omega arith))),
  λ h. by_setting (λ i. ((narrow (AtLeast s p) g).low i ≤ x i) × (x i ≤ g.high i)) s
      (let k = narrow_low g s p s in let j = h.0 s in omega arith) (λ i n. let k = narrow_low g s p i in let j = h.0 i in omega arith),
)

-- inside: every profile of the one is in the other
pub inside_means : (a b : Ranges) → ((i : ℕ) → a.low i ≤ a.high i) → Inside a b ↔ AllIn a b
inside_means a b ordered = (
  (λ h x k i. let m = h i in let n = k i in omega arith),
  λ h i. let l = h a.low (λ j. let o = ordered j in omega arith) i in let k = h a.high (λ j. let o = ordered j in omega arith) i in omega arith,
)
