-- What a block is in a region, seen setting by setting.
use Rattle.std.proofs.Common.{◌≡◌, ℕ, zero, suc, pred, ◌+◌, ◌-◌, ◌<◌, ◌≤◌, ◌≢◌, ◌⊎◌, sym, refl, ap, ◌∙◌, subst, inl, inr, arith}
use Rattle.std.proofs.lemmas.Bool.{cases_eq, cases_lt, lt-ltb, le-ltb}
use Rattle.blocks.specs.declared.bound.Bound.{Bound}
use Rattle.blocks.specs.declared.bound.Bound.TheVariants.{AtMost, AtLeast}
use Rattle.blocks.specs.declared.status.Status.{Status}
use Rattle.blocks.specs.declared.status.Status.TheVariants.{Dead as dead, Broken as broken, Forcing as forcing, Open as undecided}
use Rattle.blocks.specs.Bounds.{setting, rank, told}
use Rattle.blocks.specs.Ranges.{Ranges, Stands}
use Rattle.blocks.specs.Status.{BoundOf, Open, Dead, Tells, more, see, see_low, see_high}
use Rattle.blocks.proofs.Arrays.{each_of}
use Rattle.blocks.proofs.Ranging.{OpenAt, TrueAt, Covers, true_at, open_at, inside_broken, covers_forces}

module _ (g b : Ranges) where
  -- after the first n settings
  abbrev pub seen_below : ℕ → Status
  seen_below zero = broken
  seen_below (suc n) = see g b n (seen_below n)

  -- at one setting the block holds the region, meets it, or lies apart from it
  abbrev pub Held : ℕ → Type 0
  Held k = (b.low k ≤ g.low k) × (g.high k ≤ b.high k)

  abbrev Meeting : ℕ → Type 0
  Meeting k = (b.low k ≤ g.high k) × (g.low k ≤ b.high k)

  abbrev Apart : ℕ → Type 0
  Apart k = (g.high k < b.low k) ⊎ (b.high k < g.low k)

  -- a bound of the block that is open
  abbrev SideOf : Bound → Type 0
  SideOf (AtMost s p) = b.low s ≡ suc p
  SideOf (AtLeast s p) = p ≡ suc (b.high s)

  record Cut (β : Bound) : Type 0 where
    pub side : SideOf β
    pub open' : OpenAt g β

  -- but for that bound, the block holds the region in the first i settings
  abbrev HeldBut : ℕ → Bound → Type 0
  HeldBut i (AtMost s p) = (g.high s ≤ b.high s) × ((k : ℕ) → k < i → k ≢ s → Held k)
  HeldBut i (AtLeast s p) = (b.low s ≤ g.low s) × ((k : ℕ) → k < i → k ≢ s → Held k)

  abbrev Two : Type 0
  Two = (β : Bound) × (γ : Bound) × (rank β ≢ rank γ) × Cut β × Cut γ

  abbrev Met : ℕ → Type 0
  Met i = (k : ℕ) → k < i → Meeting k

  -- what each status says of the first i settings
  abbrev Seen : ℕ → Status → Type 0
  Seen i dead = (k : ℕ) × (k < i) × Apart k
  Seen i broken = Met i × ((k : ℕ) → k < i → Held k)
  Seen i (forcing t) = Met i × ((β : Bound) × (t ≡ told β) × Cut β × (setting β < i) × HeldBut i β)
  Seen i undecided = Met i × Two

  low_open : (i : ℕ) → Meeting i → g.low i < b.low i → Cut (AtMost i (b.low i - 1))
  low_open i m l = record { side = omega arith; open' = omega arith }

  high_open : (i : ℕ) → Meeting i → b.high i < g.high i → Cut (AtLeast i (b.high i + 1))
  high_open i m l = record { side = omega arith; open' = omega arith }

  below_more : (P : ℕ → Type 0) (i : ℕ) → ((k : ℕ) → k < i → P k) → P i → (k : ℕ) → k < suc i → P k
  below_more P i h p k l = elim (cases_eq k i) [ inl e ↦ subst P (sym e) p | inr n ↦ h k (omega arith) ]

  rank_apart : (i : ℕ) (β γ : Bound) → setting β < i → setting γ ≡ i → rank β ≢ rank γ
  rank_apart i (AtMost s p) (AtMost t q) l e = omega arith
  rank_apart i (AtMost s p) (AtLeast t q) l e = omega arith
  rank_apart i (AtLeast s p) (AtMost t q) l e = omega arith
  rank_apart i (AtLeast s p) (AtLeast t q) l e = omega arith

  held_on : (i : ℕ) (β : Bound) → setting β < i → HeldBut i β → Held i → HeldBut (suc i) β
  held_on i (AtMost s p) l h k = (h.0, λ j lj n. elim (cases_eq j i) [ inl e ↦ subst Held (sym e) k | inr ne ↦ h.1 j (omega arith) n ])
  held_on i (AtLeast s p) l h k = (h.0, λ j lj n. elim (cases_eq j i) [ inl e ↦ subst Held (sym e) k | inr ne ↦ h.1 j (omega arith) n ])

  module _ (i : ℕ) (m : Meeting i) where
    -- one side of the setting i is cut
    one : (s : Status) (γ : Bound) → setting γ ≡ i → Seen i s → Cut γ → (((k : ℕ) → k < i → Held k) → HeldBut (suc i) γ) → Seen (suc i) (more s (told γ))
    one dead γ e h w f = (h.0, omega arith, h.2)
    one broken γ e h w f = (below_more Meeting i h.0 m, (γ, refl, w, omega arith, f h.1))
    one (forcing t) γ e h w f = let p = h.1 in (below_more Meeting i h.0 m, (p.0, γ, rank_apart i p.0 γ p.3 e, p.2, w))
    one undecided γ e h w f = (below_more Meeting i h.0 m, h.1)

    -- both are
    both : (s : Status) (p q : ℕ) → Seen i s → Cut (AtMost i p) → Cut (AtLeast i q) → Seen (suc i) (more (more s (i, 0, p)) (i, 1, q))
    both dead p q h v w = (h.0, omega arith, h.2)
    both broken p q h v w = (below_more Meeting i h.0 m, (AtMost i p, AtLeast i q, omega arith, v, w))
    both (forcing t) p q h v w = (below_more Meeting i h.0 m, (AtMost i p, AtLeast i q, omega arith, v, w))
    both undecided p q h v w = (below_more Meeting i h.0 m, h.1)

    neither : (s : Status) → Seen i s → Held i → Seen (suc i) s
    neither dead h k = (h.0, omega arith, h.2)
    neither broken h k = (below_more Meeting i h.0 m, below_more Held i h.1 k)
    neither (forcing t) h k = let p = h.1 in (below_more Meeting i h.0 m, (p.0, p.1, p.2, omega arith, held_on i p.0 p.3 p.4 k))
    neither undecided h k = (below_more Meeting i h.0 m, h.1)

    met : (s : Status) → Seen i s → Seen (suc i) (see_high g b i (see_low g b i s))
    met s h = elim (cases_lt (g.low i) (b.low i)) [
      | inl l ↦ elim (cases_lt (b.high i) (g.high i)) [
        | inl k ↦ rw (lt-ltb (b.high i) (g.high i) k, lt-ltb (g.low i) (b.low i) l) (both s (b.low i - 1) (b.high i + 1) h (low_open i m l) (high_open i m k))
        | inr k ↦ rw (le-ltb (b.high i) (g.high i) k, lt-ltb (g.low i) (b.low i) l) (one s (AtMost i (b.low i - 1)) refl h (low_open i m l) (λ all. (k, λ j lj n. all j (omega arith))))
      ]
      | inr l ↦ elim (cases_lt (b.high i) (g.high i)) [
        | inl k ↦ rw (lt-ltb (b.high i) (g.high i) k, le-ltb (g.low i) (b.low i) l) (one s (AtLeast i (b.high i + 1)) refl h (high_open i m k) (λ all. (l, λ j lj n. all j (omega arith))))
        | inr k ↦ rw (le-ltb (b.high i) (g.high i) k, le-ltb (g.low i) (b.low i) l) (neither s h (l, k))
      ]
    ]

  step : (i : ℕ) (s : Status) → Seen i s → Seen (suc i) (see g b i s)
  step i s h = elim (cases_lt (g.high i) (b.low i)) [
    | inl l ↦ rw (lt-ltb (g.high i) (b.low i) l) (i, omega arith, inl l)
    | inr l ↦ elim (cases_lt (b.high i) (g.low i)) [
      | inl k ↦ rw (le-ltb (g.high i) (b.low i) l, lt-ltb (b.high i) (g.low i) k) (i, omega arith, inr k)
      | inr k ↦ rw (le-ltb (g.high i) (b.low i) l, le-ltb (b.high i) (g.low i) k) (met i (l, k) s h)
    ]
  ]

  seen_right : (i : ℕ) → Seen i (seen_below i)
  seen_right zero = (λ k l. absurd (omega arith), λ k l. absurd (omega arith))
  seen_right (suc i) = step i (seen_below i) (seen_right i)

  -- from the settings to the bounds
  dead_at : (i : ℕ) → Apart i → (last : ℕ → ℕ) → Stands last g → Stands last b → Dead last g b
  dead_at i (inl l) last sg sb = (AtMost i (pred (b.low i)), omega arith, (true_at last g sg (AtMost i (pred (b.low i)))).1 (omega arith))
  dead_at i (inr l) last sg sb = (AtLeast i (suc (b.high i)), (refl, let k = sg i in omega arith), (true_at last g sg (AtLeast i (suc (b.high i)))).1 (omega arith))

  cut_bound : (last : ℕ → ℕ) → Stands last g → (β : Bound) → Cut β → BoundOf last b β × Open g β
  cut_bound last sg (AtMost s p) w = (w.side, (open_at last g sg (AtMost s p)).1 w.open')
  cut_bound last sg (AtLeast s p) w = ((w.side, let k = sg s in let o = w.open' in let e = w.side in omega arith), (open_at last g sg (AtLeast s p)).1 w.open')

  covered : (n : ℕ) (β : Bound) → ((k : ℕ) → n ≤ k → Held k) → SideOf β → HeldBut n β → Covers g b β
  covered n (AtMost s p) far e h = (e, h.0, each_of (λ k. k ≢ s → Held k) n h.1 (λ k l ne. far k l))
  covered n (AtLeast s p) far e h = (e, h.0, each_of (λ k. k ≢ s → Held k) n h.1 (λ k l ne. far k l))

  not_dead : (last : ℕ → ℕ) → ((k : ℕ) → Meeting k) → (β : Bound) → BoundOf last b β → TrueAt g β → ⊥
  not_dead last m (AtMost s p) e t = let k = m s in omega arith
  not_dead last m (AtLeast s p) e t = let k = m s in omega arith

  -- where the block holds the region in all further settings, what is seen is the status
  seen_tells : (n : ℕ) → ((k : ℕ) → n ≤ k → Held k) → (s : Status) → Seen n s → Tells g b s
  seen_tells n far dead h = dead_at h.0 h.2
  seen_tells n far broken h = λ last sg sb. inside_broken last g sg b (each_of Held n h.1 far)
  seen_tells n far (forcing t) h = λ last sg sb.
      let p = h.1 in
      (p.0, p.1, covers_forces last g sg b p.0 p.2.open' (covered n p.0 far p.2.side p.4))
  seen_tells n far undecided h = λ last sg sb.
      let two = h.1 in
      let p = cut_bound last sg two.0 two.3 in
      let q = cut_bound last sg two.1 two.4 in (
        (λ d. not_dead last (each_of Meeting n h.0 (λ k l. let x = far k l in let y = sg k in omega arith)) d.0 d.1 ((true_at last g sg d.0).0 d.2)),
        (λ br. p.1.1 (br two.0 p.0)),
        λ f. elim (cases_eq (rank two.0) (rank f.0)) [
          | inl e ↦ q.1.1 (f.1.others two.1 q.0 (λ x. two.2 (e ∙ ap rank (sym x))))
          | inr ne ↦ p.1.1 (f.1.others two.0 p.0 (λ x. ne (ap rank x)))
        ],
      )

  pub seen_status : (n : ℕ) → ((k : ℕ) → n ≤ k → Held k) → Tells g b (seen_below n)
  seen_status n far = seen_tells n far (seen_below n) (seen_right n)

  -- once apart, the two stay apart
  pub seen_dead : (n : ℕ) → seen_below n ≡ dead → Tells g b dead
  seen_dead n e = let h : Seen n dead = subst (Seen n) e (seen_right n) in dead_at h.0 h.2
