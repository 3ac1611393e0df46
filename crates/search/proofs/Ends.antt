-- A search ends: the trail, read as a number to the base 3, rises with every step; and its bounds are different bounds of the rules.
use Rattle.std.proofs.Common.{◌≡◌, ℕ, zero, suc, ◌+◌, ◌-◌, ◌*◌, ◌^◌, ◌<◌, ◌≤◌, min, max, ◌≢◌, ◌⊎◌, List, [], ◌∷◌, ◌++◌, map, length, Some, Option, sym, refl, ap, ◌∙◌, subst, inl, inr, ⊎_elim, append_assoc, append-nil, mul-lt-mul_of_pos_right, pow-suc, arith, length-append, pow-add}
use lib.ListN.{length-map}
use Rattle.std.specs.List.{slice_get}
use Rattle.std.proofs.lemmas.Bool.{cases_lt}
use Rattle.blocks.specs.declared.bound.Bound.{Bound}
use Rattle.blocks.specs.declared.bound.Bound.TheVariants.{AtMost, AtLeast}
use Rattle.blocks.specs.Bounds.{setting}
use Rattle.blocks.specs.Ranges.{Ranges, resolve}
use Rattle.blocks.specs.Status.{BoundOf}
use Rattle.blocks.specs.Sheets.{Sheet, Proper, block_at}
use Rattle.blocks.specs.declared.line.Line.{Line}
use Rattle.search.specs.Search.{Entry, decided, forced, bound_of, region, IsReason, State, cold, learnt, Analysis, pass, into, stop, Verdict, no_slot, blocks_of, Step, force, decide, learn, Ends, all_dead, run_out, full, Steps, here, on, Run}
use Rattle.search.specs.Laws.{Mem, Distinct}
use Rattle.blocks.proofs.Ranging.{OpenAt, TrueAt, narrow_true, narrow_inside, true_inside, resolve_at}
use Rattle.search.proofs.Sound.{Sound, sound_open, steps_good, good_start}
use Rattle.blocks.proofs.Numbers.{block_at_start as start_blocks}
use Rattle.blocks.proofs.Numbers.{put_all}

abbrev pub digit : Entry → ℕ
digit (decided β) = 1
digit (forced β k) = 2

abbrev pub value : List Entry → ℕ
value [] = 0
value (e ∷ t) = 3 * value t + digit e

-- the trail as a number of n digits
abbrev pub number : ℕ → List Entry → ℕ
number n t = value t * 3 ^ (n - length t)

-- what is left of the search: it falls with every step
abbrev pub left : ℕ → State → ℕ
left n st = 3 ^ n - number n st.trail

pow3_pos : (k : ℕ) → 0 < 3 ^ k
pow3_pos zero = omega arith
pow3_pos (suc k) = let h = pow3_pos k in rw (pow-suc 3 k) (omega arith)

pub number_push : (n : ℕ) (e : Entry) (t : List Entry) → length t < n → number n t < number n (e ∷ t)
number_push n e t l = rw (same, pow-suc 3 (n - suc (length t))) (rises e (value t) (3 ^ (n - suc (length t))) (pow3_pos (n - suc (length t))))
  where
    same : n - length t ≡ suc (n - suc (length t))
    same = omega arith

    rises : (e : Entry) (v p : ℕ) → 0 < p → v * (p * 3) < (3 * v + digit e) * p
    rises (decided β) v p h = omega arith
    rises (forced β k) v p h = omega arith

digit_small : (e : Entry) → digit e ≤ 2
digit_small (decided β) = omega arith
digit_small (forced β k) = omega arith

pub value_front : (u s : List Entry) → value (u ++ s) < suc (value s) * 3 ^ length u
value_front [] s = omega arith
value_front (e ∷ u) s = rw (pow-suc 3 (length u)) (let h = value_front u s in let d = digit_small e in more (value (u ++ s)) (suc (value s)) (3 ^ length u) (digit e) h d)
  where
    more : (v w p d : ℕ) → v < w * p → d ≤ 2 → 3 * v + d < w * (p * 3)
    more v w p d h k = omega arith

pub number_cut : (n : ℕ) (u r : List Entry) (β γ : Bound) (k : ℕ) → length (u ++ decided β ∷ r) ≤ n → number n (u ++ decided β ∷ r) < number n (forced γ k ∷ r)
number_cut n u r β γ k l = subst (λ x. value (u ++ decided β ∷ r) * 3 ^ q < x) same (mul-lt-mul_of_pos_right (value_front u (decided β ∷ r)) (pow3_pos q))
  where
    q : ℕ
    q = n - length (u ++ decided β ∷ r)

    len : n - suc (length r) ≡ length u + q
    len = omega (arith, length-append u (decided β ∷ r))

    same : suc (3 * value r + 1) * 3 ^ length u * 3 ^ q ≡ (3 * value r + 2) * 3 ^ (n - suc (length r))
    same = rw (len, pow-add 3 (length u) q) (omega arith)

-- a conflict cuts the trail before a decided entry
pub cut_at : {last : ℕ → ℕ} {blocks : ℕ → Option Ranges} {t r : List Entry} {w v : Ranges} {ls : List Line} → Analysis last blocks t w ls (learnt v r)
    → (u : List Entry) × (β : Bound) × (t ≡ u ++ decided β ∷ r)
cut_at (pass {e = e} i a) = let h = cut_at a in (e ∷ h.0, h.1, ap (λ x. e ∷ x) h.2)
cut_at (into {β = β} {k = k} n is a) = let h = cut_at a in (forced β k ∷ h.0, h.1, ap (λ x. forced β k ∷ x) h.2)
cut_at (stop {β = β} n) = ([], β, refl)

-- each step makes the number greater
pub step_rises : (S : Sheet) (m n : ℕ) {a b : State} {ls : List Line} → Step S m a ls b → length a.trail ≤ n → length b.trail ≤ n → number n a.trail < number n b.trail
step_rises S m n (force {st = a} {k = k} {β = β} f is h) la lb = number_push n (forced β k) a.trail lb
step_rises S m n (decide {st = a} {β = β} x f is h) la lb = number_push n (decided β) a.trail lb
step_rises S m n (learn {st = a} {t = t} {j = j} {β = β} c fr h) la lb =
    let u = cut_at c.analysed in
    subst (λ x. number n x < number n (forced β (100 + j) ∷ t)) (sym u.2) (number_cut n u.0 t u.1 β (100 + j) (subst (λ x. length x ≤ n) u.2 la))

pub number_below : (n : ℕ) (t : List Entry) → length t ≤ n → number n t < 3 ^ n
number_below n t l = subst (λ x. number n t < x) same (mul-lt-mul_of_pos_right front (pow3_pos (n - length t)))
  where
    front : value t < 3 ^ length t
    front = let h : value t < suc 0 * 3 ^ length t = rw append-nil at (value_front t []) in omega arith

    same : 3 ^ length t * 3 ^ (n - length t) ≡ 3 ^ n
    same = sym (pow-add 3 (length t) (n - length t)) ∙ ap (λ x. 3 ^ x) (omega arith)

-- members of lists that differ
module _ {A : Type 0} where
  without : (x : A) (ys : List A) → Mem x ys → List A
  without x [] m = []
  without x (y ∷ ys) (inl e) = ys
  without x (y ∷ ys) (inr m) = y ∷ without x ys m

  length_without : (x : A) (ys : List A) (m : Mem x ys) → suc (length (without x ys m)) ≡ length ys
  unfolding without
  length_without x [] m = elim m [ ]
  length_without x (y ∷ ys) (inl e) = refl
  length_without x (y ∷ ys) (inr m) = ap suc (length_without x ys m)

  mem_without : (x z : A) (ys : List A) (m : Mem x ys) → Mem z ys → z ≢ x → Mem z (without x ys m)
  unfolding without
  mem_without x z [] m h n = elim m [ ]
  mem_without x z (y ∷ ys) (inl e) (inl p) n = absurd (n (p ∙ sym e))
  mem_without x z (y ∷ ys) (inl e) (inr h) n = h
  mem_without x z (y ∷ ys) (inr m) (inl p) n = inl p
  mem_without x z (y ∷ ys) (inr m) (inr h) n = inr (mem_without x z ys m h n)

  mem_at : (x z : A) (xs : List A) → z ≡ x → Mem z xs → Mem x xs
  mem_at x z xs e h = subst (λ y. Mem y xs) e h

  pub pigeon : (xs ys : List A) → Distinct xs → ((z : A) → Mem z xs → Mem z ys) → length xs ≤ length ys
  pigeon [] ys d h = omega arith
  pigeon (x ∷ xs) ys d h =
      let m = h x (inl refl) in
      let k = pigeon xs (without x ys m) d.1 (λ z p. mem_without x z ys m (h z (inr p)) (λ e. d.0 (mem_at x z xs e p))) in
      omega (arith, length_without x ys m)

-- a trail's bounds differ: those of the trail are true in its region
pub true_here : (last : ℕ → ℕ) (t : List Entry) (β : Bound) → Mem β (map bound_of t) → TrueAt (region last t) β
true_here last [] β m = elim m [ ]
true_here last (e ∷ t) β (inl p) = subst (TrueAt (region last (e ∷ t))) (sym p) (narrow_true (region last t) (bound_of e))
true_here last (e ∷ t) β (inr m) = true_inside (region last t) (region last (e ∷ t)) β (narrow_inside (region last t) (bound_of e)) (true_here last t β m)

open_not_true : (g : Ranges) (β : Bound) → OpenAt g β → ¬ TrueAt g β
open_not_true g (AtMost s p) o = omega arith
open_not_true g (AtLeast s p) o = omega arith

pub trail_distinct : (last : ℕ → ℕ) (blocks : ℕ → Option Ranges) (t : List Entry) → Sound last blocks t → Distinct (map bound_of t)
trail_distinct last blocks [] h = tt
trail_distinct last blocks (e ∷ t) h =
    let k = sound_open last blocks e t h in
    (λ m. open_not_true (region last t) (bound_of e) k.0 (true_here last t (bound_of e) m), trail_distinct last blocks t k.1)

-- the bounds of a block are in the list B
abbrev pub From : (ℕ → ℕ) → List Bound → Ranges → Type 0
From last B b = (β : Bound) → BoundOf last b β → Mem β B

pick : (x a b : ℕ) → (x ≡ min a b) ⊎ (x ≡ max a b) → (x ≡ a) ⊎ (x ≡ b)
pick x a b h = elim (cases_lt a b) [
  | inl l ↦ elim h [ inl e ↦ inl (omega arith) | inr e ↦ inr (omega arith) ]
  | inr l ↦ elim h [ inl e ↦ inr (omega arith) | inr e ↦ inl (omega arith) ]
]

-- resolving brings no new bound
pub resolve_from : (last : ℕ → ℕ) (B : List Bound) (s : ℕ) (a b : Ranges) → From last B a → From last B b → From last B (resolve s a b)
resolve_from last B s a b fa fb (AtMost t p) e =
    ⊎_elim (λ h. fa (AtMost t p) (sym h ∙ e)) (λ h. fb (AtMost t p) (sym h ∙ e))
    (pick ((resolve s a b).low t) (a.low t) (b.low t) (⊎_elim (λ r. inl r.1) (λ r. inr r.1) (resolve_at s a b t)))
resolve_from last B s a b fa fb (AtLeast t p) e =
    ⊎_elim (λ h. fa (AtLeast t p) (omega arith)) (λ h. fb (AtLeast t p) (omega arith))
    (pick ((resolve s a b).high t) (a.high t) (b.high t) (⊎_elim (λ r. inr r.2) (λ r. inl r.2) (resolve_at s a b t)))

abbrev pub Within : List Bound → List Entry → Type 0
Within B [] = Unit {0}
Within B (e ∷ t) = Mem (bound_of e) B × Within B t

pub within_mem : (B : List Bound) (t : List Entry) → Within B t → (β : Bound) → Mem β (map bound_of t) → Mem β B
within_mem B [] w β m = elim m [ ]
within_mem B (e ∷ t) w β (inl p) = subst (λ x. Mem x B) (sym p) w.0
within_mem B (e ∷ t) w β (inr m) = within_mem B t w.1 β m

within_rest : (B : List Bound) (u r : List Entry) → Within B (u ++ r) → Within B r
within_rest B [] r w = w
within_rest B (e ∷ u) r w = within_rest B u r w.1

analysis_from : (last : ℕ → ℕ) (B : List Bound) (blocks : ℕ → Option Ranges) → ((k : ℕ) (b : Ranges) → blocks k ≡ Some b → From last B b)
    → {t r : List Entry} {w v : Ranges} {ls : List Line} → Analysis last blocks t w ls (learnt v r) → From last B w → From last B v
analysis_from last B blocks h (pass i a) f = analysis_from last B blocks h a f
analysis_from last B blocks h (into {β = β} {k = k} {b = b} {w = w} n is a) f = analysis_from last B blocks h a (resolve_from last B (setting β) w b f (h k b is))
analysis_from last B blocks h (stop n) f = f

-- the bounds of the trail and of the blocks are the rules'
pub record Drawn (S : Sheet) (B : List Bound) (st : State) : Type 0 where
  pub trail : Within B st.trail
  pub blocks : (k : ℕ) (b : Ranges) → block_at S.rules st.slots k ≡ Some b → From S.last B b

pub step_drawn : (S : Sheet) (B : List Bound) (m : ℕ) {a c : State} {ls : List Line} → Step S m a ls c → Drawn S B a → Drawn S B c
step_drawn S B m (force {k = k} {b = b} {β = β} f is h) w = record { trail = (w.blocks k b is β h.bound, w.trail); blocks = w.blocks }
step_drawn S B m (decide {k = k} {b = b} {β = β} x f is h) w = record { trail = (w.blocks k b is β h.bound, w.trail); blocks = w.blocks }
step_drawn S B m (learn {st = a} {k = k} {w = v} {t = t} {j = j} {β = β} c fr h) w = record {
  trail = (new β h.bound, within_rest B (cut.0 ++ decided cut.1 ∷ []) t (subst (Within B) (cut.2 ∙ sym (append_assoc cut.0 (decided cut.1 ∷ []) t)) w.trail));
  blocks = put_all (From S.last B) S.rules a.slots j v w.blocks new;
}
  where
    new : From S.last B v
    new = analysis_from S.last B (blocks_of S m a) w.blocks c.analysed (w.blocks k c.block c.there)

    cut : (u : List Entry) × (β : Bound) × (a.trail ≡ u ++ decided β ∷ t)
    cut = cut_at c.analysed

pub steps_drawn : (S : Sheet) (B : List Bound) (m : ℕ) {a c : State} {ls : List Line} → Steps S m a ls c → Drawn S B a → Drawn S B c
steps_drawn S B m here w = w
steps_drawn S B m (on p q) w = step_drawn S B m q (steps_drawn S B m p w)

-- B has the bounds of every rule's block
abbrev pub Lists : Sheet → List Bound → Type 0
Lists S B = (i : ℕ) (b : Ranges) → slice_get S.rules i ≡ Some b → From S.last B b

abbrev reasons : List Entry → List ℕ
reasons [] = []
reasons (decided β ∷ t) = reasons t
reasons (forced β k ∷ t) = k ∷ reasons t

reasons_few : (t : List Entry) → length (reasons t) ≤ length t
reasons_few [] = omega arith
reasons_few (decided β ∷ t) = let h = reasons_few t in omega arith
reasons_few (forced β k ∷ t) = let h = reasons_few t in omega arith

reason_mem : (t : List Entry) (k : ℕ) → IsReason t k → Mem k (reasons t)
reason_mem [] k r = elim r [ ]
reason_mem (decided β ∷ t) k r = reason_mem t k r
reason_mem (forced β i ∷ t) k (inl e) = inl (sym e)
reason_mem (forced β i ∷ t) k (inr r) = inr (reason_mem t k r)

abbrev all_slot_numbers : ℕ → List ℕ
all_slot_numbers zero = []
all_slot_numbers (suc m) = (100 + m) ∷ all_slot_numbers m

slot_number : (m z : ℕ) → Mem z (all_slot_numbers m) → (j : ℕ) × (j < m) × (z ≡ 100 + j)
slot_number zero z h = elim h [ ]
slot_number (suc m) z (inl e) = (m, omega arith, e)
slot_number (suc m) z (inr h) = let r = slot_number m z h in (r.0, omega arith, r.2)

slots_distinct : (m : ℕ) → Distinct (all_slot_numbers m) × (length (all_slot_numbers m) ≡ m)
slots_distinct zero = (tt, refl)
slots_distinct (suc m) = let r = slots_distinct m in ((λ h. let q = slot_number m (100 + m) h in omega arith, r.0), ap suc r.1)

-- a trail shorter than the area leaves a slot free
pub slot_free : (m : ℕ) (t : List Entry) → ((j : ℕ) → j < m → IsReason t (100 + j)) → m ≤ length t
slot_free m t h =
    let d = slots_distinct m in
    let k = pigeon (all_slot_numbers m) (reasons t) d.0 (λ z p. let q = slot_number m z p in subst (λ x. Mem x (reasons t)) (sym q.2) (reason_mem t (100 + q.0) (h q.0 q.1))) in
    omega (arith, reasons_few t, d.1)

module _ (S : Sheet) (pr : Proper S) (B : List Bound) (all : Lists S B) (m : ℕ) where
  pub drawn : {st : State} {ls : List Line} → Steps S m cold ls st → Drawn S B st
  drawn p = steps_drawn S B m p (record { trail = tt; blocks = λ k b e. all k b (start_blocks S k b e) })

  -- the trail is no longer than the rules have bounds
  pub trail_short : {st : State} {ls : List Line} → Steps S m cold ls st → length st.trail ≤ length B
  trail_short {st} p = subst (λ x. x ≤ length B) (length-map st.trail bound_of)
      (pigeon (map bound_of st.trail) B (trail_distinct S.last (blocks_of S m st) st.trail (steps_good S m p (good_start S pr)).trail) (within_mem B st.trail (drawn p).trail))

  -- so every step makes less what is left, for any n that is at least the rules' bounds
  pub step_falls : (n : ℕ) → length B ≤ n → {a b : State} {ls ks : List Line} → Steps S m cold ls a → Step S m a ks b → left n b < left n a
  step_falls n few {a} {b} p q =
      let x = trail_short p in
      let y = trail_short (on p q) in
      let u = step_rises S m n q (omega arith) (omega arith) in
      let v = number_below n b.trail (omega arith) in omega arith

  -- with more slots than the rules have bounds, one is always free
  pub never_full : length B < m → (ls : List Line) (end : State) → Run S m cold ls no_slot end → ⊥
  never_full room ls end r = go r.ends (trail_short r.steps) refl
    where
      go : {st : State} {ks : List Line} {v : Verdict} → Ends S m st ks v → length st.trail ≤ length B → v ≡ no_slot → ⊥
      go (all_dead h d) l e = let z : ◌≡◌ {A = ℕ} 0 1 = cc in omega arith
      go (run_out c) l e = let z : ◌≡◌ {A = ℕ} 0 1 = cc in omega arith
      go (full {t = t} c f) l e =
          let u = cut_at c.analysed in
          let k : length (u.0 ++ decided u.1 ∷ t) ≤ length B = subst (λ x. length x ≤ length B) u.2 l in
          omega (arith, slot_free m t f, length-append u.0 (decided u.1 ∷ t))
