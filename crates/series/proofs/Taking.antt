-- Lines that a judge takes, and what it holds then.
use Rattle.std.proofs.Common.{◌≡◌, ℕ, zero, suc, ◌+◌, ◌-◌, ◌<◌, ◌≤◌, min, cond, eqb, ltb, ◌≢◌, List, [], ◌∷◌, ◌++◌, length, set, replicate, Some, None, Option, sym, refl, ap, ◌∙◌, subst, arith}
use Rattle.std.specs.List.{slice_get}
use Rattle.std.specs.Map.{update}
use Rattle.std.proofs.lemmas.List.{length-set, length-replicate}
use Rattle.std.proofs.lemmas.Map.{update_here, update_apart}
use Rattle.std.proofs.lemmas.Bool.{lt-ltb, le-leb}
use Rattle.blocks.specs.declared.line.Line.{Line}
use Rattle.blocks.specs.Lines.{t_line, r_line, k_line, e_line}
use Rattle.blocks.specs.Ranges.{Ranges, Stands, everything, Inside, resolve, Resolvable}
use Rattle.blocks.specs.Sheets.{Sheet, Proper, block_at}
use Rattle.blocks.specs.Sinks.{taken, next_of, state_after}
use Rattle.blocks.specs.Slots.{joined}
use Rattle.blocks.specs.Views.{Real}
use Rattle.blocks.proofs.Ranging.{by_setting}
use Rattle.record.specs.Readings.{TakesAll}
use Rattle.checker.specs.Courts.{Phase, idle, working, ended, Court, opened, block_in}
use Rattle.checker.specs.Hearing.{onward}
use Rattle.checker.specs.Steps.{whole, step}
use Rattle.checker.proofs.Deciding.{resolvable_decides, whole_decides}

-- a judge of which P holds takes these lines, and then Q holds of it
pub record Brings (P : Court → Type 0) (ls : List Line) (Q : Court → Type 0) : Type 0 where
  pub does : (c : Court) → P c → TakesAll step c ls × Q (state_after step c ls)

pub brings_none : {P : Court → Type 0} → Brings P [] P
brings_none = record { does = λ c p. (tt, p) }

pub brings_one : {P Q : Court → Type 0} {l : Line} → ((c : Court) → P c → (d : Court) × (step c l ≡ taken d) × Q d) → Brings P (l ∷ []) Q
brings_one {Q = Q} one = record { does = λ c p. let h = one c p in ((h.0, h.1, tt), subst Q (sym (ap (next_of c) h.1)) h.2) }

-- lines, and others after them
both_taken : (ks ls : List Line) (R : Court → Type 0) (c : Court) → TakesAll step c ks → TakesAll step (state_after step c ks) ls × R (state_after step (state_after step c ks) ls)
    → TakesAll step c (ks ++ ls) × R (state_after step c (ks ++ ls))
both_taken [] ls R c a b = b
both_taken (k ∷ ks) ls R c a b =
    let next : next_of c (step c k) ≡ a.0 = ap (next_of c) a.1 in
    let rest = both_taken ks ls R (next_of c (step c k)) (subst (λ (d : Court). TakesAll step d ks) (sym next) a.2) b in
    ((a.0, a.1, subst (λ (d : Court). TakesAll step d (ks ++ ls)) next rest.0), rest.1)

pub brings_on : {P Q R : Court → Type 0} {ks ls : List Line} → Brings P ks Q → Brings Q ls R → Brings P (ks ++ ls) R
brings_on {R = R} {ks = ks} {ls = ls} f g = record { does = λ c p. let h = f.does c p in both_taken ks ls R c h.0 (g.does (state_after step c ks) h.1) }

-- a judge over the sheet S and n slots, in this phase, whose slots hold these blocks
pub record Sits (S : Sheet) (n : ℕ) (slots : ℕ → Option Ranges) (p : Phase) (c : Court) : Type 0 where
  pub sheet : c.sheet ≡ S
  pub size : length c.slots ≡ n
  pub held : (j : ℕ) → joined (slice_get c.slots j) ≡ slots j
  pub phase : c.phase ≡ p

none_held : (n j : ℕ) → joined (slice_get (replicate n None) j) ≡ None
none_held zero j = refl
none_held (suc n) zero = refl
none_held (suc n) (suc j) = none_held n j

pub opened_sits : (S : Sheet) (n : ℕ) → Sits S n (λ _. None) idle (opened S n)
opened_sits S n = record { sheet = refl; size = length-replicate n None; held = none_held n; phase = refl }

-- what a slot holds after one was written
set_here : (ss : List (Option Ranges)) (j : ℕ) (w : Ranges) → j < length ss → joined (slice_get (set ss j (Some w)) j) ≡ Some w
set_here [] j w l = absurd (omega arith)
set_here (s ∷ ss) zero w l = refl
set_here (s ∷ ss) (suc j) w l = set_here ss j w (omega arith)

set_apart : (ss : List (Option Ranges)) (j : ℕ) (w : Ranges) (i : ℕ) → i ≢ j → joined (slice_get (set ss j (Some w)) i) ≡ joined (slice_get ss i)
set_apart [] j w i n = refl
set_apart (s ∷ ss) zero w zero n = absurd (n refl)
set_apart (s ∷ ss) zero w (suc i) n = refl
set_apart (s ∷ ss) (suc j) w zero n = refl
set_apart (s ∷ ss) (suc j) w (suc i) n = set_apart ss j w i (λ e. n (ap suc e))

module _ (S : Sheet) (pr : Proper S) (n : ℕ) where
  same_block : {f : ℕ → Option Ranges} {p : Phase} (c : Court) → Sits S n f p c → (k : ℕ) → block_in c k ≡ block_at S.rules f k
  same_block c s k = ap (λ (T : Sheet). block_at T.rules (λ j. joined (slice_get c.slots j)) k) s.sheet ∙ ap (cond (ltb k 100) (slice_get S.rules k)) (s.held (k - 100))

  -- the work block changes
  works : {f : ℕ → Option Ranges} {p : Phase} (c : Court) → Sits S n f p c → (q : Phase) → Sits S n f q (onward c q c.slots)
  works c s q = record { sheet = s.sheet; size = s.size; held = s.held; phase = refl }

  keeps : {f : ℕ → Option Ranges} {p : Phase} (c : Court) → Sits S n f p c → (j : ℕ) (w : Ranges) → j < n → Sits S n (update eqb f j (Some w)) idle (onward c idle (set c.slots j (Some w)))
  keeps {f} c s j w l = record {
    sheet = s.sheet;
    size = length-set c.slots j (Some w) ∙ s.size;
    held = by_setting (λ i. joined (slice_get (set c.slots j (Some w)) i) ≡ update eqb f j (Some w) i) j
        (set_here c.slots j w (omega (arith, s.size)) ∙ sym (update_here f j (Some w)))
        (λ i m. set_apart c.slots j w i m ∙ s.held i ∙ sym (update_apart f j (Some w) i m));
    phase = refl;
  }

  -- what stands over the sheet is real
  beyond : (i : ℕ) → 12 ≤ i → S.last i ≡ 0
  beyond i h = pr.beyond i (omega (arith, pr.twelve))

  real : (b : Ranges) → Stands S.last b → Real b
  real b s = record { ordered = λ i. (s i).0; twelve = λ i h. omega (arith, (s i).1, beyond i h) }

  -- numbers that a line can hold
  block_small : (k : ℕ) → k < 4196 → min k 99999 ≡ k
  block_small k l = omega arith

  setting_small : (s : ℕ) → s < S.count → min s 999 ≡ s
  setting_small s l = omega (arith, pr.twelve)

  -- t takes a block as the work block
  pub t_taken : (f : ℕ → Option Ranges) (k : ℕ) (b : Ranges) → k < 4196 → block_at S.rules f k ≡ Some b → Brings (Sits S n f idle) (t_line k ∷ []) (Sits S n f (working b))
  t_taken f k b small is = brings_one (λ c s. (onward c (working b) c.slots, takes c s, works c s (working b)))
    where
      takes : (c : Court) → Sits S n f idle c → step c (t_line k) ≡ taken (onward c (working b) c.slots)
      takes c s = rw (s.phase, block_small k small, same_block c s k ∙ is)

  -- r resolves a block into it
  pub r_taken : (f : ℕ → Option Ranges) (w : Ranges) (k s : ℕ) (b : Ranges) → k < 4196 → s < S.count → block_at S.rules f k ≡ Some b
      → Stands S.last w → Stands S.last b → Resolvable s w b
      → Brings (Sits S n f (working w)) (r_line k s ∷ []) (Sits S n f (working (resolve s w b)))
  r_taken f w k s b small low is sw sb ok = brings_one (λ c h. (onward c (working (resolve s w b)) c.slots, takes c h, works c h (working (resolve s w b))))
    where
      takes : (c : Court) → Sits S n f (working w) c → step c (r_line k s) ≡ taken (onward c (working (resolve s w b)) c.slots)
      takes c h = rw (h.phase, block_small k small, setting_small s low, same_block c h k ∙ is, ap (λ (T : Sheet). ltb s T.count) h.sheet ∙ lt-ltb s S.count low, (resolvable_decides s w b (real w sw) (real b sb)).1 ok)

  -- k keeps it in a slot
  pub k_taken : (f : ℕ → Option Ranges) (w : Ranges) (j : ℕ) → j < n → 100 + j < 4196 → Brings (Sits S n f (working w)) (k_line (100 + j) ∷ []) (Sits S n (update eqb f j (Some w)) idle)
  k_taken f w j l small = brings_one (λ c s. (onward c idle (set c.slots j (Some w)), takes c s, keeps c s j w l))
    where
      takes : (c : Court) → Sits S n f (working w) c → step c (k_line (100 + j)) ≡ taken (onward c idle (set c.slots j (Some w)))
      takes c s =
          let back : 100 + j - 100 ≡ j = omega arith in
          rw (s.phase, block_small (100 + j) small, back, le-leb 100 (100 + j) (omega arith), lt-ltb (100 + j) (100 + length c.slots) (omega (arith, s.size)))

  -- e ends the grounds
  pub e_taken : (f : ℕ → Option Ranges) (w : Ranges) → Stands S.last w → Inside (everything S.last) w → Brings (Sits S n f (working w)) (e_line ∷ []) (Sits S n f ended)
  e_taken f w sw all = brings_one (λ c s. (onward c ended c.slots, takes c s, works c s ended))
    where
      takes : (c : Court) → Sits S n f (working w) c → step c e_line ≡ taken (onward c ended c.slots)
      takes c s = rw (s.phase, ap (λ (T : Sheet). whole T.last w) s.sheet ∙ (whole_decides S.last w beyond (real w sw)).1 all)
