-- Blocks by their numbers: those of the rules below 100, those of the slots from there on.
use Rattle.std.proofs.Common.{◌≡◌, ℕ, zero, suc, ◌+◌, ◌-◌, ◌<◌, ◌≤◌, List, [], ◌∷◌, map, length, take, IfSome, Some, None, Option, sym, refl, ap, ◌∙◌, subst, ap₂, subst₂, inl, inr, arith}
use lib.ListN.{length-map}
use Rattle.std.specs.List.{slice_get}
use Rattle.std.proofs.lemmas.Option.{slice_get_past, none-some}
use Rattle.std.proofs.lemmas.List.{length-take-le}
use Rattle.std.proofs.lemmas.Bool.{cases_lt, lt-ltb, le-ltb}
use Rattle.std.specs.Option.{option_or}
use Rattle.blocks.specs.declared.standing.Standing.{Standing}
use Rattle.blocks.specs.Ranges.{Ranges}
use Rattle.blocks.specs.Slots.{Slot, slot_at}
use Rattle.blocks.specs.Views.{block_of, blocks}
use Rattle.search.specs.declared.scan.Scan.{Scan}
use Rattle.search.specs.declared.scan.Scan.TheVariants.{Broken, Forcing, Quiet}
use Rattle.search.specs.Scans.{holding, Calm, FirstAlive, Scanned}
use Rattle.search.specs.Numbers.{numbered, slot_numbers}

abbrev pub stands : Standing → Option Ranges
stands s = Some (block_of s)

module _ (rules : List Standing) (filled : List Slot) where
  pub in_rules : (k : ℕ) → k < 100 → numbered rules filled k ≡ slice_get (blocks rules) k
  in_rules k l = rw (lt-ltb k 100 l)

  pub in_slots : (k : ℕ) → 100 ≤ k → numbered rules filled k ≡ slot_at filled (k - 100)
  in_slots k l = rw (le-ltb k 100 l)

  pub slot_number : (j : ℕ) → numbered rules filled (100 + j) ≡ slot_at filled j
  slot_number j = in_slots (100 + j) (omega arith) ∙ ap (slot_at filled) (omega arith)

-- a scan of the rules and the filled slots goes up to the last that is filled
pub scanned_here : (rules rules' : List Standing) (xs area : List Slot) (n : ℕ) → rules ≡ rules' → xs ≡ take n area → n ≤ length area → (g : Ranges) (s : Scan) → Scanned g (numbered rules xs) (100 + length xs) s → Scanned g (numbered rules' (take n area)) (100 + n) s
scanned_here rules rules' xs area n e f l g s h =
    let len : 100 + length xs ≡ 100 + n = ap (λ (k : ℕ). 100 + k) (ap length f ∙ length-take-le n area l) in
    subst₂ (λ (b : ℕ → Option Ranges) (k : ℕ). Scanned g b k s) (ap₂ numbered e f) len h

pub rule_past : (rules : List Standing) (k : ℕ) → length rules ≤ k → slice_get (blocks rules) k ≡ None
rule_past rules k l = slice_get_past (map block_of rules) k (rw length-map l)

standing_held : (rules : List Standing) (k : ℕ) → holding stands rules k ≡ slice_get (blocks rules) k
standing_held [] k = refl
standing_held (s ∷ rules) zero = refl
standing_held (s ∷ rules) (suc k) = standing_held rules k

-- a scan of the rules, then of the filled slots
module _ (g : Ranges) (rules : List Standing) (filled : List Slot) (few : length rules ≤ 48) where
  abbrev all : ℕ → Option Ranges
  all = numbered rules filled

  abbrev end : ℕ
  end = 100 + length filled

  rule_is : (k : ℕ) → k < 100 → all k ≡ holding stands rules k
  rule_is k l = in_rules rules filled k l ∙ sym (standing_held rules k)

  no_rule : (k : ℕ) → length rules ≤ k → k < 100 → all k ≡ None
  no_rule k m l = in_rules rules filled k l ∙ rule_past rules k m

  -- what holds of each rule's block holds of each block below 100
  below_hundred : (P : Ranges → Type 0) → ((k : ℕ) → k < length rules → (b : Ranges) → holding stands rules k ≡ Some b → P b) → (k : ℕ) → k < 100 → (b : Ranges) → all k ≡ Some b → P b
  below_hundred P h k l b e = elim (cases_lt k (length rules)) [
    | inl m ↦ h k m b (sym (rule_is k l) ∙ e)
    | inr m ↦ absurd (none-some _ (sym (no_rule k m l) ∙ e))
  ]

  -- what holds of each block below 100, and of the first j slots, holds of each below 100 + j
  below_slot : (P : Ranges → Type 0) → ((k : ℕ) → k < length rules → (b : Ranges) → holding stands rules k ≡ Some b → P b) → (j : ℕ) → ((i : ℕ) → i < j → (b : Ranges) → slot_at filled i ≡ Some b → P b)
      → (k : ℕ) → k < 100 + j → (b : Ranges) → all k ≡ Some b → P b
  below_slot P h j s k l b e = elim (cases_lt k 100) [
    | inl m ↦ below_hundred P h k m b e
    | inr m ↦ s (k - 100) (omega arith) b (sym (in_slots rules filled k m) ∙ e)
  ]

  pub scanned_rules : (s : Scan) → ((a : Option ℕ) → s ≡ Quiet a → ⊥) → Scanned g (holding stands rules) (length rules) s → Scanned g all end s
  scanned_rules (Broken i) n h = (omega arith, (h.1.0, rule_is i (omega arith) ∙ h.1.1, h.1.2), λ k l b e. h.2 k l b (sym (rule_is k (omega arith)) ∙ e))
  scanned_rules (Forcing i t) n h = (omega arith, (h.1.0, rule_is i (omega arith) ∙ h.1.1, h.1.2), λ k l b e. h.2 k l b (sym (rule_is k (omega arith)) ∙ e))
  scanned_rules (Quiet a) n h = absurd (n a refl)

  module _ (a : Option ℕ) (quiet : Scanned g (holding stands rules) (length rules) (Quiet a)) where
    abbrev calm : (k : ℕ) → k < length rules → Calm g (holding stands rules) k
    calm = quiet.0

    pub scanned_broken : (j : ℕ) → Scanned g (slot_at filled) (length filled) (Broken j) → Scanned g all end (Broken (100 + j))
    scanned_broken j h = (omega arith, (h.1.0, slot_number rules filled j ∙ h.1.1, h.1.2), below_slot _ calm j h.2)

    pub scanned_forcing : (j : ℕ) (t : ℕ × ℕ × ℕ) → Scanned g (slot_at filled) (length filled) (Forcing j t) → Scanned g all end (Forcing (100 + j) t)
    scanned_forcing j t h = (omega arith, (h.1.0, slot_number rules filled j ∙ h.1.1, h.1.2), below_slot _ calm j h.2)

    -- neither has a block that is broken or forcing
    pub scanned_quiet : (o : Option ℕ) → Scanned g (slot_at filled) (length filled) (Quiet o) → (r : Option ℕ) → r ≡ option_or a (slot_numbers o) → Scanned g all end (Quiet r)
    scanned_quiet o h r e = (below_slot _ calm (length filled) h.0, subst (λ (x : Option ℕ). FirstAlive g all x end) (sym e) (first a quiet.1 o h.1))
      where
        first : (a : Option ℕ) → FirstAlive g (holding stands rules) a (length rules) → (o : Option ℕ) → FirstAlive g (slot_at filled) o (length filled) → FirstAlive g all (option_or a (slot_numbers o)) end
        first (Some i) w o s = (omega arith, (w.1.0, rule_is i (omega arith) ∙ w.1.1, w.1.2), λ x l b f. w.2 x l b (sym (rule_is x (omega arith)) ∙ f))
        first None w None s = below_slot _ w (length filled) s
        first None w (Some j) s = (omega arith, (s.1.0, slot_number rules filled j ∙ s.1.1, s.1.2), below_slot _ w j s.2)

-- the place of a first block lies below the end
pub alive_below : (g : Ranges) (f : ℕ → Option Ranges) (n : ℕ) (a : Option ℕ) → n ≤ 4096 → FirstAlive g f a n → IfSome a (λ j. j < 4096)
alive_below g f n None few h = tt
alive_below g f n (Some i) few h = omega arith
