-- A work block is kept in a slot.
use Rattle.std.proofs.Common.{◌≡◌, ℕ, ◌+◌, ◌<◌, ◌≤◌, max, eqb, ◌≢◌, List, length, take, set, Some, sym, ap, ◌∙◌, subst, inl, inr, arith, length-set}
use Rattle.std.specs.Map.{update}
use Rattle.std.proofs.lemmas.Map.{update_here, update_apart}
use Rattle.std.proofs.lemmas.Bool.{cases_eq, cases_lt}
use Rattle.std.proofs.lemmas.Bool.Decides.{nat_tests}
use Rattle.blocks.specs.declared.block.Block.{Block}
use Rattle.blocks.specs.declared.bound.Bound.{Bound}
use Rattle.blocks.specs.declared.line.Line.{Line}
use Rattle.blocks.specs.Lines.{k_line}
use Rattle.blocks.specs.Sheets.{Sheet}
use Rattle.blocks.specs.Sinks.{Step}
use Rattle.blocks.specs.Slots.{Slot, slot_at}
use Rattle.blocks.specs.Status.{Forces}
use Rattle.blocks.specs.Views.{ranges}
use Rattle.search.specs.declared.course.Course.{Course}
use Rattle.search.specs.Search.{Entry, IsReason, turn, FreeSlot}
use Rattle.search.specs.Tallies.{Feed, fed}
use Rattle.search.specs.Trails.{trail_of}
use Rattle.search.specs.Courses.{Joined}
use Rattle.search.specs.Moves.{Learnt, KeepsIn}
use Rattle.search.proofs.Slots.{get_apart, slot_take, slot_take_past, slot_here, slot_apart}
use Rattle.search.proofs.Joining.{joined_trail, joined_left, joined_ends}

-- the first free slot is a filled one or the one right behind
slot_low : (m next filled : ℕ) (t : List Entry) (j : ℕ) → next ≤ filled → filled ≤ m → ((i : ℕ) → IsReason t (100 + i) → i < filled) → FreeSlot m next t j → j ≤ filled
slot_low m next filled t j a b reasons free = elim (cases_lt filled m) [
  | inl l ↦ near (elim (cases_lt (turn m next filled) (turn m next j)) [ inl k ↦ let r = reasons filled (free.before filled l k) in absurd (omega arith) | inr k ↦ k ])
  | inr l ↦ let h = free.inside in omega arith
]
  where
    near : turn m next j ≤ turn m next filled → j ≤ filled
    near h = let i = free.inside in grind (arith, nat_tests)

module _ {M : Type 0} (step : M → Line → Step M) (S : Sheet) (w : Block) (c : Course) (area : List Slot) (learnt : Learnt S (ranges w) c area) (slot : ℕ) (free : FreeSlot (length area) c.next (trail_of c.trail) slot) where
  low : slot ≤ c.filled
  low = slot_low (length area) c.next c.filled (trail_of c.trail) slot learnt.kept.next learnt.kept.filled learnt.reasons free

  abbrev filled' : ℕ
  filled' = max c.filled (slot + 1)

  abbrev area' : List Slot
  area' = set area slot (Some w)

  after : (j : ℕ) → slot_at (take filled' area') j ≡ update eqb (slot_at (take c.filled area)) slot (Some (ranges w)) j
  after j = elim (cases_eq j slot) [
    | inl e ↦ subst (λ (i : ℕ). slot_at (take filled' area') i ≡ update eqb (slot_at (take c.filled area)) slot (Some (ranges w)) i) (sym e)
        (slot_take area' filled' slot (omega arith) ∙ slot_here area slot (Some w) free.inside ∙ sym (update_here (slot_at (take c.filled area)) slot (Some (ranges w))))
    | inr n ↦ other n
  ]
    where
      other : j ≢ slot → slot_at (take filled' area') j ≡ update eqb (slot_at (take c.filled area)) slot (Some (ranges w)) j
      other n = elim (cases_lt j c.filled) [
        | inl l ↦ slot_take area' filled' j (omega arith) ∙ slot_apart area slot (Some w) j n ∙ sym (slot_take area c.filled j l) ∙ sym (update_apart (slot_at (take c.filled area)) slot (Some (ranges w)) j n)
        | inr l ↦ let k = low in slot_take_past area' filled' j (omega arith) ∙ sym (slot_take_past area c.filled j l) ∙ sym (update_apart (slot_at (take c.filled area)) slot (Some (ranges w)) j n)
      ]

  module _ (β : Bound) (f : Forces S.last (ranges c.region) (ranges w) β) (c' : Course)
      (join : Joined (record { trail = c.trail; region = c.region; filled = max c.filled (slot + 1); next = slot + 1 }) β (Some (100 + slot)) c')
      (f₀ f₁ : Feed M) (tell : f₁ ≡ fed step f₀ (k_line (100 + slot))) where
    abbrev c₁ : Course
    c₁ = record { trail = c.trail; region = c.region; filled = max c.filled (slot + 1); next = slot + 1 }

    filled_is : c'.filled ≡ max c.filled (slot + 1)
    filled_is = join.filled

    pub keeps_in : KeepsIn step S (ranges w) c area f₀ c' (set area slot (Some w)) f₁
    keeps_in =
        let k = learnt.kept in
        let lo = low in
        let ins = free.inside in
        let fi = filled_is in
        let ni = join.next in
        let len = length-set area slot (Some w) in
        record {
          slot = slot;
          free = free;
          bound = β;
          forces = f;
          kept = record {
            ends = joined_ends S.last c₁ c' β (Some (100 + slot)) join k.left k.ends;
            left = joined_left S.last c₁ c' β (Some (100 + slot)) join k.left;
            room = let r = k.room in omega arith;
            filled = let q = k.filled in omega arith;
            next = omega arith;
            full = λ j l. elim (cases_eq j slot) [
              | inl e ↦ (ranges w, subst (λ (i : ℕ). slot_at (set area slot (Some w)) i ≡ Some (ranges w)) (sym e) (slot_here area slot (Some w) ins))
              | inr n ↦ let o = k.full j (omega arith) in (o.0, slot_apart area slot (Some w) j n ∙ o.1)
            ];
          };
          trail = joined_trail S.last c₁ c' β (Some (100 + slot)) join k.left;
          slots = ap (λ (n : ℕ). slot_at (take n (set area slot (Some w)))) fi ∙ (λ i j. after j i);
          next = ni ∙ omega arith;
          told = tell;
          whole = len;
          more = omega arith;
          untouched = λ j l. get_apart area slot (Some w) j (λ e. omega arith);
        }
