-- A work area, slot by slot: its parts, and what a write changes.
use Rattle.std.proofs.Common.{◌≡◌, ℕ, zero, suc, ◌<◌, ◌≤◌, ◌≢◌, List, [], ◌∷◌, map, length, take, set, Some, None, sym, refl, ap, ◌∙◌, arith, length-set}
use lib.ListN.{length-map}
use Rattle.std.specs.List.{slice_get}
use Rattle.std.specs.Option.{option_map}
use Rattle.std.proofs.lemmas.List.{get_or-set_same, length-take}
use Rattle.std.proofs.lemmas.Option.{slice_get-get_or, slice_get-map, slice_get_past}
use Rattle.blocks.specs.Slots.{Slot, joined, slot_holds, slot_at}

module _ {A : Type 0} where
  pub get_take : (xs : List A) (n j : ℕ) → j < n → slice_get (take n xs) j ≡ slice_get xs j
  get_take xs zero j l = absurd (omega arith)
  get_take [] (suc n) j l = refl
  get_take (x ∷ xs) (suc n) zero l = refl
  get_take (x ∷ xs) (suc n) (suc j) l = get_take xs n j (omega arith)

  pub get_apart : (xs : List A) (i : ℕ) (s : A) (j : ℕ) → j ≢ i → slice_get (set xs i s) j ≡ slice_get xs j
  get_apart [] i s j n = refl
  get_apart (x ∷ xs) zero s zero n = absurd (n refl)
  get_apart (x ∷ xs) zero s (suc j) n = refl
  get_apart (x ∷ xs) (suc i) s zero n = refl
  get_apart (x ∷ xs) (suc i) s (suc j) n = get_apart xs i s j (λ e. n (ap suc e))

-- a slot holds what stands at its place
pub slot_by : (xs ys : List Slot) (j : ℕ) → slice_get xs j ≡ slice_get ys j → slot_at xs j ≡ slot_at ys j
slot_by xs ys j e = ap joined (slice_get-map slot_holds xs j ∙ ap (option_map slot_holds) e ∙ sym (slice_get-map slot_holds ys j))

pub slot_past : (xs : List Slot) (j : ℕ) → length xs ≤ j → slot_at xs j ≡ None
slot_past xs j l = ap joined (slice_get_past (map slot_holds xs) j (rw length-map l))

-- slots of a part
pub slot_take : (xs : List Slot) (n j : ℕ) → j < n → slot_at (take n xs) j ≡ slot_at xs j
slot_take xs n j l = slot_by (take n xs) xs j (get_take xs n j l)

pub slot_take_past : (xs : List Slot) (n j : ℕ) → n ≤ j → slot_at (take n xs) j ≡ None
slot_take_past xs n j l = slot_past (take n xs) j (omega (arith, length-take n xs))

-- after a write
pub slot_here : (xs : List Slot) (i : ℕ) (s : Slot) → i < length xs → slot_at (set xs i s) i ≡ slot_holds s
slot_here xs i s l =
    let m : i < length (set xs i s) = rw length-set l in
    ap joined (slice_get-map slot_holds (set xs i s) i ∙ ap (option_map slot_holds) (slice_get-get_or (set xs i s) i s m ∙ ap Some (get_or-set_same xs i s s l)))

pub slot_apart : (xs : List Slot) (i : ℕ) (s : Slot) (j : ℕ) → j ≢ i → slot_at (set xs i s) j ≡ slot_at xs j
slot_apart xs i s j n = slot_by (set xs i s) xs j (get_apart xs i s j n)
