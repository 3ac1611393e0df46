-- A line is a piece: byte 10 is its last byte, and no other.
use Rattle.std.proofs.Common.{◌≡◌, ℕ, ◌-◌, ◌/◌, ◌<◌, ◌≤◌, ◌⊎◌, ◌↔◌, List, [], ◌++◌, length, get_or, take, sym, ap, ◌∙◌, subst, inl, inr, arith}
use Rattle.std.specs.List.{AllByRecursion as All}
use Rattle.std.proofs.ByRecursion.{All-get_or}
use Rattle.std.proofs.lemmas.List.{length-append, length-take, get_or_append_left, get_or-take, get_or_past, take_at}
use Rattle.std.proofs.lemmas.Bool.{cases_lt, cases_order}
use Rattle.std.proofs.lemmas.Bool.Decides.{nat_tests}
use Rattle.blocks.specs.declared.line.Line.{Line}
use Rattle.blocks.specs.declared.line.Line.TheVariants.{Take, Resolve, Keep, End}
use Rattle.blocks.specs.Lines.{letter, block_column, setting_column}
use Rattle.record.specs.Digits.{front_byte, last_digit}
use Rattle.record.specs.LineBytes.{line_bytes}
use Rattle.record.specs.Laws.{FirstPiece}
use Rattle.record.proofs.Lettered.{line_is_ten, line_length}

letter_high : (l : Line) → 32 ≤ letter l
letter_high (Take b) = omega arith
letter_high (Resolve b s) = omega arith
letter_high (Keep b) = omega arith
letter_high End = omega arith

last_high : (n : ℕ) → 32 ≤ last_digit n
last_high n = omega arith

front_high : (n : ℕ) → 32 ≤ front_byte n
front_high n = grind (arith, nat_tests)

-- every byte of a line but the last is a blank or a higher byte
all_high : (l : Line) → All (λ b. 32 ≤ b) (take 9 (line_bytes l))
all_high l =
    let n = block_column l in
    let m = setting_column l in
    subst (λ bs. All (λ b. 32 ≤ b) (take 9 bs)) (sym (line_is_ten l)) (
      letter_high l,
      (front_high (n / 10000), (front_high (n / 1000), (front_high (n / 100), (front_high (n / 10), (last_high n, (front_high (m / 100), (front_high (m / 10), (last_high m, tt)))))))),
    )

high_at : (l : Line) (k : ℕ) → k < 9 → 32 ≤ get_or (line_bytes l) k 0
high_at l k h =
    let n = length-take 9 (line_bytes l) in
    let t = line_length l in
    subst (λ b. 32 ≤ b) (get_or-take 9 (line_bytes l) k 0 h) (All-get_or (λ b. 32 ≤ b) (take 9 (line_bytes l)) k 0 (omega arith) (all_high l))

ends_at : (l : Line) → get_or (line_bytes l) 9 0 ≡ 10
ends_at l = ap (λ bs. get_or bs 9 0) (line_is_ten l)

-- two texts that begin alike, byte by byte
same_at : (p r q s : List ℕ) (k : ℕ) → p ++ r ≡ q ++ s → k < length p → k < length q → get_or p k 0 ≡ get_or q k 0
same_at p r q s k e h g = sym (get_or_append_left p r 0 k h) ∙ ap (λ xs. get_or xs k 0) e ∙ get_or_append_left q s 0 k g

too_short : (l : Line) (piece rest behind : List ℕ) → piece ++ rest ≡ line_bytes l ++ behind → length piece < 10 → (get_or piece (length piece - 1) 0 ≡ 10) ⊎ (rest ≡ []) → ⊥
too_short l piece rest behind e h (inl ten) =
    let t = line_length l in
    elim (cases_lt 0 (length piece)) [
      | inl some ↦
          let same = same_at piece rest (line_bytes l) behind (length piece - 1) e (omega arith) (omega arith) in
          let big = high_at l (length piece - 1) (omega arith) in
          omega arith
      | inr none ↦ let past = get_or_past piece (length piece - 1) 0 (omega arith) in omega arith
    ]
too_short l piece rest behind e h (inr over) =
    let t = line_length l in
    let n = ap length e in
    let a = length-append piece rest in
    let b = length-append (line_bytes l) behind in
    let z = ap length over in
    omega arith

pub line_piece : (text piece rest : List ℕ) → FirstPiece text piece rest → (l : Line) (behind : List ℕ) → text ≡ line_bytes l ++ behind → piece ≡ line_bytes l
line_piece text piece rest f l behind e =
    let t = line_length l in
    let j : piece ++ rest ≡ line_bytes l ++ behind = sym f.joins ∙ e in
    elim (cases_order (length piece) 10) [
      | inl ten ↦ sym (take_at piece rest 10 ten) ∙ ap (take 10) j ∙ take_at (line_bytes l) behind 10 t
      | inr other ↦ absurd (elim other [
        | inl less ↦ too_short l piece rest behind j less f.ended
        | inr more ↦ f.no_other 9 (omega arith) (same_at piece rest (line_bytes l) behind 9 j (omega arith) (omega arith) ∙ ends_at l)
      ])
    ]

pub by_piece : (text piece rest : List ℕ) → FirstPiece text piece rest → (l : Line) → (piece ≡ line_bytes l) ↔ ((behind : List ℕ) × (text ≡ line_bytes l ++ behind))
by_piece text piece rest f l = ((λ e. (rest, f.joins ∙ ap (λ xs. xs ++ rest) e)), (λ b. line_piece text piece rest f l b.0 b.1))
