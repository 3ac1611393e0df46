-- A record that fills, line by line.
use Rattle.std.proofs.Common.{◌≡◌, ℕ, ◌+◌, ◌*◌, ◌<◌, ◌≤◌, leb, List, [], ◌∷◌, ◌++◌, length, take, drop, sym, ap, ◌∙◌, subst, inl, inr, add-zero, arith}
use Rattle.std.specs.List.{flat_map}
use Rattle.std.proofs.lemmas.List.{append_assoc, length-append, length-take-le, length-drop, take-append-drop, take_at, drop_at, drop-drop}
use Rattle.std.proofs.lemmas.Bool.{cases_lt, le-leb, lt-leb, cond-true, cond-false}
use Rattle.blocks.specs.declared.line.Line.{Line}
use Rattle.blocks.specs.Sinks.{taken, refused, next_of, state_after}
use Rattle.record.specs.LineBytes.{line_bytes}
use Rattle.record.specs.Pages.{Page, page, put, writes}
use Rattle.record.specs.Readings.{TakesAll}
use Rattle.record.specs.Laws.{RecordStands}
use Rattle.record.proofs.Lettered.{line_length}

-- ten bytes put at w, where there is room for them

pub put_length : (b ten : List ℕ) (w : ℕ) → length ten ≡ 10 → w + 10 ≤ length b → length (put w ten b) ≡ length b
put_length b ten w t h =
    let a = length-append (take w b) (ten ++ drop (w + 10) b) in
    let d = length-append ten (drop (w + 10) b) in
    let e = length-take-le w b (omega arith) in
    let f = length-drop (w + 10) b in
    omega arith

front_length : (b ten : List ℕ) (w : ℕ) → length ten ≡ 10 → w + 10 ≤ length b → length (take w b ++ ten) ≡ w + 10
front_length b ten w t h =
    let a = length-append (take w b) ten in
    let e = length-take-le w b (omega arith) in
    omega arith

pub take_put : (b ten : List ℕ) (w : ℕ) → length ten ≡ 10 → w + 10 ≤ length b → take (w + 10) (put w ten b) ≡ take w b ++ ten
take_put b ten w t h =
    ap (take (w + 10)) (sym (append_assoc (take w b) ten (drop (w + 10) b))) ∙ take_at (take w b ++ ten) (drop (w + 10) b) (w + 10) (front_length b ten w t h)

pub drop_put : (b ten : List ℕ) (w k : ℕ) → length ten ≡ 10 → w + 10 ≤ length b → drop (w + 10 + k) (put w ten b) ≡ drop (w + 10 + k) b
drop_put b ten w k t h =
    sym (drop-drop k (w + 10) (put w ten b))
    ∙ ap (drop k) (ap (drop (w + 10)) (sym (append_assoc (take w b) ten (drop (w + 10) b))) ∙ drop_at (take w b ++ ten) (drop (w + 10) b) (w + 10) (front_length b ten w t h))
    ∙ drop-drop k (w + 10) b

-- one line

abbrev after : List ℕ → ℕ → Line → Page
after b w l = page (put w (line_bytes l) b) (w + 10)

pub fits : (b : List ℕ) (w : ℕ) (l : Line) → w + 10 ≤ length b → writes (page b w) l ≡ taken (after b w l)
fits b w l h = cond-true (leb (w + 10) (length b)) _ _ (le-leb (w + 10) (length b) h)

pub is_full : (b : List ℕ) (w : ℕ) (l : Line) → length b < w + 10 → writes (page b w) l ≡ refused 25
is_full b w l h = cond-false (leb (w + 10) (length b)) _ _ (lt-leb (w + 10) (length b) h)

-- lines that fit

abbrev filled : List ℕ → ℕ → List Line → Page
filled b w ls = page (take w b ++ (flat_map line_bytes ls ++ drop (w + 10 * length ls) b)) (w + 10 * length ls)

filled_more : (b : List ℕ) (w : ℕ) (l : Line) (ls : List Line) → w + 10 ≤ length b → filled (put w (line_bytes l) b) (w + 10) ls ≡ filled b w (l ∷ ls)
filled_more b w l ls h =
    let ten = line_bytes l in
    let rest = flat_map line_bytes ls in
    let n = 10 * length ls in
    let end : w + 10 + n ≡ w + 10 * length (l ∷ ls) = omega arith in
    let front = take_put b ten w (line_length l) h in
    let back = drop_put b ten w n (line_length l) h in
    let bytes : take (w + 10) (put w ten b) ++ (rest ++ drop (w + 10 + n) (put w ten b)) ≡ take w b ++ ((ten ++ rest) ++ drop (w + 10 + n) b)
    = (λ i. front i ++ (rest ++ back i)) ∙ append_assoc (take w b) ten (rest ++ drop (w + 10 + n) b) ∙ ap (λ xs. take w b ++ xs) (sym (append_assoc ten rest (drop (w + 10 + n) b))) in
    (λ i. page (bytes i) (w + 10 + n)) ∙ ap (λ k. page (take w b ++ ((ten ++ rest) ++ drop k b)) k) end

pub fill : (b : List ℕ) (w : ℕ) (ls : List Line) → w + 10 * length ls ≤ length b → TakesAll writes (page b w) ls × (state_after writes (page b w) ls ≡ filled b w ls)
fill b w [] h =
    let z = add-zero w in
    (tt, rw z (λ i. page (sym (take-append-drop w b) i) w))
fill b w (l ∷ ls) h =
    let room : w + 10 ≤ length b = omega arith in
    let taken-so = fits b w l room in
    let length-so = put_length b (line_bytes l) w (line_length l) room in
    let rest = fill (put w (line_bytes l) b) (w + 10) ls (omega arith) in
    ((after b w l, taken-so, rest.0), ap (λ p. state_after writes p ls) (ap (next_of (page b w)) taken-so) ∙ rest.1 ∙ filled_more b w l ls room)

-- lines that were taken did fit
pub did_fit : (b : List ℕ) (w : ℕ) (ls : List Line) → w ≤ length b → TakesAll writes (page b w) ls → w + 10 * length ls ≤ length b
did_fit b w [] h a = omega arith
did_fit b w (l ∷ ls) h a = elim (cases_lt (length b) (w + 10)) [
  | inl full ↦ let both : taken a.0 ≡ refused 25 = sym a.1 ∙ is_full b w l full in cc
  | inr room ↦
      let both : taken a.0 ≡ taken (after b w l) = sym a.1 ∙ fits b w l room in
      let same : a.0 ≡ after b w l = cc in
      let rest = did_fit (put w (line_bytes l) b) (w + 10) ls (omega (arith, put_length b (line_bytes l) w (line_length l) room)) (subst (λ p. TakesAll writes p ls) same a.2) in
      omega (arith, rest, put_length b (line_bytes l) w (line_length l) room)
]

pub record_stands : RecordStands
record_stands = record {
  takes = λ b ls. ((λ a. from_zero b ls (did_fit b 0 ls (omega arith) a)), (λ h. (fill b 0 ls (to_zero b ls h)).0));
  holds = λ b ls h. (fill b 0 ls (to_zero b ls h)).1 ∙ start b (10 * length ls) ls;
  counts = λ bytes ls. omega arith;
}
  where
    from_zero : (b : List ℕ) (ls : List Line) → 0 + 10 * length ls ≤ length b → 10 * length ls ≤ length b
    from_zero b ls h = omega arith

    to_zero : (b : List ℕ) (ls : List Line) → 10 * length ls ≤ length b → 0 + 10 * length ls ≤ length b
    to_zero b ls h = omega arith

    start : (b : List ℕ) (n : ℕ) (ls : List Line) → page (flat_map line_bytes ls ++ drop (0 + n) b) (0 + n) ≡ page (flat_map line_bytes ls ++ drop n b) n
    start b n ls = let z : 0 + n ≡ n = omega arith in ap (λ k. page (flat_map line_bytes ls ++ drop k b) k) z
