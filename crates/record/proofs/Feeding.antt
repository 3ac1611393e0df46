-- A record that is read line by line.
use Rattle.std.proofs.Common.{◌≡◌, ℕ, ◌+◌, ◌*◌, ◌/◌, ◌<◌, min, List, [], ◌∷◌, ◌++◌, length, take, Ok, Err, sym, refl, ap, ◌∙◌, subst, arith}
use Rattle.std.specs.List.{flat_map}
use Rattle.std.proofs.lemmas.List.{append_assoc, length-append, length_push, take_at, flat_map_more, nil_from_length}
use Rattle.blocks.specs.declared.line.Line.{Line}
use Rattle.blocks.specs.Sinks.{Step, taken, next_of, state_after}
use Rattle.record.specs.declared.halt.Cause.{Cause}
use Rattle.record.specs.declared.halt.Cause.TheVariants.{Shape, Sink}
use Rattle.record.specs.declared.halt.Halt.{Halt}
use Rattle.record.specs.LineBytes.{line_bytes}
use Rattle.record.specs.Halts.{halt_at, Refused, Fed}
use Rattle.record.specs.Readings.{TakesAll, StopsAt, Reads}
use Rattle.record.proofs.Lettered.{line_length}

pub joined_length : (ls : List Line) → length (flat_map line_bytes ls) ≡ 10 * length ls
joined_length [] = refl
joined_length (l ∷ ls) =
    let a = length-append (line_bytes l) (flat_map line_bytes ls) in
    let b = line_length l in
    let d = joined_length ls in
    omega arith

-- one line more at the end
pub state_push : {M : Type 0} (step : M → Line → Step M) (s t : M) (ls : List Line) (l : Line) → step (state_after step s ls) l ≡ taken t → state_after step s (ls ++ l ∷ []) ≡ t
state_push step s t [] l e = ap (next_of s) e
state_push step s t (k ∷ ls) l e = state_push step (next_of s (step s k)) t ls l e

pub takes_push : {M : Type 0} (step : M → Line → Step M) (s t : M) (ls : List Line) (l : Line) → TakesAll step s ls → step (state_after step s ls) l ≡ taken t → TakesAll step s (ls ++ l ∷ [])
takes_push step s t [] l a e = (t, e, tt)
takes_push step s t (k ∷ ls) l a e =
    let next : next_of s (step s k) ≡ a.0 = ap (next_of s) a.1 in
    (a.0, a.1, takes_push step a.0 t ls l a.2 (subst (λ u. step (state_after step u ls) l ≡ taken t) next e))

-- the lines that are taken so far, and the rest behind them
pub record SoFar {M : Type 0} (step : M → Line → Step M) (s : M) (text rest : List ℕ) (n : ℕ) (t : M) : Type 0 where
  pub lines : List Line
  pub begins : text ≡ flat_map line_bytes lines ++ rest
  pub taken_all : TakesAll step s lines
  pub state : t ≡ state_after step s lines
  pub count : n ≡ length lines

pub one_more : {M : Type 0} (step : M → Line → Step M) (s : M) (text rest piece behind : List ℕ) (n : ℕ) (t u : M) (l : Line) → SoFar step s text rest n t
    → rest ≡ piece ++ behind → piece ≡ line_bytes l → step t l ≡ taken u → SoFar step s text behind (n + 1) u
one_more step s text rest piece behind n t u l so cut is f =
    let e : rest ≡ line_bytes l ++ behind = cut ∙ ap (λ xs. xs ++ behind) is in
    let g : step (state_after step s so.lines) l ≡ taken u = subst (λ v. step v l ≡ taken u) so.state f in
    record {
      lines = so.lines ++ l ∷ [];
      begins = so.begins ∙ ap (λ xs. flat_map line_bytes so.lines ++ xs) e ∙ sym (append_assoc (flat_map line_bytes so.lines) (line_bytes l) behind)
          ∙ ap (λ xs. xs ++ behind) (flat_map_more line_bytes [] so.lines l);
      taken_all = takes_push step s u so.lines l so.taken_all g;
      state = sym (state_push step s u so.lines l g);
      count = ap (λ k. k + 1) so.count ∙ sym (length_push so.lines l);
    }

-- a text has ten bytes for each line, and the rest
so_far_length : {M : Type 0} (step : M → Line → Step M) (s : M) (text rest : List ℕ) (n : ℕ) (t : M) → SoFar step s text rest n t → length text ≡ 10 * n + length rest
so_far_length step s text rest n t so =
    ap length so.begins ∙ length-append (flat_map line_bytes so.lines) rest ∙ ap (λ k. k + length rest) (joined_length so.lines ∙ ap (λ k. 10 * k) (sym so.count))

pub all_read : {M : Type 0} (step : M → Line → Step M) (s : M) (text rest : List ℕ) (n : ℕ) (t : M) → SoFar step s text rest n t → length rest ≡ 0 → Reads step s text (Ok (length text / 10)) t
all_read step s text rest n t so h =
    let all = so_far_length step s text rest n t so in
    record { lines = so.lines; rest = rest; begins = so.begins; taken_all = so.taken_all; state = so.state; ends = (nil_from_length rest h, omega (arith, so.count)) }

-- the first ten bytes, or all where there are fewer, tell whether a text begins with a line
begins_so : (rest piece behind after : List ℕ) (l : Line) → rest ≡ piece ++ behind → length piece ≡ min 10 (length rest) → rest ≡ line_bytes l ++ after → piece ≡ line_bytes l
begins_so rest piece behind after l cut some e =
    let a = line_length l in
    let b = length-append (line_bytes l) after in
    let d = ap length e in
    let ten : length piece ≡ 10 = omega arith in
    sym (take_at piece behind 10 ten) ∙ ap (take 10) (sym cut ∙ e) ∙ take_at (line_bytes l) after 10 a

stops_at : {M : Type 0} (step : M → Line → Step M) (s : M) (rest piece behind : List ℕ) (c : Cause) → 0 < length rest → rest ≡ piece ++ behind → length piece ≡ min 10 (length rest)
    → Refused step s piece c → StopsAt step s rest c
stops_at step s rest piece behind Shape some cut ten why = (some, λ l after e. why l (begins_so rest piece behind after l cut ten e))
stops_at step s rest piece behind (Sink n) some cut ten why = (why.0, behind, cut ∙ ap (λ xs. xs ++ behind) why.1, why.2)

pub stopped : {M : Type 0} (step : M → Line → Step M) (s : M) (text rest piece behind : List ℕ) (n : ℕ) (t u : M) (h : Halt) → SoFar step s text rest n t → 0 < length rest
    → rest ≡ piece ++ behind → length piece ≡ min 10 (length rest) → Fed step t (n + 1) piece (Err h) u → Reads step s text (Err h) u
stopped step s text rest piece behind n t u h so some cut ten fed =
    record {
      lines = so.lines;
      rest = rest;
      begins = so.begins;
      taken_all = so.taken_all;
      state = fed.2 ∙ so.state;
      ends = (
        subst (λ v. StopsAt step v rest h.cause) (sym fed.2) (stops_at step t rest piece behind h.cause some cut ten fed.0),
        fed.1 ∙ ap (λ m. halt_at h.cause (m + 1)) so.count,
      );
    }
