-- The grounds of each "none" are accepted, as lines and as bytes.
use Rattle.std.proofs.Common.{ℕ, List, [], sym, refl, arith}
use Rattle.std.specs.List.{flat_map}
use Rattle.std.proofs.lemmas.List.{append-nil}
use Rattle.blocks.specs.declared.line.Line.{Line}
use Rattle.blocks.specs.Sheets.{Sheet, Proper}
use Rattle.record.specs.LineBytes.{line_bytes}
use Rattle.checker.specs.Courts.{opened}
use Rattle.checker.specs.Findings.{after}
use Rattle.search.specs.Search.{State, cold, none, Run}
use Rattle.search.specs.Solve.{used}
use Rattle.series.specs.Judging.{accepted}
use Rattle.series.specs.Accepting.{Accepts, AcceptsBytes, GroundsAccepted}
use Rattle.series.proofs.Taking.{opened_sits}
use Rattle.series.proofs.Agreeing.{run_taken}
use Rattle.series.proofs.Writing.{just_written}

-- lines that are accepted have bytes that are accepted
bytes_accepted : (S : Sheet) (m : ℕ) (ls : List Line) → Accepts S m ls → AcceptsBytes S m (flat_map line_bytes ls)
bytes_accepted S m ls a = (
  (after S m ls).slots,
  record {
    lines = ls;
    rest = [];
    begins = sym (append-nil (flat_map line_bytes ls));
    takes = a.takes;
    finds = accepted refl a.ends;
    left_in = refl;
  },
)

module _ (S : Sheet) (pr : Proper S) (m : ℕ) where
  run_accepted : (ls : List Line) (end : State) → Run S (used m) cold ls none end → Accepts S m ls
  run_accepted ls end r =
      let h = (run_taken S pr (used m) m (omega arith) (omega arith) ls end r).does (opened S m) (opened_sits S m) in
      record { takes = h.0; ends = h.1.phase }

  pub grounds_accepted : GroundsAccepted S m
  grounds_accepted = record { lines = run_accepted; bytes = λ ls end r. bytes_accepted S m ls (run_accepted ls end r); written = just_written }
