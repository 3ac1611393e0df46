use Rattle.std.proofs.Common.{Some, refl, ap, ◌∙◌}
use Rattle.std.proofs.lemmas.List.{map-set}
use Rattle.std.proofs.lemmas.Result.{err_from_is_err_and}
use Rattle.blocks.specs.Slots.{slot_holds}
use Rattle.checker.specs.Courts.{court_of, phase_of, idle}
use Rattle.checker.specs.Hearing.{onward}
use Rattle.checker.proofs.Asking.{further_refused, kept_heard}
use Rattle.checker.proofs.judge.Judge.hear.Goals as goal

pub returns-in_err-block-in-Working-Resolve-clause-outcome : goal.returns-in_err-block-in-Working-Resolve-clause-outcome
returns-in_err-block-in-Working-Resolve-clause-outcome c =
    let p = err_from_is_err_and c.from_residual-in_err-block-in-Working-Resolve.result c.from_residual-in_err-block-in-Working-Resolve.ensures.1 in
    rw (p.1, p.2) (further_refused (court_of c.args.self.now) c.in-Working-Resolve.is-1 c.in_ok-allow.ensures.0.0 (c.in_err-block-in-Working-Resolve.ensures (ap phase_of c.in-Working-Resolve.is-0)), refl)

pub returns-in_ok-slot-in-Working-Keep-clause-outcome : goal.returns-in_ok-slot-in-Working-Keep-clause-outcome
returns-in_ok-slot-in-Working-Keep-clause-outcome c =
    let j = c.args.self.now in
    let s = c.in_ok-slot-in-Working-Keep.ensures in
    kept_heard (court_of j) c.in-Working-Keep.number c.in_ok-slot-in-Working-Keep.slot c.in-Working-Keep.is-1 c.in_ok-allow.ensures.0.0 (ap phase_of c.in-Working-Keep.is-0) s.0 s.1.0
    (c.keep.ensures.after ∙ ap (onward (court_of j) idle) (map-set slot_holds j.area.now c.in_ok-slot-in-Working-Keep.slot (Some c.in-Working-Keep.work)))
