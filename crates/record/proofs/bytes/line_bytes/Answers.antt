use Rattle.std.proofs.Common.{◌≡◌, ◌∙◌}
use Rattle.record.specs.LineBytes.{line_bytes}
use Rattle.record.proofs.Lettered.{line_is_ten, same_line}
use Rattle.record.proofs.bytes.line_bytes.Goals as goal

pub returns : goal.returns
returns c =
    let l = c.args.line in
    let written : _ ≡ line_bytes l = cc (line_is_ten l) in
    record { written = written; only = λ other e. same_line other l (e ∙ written) }
