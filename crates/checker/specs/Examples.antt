-- Worked grounds, over the definitions that the calls' contracts cite.
use Rattle.std.specs.Prelude.{◌≡◌, ℕ}
use Rattle.scales.specs.declared.refusal.Stop.TheVariants.{NotAllowed}
use Rattle.scales.specs.Stops.{line_place}
use Rattle.scales.specs.Checks.{Passes, Refuses}
use Rattle.blocks.specs.Lines.{e_line}
use Rattle.blocks.specs.Meeting.{two_settings, four_rules, four_grounds}
use Rattle.blocks.specs.Rules.{with_rules, rules_checks}
use Rattle.blocks.specs.Sheets.{Sheet}
use Rattle.blocks.specs.Sinks.{refused}
use Rattle.checker.specs.Courts.{ended, opened}
use Rattle.checker.specs.Hearing.{line_checks}
use Rattle.checker.specs.Steps.{step}
use Rattle.checker.specs.Findings.{after, lines_taken}

pub record WorkedGrounds : Type 0 where
  -- an end first is refused with 23, at line 1
  pub end_first : (S : Sheet) (m : ℕ) → (step (opened S m) e_line ≡ refused 23) × Refuses (line_checks (opened S m) e_line) (line_place NotAllowed 1)
  -- the four rules are admitted
  pub admitted : Passes (rules_checks two_settings four_rules)
  -- and over them a judge with one slot takes the seven lines and accepts
  pub taken : lines_taken (opened (with_rules two_settings four_rules) 1) four_grounds ≡ 7
  pub accepted : (after (with_rules two_settings four_rules) 1 four_grounds).phase ≡ ended
