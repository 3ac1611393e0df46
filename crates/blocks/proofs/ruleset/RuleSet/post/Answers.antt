use Rattle.std.proofs.Common.{Ok, Err, refl, ap, ◌∙◌}
use Rattle.std.proofs.lemmas.Result.{err_from_is_err_and}
use Rattle.rows.specs.Items.{items}
use Rattle.rows.proofs.Rooms.{within_room, pushed_ok, pushed_behind}
use Rattle.blocks.specs.Problems.{sheet_of}
use Rattle.blocks.specs.Views.{last_at, block_of, FitToStand}
use Rattle.blocks.proofs.Admitting.{breakers_some}
use Rattle.blocks.proofs.Breaking.{rule_breakers}
use Rattle.blocks.proofs.Posting.{admitted_at, admitted_room, pushed_each, posted_sheet}
use Rattle.blocks.proofs.ruleset.RuleSet.post.Goals as goal

pub returns-in_err-standing : goal.returns-in_err-standing
returns-in_err-standing c =
    let p = err_from_is_err_and c.from_residual.result c.from_residual.ensures.1 in
    let βs = c.args.rule.now.bounds.now in
    rw (p.1, p.2) (admitted_at c.problem.ensures.lasts c.problem.ensures.rules βs (Err c.in_err-standing.field-0.0) c.in_err-standing.ensures, refl)

pub invariant_of-self : goal.invariant_of-self
invariant_of-self c =
    let s = c.args.self.now in
    let new = c.in_ok-standing.standing in
    let a = admitted_at c.problem.ensures.lasts c.problem.ensures.rules c.args.rule.now.bounds.now (Ok new) c.in_ok-standing.ensures in
    record {
      fit = record {
        few = within_room c.push.new.self;
        each = pushed_each (FitToStand s.lasts) s.rules c.push.new.self new c.push.result c.push.ensures s.fit.each a.1.1;
      };
    }

pub unwrap-requires : goal.unwrap-requires
unwrap-requires c =
    let s = c.args.self.now in
    let a = admitted_at c.problem.ensures.lasts c.problem.ensures.rules c.args.rule.now.bounds.now (Ok c.in_ok-standing.standing) c.in_ok-standing.ensures in
    pushed_ok c.in_ok-standing.standing s.rules c.push.new.self c.push.result c.push.ensures (admitted_room s.lasts (items s.rules) c.args.rule.now.bounds.now a.0)

pub returns : goal.returns
returns c =
    let s = c.args.self.now in
    let new = c.in_ok-standing.standing in
    let βs = c.args.rule.now.bounds.now in
    let a = admitted_at c.problem.ensures.lasts c.problem.ensures.rules βs (Ok new) c.in_ok-standing.ensures in
    let room = admitted_room s.lasts (items s.rules) βs a.0 in (
      a.0,
      ap (sheet_of s.lasts) (pushed_behind new s.rules c.push.new.self c.push.result c.push.ensures room) ∙ posted_sheet s.lasts (items s.rules) new βs a.1.0,
      rule_breakers (last_at s.lasts) βs (breakers_some (last_at s.lasts) βs (block_of new) a.1.0),
    )
