use Rattle.std.proofs.Common.{arith, rules}
use borrow.Author.Tests.{tests}
use Rattle.std.proofs.lemmas.Bool.{MatchBool-at_true, MatchBool-at_false}
use Rattle.std.proofs.lemmas.Iterator.{YieldsList-from_slice, cases_from_all}
use Rattle.blocks.proofs.Posting.{Fit, all_fit}
use Rattle.blocks.proofs.problem.Problem.pose.Goals.{then-rules-gt48-via-then-rules-gt48, then-rules-gt48-via-else-rules-gt48+then-not-all}
use Rattle.blocks.proofs.problem.Problem.pose.Goals as goal

pub returns-then-rules-gt48 : goal.returns-then-rules-gt48
returns-then-rules-gt48 c fit =
    let l = c.args.lasts.now in
    let ss = c.args.rules.now in
    elim c.then-rules-gt48.branch [
      | then-rules-gt48-via-then-rules-gt48 w ↦ omega (arith, fit.few, w.if-rules-gt48.true)
      | then-rules-gt48-via-else-rules-gt48+then-not-all w ↦
          let h = all_fit l ss w.all.result (cases_from_all w.all.new.self _ _ (Fit l ss) (λ s. Fit l ss s → ⊥) w.all.ensures.ran (YieldsList-from_slice ss (search rules)) (λ x q k. search (rules, tests)) (λ x q k. search (rules, tests))) in
          MatchBool-at_false _ _ w.if-not-all.true h fit
    ]

pub invariant_of-result : goal.invariant_of-result
invariant_of-result c =
    let l = c.args.lasts.now in
    let ss = c.args.rules.now in
    let h = all_fit l ss c.all.result (cases_from_all c.all.new.self _ _ (Fit l ss) (λ s. Fit l ss s → ⊥) c.all.ensures.ran (YieldsList-from_slice ss (search rules)) (λ x q k. search (rules, tests)) (λ x q k. search (rules, tests))) in
    record { fit = record { few = c.if-rules-gt48.false; each = MatchBool-at_true _ _ c.if-not-all.false h } }
