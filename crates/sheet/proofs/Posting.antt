-- A rule that is posted.
use Rattle.std.proofs.Common.{◌≡◌, List, [], Ok, Err, Result, sym, ap, subst}
use Rattle.scales.specs.declared.refusal.Refusal.{Refusal}
use Rattle.blocks.specs.declared.bound.Bound.{Bound}
use Rattle.blocks.specs.declared.ruleset.RuleSet.{RuleSet}
use Rattle.blocks.specs.RuleSets.{sheet_in, Posted}
use Rattle.series.specs.Calls.{post, posted, refused, answer, of_post, Does, posts, post_refused}

pub posted_does : (before after : RuleSet) (r : List Bound) (x : Result (Unit {0}) Refusal) → Posted before r x after → Does (sheet_in before) (post r) (answer (of_post x) [] []) (sheet_in after)
posted_does before after r (Ok u) p = subst (Does (sheet_in before) (post r) (answer posted [] [])) (sym p.1) (posts p.0)
posted_does before after r (Err e) p = subst (λ s. Does (sheet_in before) (post r) (answer (refused e) [] []) (sheet_in s)) (sym p.1) (post_refused p.0)

-- the settings stay
pub settings_stay : (before after : RuleSet) (r : List Bound) (x : Result (Unit {0}) Refusal) → Posted before r x after → after.lasts.count ≡ before.lasts.count
settings_stay before after r (Ok u) p = ap (λ S. S.count) p.1
settings_stay before after r (Err e) p = ap (λ s. s.lasts.count) p.1
