use Rattle.std.proofs.Common.{◌≡◌, ℕ, List, length, take, Some, None, Option, sym, refl, ap, ap₂, ◌∙◌, subst, subst₂}
use Rattle.std.specs.Option.{option_map}
use Rattle.rows.specs.Items.{items}
use Rattle.blocks.specs.declared.line.Line.TheVariants.{Take}
use Rattle.blocks.specs.declared.problem.Problem.{Problem}
use Rattle.blocks.specs.Lines.{t_line}
use Rattle.blocks.specs.Problems.{posed}
use Rattle.blocks.specs.Ranges.{Ranges}
use Rattle.blocks.specs.Slots.{Slot, slot_at}
use Rattle.blocks.specs.Views.{ranges}
use Rattle.blocks.proofs.Properness.{problem_proper}
use Rattle.search.specs.Analyses.{Analysed}
use Rattle.search.specs.Moves.{Stops, Learnt, Keeps, feed_in}
use Rattle.search.specs.Numbers.{numbered}
use Rattle.search.specs.Tallies.{Feed, feed, fed}
use Rattle.search.proofs.Conflicting.{stops_over, learnt_here, moved_by}
use Rattle.search.proofs.moves.Search.conflict.Goals as goal

pub returns-then-not-analyse-clause-moved : goal.returns-then-not-analyse-clause-moved
returns-then-not-analyse-clause-moved g c =
    let s = c.args.self.now in
    let S = posed s.problem in
    let step = g.K.Sink.step in
    let e = c.blocks-2.ensures in
    let is = ap (option_map ranges) (sym c.unwrap-work.ensures) ∙ c.at.ensures ∙ ap (λ (f : ℕ → Option Ranges). f c.args.number) (ap₂ numbered e.rules e.filled) in
    let f = feed_in g.K.Sink.model s in
    let f₂ = feed_in g.K.Sink.model c.analyse.new.self in
    let g' = ranges c.analyse.new.self.course.region in
    let w = ranges c.unwrap-work.result in
    let w' = ranges c.analyse.new.work in
    let sent : feed c.send.new.self (g.K.Sink.model c.send.new.sink) ≡ fed step f (t_line c.args.number) = c.send.ensures.after ∙ ap (λ b. fed step f (Take b)) c.stopping.ensures in
    let did = subst (λ (x : Feed _). Analysed step S (slot_at (take s.course.filled s.area.now)) s.course.trail w x None g' w' f₂) sent c.if-not-analyse.ensures.did in
    subst (λ (xs : List Slot). Stops step S s.course s.area.now f _ c.analyse.new.self.course xs f₂) (sym c.if-not-analyse.ensures.kept.slots)
    (stops_over step S (problem_proper s.problem) s.course s.area.now c.requires.0 c.args.number c.requires.1 w is f f₂ g' w' did c.analyse.new.self.course)

pub keep-requires : goal.keep-requires
keep-requires g c =
    let s = c.args.self.now in
    let S = posed s.problem in
    let step = g.K.Sink.step in
    let e = c.blocks-2.ensures in
    let is = ap (option_map ranges) (sym c.unwrap-work.ensures) ∙ c.at.ensures ∙ ap (λ (f : ℕ → Option Ranges). f c.args.number) (ap₂ numbered e.rules e.filled) in
    let f = feed_in g.K.Sink.model s in
    let f₂ = feed_in g.K.Sink.model c.analyse.new.self in
    let g' = ranges c.analyse.new.self.course.region in
    let w = ranges c.unwrap-work.result in
    let w' = ranges c.analyse.new.work in
    let c₂ = c.analyse.new.self.course in
    let n = length (items c₂.trail.entries) in
    let o = c.if-not-analyse.ensures.kept in
    let sent : feed c.send.new.self (g.K.Sink.model c.send.new.sink) ≡ fed step f (t_line c.args.number) = c.send.ensures.after ∙ ap (λ b. fed step f (Take b)) c.stopping.ensures in
    let did = subst (λ (x : Feed _). Analysed step S (slot_at (take s.course.filled s.area.now)) s.course.trail w x (Some n) g' w' f₂) sent c.if-not-analyse.ensures.did in
    subst₂ (λ (p : Problem) (xs : List Slot). Learnt (posed p) w' c₂ xs) (sym o.within.problem) (sym o.slots)
    (learnt_here step S (problem_proper s.problem) s.course s.area.now c.requires.0 c.args.number c.requires.1 w is f f₂ g' w' n did c₂
    o.entries refl o.filled o.next)

pub returns-clause-moved : goal.returns-clause-moved
returns-clause-moved g c =
    let s = c.args.self.now in
    let S = posed s.problem in
    let step = g.K.Sink.step in
    let e = c.blocks-2.ensures in
    let is = ap (option_map ranges) (sym c.unwrap-work.ensures) ∙ c.at.ensures ∙ ap (λ (f : ℕ → Option Ranges). f c.args.number) (ap₂ numbered e.rules e.filled) in
    let f = feed_in g.K.Sink.model s in
    let f₂ = feed_in g.K.Sink.model c.analyse.new.self in
    let g' = ranges c.analyse.new.self.course.region in
    let w = ranges c.unwrap-work.result in
    let w' = ranges c.analyse.new.work in
    let c₂ = c.analyse.new.self.course in
    let n = length (items c₂.trail.entries) in
    let o = c.if-not-analyse.ensures.kept in
    let sent : feed c.send.new.self (g.K.Sink.model c.send.new.sink) ≡ fed step f (t_line c.args.number) = c.send.ensures.after ∙ ap (λ b. fed step f (Take b)) c.stopping.ensures in
    let did = subst (λ (x : Feed _). Analysed step S (slot_at (take s.course.filled s.area.now)) s.course.trail w x (Some n) g' w' f₂) sent c.if-not-analyse.ensures.did in
    let k = c.keep.new.self in
    let kept = subst₂ (λ (p : Problem) (xs : List Slot). Keeps step (posed p) w' c₂ xs f₂ c.keep.result k.course k.area.now (feed_in g.K.Sink.model k)) o.within.problem o.slots c.keep.ensures.did in
    moved_by step S (problem_proper s.problem) s.course s.area.now c.requires.0 c.args.number c.requires.1 w is f f₂ g' w' n did c₂
    o.entries refl o.filled o.next
    c.keep.result k.course k.area.now (feed_in g.K.Sink.model k) kept
