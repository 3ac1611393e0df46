use Rattle.std.proofs.Common.{◌≡◌, ℕ, length, take, Option, sym, refl, ap, ap₂, ◌∙◌, arith}
use Rattle.std.proofs.Math.Seq.{take-length}
use Rattle.rows.specs.Items.{items}
use Rattle.blocks.specs.declared.block.Block.{Block}
use Rattle.blocks.specs.declared.line.Line.TheVariants.{Resolve}
use Rattle.blocks.specs.Lines.{r_line}
use Rattle.blocks.specs.Ranges.{Ranges}
use Rattle.search.specs.declared.moves.Search.{Search}
use Rattle.search.specs.declared.tally.Tally.{Tally}
use Rattle.search.specs.declared.trail.Trail.{Trail}
use Rattle.search.specs.Numbers.{numbered}
use Rattle.search.specs.Tallies.{feed, fed}
use Rattle.search.specs.Moves.{OnlyUndone}
use Rattle.search.proofs.Analysing.{midway_start, midway_over, rest_front, undone_real, midway_pass, midway_stop, reason_block, midway_into}
use Rattle.search.proofs.moves.Search.analyse.Goals as goal

-- one entry less, and perhaps one line more
less : {K L : Type 0} {lent : K → L} {a b : Search K} {v : Trail} {r : Block} {t : Tally} {k : K} → OnlyUndone lent a b → lent k ≡ lent b.sink.now → (items v.entries) ≡ take (length (items v.entries)) (items a.course.trail.entries)
    → OnlyUndone lent a (record { problem = b.problem; area = b.area; course = record { trail = v; region = r; filled = b.course.filled; next = b.course.next }; tally = t; sink = record { ref_ptr = b.sink.ref_ptr; ghost_name = b.sink.ghost_name; now = k } })
less o e front = record { within = record { problem = o.within.problem; area = o.within.area; sink = o.within.sink; lent_too = e ∙ o.within.lent_too }; entries = front; filled = o.filled; next = o.next; slots = o.slots }

-- the blocks are those of the start
blocks_are : {K L : Type 0} {lent : K → L} {a b : Search K} (o : OnlyUndone lent a b) → numbered b.problem.rules.now (take b.course.filled b.area.now) ≡ numbered a.problem.rules.now (take a.course.filled a.area.now)
blocks_are o = λ i. numbered (o.within.problem i).rules.now (take (o.filled i) (o.slots i))

pub loop-entry-init : goal.loop-entry-init
loop-entry-init g c = (midway_start c.requires.1, record { within = record { problem = refl; area = refl; sink = refl; lent_too = refl }; entries = sym (take-length _); filled = refl; next = refl; slots = refl })

pub undo-requires : goal.undo-requires
undo-requires g c = undone_real c.loop-entry.invariant.0 c.loop-entry.invariant.1.entries _ _ c.in-Some.ensures

pub returns-in_default-reason-clause-did : goal.returns-in_default-reason-clause-did
returns-in_default-reason-clause-did g c =
    midway_stop c.loop-entry.invariant.0 c.loop-entry.invariant.1.entries _ _ c.in-Some.ensures c.undo.ensures c.if-not-is_inside.ensures.answer c.in_default-reason.is

pub returns-in_default-reason-clause-kept : goal.returns-in_default-reason-clause-kept
returns-in_default-reason-clause-kept g c = less c.loop-entry.invariant.1 refl (rest_front c.loop-entry.invariant.0 c.loop-entry.invariant.1.entries _ _ c.in-Some.ensures)

pub resolve_into-requires : goal.resolve_into-requires
resolve_into-requires g c =
    let p = reason_block c.loop-entry.invariant.0 c.loop-entry.invariant.1.entries _ _ c.in-Some.ensures c.undo.ensures c.in-Some-reason.is c.setting-setting.ensures in
    let e = c.blocks-then-not-is_inside.ensures in
    (p.0, ap (λ (f : ℕ → Option Ranges). f c.in-Some-reason.block) (ap₂ numbered e.rules e.filled ∙ blocks_are c.loop-entry.invariant.1) ∙ p.1, p.2)

pub loop-entry-preserved-then-not-is_inside : goal.loop-entry-preserved-then-not-is_inside
loop-entry-preserved-then-not-is_inside g c =
    let k = c.in-Some-reason.block in
    let e = c.blocks-then-not-is_inside.ensures in
    let line : Resolve c.stopping.result c.from.result ≡ r_line k c.setting-setting.result = λ i. Resolve (c.stopping.ensures i) (c.from.ensures i) in (
      midway_into c.loop-entry.invariant.0 c.loop-entry.invariant.1.entries _ _ c.in-Some.ensures c.undo.ensures c.in-Some-reason.is c.setting-setting.ensures c.if-not-is_inside.ensures.answer
          (λ b h. c.resolve_into.ensures b (ap (λ (f : ℕ → Option Ranges). f k) (ap₂ numbered e.rules e.filled ∙ blocks_are c.loop-entry.invariant.1) ∙ h))
          (c.send.ensures.after ∙ ap (fed g.K.Sink.step (feed c.loop-entry.self.tally (g.K.Sink.model c.loop-entry.self.sink.now))) line),
      less c.loop-entry.invariant.1 c.send.ensures.kept (rest_front c.loop-entry.invariant.0 c.loop-entry.invariant.1.entries _ _ c.in-Some.ensures),
    )

pub loop-entry-preserved : goal.loop-entry-preserved
loop-entry-preserved g c = (
  midway_pass c.loop-entry.invariant.0 c.loop-entry.invariant.1.entries _ _ c.in-Some.ensures c.undo.ensures c.if-not-is_inside.ensures.answer,
  less c.loop-entry.invariant.1 refl (rest_front c.loop-entry.invariant.0 c.loop-entry.invariant.1.entries _ _ c.in-Some.ensures),
)

pub returns-clause-did : goal.returns-clause-did
returns-clause-did g c =
    let none = ap length c.in_default.ensures.0 in
    midway_over c.loop-entry.invariant.0 (λ l. omega (arith, none, l)) c.send-2.ensures.after

pub returns-clause-kept : goal.returns-clause-kept
returns-clause-kept g c =
    let o = c.loop-entry.invariant.1 in
    less o c.send-2.ensures.kept (rw c.in_default.ensures.1 o.entries)
