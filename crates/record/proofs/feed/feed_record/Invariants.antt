use Rattle.std.proofs.Common.{◌≡◌}
use Rattle.std.specs.Iterator.Adapters.{enumerate_source, enumerate_count}
use Rattle.std.specs.Slice.Iter.{chunks_rest, chunks_size}
use Rattle.record.proofs.Feeding.{SoFar}
use Rattle.record.proofs.feed.feed_record.Given as goal

-- the lines before the rest are taken
abbrev pub invariant-loop-before : goal.invariant-loop-before
invariant-loop-before g l =
    let k = g.K.Sink in
    let left = enumerate_source l.before-iterator in
    (goal.iterator-loop-before g).can_next l.before-iterator
    × (goal.iterator-loop-before g).is_finite l.before-iterator
    × (chunks_size left ≡ 10)
    × SoFar k.step (k.model l.initial.sink) l.fn.bytes (chunks_rest left) (enumerate_count l.before-iterator) (k.model l.sink)
    × (k.lent l.sink ≡ k.lent l.initial.sink)
