use Rattle.std.proofs.Common.{◌≡◌, get_or, refl, arith, rules}
use Rattle.std.proofs.lemmas.List.{get_or_past}
use Rattle.blocks.specs.Ranges.{everything}
use Rattle.blocks.specs.Views.{nought, last_at}
use Rattle.blocks.proofs.Ranging.{same_block}
use Rattle.blocks.proofs.Arrays.{each_of}
use Rattle.blocks.proofs.block.Block.everything.Goals as goal

pub returns : goal.returns
returns c =
    let last = c.args.lasts.now.last in
    let made = c.map.result in
    same_block _ (everything (last_at c.args.lasts.now))
    (each_of (λ i. ((get_or made i nought).low ≡ 0) × ((get_or made i nought).high ≡ get_or last i 0)) 12
    (λ i l. let k = c.map.ensures.items.at i 0 nought l in let m = k.2 in search rules)
    (λ i l. rw (get_or_past made i nought (omega (arith, c.map.ensures.items.long)), get_or_past last i 0 (omega (arith, c.args.lasts.now.sized))) (refl, refl)))
