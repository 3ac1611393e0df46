use Rattle.std.proofs.Common.{arith, rules}
use Rattle.blocks.specs.Status.{TellsOpenAt}
use Rattle.blocks.specs.Views.{ranges}
use Rattle.blocks.proofs.Finding.{first_found}
use Rattle.blocks.proofs.First.{first_of}
use Rattle.blocks.proofs.Viewing.{held_past}
use Rattle.blocks.proofs.block.Block.first_open.Goals as goal

pub returns : goal.returns
returns c =
    let g = c.args.region.now in
    let b = c.args.self.now in
    first_of (ranges g) (ranges b) 12 (λ k l. let h = held_past g b k l in ((λ o. omega arith), (λ o. omega arith))) c.find_map.result
    (first_found 12 (TellsOpenAt (ranges g) (ranges b)) (λ a r q k. search rules) (λ x o q k. search rules) c.find_map.result c.find_map.ensures.runs)
