use Rattle.std.proofs.Common.{refl, sym, subst, rules}
use Rattle.std.proofs.lemmas.Iterator.{YieldsList-from_range}
use Rattle.std.proofs.lemmas.Iterator.Consumers.{fold_from_yields_List}
use Rattle.blocks.specs.declared.status.Status.TheVariants.{Broken as broken}
use Rattle.blocks.specs.Status.{see, Tells}
use Rattle.blocks.specs.Views.{ranges}
use Rattle.blocks.proofs.Seeing.{seen_status}
use Rattle.blocks.proofs.Viewing.{held_past}
use Rattle.blocks.proofs.block.Block.status.Goals as goal

pub returns : goal.returns
returns c =
    let g = ranges c.args.region.now in
    let b = ranges c.args.self.now in
    let seen = fold_from_yields_List _ (λ s i. see g b i s) broken c.fold.result c.fold.ensures.ran (YieldsList-from_range 0 12 12 refl refl) (λ s i r q k. search rules) in
    subst (Tells g b) (sym seen) (seen_status g b 12 (held_past c.args.region.now c.args.self.now))
