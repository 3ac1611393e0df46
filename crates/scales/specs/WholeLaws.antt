-- The whole numbers keep the laws of a scale.
use Rattle.std.proofs.Common.{rules}
use Rattle.scales.specs.Laws.{ScaleLaws}
use Rattle.scales.specs.Wholes.{OnWhole, EarlierWhole, place_whole, value_whole}

pub whole_laws : ScaleLaws OnWhole EarlierWhole place_whole value_whole 2000000000
whole_laws = search rules
