-- Two reasons with one number are one.
use Rattle.std.proofs.Common.{◌≡◌, rules}
use Rattle.scales.specs.declared.refusal.Stop.{Stop}
use Rattle.scales.specs.Stops.{number}

pub same_stop : (s t : Stop) → number s ≡ number t → s ≡ t
same_stop s t e = search rules
