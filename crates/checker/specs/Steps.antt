-- The judge as a sink: what it makes of a line, by tests. That each line meets what is asked of it, and does what it should, is said of it as a law.
use Rattle.std.specs.Prelude.{ℕ, zero, suc, ◌+◌, ◌-◌, Bool, true, cond, ◌&&◌, length, Some, None, Option, ◌==◌, nat_le, nat_lt, slice_set}
use Rattle.scales.specs.declared.refusal.Stop.{Stop}
use Rattle.scales.specs.declared.refusal.Stop.TheVariants.{NotAllowed, UnknownBlock, Undeclared, NotResolvable, NotEverything}
use Rattle.scales.specs.Stops.{number}
use Rattle.blocks.specs.declared.line.Line.{Line}
use Rattle.blocks.specs.declared.line.Line.TheVariants.{Take, Resolve, Keep, End}
use Rattle.blocks.specs.Ranges.{Ranges, resolve}
use Rattle.blocks.specs.Sinks.{Step, taken, refused}
use Rattle.checker.specs.Courts.{Phase, idle, working, ended, Court, block_in}
use Rattle.checker.specs.Hearing.{onward}

abbrev pub all_below : (ℕ → Bool) → ℕ → Bool
all_below p zero = true
all_below p (suc n) = p n && all_below p n

-- at setting i two blocks overlap, or adjoin where i is s
abbrev pub near : ℕ → Ranges → Ranges → ℕ → Bool
near s a b i = nat_le (a.low i) (b.high i + cond (i == s) 1 0) && nat_le (b.low i) (a.high i + cond (i == s) 1 0)

-- resolving on s is allowed
abbrev pub resolvable : ℕ → Ranges → Ranges → Bool
resolvable s a b = all_below (near s a b) 12

-- the block is everything
abbrev pub whole : (ℕ → ℕ) → Ranges → Bool
whole last w = all_below (λ i. nat_le (w.low i) 0 && nat_le (last i) (w.high i)) 12

-- refused for this reason where the test fails
abbrev pub where_true : Bool → Stop → Step Court → Step Court
where_true t s next = cond t next (refused (number s))

abbrev pub where_known : Option Ranges → (Ranges → Step Court) → Step Court
where_known None next = refused (number UnknownBlock)
where_known (Some b) next = next b

abbrev pub step_in : Court → Phase → Line → Step Court
step_in c idle (Take k) = where_known (block_in c k.number) (λ b. taken (onward c (working b) c.slots))
step_in c idle (Resolve k s) = refused (number NotAllowed)
step_in c idle (Keep k) = refused (number NotAllowed)
step_in c idle End = refused (number NotAllowed)
step_in c (working w) (Take k) = refused (number NotAllowed)
step_in c (working w) (Resolve k s) =
    where_known (block_in c k.number) (λ b.
    where_true (nat_lt s.number c.sheet.count) Undeclared (
    where_true (resolvable s.number w b) NotResolvable (
    taken (onward c (working (resolve s.number w b)) c.slots))))
step_in c (working w) (Keep k) =
    where_true (nat_le 100 k.number && nat_lt k.number (100 + length c.slots)) UnknownBlock (
    taken (onward c idle (slice_set c.slots (k.number - 100) (Some w))))
step_in c (working w) End = where_true (whole c.sheet.last w) NotEverything (taken (onward c ended c.slots))
step_in c ended (Take k) = refused (number NotAllowed)
step_in c ended (Resolve k s) = refused (number NotAllowed)
step_in c ended (Keep k) = refused (number NotAllowed)
step_in c ended End = refused (number NotAllowed)

abbrev pub step : Court → Line → Step Court
step c l = step_in c c.phase l
