use Prim.Native.Nat.{◌-◌, ◌≤◌}
use lib.ListN as lib
use Rattle.std.specs.Io.KnownBytes.{Consumes}
use Rattle.input.proofs.read_input.Given as goal

-- no more was read than there is room for, and what was read stands at the beginning
abbrev pub invariant-loop-length : goal.invariant-loop-length
invariant-loop-length g l = (l.length ≤ lib.length l.bytes) × Consumes (g.R.Read.remaining l.fn.reader) (g.R.Read.remaining l.reader) (lib.take l.length l.bytes)

abbrev pub decreases-loop-length : goal.decreases-loop-length
decreases-loop-length g l = lib.length l.bytes - l.length
