use Rattle.std.proofs.Common.{◌≡◌, take}
use Rattle.recorded.specs.Recorded.{blanks}
use Rattle.recorded.proofs.clear.Given as goal

-- the places before the index are blank
abbrev pub invariant-loop-i : goal.invariant-loop-i
invariant-loop-i g l = take l.i l.lent ≡ blanks g.T.Place.blank_of l.i
