use Rattle.std.proofs.Common.{◌≡◌, take}
use Rattle.record.specs.Record.{big_endian}
use Rattle.record.proofs.number.Given as goal

-- the number of the bytes before the index
abbrev pub invariant-loop-byte : goal.invariant-loop-byte
invariant-loop-byte l = l.number ≡ big_endian (take l.byte-index l.bytes)
