-- Past the end a byte is 0.
use Prim.Native.Nat.{◌*◌}
use native.Mathlib.Omega.{arith}
use mathlib.Core.Path.{sym}
use Rattle.bits.proofs.Laws.{bits_past}
use Rattle.bits.proofs.byte_or_0.Goals as goal

pub returns-then-bytes-k : goal.returns-then-bytes-k
returns-then-bytes-k c = sym (bits_past c.args.bytes.now (8 * c.args.k) 8 (omega arith))

pub returns : goal.returns
returns c = c.byte.ensures
