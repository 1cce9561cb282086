-- A byte is eight bits of the definition.
use mathlib.Core.Path.{◌∙◌}
use lib.ListN.{get_or}
use Prim.Native.Nat.{◌<◌}
use Rattle.bits.proofs.Laws.{whole_byte}
use Rattle.bits.proofs.byte.Goals as goal

pub returns : goal.returns
returns c =
    let wide = c.wide.ensures in
    let small : get_or c.args.bytes.now c.args.k 0 < 256 = rw wide.0 at wide.1 in
    wide.0 ∙ whole_byte c.args.bytes.now c.args.k small
