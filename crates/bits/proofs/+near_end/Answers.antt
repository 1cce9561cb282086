-- What is read in two parts is joined.
use Prim.Native.Nat.{◌+◌, ◌-◌}
use mathlib.Core.Path.{◌≡◌, ap, ◌∙◌}
use native.Mathlib.Omega.{arith}
use Rattle.bits.specs.Bits.{bits_at}
use Rattle.bits.proofs.Laws.{bits_joined}
use Rattle.bits.proofs.+near_end.Goals as goal

pub returns-then-width-gt56 : goal.returns-then-width-gt56
returns-then-width-gt56 t c =
    let bytes = c.args.bytes.now in
    let p = c.args.position in
    let both : c.args.width - 8 + 8 ≡ c.args.width = omega arith in
    bits_joined bytes p (c.args.width - 8) 8 (omega arith) c.near_end.ensures c.few_bits-last.ensures ∙ ap (bits_at bytes p) both
