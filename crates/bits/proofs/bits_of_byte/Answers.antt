-- The bits are cut out of their byte; past the end they are 0.
use Prim.Native.Nat.{ℕ, ◌+◌, ◌-◌, ◌*◌, ◌/◌, ◌%◌}
use mathlib.Core.Path.{◌≡◌, sym, ap, ◌∙◌}
use native.Mathlib.Omega.{arith}
use lib.Bits.{and_mask}
use lib.Pow.{pow_pos}
use Rattle.bits.specs.Bits.{bits_at}
use Rattle.bits.proofs.Laws.{bits_cut, bits_past, one_shifted}
use Rattle.bits.proofs.bits_of_byte.Goals as goal

pub overflow_sub-result-then-k-bytes-2 : goal.overflow_sub-result-then-k-bytes-2
overflow_sub-result-then-k-bytes-2 c = rw (one_shifted c.args.n (omega arith)) (pow_pos c.args.n)

pub returns-then-k-bytes : goal.returns-then-k-bytes
returns-then-k-bytes c =
    let bytes = c.args.bytes.now in
    let p = c.args.position in
    let n = c.args.n in
    let at : 8 * (p / 8) + p % 8 ≡ p = omega arith in
    rw (one_shifted n (omega (arith, c.requires)), and_mask _ n)
    (bits_cut bytes (8 * (p / 8)) (p % 8) n (8 - p % 8 - n) (omega (arith, c.requires)) c.byte.ensures
    ∙ ap (λ (x : ℕ). bits_at bytes x n) at)

pub returns : goal.returns
returns c = sym (bits_past c.args.bytes.now c.args.position c.args.n (omega arith))
