-- The loop gathers a byte a turn.
use Prim.Native.Nat.{ℕ, ◌+◌, ◌-◌, ◌*◌, ◌/◌, ◌%◌}
use mathlib.Core.Path.{◌≡◌, refl, ap, ◌∙◌}
use native.Mathlib.Omega.{arith}
use lib.Bits.{and_mask}
use Rattle.bits.specs.Bits.{bits_at}
use Rattle.bits.proofs.Laws.{bits_cut, bits_joined, one_shifted}
use Rattle.bits.proofs.few_bits.Goals as goal

pub loop-i-init : goal.loop-i-init
unfolding bits_at
loop-i-init c = refl

pub loop-i-preserved : goal.loop-i-preserved
loop-i-preserved c =
    let bytes = c.args.bytes.now in
    let q = c.args.position / 8 in
    let i = c.loop-i.i in
    let at : 8 * (q + i) ≡ 8 * q + 8 * i = omega arith in
    let next : 8 * i + 8 ≡ 8 * (i + 1) = omega arith in
    let byte = c.byte_or_0.ensures ∙ ap (λ (x : ℕ). bits_at bytes x 8) at in
    bits_joined bytes (8 * q) (8 * i) 8 (omega arith) c.loop-i.invariant byte ∙ ap (bits_at bytes (8 * q)) next

pub returns : goal.returns
returns c =
    let bytes = c.args.bytes.now in
    let p = c.args.position in
    let w = c.args.width in
    let end = p % 8 + w in
    let at : 8 * (p / 8) + p % 8 ≡ p = omega arith in
    let over = 8 * ((end + 7) / 8) - end in
    let all : c.loop-i.i ≡ (end + 7) / 8 = omega arith in
    let word = c.loop-i.invariant ∙ ap (λ (x : ℕ). bits_at bytes (8 * (p / 8)) (8 * x)) all in
    rw (one_shifted w (omega arith), and_mask _ w)
    (bits_cut bytes (8 * (p / 8)) (p % 8) w over (omega arith) word ∙ ap (λ (x : ℕ). bits_at bytes x w) at)
