-- What is cut out of a word, and of the byte after it, is the run of bits of the definition.
use Prim.Native.Nat.{ℕ, ◌+◌, ◌-◌, ◌*◌, ◌/◌, ◌%◌, ◌^◌}
use mathlib.Core.Path.{◌≡◌, ap, ◌∙◌}
use native.Mathlib.Omega.{arith}
use lib.Pow.{shr-shr}
use Rattle.bits.specs.Bits.{bits_at}
use Rattle.bits.proofs.Laws.{bits_front, bits_in_word, bits_in_nine}
use Rattle.bits.proofs.read.Goals as goal

pub returns-then-r-width-lt64 : goal.returns-then-r-width-lt64
returns-then-r-width-lt64 c =
    let bytes = c.args.bytes.now in
    let p = c.args.position in
    let w = c.args.width in
    let at : 8 * (p / 8) + p % 8 ≡ p = omega arith in
    let behind : 1 + (63 - w) ≡ 64 - w = omega arith in
    let front = c.word.result * 2 ^ (p % 8) % 2 ^ 64 in
    shr-shr front 1 (63 - w) ∙ ap (λ (x : ℕ). front / 2 ^ x) behind
    ∙ ap (λ (x : ℕ). x * 2 ^ (p % 8) % 2 ^ 64 / 2 ^ (64 - w)) c.word.ensures
    ∙ bits_in_word bytes (8 * (p / 8)) (p % 8) w (omega arith) ∙ ap (λ (x : ℕ). bits_at bytes x w) at

pub returns-then-q-bytes : goal.returns-then-q-bytes
returns-then-q-bytes c =
    let bytes = c.args.bytes.now in
    let p = c.args.position in
    let w = c.args.width in
    let at : 8 * (p / 8) + p % 8 ≡ p = omega arith in
    let ninth : 8 * (p / 8 + 8) ≡ 8 * (p / 8) + 64 = omega arith in
    let all : 64 ≡ w + (64 - w) = omega arith in
    rw (
      c.word.ensures,
      c.byte.ensures,
      ninth,
      bits_in_nine bytes (8 * (p / 8)) (p % 8) (omega arith),
      at,
    )
    (ap (λ (x : ℕ). bits_at bytes p x / 2 ^ (64 - w)) all ∙ bits_front bytes p w (64 - w))
