-- The bits of one position, as a number.
use Prim.Native.Nat.{ℕ, ◌+◌, ◌*◌, ◌%◌, ◌^◌, ◌<◌, ◌≤◌}
use mathlib.Core.Path.{◌≡◌, refl, ap, ◌∙◌}
use mathlib.Core.List.{List, [], ◌∷◌, ◌++◌}
use mathlib.Core.Bool.{Bool, true, false}
use mathlib.Core.Logic.{◌≢◌}
use native.Mathlib.Nat.{add-zero}
use native.Mathlib.Omega.{arith}
use borrow.Author.Tests.{eq-eqb, ne_eqb}
use lib.Bits.{bit_or, or_shifted}
use lib.Pow.{pow_pos, shl_exact, shl_lt}
use Rattle.rules.specs.Rule.{pick}
use Rattle.position.specs.declared.PositionSyntax.{PositionSyntax}
use Rattle.bit_writer.specs.Bits.{bits_of, zeros}
use Rattle.bit_writer.proofs.Laws.{bits_of_joined, bits_of_zero}
use Rattle.parent_packet.specs.Packet.{position_bits, range_bits}
use Rattle.parent_writer.specs.declared.Code.{Code}
use Rattle.parent_writer.specs.ParentWriter.{Codes}

-- how many bits stand after those of the parent
abbrev pub flags : Bool → ℕ
flags dynamic = pick dynamic 4 3

-- they are all 0
after_parent : (dynamic : Bool) → zeros (flags dynamic) ≡ range_bits dynamic ++ 0 ∷ 0 ∷ 0 ∷ []
unfolding zeros
after_parent true = refl
after_parent false = refl

flags_few : (dynamic : Bool) → flags dynamic ≤ 4
flags_few true = omega arith
flags_few false = omega arith

-- the first w bits of a position whose parent changes, and the flags after them
abbrev pub with_flags : ℕ → ℕ → Bool → Code
with_flags w x dynamic = record { value = x * 2 ^ flags dynamic % 2 ^ 64; width = w + flags dynamic }

flags_behind : (w x : ℕ) (dynamic : Bool) → w ≤ 9 → x < 2 ^ w →
    Codes (with_flags w x dynamic) (bits_of w x ++ (range_bits dynamic ++ 0 ∷ 0 ∷ 0 ∷ []))
flags_behind w x dynamic h small =
    let few = flags_few dynamic in
    let exact = shl_exact w (flags dynamic) 64 small (omega arith) in
    let apart = rw (add-zero, bits_of_zero, after_parent) at (bits_of_joined w (flags dynamic) x 0 (pow_pos (flags dynamic))) in
    rw exact (record { few = omega arith; small = shl_lt w (flags dynamic) small; same = apart })

first_three : bits_of 3 6 ≡ 1 ∷ 1 ∷ 0 ∷ []
unfolding bits_of
first_three = refl

-- `updated`, `parent_update` and `absolute_parent`, and six bits of the parent
parent_first : (p : ℕ) → p < 64 → bits_of 9 (384 + p) ≡ 1 ∷ 1 ∷ 0 ∷ bits_of 6 p
parent_first p h = bits_of_joined 3 6 6 p h ∙ ap (λ (k : List ℕ). k ++ bits_of 6 p) first_three

module _ (sh : PositionSyntax) (p : ℕ) where
  -- a position that keeps its parent
  pub kept_code : sh.parent ≡ p → Codes (record { value = 0; width = 1 }) (position_bits sh p)
  unfolding position_bits bits_of
  kept_code e = rw (eq-eqb sh.parent p e) (record { few = omega arith; small = omega arith; same = refl })

  module _ (changed : sh.parent ≢ p) where
    -- one that gets none
    pub none_code : p ≡ 0 → Codes (with_flags 3 7 sh.range_dynamic) (position_bits sh p)
    unfolding position_bits bits_of
    none_code e = rw (ne_eqb sh.parent p changed, eq-eqb p 0 e) (flags_behind 3 7 sh.range_dynamic (omega arith) (omega arith))

    -- one that gets another
    pub parent_code : p ≢ 0 → p < 64 → Codes (with_flags 9 (bit_or 384 p) sh.range_dynamic) (position_bits sh p)
    unfolding position_bits
    parent_code n h =
        let made = rw (parent_first p h) at (flags_behind 9 (384 + p) sh.range_dynamic (omega arith) (omega arith)) in
        rw (ne_eqb sh.parent p changed, ne_eqb p 0 n, or_shifted 6 6 p h) made
