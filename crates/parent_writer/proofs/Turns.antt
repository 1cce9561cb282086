-- The loops over positions, by what is left: one more position, and none.
use Prim.Native.Nat.{ℕ, ◌+◌, ◌*◌, ◌<◌, ◌≤◌}
use mathlib.Core.Path.{◌≡◌, refl, sym, ap, ◌∙◌}
use mathlib.Core.List.{List, [], ◌++◌}
use mathlib.Core.Bool.{Bool, true, false, ◌||◌, ◌&&◌}
use native.Mathlib.Numerals.{add-one}
use native.Mathlib.Omega.{arith}
use lib.Dec.{eqb}
use lib.ListN.{length, length-append, get_or, drop, drop_of_length-le}
use lib.Seq.{drop-cons}
use Rattle.position.specs.declared.PositionSyntax.{PositionSyntax}
use Rattle.position.specs.Shape.{default}
use Rattle.bit_writer.specs.Bits.{bits_of}
use Rattle.bit_writer.specs.declared.BitWriter.{BitWriter}
use Rattle.bit_writer.specs.Writer.{Fits, Wrote}
use Rattle.bit_writer.proofs.Laws.{length_bits_of}
use Rattle.bit_writer.proofs.Writes.{Left, next_fits, less_left, none_left}
use Rattle.parent_packet.specs.Packet.{position_bits, packet}
use Rattle.parent_packet.specs.Shortest.{all_dynamic}
use Rattle.parent_writer.specs.declared.Code.{Code}
use Rattle.parent_writer.specs.ParentWriter.{Codes}

module _ (shapes : List PositionSyntax) (ps : List ℕ) where
  -- what is asked, and written, of the positions from `i` on
  abbrev pub dynamic_from : ℕ → Bool
  dynamic_from i = all_dynamic (drop i shapes) (drop i ps)

  abbrev pub packet_from : ℕ → List ℕ
  packet_from i = packet (drop i shapes) (drop i ps)

  -- how many bits the positions before `i` take
  pub record Counted (i n : ℕ) : Type 0 where
    pub few : n ≤ 13 * i
    pub left : n + length (packet_from i) ≡ length (packet shapes ps)

  pub counted_none : Counted 0 0
  counted_none = record { few = omega arith; left = omega arith }

  -- all of them
  dynamic_end : (i : ℕ) → length shapes ≤ i → dynamic_from i ≡ true
  unfolding all_dynamic
  dynamic_end i h = rw (drop_of_length-le shapes h) refl

  packet_end : (i : ℕ) → length shapes ≤ i → packet_from i ≡ []
  unfolding packet
  packet_end i h = rw (drop_of_length-le shapes h) refl

  pub dynamic_all : {i : ℕ} → length shapes ≤ i → dynamic_from i ≡ all_dynamic shapes ps → true ≡ all_dynamic shapes ps
  dynamic_all {i} h left = sym (dynamic_end i h) ∙ left

  pub counted_all : {i n : ℕ} → length shapes ≤ i → Counted i n → n ≡ length (packet shapes ps)
  counted_all {i} h k = let none = ap length (packet_end i h) in omega (arith, k.left)

  pub packet_written : {i : ℕ} {p q : BitWriter} → length shapes ≤ i → Left (packet shapes ps) p (packet_from i) q →
      Wrote (packet shapes ps) p q
  packet_written {i} h k = none_left (rw (packet_end i h) at k)

  -- one more
  module _ (same : length shapes ≡ length ps) {i : ℕ} (h : i < length shapes) where
    abbrev shape : PositionSyntax
    shape = get_or shapes i default

    abbrev parent : ℕ
    parent = get_or ps i 0

    dynamic_at : dynamic_from i ≡ ((eqb shape.parent parent || shape.parent_dynamic) && dynamic_from (i + 1))
    unfolding all_dynamic
    dynamic_at = rw (add-one, drop-cons shapes i default h, drop-cons ps i 0 (omega arith)) refl

    packet_at : packet_from i ≡ position_bits shape parent ++ packet_from (i + 1)
    unfolding packet
    packet_at = rw (add-one, drop-cons shapes i default h, drop-cons ps i 0 (omega arith)) refl

    -- question 37
    module _ {b : Bool} (e : b ≡ (eqb shape.parent parent || shape.parent_dynamic)) (left : dynamic_from i ≡ all_dynamic shapes ps) where
      pub dynamic_on : b ≡ true → dynamic_from (i + 1) ≡ all_dynamic shapes ps
      dynamic_on q = rw (dynamic_at, ← e, q) at left

      pub fixed : b ≡ false → false ≡ all_dynamic shapes ps
      fixed q = rw (dynamic_at, ← e, q) at left

    -- its bits are counted, and written
    module _ {c : Code} (x : Codes c (position_bits shape parent)) where
      pub counted_more : {n : ℕ} → Counted i n → Counted (i + 1) (n + c.width)
      counted_more k =
          let width = sym (length_bits_of c.width c.value) ∙ ap length x.same in
          let one = ap length packet_at ∙ length-append (position_bits shape parent) (packet_from (i + 1)) in
          record { few = omega (arith, k.few, x.few); left = omega (arith, k.left) }

      module _ {p q : BitWriter} (k : Left (packet shapes ps) p (packet_from i) q) where
        pub position_fits : Fits c.width q
        position_fits =
            let room = next_fits (position_bits shape parent) (packet_from (i + 1)) (rw packet_at at k) in
            rw (← length_bits_of c.width c.value, x.same) room

        pub position_left : {u : BitWriter} → Wrote (bits_of c.width c.value) q u → Left (packet shapes ps) p (packet_from (i + 1)) u
        position_left w = less_left (position_bits shape parent) (packet_from (i + 1)) (rw packet_at at k) (rw x.same at w)
