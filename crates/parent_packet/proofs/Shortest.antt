-- The packet is the shortest update that gives the shapes those parents.
use Prim.Native.Nat.{ℕ, suc, ◌+◌, ◌-◌, ◌*◌, ◌<◌, ◌≤◌}
use mathlib.Core.Path.{◌≡◌, refl, sym, subst}
use mathlib.Core.List.{List}
use mathlib.Core.Bool.{Bool, true, false, ◌&&◌}
use mathlib.Core.Logic.{◌⊎◌, inl, inr}
use native.Mathlib.Omega.{arith}
use borrow.Author.Tests.{leb-true}
use lib.Dec.{leb}
use lib.ListN.{length, get_or}
use Rattle.rules.specs.Rule.{Rule}
use Rattle.rules.specs.Reading.{Reading, read, ended, Input}
use Rattle.rules.specs.Answer.{entry_reading}
use Rattle.rules.proofs.Forward.{forward}
use Rattle.rules.proofs.Laws.{both}
use Rattle.position.specs.declared.PositionSyntax.{PositionSyntax}
use Rattle.ranks.specs.Rank.{verdict, Declared, RankRule}
use Rattle.ranks.proofs.Ranks.{accepts}
use Rattle.update.specs.Update.{graph_update, shapes_question, all_shaped}
use Rattle.bit_writer.specs.Bits.{bits_from}
use Rattle.bit_writer.proofs.Laws.{length_bits_from}
use Rattle.parent_packet.specs.Packet.{packet}
use Rattle.parent_packet.specs.Shortest.{with_parents, all_dynamic, Begins, RoomForFields, update_of, GivesParents, Shortest}
use Rattle.laws.proofs.Entered.{RefusedOrFrom, from_offset, entered, entered_met}
use Rattle.parent_packet.proofs.Bits.{of_read}
use Rattle.parent_packet.proofs.Fewest.{NoFewer, update_reads}
use Rattle.parent_packet.proofs.Takes.{Came, holds_from}
use Rattle.parent_packet.proofs.Given.{parents_given, update_takes}

-- a parent of positions that have ranks is none, or the number of one of them: so six bits are enough for it
pub parent_few : (ps : List ℕ) → verdict ps ≡ 0 → (k : ℕ) → k < length ps → get_or ps k 0 ≤ length ps
parent_few ps h k l = by ((accepts ps h).1 (suc k) (record { from = omega arith; to = omega arith }))
  where
    rank : ℕ → ℕ
    rank = (accepts ps h).0

    few : ((get_or ps k 0 ≡ 0) × (rank (suc k) ≡ 1)) ⊎ (Declared ps (get_or ps k 0) × (rank (suc k) ≡ suc (rank (get_or ps k 0)))) → get_or ps k 0 ≤ length ps
    few (inl x) = omega (arith, x.0)
    few (inr x) = x.0.to

    by : RankRule ps rank (suc k) → get_or ps k 0 ≤ length ps
    by x = let here : suc k - 1 ≡ k = omega arith in few (rw here at x)

-- question 2, where it is met
pub shapes_few : (shapes : List PositionSyntax) → ◌≡◌ {A = ℕ} (shapes_question (length shapes) shapes) 0 → length shapes ≤ 63
shapes_few shapes h = go (leb (length shapes) 63 && all_shaped shapes) refl
  where
    go : (b : Bool) → (leb (length shapes) 63 && all_shaped shapes) ≡ b → length shapes ≤ 63
    go true e = leb-true _ _ (both (leb (length shapes) 63) e).0
    go false e = absurd (let z : ◌≡◌ {A = ℕ} 2 0 = rw e at h in omega arith)

-- a call that is read is the reading of its rule from the offset on
read_entered : {A : Type 0} (i : Input) (offset : ℕ) (r : Rule A) (own : ℕ) (v : A) → (entry_reading i own offset r).result ≡ read v →
    entry_reading i own offset r ≡ from_offset i offset r
read_entered {A} i offset r own v h = by (entered i offset r own)
  where
    by : RefusedOrFrom i offset r (entry_reading i own offset r) → entry_reading i own offset r ≡ from_offset i offset r
    by (inl x) = let result : ended x.how ≡ read v = rw x.refused at h in absurd (let z : ◌≡◌ {A = ℕ} 0 1 = cc in omega arith)
    by (inr e) = e

module _ (shapes : List PositionSyntax) (vs : List ℕ) (same : length shapes ≡ length vs) where
  abbrev bits : List ℕ
  bits = packet shapes vs

  module _ (q : ◌≡◌ {A = ℕ} (shapes_question (length shapes) shapes) 0) (d : all_dynamic shapes vs ≡ true) (v : verdict vs ≡ 0) (i : Input) (offset : ℕ) where
    taken : Begins bits i offset → RoomForFields shapes i → Came (update_of shapes i offset) (with_parents shapes vs) (offset + length bits) (8 * length i.bytes) (8 * length shapes)
    taken b w =
        let few = shapes_few shapes q in
        let small : (k : ℕ) → k < length vs → get_or vs k 0 < 64 = λ k l. omega (arith, parent_few vs v k l) in
        let came = (update_takes shapes vs same d small v).takes i offset (8 * length i.bytes) 0 (holds_from i.bytes offset bits b.begin)
        (record { bits_left = b.inside; few = omega arith; words = λ r. omega (arith, w r) }) in
        rw (entered_met i offset (graph_update shapes) (shapes_question (length shapes) shapes) q b.short (omega (arith, b.inside))) came

  module _ (i : Input) (offset : ℕ) (g : GivesParents shapes vs (update_of shapes i offset)) where
    abbrev position : ℕ
    position = (update_of shapes i offset).position

    alone : update_of shapes i offset ≡ from_offset i offset (graph_update shapes)
    alone = read_entered i offset (graph_update shapes) (shapes_question (length shapes) shapes) (with_parents shapes vs) g

    forth : offset ≤ position
    forth = subst (λ (x : Reading (List PositionSyntax)). offset ≤ x.position) (sym alone) (forward i (graph_update shapes) offset (8 * length i.bytes) 0)

    bits_read : NoFewer bits (bits_from i.bytes offset (position - offset))
    bits_read =
        let here = subst (λ (y : Reading (List PositionSyntax)). GivesParents shapes vs y) alone g in
        let x = of_read _ i (graph_update shapes) offset (8 * length i.bytes) 0 (update_reads shapes).read (with_parents shapes vs) here in
        subst (λ (y : Reading (List PositionSyntax)). NoFewer bits (bits_from i.bytes offset (y.position - offset))) (sym alone) (rw (parents_given shapes vs same) at x)

    pub no_fewer : offset + length bits ≤ position
    no_fewer = go bits_read
      where
        go : NoFewer bits (bits_from i.bytes offset (position - offset)) → offset + length bits ≤ position
        go (inl e) = let long = length_bits_from i.bytes offset (position - offset) in let l : length bits ≡ position - offset = rw (← e) long in omega (arith, forth)
        go (inr l) = omega (arith, length_bits_from i.bytes offset (position - offset))

    pub as_many : position ≡ offset + length bits → bits_from i.bytes offset (length bits) ≡ bits
    as_many h = go bits_read
      where
        many : position - offset ≡ length bits
        many = omega arith

        go : NoFewer bits (bits_from i.bytes offset (position - offset)) → bits_from i.bytes offset (length bits) ≡ bits
        go (inl e) = rw many at e
        go (inr l) = absurd (omega (arith, length_bits_from i.bytes offset (position - offset)))

-- What the packet is, where its questions are met.
pub shortest_packet : (shapes : List PositionSyntax) (parents : List ℕ) → length shapes ≡ length parents → ◌≡◌ {A = ℕ} (shapes_question (length shapes) shapes) 0 →
    all_dynamic shapes parents ≡ true → verdict parents ≡ 0 → Shortest shapes parents (packet shapes parents)
shortest_packet shapes parents same q d v =
    record {
      gives = λ i offset b w. (taken shapes parents same q d v i offset b w).result;
      ends = λ i offset b w. (taken shapes parents same q d v i offset b w).position;
      fewest = λ i offset g. no_fewer shapes parents same i offset g;
      alone = λ i offset g h. as_many shapes parents same i offset g h;
    }
