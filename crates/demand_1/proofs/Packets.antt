-- The call that writes the packet of new parents.
use Prim.Native.Nat.{ℕ}
use mathlib.Core.Path.{◌≡◌, refl, sym, ap}
use mathlib.Core.List.{List, [], ◌∷◌}
use mathlib.Core.Bool.{Bool, true, false}
use mathlib.Core.Logic.{◌⊎◌, inl, inr}
use native.Mathlib.Omega.{arith}
use borrow.Author.Tests.{eq-eqb, eqb-true}
use lib.Dec.{eqb, leb}
use lib.ListN.{length}
use Rattle.rules.specs.declared.Outcome.TheVariants.{Read, Refused}
use Rattle.rules.specs.Rule.{pick}
use Rattle.rules.specs.Reading.{is_read}
use Rattle.rules.specs.Derived.{among}
use Rattle.rules.specs.Questions.{asks, first_unmet}
use Rattle.rules.proofs.Pick.{by_pick}
use Rattle.rules.proofs.Laws.{never}
use Rattle.position.specs.declared.PositionSyntax.{PositionSyntax}
use Rattle.ranks.specs.Rank.{verdict, ForParents}
use Rattle.ranks.proofs.Ranks.{number_cases}
use Rattle.update.specs.Update.{may_update}
use Rattle.bit_writer.specs.Bits.{bytes_for, Stand}
use Rattle.parent_packet.specs.Packet.{packet}
use Rattle.parent_packet.specs.Shortest.{all_dynamic}
use Rattle.parent_writer.specs.declared.PacketAnswer.{PacketAnswer}
use Rattle.parent_writer.specs.ParentWriter.{parents_question, packet_answer, ParentsWritten}
use Rattle.parent_writer.proofs.Asked.{question_met}
use Rattle.demand_1.specs.Demand.{KeptFrom, PacketKept, SaidOfPacket}

-- the number of its first question that is not met is among these
abbrev IsAsked : ℕ → Type 0
IsAsked n = among n (36 ∷ 2 ∷ 37 ∷ 8 ∷ 9 ∷ 38 ∷ []) ≡ true

abbrev Numbered : ℕ → Type 0
Numbered n = (n ≡ 0) ⊎ IsAsked n

asked : (same shaped dynamic room : Bool) (n : ℕ) → (n ≡ 0) ⊎ ForParents n →
    Numbered (first_unmet (asks 36 same ∷ pick shaped 0 2 ∷ asks 37 dynamic ∷ n ∷ asks 38 room ∷ []))
unfolding first_unmet
asked false shaped dynamic room n c = inr refl
asked true false dynamic room n c = inr refl
asked true true false room n c = inr refl
asked true true true room n (inr (inl e)) = rw e (inr refl)
asked true true true room n (inr (inr e)) = rw e (inr refl)
asked true true true true n (inl e) = rw e (inl refl)
asked true true true false n (inl e) = rw e (inr refl)

refusing : {n : ℕ} → eqb n 0 ≡ false → Numbered n → IsAsked n
refusing e (inl z) = never (eq-eqb _ 0 z) e
refusing e (inr h) = h

module _ {shapes : List PositionSyntax} {parents before after : List ℕ} {r : PacketAnswer} (m : ParentsWritten shapes parents before r after) where
  abbrev number : ℕ
  number = parents_question shapes parents (length before)

  numbered : Numbered number
  numbered = asked (eqb (length shapes) (length parents)) (may_update (length shapes) shapes) (all_dynamic shapes parents) (leb (bytes_for (length (packet shapes parents))) (length before)) (verdict parents) (number_cases parents)

  abbrev bits : List ℕ
  bits = packet shapes parents

  -- what is said of an answer that the questions give
  abbrev Answers : PacketAnswer → Type 0
  Answers a = (is_read a.outcome ≡ true → Stand bits before after) → (is_read a.outcome ≡ false → after ≡ before) → SaidOfPacket (PacketKept before after) a

  by_number : Answers (packet_answer number (length bits))
  by_number =
      by_pick Answers (eqb number 0) _ _
      (λ e stand kept.
      let s = stand refl in
      record {
        number = inl refl;
        place = refl;
        unread = λ h. never refl h;
        room = (question_met shapes parents (length before) (sym (eqb-true _ 0 e))).1;
        rest = s.others;
        as_many = s.long;
      })
      (λ e stand kept.
      let same = kept refl in
      record {
        number = inr (number, refl, refusing e numbered);
        place = refl;
        unread = λ h. (refl, same);
        room = omega arith;
        rest = rw same refl;
        as_many = ap length same;
      })

  pub parents_kept : SaidOfPacket (PacketKept before after) r
  parents_kept = let said : Answers r = rw m.answer by_number in said m.of_read m.of_refused
