-- What is promised at each way out of the call.
use Prim.Native.Nat.{ℕ}
use mathlib.Core.Path.{◌≡◌, refl, ap}
use mathlib.Core.List.{List}
use lib.ListN.{length}
use Rattle.rules.specs.declared.reason.Reason.{Reason}
use Rattle.rules.specs.declared.Outcome.TheVariants.{Read}
use Rattle.rules.specs.Reason.{number_of, end_of, Refuses}
use Rattle.rules.specs.Answer.{end_outcome}
use Rattle.rules.proofs.Laws.{never}
use Rattle.rules.proofs.Numbered.{numbered}
use Rattle.position.specs.declared.PositionSyntax.{PositionSyntax}
use Rattle.bit_writer.specs.Bits.{Stand}
use Rattle.bit_writer.proofs.Writes.{stand_first}
use Rattle.parent_packet.specs.Packet.{packet}
use Rattle.parent_packet.proofs.Shortest.{shortest_packet}
use Rattle.parent_writer.specs.ParentWriter.{parents_question, packet_answer, ParentsWritten}
use Rattle.parent_writer.proofs.Asked.{all_met, question_met}

module _ (shapes : List PositionSyntax) (parents before : List ℕ) where
  pub written : {n : ℕ} {after : List ℕ} → 0 ≡ parents_question shapes parents (length before) →
      n ≡ length (packet shapes parents) → Stand (packet shapes parents) before after →
      ParentsWritten shapes parents before (record { outcome = Read; position = 0; length = n }) after
  written {n} {after} met long stand =
      let m = all_met shapes parents (question_met shapes parents (length before) met).0 in
      rw long
      (record {
        answer = ap (λ (q : ℕ). packet_answer q (length (packet shapes parents))) met;
        of_read = λ h. stand;
        of_refused = λ h. never refl h;
        shortest = λ h. rw (stand_first stand) (shortest_packet shapes parents m.same m.shaped m.dynamic m.valid);
      })

  pub refused : (e : Reason) → number_of e ≡ parents_question shapes parents (length before) → Refuses e →
      ParentsWritten shapes parents before (record { outcome = end_outcome (end_of e); position = 0; length = 0 }) before
  refused e number refuses =
      rw refuses
      (record {
        answer = rw (← number, numbered e) refl;
        of_read = λ h. never h refl;
        of_refused = λ h. refl;
        shortest = λ h. never h refl;
      })
