-- What writing the packet that gives shapes new parents answers.
use Rattle.std.specs.Prelude.{ℕ, ◌^◌, ◌≤◌, ◌<◌, ◌≡◌, List, [], ◌∷◌, ◌++◌, true, false, eqb, leb, length, get_or}
use Rattle.rules.specs.declared.Outcome.TheVariants.{Read, Refused}
use Rattle.rules.specs.Rule.{pick}
use Rattle.rules.specs.Reading.{is_read}
use Rattle.rules.specs.Questions.{asks, first_unmet}
use Rattle.position.specs.declared.PositionSyntax.{PositionSyntax}
use Rattle.ranks.specs.Rank.{verdict}
use Rattle.update.specs.Update.{shapes_question}
use Rattle.bit_writer.specs.Bits.{bits_of, bits_from, bytes_for, Stand}
use Rattle.parent_packet.specs.Packet.{packet}
use Rattle.parent_packet.specs.Shortest.{all_dynamic, Shortest}
use Rattle.parent_writer.specs.declared.Code.{Code}
use Rattle.parent_writer.specs.declared.PacketAnswer.{PacketAnswer}

-- The questions, in their order: as many new parents as shapes; the question of an update; a parent that changes is dynamic; the new
-- parents have ranks; and the packet fits in so many bytes.
abbrev pub asked_first : List PositionSyntax → List ℕ → List ℕ
asked_first shapes parents =
    asks 36 (eqb (length shapes) (length parents))
    ∷ shapes_question (length shapes) shapes
    ∷ asks 37 (all_dynamic shapes parents)
    ∷ verdict parents
    ∷ []

abbrev pub parents_question : List PositionSyntax → List ℕ → ℕ → ℕ
parents_question shapes parents room =
    first_unmet (asked_first shapes parents ++ asks 38 (leb (bytes_for (length (packet shapes parents))) room) ∷ [])

abbrev pub packet_answer : ℕ → ℕ → PacketAnswer
packet_answer number bits =
    pick (eqb number 0)
    (record { outcome = Read; position = 0; length = bits })
    (record { outcome = Refused number; position = 0; length = 0 })

-- What the call promises: its answer; every byte, in the terms of the packet; and that this is the packet asked for.
pub record ParentsWritten (shapes : List PositionSyntax) (parents before : List ℕ) (r : PacketAnswer) (after : List ℕ) : Type 0 where
  pub answer : r ≡ packet_answer (parents_question shapes parents (length before)) (length (packet shapes parents))
  pub of_read : is_read r.outcome ≡ true → Stand (packet shapes parents) before after
  pub of_refused : is_read r.outcome ≡ false → after ≡ before
  pub shortest : is_read r.outcome ≡ true → Shortest shapes parents (bits_from after 0 r.length)

-- What the functions inside it promise and ask: bits as a number, and how many they are; and what the questions but the last say.
pub record Codes (c : Code) (bits : List ℕ) : Type 0 where
  pub few : c.width ≤ 13
  pub small : c.value < 2 ^ c.width
  pub same : bits_of c.width c.value ≡ bits

pub record MayWrite (shapes : List PositionSyntax) (parents : List ℕ) : Type 0 where
  pub same : length shapes ≡ length parents
  pub few : length parents ≤ 63
  pub small : (i : ℕ) → i < length parents → get_or parents i 0 < 64
