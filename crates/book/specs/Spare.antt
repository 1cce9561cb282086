-- Question 39, which the show asks of a part after all others: fewer than eight bits follow the end of its reading, all of them 0.
use Rattle.std.specs.Prelude.{ℕ, ◌*◌, ◌-◌, List, Bool, not, ◌&&◌, length, ltb, eqb}
use Rattle.bits.specs.Bits.{bits_at}
use Rattle.rules.specs.declared.Answer.{Answer}
use Rattle.rules.specs.declared.Outcome.TheVariants.{Refused}
use Rattle.rules.specs.Rule.{refused, pick}
use Rattle.rules.specs.Reading.{Reading, ended, is_read}
use Rattle.rules.specs.Answer.{answer_of}
use Rattle.validation.specs.declared.GraphAnswer.{GraphAnswer}

-- Of the bit `end` of the bytes.
unfoldable pub spare : List ℕ → ℕ → Bool
spare bs end = let left = 8 * length bs - end in ltb left 8 && eqb (bits_at bs end left) 0

-- It is not met: the answer is read, and eight or more bits follow, or one of them is 1.
abbrev pub too_much_follows : List ℕ → Answer → Bool
too_much_follows bs a = is_read a.outcome && not (spare bs a.position)

-- The reading of a part: refused where it ended, with all its fields, if the question is not met.
unfoldable pub part_reading : {A : Type 0} → List ℕ → Reading A → Reading A
part_reading bs x =
    pick (too_much_follows bs (answer_of x)) (record { result = ended (refused 39); position = x.position; end = x.end; fields = x.fields }) x

-- And an answer of a part, by the same question. That it is the answer of that reading is proved (`part_told`).
abbrev pub refused_at_end : GraphAnswer → GraphAnswer
refused_at_end g = record { answer = record { outcome = Refused 39; position = g.answer.position; fields = g.answer.fields }; deepest = 0 }

unfoldable pub part_graph : List ℕ → GraphAnswer → GraphAnswer
part_graph bs g = pick (too_much_follows bs g.answer) (refused_at_end g) g
