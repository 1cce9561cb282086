-- An answer is a value of its type exactly if its machine value is one.
use Prim.Native.Nat.{ℕ}
use mathlib.Core.Path.{refl}
use mathlib.Core.List.{List, [], ◌∷◌}
use mir.Val.{Val, WT}
use denote.Laws.{Is, Typed}
use denote.Struct.Laws.{owes, lawful}
use denote.Enum.Laws.{owes as owes-variant}
use borrow.Fn.World.{World}
use Rattle.rules.specs.declared.Answer.{Answer}
use Rattle.rules.specs.declared.Outcome.{Outcome}
use Rattle.rules.specs.declared.Outcome.TheVariants.{Read, Refused, Stopped}
use Rattle.rules.specs.contracts.Answer as answer-row
use Rattle.rules.proofs.Answer.TheLaws as answer-laws
use Rattle.rules.specs.contracts.Outcome as outcome-row
use Rattle.rules.proofs.Outcome.TheLaws as outcome-laws

abbrev IsAnswer : Answer → Type 0
IsAnswer a = Is answer-row.the_row a (answer-laws.lowered a ∷ [])

pub answer_fits : World → (a : Answer) → IsAnswer a → WT (answer-laws.lowered a)
answer_fits w a is =
    let typed : (vs : List Val) → Is answer-row.the_row a vs → Typed (answer-row.the_row).mir vs =
    (lawful answer-row.the_type answer-laws.the_laws w.𝓛).typed a in
    (typed (answer-laws.lowered a ∷ []) is).0.1

outcome_is : (o : Outcome) → WT (outcome-laws.lowered o) → Is outcome-row.the_row o (outcome-laws.lowered o ∷ [])
outcome_is Read t = owes-variant outcome-row.the_type outcome-laws.the_laws Read tt
outcome_is (Refused n) t = owes-variant outcome-row.the_type outcome-laws.the_laws (Refused n) ((refl, t.1.0.fits), tt)
outcome_is (Stopped n) t = owes-variant outcome-row.the_type outcome-laws.the_laws (Stopped n) ((refl, t.1.0.fits), tt)

-- each outcome apart, as it lies in an answer
module _ (p n : ℕ) where
  abbrev answer_of : Outcome → Answer
  answer_of o = record { outcome = o; position = p; fields = n }

  in_answer : (o : Outcome) → WT (answer-laws.lowered (answer_of o)) → IsAnswer (answer_of o)
  in_answer Read t =
      let numbers = t.1 in
      owes answer-row.the_type answer-laws.the_laws (answer_of Read)
      (outcome_is Read t.0, ((refl, numbers.0.fits), ((refl, numbers.1.0.fits), tt)))
  in_answer (Refused k) t =
      let numbers = t.1 in
      owes answer-row.the_type answer-laws.the_laws (answer_of (Refused k))
      (outcome_is (Refused k) t.0, ((refl, numbers.0.fits), ((refl, numbers.1.0.fits), tt)))
  in_answer (Stopped k) t =
      let numbers = t.1 in
      owes answer-row.the_type answer-laws.the_laws (answer_of (Stopped k))
      (outcome_is (Stopped k) t.0, ((refl, numbers.0.fits), ((refl, numbers.1.0.fits), tt)))

pub answer_is : (a : Answer) → WT (answer-laws.lowered a) → IsAnswer a
answer_is a = in_answer a.position a.fields a.outcome
