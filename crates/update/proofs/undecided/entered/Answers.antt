use mathlib.Core.Path.{refl, sym, ◌∙◌}
use native.Mathlib.Omega.{arith}
use Rattle.std.proofs.lemmas.Grind.{common_steps}
use borrow.Author.Rules.{rules}
use Rattle.parser.proofs.Laws.{first_unit, ended_first, giving_as}
use Rattle.parser.proofs.Entered.{own_met, as_entry}
use Rattle.validation.proofs.Answers.{largest_as}
use Rattle.update.proofs.Questions.{few_shapes, shapes_shaped}
use Rattle.update.proofs.undecided.entered.Goals as goal

pub returns : goal.returns
returns c =
    let read = rw c.question-own.ensures.number at (as_entry _ _ _ c.question-own.ensures.refuses c.entry.ensures) in
    record { met = ended_first _ read (search rules); deepest = tt; others = refl }

pub slice_bounds-updated-end : goal.slice_bounds-updated-end
slice_bounds-updated-end c =
    let few = few_shapes _ _ c.told-shapes (sym c.question-own.ensures.number ∙ own_met _ _ _ (as_entry _ _ _ c.question-own.ensures.refuses c.entry.ensures) (search rules)) in
    search rules

pub updated-requires-clause-by_index : goal.updated-requires-clause-by_index
updated-requires-clause-by_index c =
    shapes_shaped _ _ c.told-shapes (sym c.question-own.ensures.number ∙ own_met _ _ _ (as_entry _ _ _ c.question-own.ensures.refuses c.entry.ensures) (search rules))

pub returns-2 : goal.returns-2
returns-2 c =
    let few = few_shapes _ _ c.told-shapes (sym c.question-own.ensures.number ∙ own_met _ _ _ (as_entry _ _ _ c.question-own.ensures.refuses c.entry.ensures) (search rules)) in
    let read = rw c.question-own.ensures.number at (as_entry _ _ _ c.question-own.ensures.refuses c.entry.ensures) in
    record {
      met = giving_as c.updated.result (grind (arith, common_steps)) (first_unit _ read (search rules) c.updated.ensures.met);
      deepest = largest_as c.updated.result (grind (arith, common_steps)) c.updated.ensures.deepest;
      others = grind (arith, common_steps);
    }
