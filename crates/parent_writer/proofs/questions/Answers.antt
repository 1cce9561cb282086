use borrow.Author.Rules.{rules}
use mathlib.Core.Path.{sym, ◌∙◌}
use Rattle.parent_writer.proofs.Asked.{lists_differ, bad_shapes, not_dynamic, by_verdict}
use Rattle.parent_writer.proofs.questions.Goals as goal

pub returns-then-shapes-parents-clause-number : goal.returns-then-shapes-parents-clause-number
returns-then-shapes-parents-clause-number c = lists_differ _ _ c.if-shapes-parents.true

pub returns-clause-number : goal.returns-clause-number
returns-clause-number c = bad_shapes _ _ c.if-shapes-parents.false _ (search rules)

pub returns-then-all_dynamic-clause-number : goal.returns-then-all_dynamic-clause-number
returns-then-all_dynamic-clause-number c =
    let dynamic = sym c.if-all_dynamic.true ∙ c.all_dynamic.ensures in
    by_verdict _ _ c.if-shapes-parents.false (search rules) dynamic c.judged.ensures.number

pub returns-2-clause-number : goal.returns-2-clause-number
returns-2-clause-number c =
    let dynamic = sym c.if-all_dynamic.false ∙ c.all_dynamic.ensures in
    not_dynamic _ _ c.if-shapes-parents.false (search rules) dynamic
