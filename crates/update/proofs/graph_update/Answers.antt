use mathlib.Core.Path.{refl, sym, ◌∙◌}
use Rattle.validation.proofs.Answers.{read_over, unread_over}
use Rattle.update.proofs.graph_update.Goals as goal

pub returns-then-is_read : goal.returns-then-is_read
returns-then-is_read c =
    let given = c.read_update-graph.ensures in
    record { answered = read_over given.answered _ (sym c.is_read.ensures ∙ c.if-is_read.true); others = given.others }

pub returns : goal.returns
returns c =
    let given = c.read_update-graph.ensures in
    record { answered = unread_over given.answered _ (sym c.is_read.ensures ∙ c.if-is_read.false); others = refl }
