use borrow.Author.Rules.{rules}
use Rattle.update.specs.Update.{graph_update, update_fields}
use Rattle.validation.proofs.Asked.{valid_after, valid_ended}
use Rattle.update.proofs.undecided.updated.Goals as goal

pub returns-clause-met : goal.returns-clause-met
unfolding graph_update update_fields
returns-clause-met c = valid_ended c.positions.ensures (search rules)

pub returns-2-clause-met : goal.returns-2-clause-met
unfolding graph_update update_fields
returns-2-clause-met c = valid_after c.positions.ensures c.validated.result (search rules) c.validated.ensures.number c.validated.ensures.refuses
