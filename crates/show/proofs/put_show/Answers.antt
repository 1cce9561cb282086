use Rattle.show.proofs.Texts.{show_read, show_refused}
use Rattle.show.proofs.put_show.Goals as goal

pub put_parts-requires : goal.put_parts-requires
put_parts-requires c = rw c.in-Ok.ensures.opened (rw (show_read _ c.in-Ok.ensures.number) at c.requires)

pub put_refused-requires : goal.put_refused-requires
put_refused-requires c = rw (show_refused _ c.in-Err.reason c.in-Err.ensures.number c.number.ensures) at c.requires

pub returns-in-Ok-clause-text : goal.returns-in-Ok-clause-text
returns-in-Ok-clause-text c = rw (show_read _ c.in-Ok.ensures.number) (rw c.in-Ok.ensures.opened at c.put_parts.ensures)

pub returns-in-Err-clause-text : goal.returns-in-Err-clause-text
returns-in-Err-clause-text c = rw (show_refused _ c.in-Err.reason c.in-Err.ensures.number c.number.ensures) c.put_refused.ensures
