use mathlib.Core.Path.{sym, ◌∙◌}
use Rattle.names.proofs.Questions.{if_known, not_known}
use Rattle.names.proofs.known_text.Goals as goal

pub returns-then-known : goal.returns-then-known
returns-then-known c = if_known _ _ (sym c.known.ensures ∙ c.if-known.true) c.write_text.ensures

pub returns : goal.returns
returns c = not_known _ _ (sym c.known.ensures ∙ c.if-known.false)
