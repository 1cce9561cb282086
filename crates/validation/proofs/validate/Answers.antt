use mathlib.Core.Path.{◌∙◌}
use borrow.Author.Tests.{le-leb, lt-leb}
use Rattle.validation.specs.Validation.{validation_reading}
use Rattle.validation.proofs.Asked.{told_alone}
use Rattle.validation.proofs.validate.Goals as goal

pub returns-then-shapes-gt-POSITIONS : goal.returns-then-shapes-gt-POSITIONS
unfolding validation_reading
returns-then-shapes-gt-POSITIONS c = rw (lt-leb _ _ c.if-shapes-gt-POSITIONS.true) c.answer.ensures

pub returns : goal.returns
unfolding validation_reading
returns c =
    let valid = c.validated-ended.ensures in
    rw (le-leb _ _ c.if-shapes-gt-POSITIONS.false) (c.answer-2.ensures ∙ told_alone _ _ _ valid.number valid.refuses valid.deepest)
