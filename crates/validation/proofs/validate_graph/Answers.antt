use borrow.Author.Tests.{lt-leb}
use Rattle.validation.specs.Validation.{validation_reading}
use Rattle.validation.proofs.validate_graph.Goals as goal

pub returns-then-count-gt-POSITIONS : goal.returns-then-count-gt-POSITIONS
unfolding validation_reading
returns-then-count-gt-POSITIONS c = rw (lt-leb _ _ c.if-count-gt-POSITIONS.true) c.answer.ensures
