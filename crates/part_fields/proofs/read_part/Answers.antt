use Rattle.part_fields.proofs.Answers.{sound_answered, file_refused}
use Rattle.part_fields.proofs.read_part.Goals as goal

pub returns-in-Ok : goal.returns-in-Ok
returns-in-Ok c = sound_answered _ _ _ c.in-Ok.ensures.number (rw c.in-Ok.ensures.opened at c.read_sound.ensures)

pub returns-in-Err : goal.returns-in-Err
returns-in-Err c = file_refused _ _ _ _ c.in-Err.ensures.number c.in-Err.ensures.refuses c.from.ensures
