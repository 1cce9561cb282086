use borrow.Author.Rules.{rules}
use native.Mathlib.Omega.{arith}
use Rattle.parent_writer.proofs.Asked.{all_met, may_write, unmet_before, too_long, fits}
use Rattle.parent_writer.proofs.may_write.Goals as goal

pub returns-clause-number : goal.returns-clause-number
returns-clause-number c = unmet_before _ _ c.args.room _ (search rules)

pub packet_length-length-requires : goal.packet_length-length-requires
packet_length-length-requires c = may_write _ _ (all_met _ _ (search rules))

pub returns-then-room-bytes_for-clause-number : goal.returns-then-room-bytes_for-clause-number
returns-then-room-bytes_for-clause-number c =
    too_long _ _ c.args.room (search rules) (omega (arith, c.packet_length-length.ensures, c.bytes_for.ensures))

pub returns-2-clause-number : goal.returns-2-clause-number
returns-2-clause-number c = fits _ _ c.args.room (search rules) (omega (arith, c.packet_length-length.ensures, c.bytes_for.ensures))
