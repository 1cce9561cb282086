use Rattle.bits.proofs.+near_end.Given as goal

abbrev pub decreases-near_end : goal.decreases-near_end
decreases-near_end l = l.width
