use Rattle.exported.proofs.gateway_answer.Goals as goal

pub returns : goal.returns
returns c = rw (c.outcome_code-code.ensures, c.outcome_number-number.ensures)
