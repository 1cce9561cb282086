use Rattle.laws.proofs.Counted.{met_most}
use Rattle.script.proofs.Operation.step.Goals as goal

pub returns-in_err-take-in-Take : goal.returns-in_err-take-in-Take
returns-in_err-take-in-Take c = met_most c.take.ensures.met

pub returns-in_err-flag-in-Flag : goal.returns-in_err-flag-in-Flag
returns-in_err-flag-in-Flag c = met_most c.flag.ensures

pub returns-in_err-escaped-in-Escaped : goal.returns-in_err-escaped-in-Escaped
returns-in_err-escaped-in-Escaped c = met_most c.escaped.ensures.met

pub returns-in_err-passive_bits-in-Payload : goal.returns-in_err-passive_bits-in-Payload
returns-in_err-passive_bits-in-Payload c = met_most c.passive_bits.ensures

pub returns-in_err-label-in-Label : goal.returns-in_err-label-in-Label
returns-in_err-label-in-Label c = met_most c.label.ensures

pub returns-in_err-set_end-in-SetEnd : goal.returns-in_err-set_end-in-SetEnd
returns-in_err-set_end-in-SetEnd c = met_most c.set_end.ensures

pub returns-in_ok-take-in-Take : goal.returns-in_ok-take-in-Take
returns-in_ok-take-in-Take c = met_most c.take.ensures.met

pub returns-in_ok-flag-in-Flag : goal.returns-in_ok-flag-in-Flag
returns-in_ok-flag-in-Flag c = met_most c.flag.ensures

pub returns-in_ok-escaped-in-Escaped : goal.returns-in_ok-escaped-in-Escaped
returns-in_ok-escaped-in-Escaped c = met_most c.escaped.ensures.met

pub returns-in_ok-passive_bits-in-Payload : goal.returns-in_ok-passive_bits-in-Payload
returns-in_ok-passive_bits-in-Payload c = met_most c.passive_bits.ensures

pub returns-in_ok-label-in-Label : goal.returns-in_ok-label-in-Label
returns-in_ok-label-in-Label c = met_most c.label.ensures

pub returns-in_ok-set_end-in-SetEnd : goal.returns-in_ok-set_end-in-SetEnd
returns-in_ok-set_end-in-SetEnd c = met_most c.set_end.ensures
