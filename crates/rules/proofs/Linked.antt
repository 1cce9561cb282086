-- A program that has this crate's table, and the code of what the crate calls, has the code of these functions: for the crate `linked`.
use Rattle.rules.proofs.Table.{HasAt}
use Rattle.rules.proofs.TheLink.{table, Below, linked-rules::Field::at, linked-rules::FieldValue::kind, linked-rules::FieldValue::word, linked-rules::Outcome::is_read, linked-rules::reason::OutcomeFromReason::from, linked-rules::reason::OutcomeFromResultUnitReason::from, linked-rules::reason::Reason::number}
use Rattle.rules.proofs.Field.at.Symbol.{code as field_at_code}
use Rattle.rules.proofs.FieldValue.kind.Symbol.{code as field_value_kind_code}
use Rattle.rules.proofs.FieldValue.word.Symbol.{code as field_value_word_code}
use Rattle.rules.proofs.Outcome.is_read.Symbol.{code as outcome_is_read_code}
use Rattle.rules.proofs.reason.OutcomeFromReason.from.Symbol.{code as outcome_from_reason_code}
use Rattle.rules.proofs.reason.OutcomeFromResultUnitReason.from.Symbol.{code as outcome_from_result_code}
use Rattle.rules.proofs.reason.Reason.number.Symbol.{code as reason_number_code}

pub field_at : HasAt "rules" table Below field_at_code
field_at = linked-rules::Field::at

pub field_value_kind : HasAt "rules" table Below field_value_kind_code
field_value_kind = linked-rules::FieldValue::kind

pub field_value_word : HasAt "rules" table Below field_value_word_code
field_value_word = linked-rules::FieldValue::word

pub outcome_is_read : HasAt "rules" table Below outcome_is_read_code
outcome_is_read = linked-rules::Outcome::is_read

pub outcome_from_reason : HasAt "rules" table Below outcome_from_reason_code
outcome_from_reason = linked-rules::reason::OutcomeFromReason::from

pub outcome_from_result : HasAt "rules" table Below outcome_from_result_code
outcome_from_result = linked-rules::reason::OutcomeFromResultUnitReason::from

pub reason_number : HasAt "rules" table Below reason_number_code
reason_number = linked-rules::reason::Reason::number
