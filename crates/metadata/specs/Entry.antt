-- A metadata configuration as a whole call: the questions 1 and 3 of an entry, and then its fields.
use Rattle.std.specs.Prelude.{ℕ}
use Rattle.rules.specs.Reading.{Reading, Input}
use Rattle.rules.specs.Answer.{entry_reading}
use Rattle.metadata.specs.Metadata.{metadata_configuration}

abbrev pub metadata_reading : Input → ℕ → Reading (Unit {0})
metadata_reading i offset = entry_reading i 0 offset metadata_configuration
