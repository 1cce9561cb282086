-- What an entry answers: the outcome with document 01's number, the bit position, the fields counted; the value that was
-- read, or what stands in its place; and every word of the buffer.
use Rattle.std.specs.Prelude as std
use Rattle.std.specs.Prelude.{ℕ, ◌≡◌, List, Bool, Ok, Err, length}
use Rattle.rules.specs.declared.Answer.{Answer}
use Rattle.rules.specs.declared.Outcome.{Outcome}
use Rattle.rules.specs.declared.Outcome.TheVariants.{Read, Refused, Stopped}
use Rattle.rules.specs.declared.reason.Reason.{Reason}
use Rattle.rules.specs.Reason.{end_of}
use Rattle.rules.specs.Rule.{Rule, End, refused, stopped, ◌>>=◌}
use Rattle.rules.specs.Reading.{Reading, Result, read, ended, Input, reading}
use Rattle.rules.specs.Derived.{entry}
use Rattle.rules.specs.Words.{recorded}

-- the case of the code's enum for each way to end, and for a result
abbrev pub end_outcome : End → Outcome
end_outcome (refused n) = Refused n
end_outcome (stopped n) = Stopped n

abbrev pub outcome_of : {A : Type 0} → Result A → Outcome
outcome_of (read a) = Read
outcome_of (ended x) = end_outcome x

-- the case of what the code gives where it reads
abbrev pub ended_as : std.Result (Unit {0}) Reason → Outcome
ended_as (Ok u) = Read
ended_as (Err e) = end_outcome (end_of e)

-- and the number of each case: 0 if read
abbrev pub outcome_number : Outcome → ℕ
outcome_number Read = 0
outcome_number (Refused n) = n
outcome_number (Stopped n) = n

abbrev pub answer_of : {A : Type 0} → Reading A → Answer
answer_of x = record { outcome = outcome_of x.result; position = x.position; fields = length x.fields }

-- the value that was read, or `a` unless it was
abbrev pub value_or : {A : Type 0} → A → Result A → A
value_or a (read b) = b
value_or a (ended x) = a

-- what a call is given, the words being those that it is lent
abbrev pub input_of : List ℕ → Bool → List ℕ → Input
input_of bs rec ws = record { bytes = bs; recording = rec; room = length ws }

-- A whole call: the questions of an entry, of which `own` is its own, and then the rule from the bit `offset` on.
abbrev pub entry_then : {A : Type 0} → ℕ → ℕ → ℕ → Rule A → Rule A
entry_then size own offset r = entry size own offset >>= (λ _. r)

abbrev pub entry_reading : {A : Type 0} → Input → ℕ → ℕ → Rule A → Reading A
entry_reading i own offset r = reading i (entry_then (length i.bytes) own offset r) 0 0 0

-- What a call promises of a reading: `a` stands where nothing was read.
pub record Answered {A : Type 0} (x : Reading A) (a : A) (rec : Bool) (ws : List ℕ) (r : Answer) (v : A) (vs : List ℕ) : Type 0 where
  pub answer : r ≡ answer_of x
  pub value : v ≡ value_or a x.result
  pub words : vs ≡ recorded rec ws 0 x.fields
