-- What code over a parser promises of a rule: it goes as the reading of the rule says, from where the parser stands.
use Rattle.std.specs.Prelude.{ℕ, ◌+◌, ◌≤◌, ◌≡◌, List, Bool, length, Ok, Err}
use Rattle.std.specs.Prelude as std
use Rattle.rules.specs.declared.reason.Reason.{Reason}
use Rattle.rules.specs.Rule.{Rule}
use Rattle.rules.specs.Reason.{end_of}
use Rattle.rules.specs.Reading.{Reading, Result, read, ended, reading}
use Rattle.rules.specs.Words.{recorded}
use Rattle.parser.specs.declared.Parser.{Parser}

-- the result that the code's gives
abbrev pub result_of : {A : Type 0} → std.Result A Reason → Result A
result_of (Ok a) = read a
result_of (Err e) = ended (end_of e)

-- the reading of a rule from where a parser stands
abbrev pub reading_at : {A : Type 0} → Parser → Rule A → Reading A
reading_at p r = reading (record { bytes = p.bytes.now; recording = p.recording; room = length p.words.now }) r p.position p.end p.fields

-- The result, the parser and the words that a reading gives, with `n` fields counted before it.
pub record Gives {A : Type 0} (x : Reading A) (rec : Bool) (n : ℕ) (ws : List ℕ) (a : std.Result A Reason) (q : Parser) : Type 0 where
  pub result : x.result ≡ result_of a
  pub position : q.position ≡ x.position
  pub end : q.end ≡ x.end
  pub fields : q.fields ≡ n + length x.fields
  pub written : q.words.now ≡ recorded rec ws n x.fields

-- The promise of every function that reads by a rule: the parser keeps its bytes, and the words that it is lent are the same.
pub record Met {A : Type 0} (r : Rule A) (p : Parser) (a : std.Result A Reason) (q : Parser) : Type 0 where
  pub bytes : q.bytes ≡ p.bytes
  pub lent : q.words.ghost_name ≡ p.words.ghost_name
  pub recording : q.recording ≡ p.recording
  pub gives : Gives (reading_at p r) p.recording p.fields p.words.now a q

-- A result whose value is `a`, which the code leaves in what it was lent, whatever it gives back.
abbrev pub giving : {A B : Type 0} → A → std.Result B Reason → std.Result A Reason
giving a (Ok b) = Ok a
giving a (Err e) = Err e
