-- A parser that has read nothing yet, and what an entry asks of its own.
use Rattle.std.specs.Prelude.{ℕ, ◌*◌, ◌≡◌, Bool, List, Result, Ok, Err, leb}
use Rattle.std.specs.Borrow.{Bor, MutBor}
use Rattle.rules.specs.declared.reason.Reason.{Reason}
use Rattle.rules.specs.Rule.{Rule, done, ends, ◌>>◌, refused, set_end, skip}
use Rattle.rules.specs.Derived.{demand}
use Rattle.rules.specs.Reason.{end_of}
use Rattle.parser.specs.declared.Parser.{Parser}

pub record Begun (bs : Bor (List ℕ)) (ws : MutBor (List ℕ)) (rec : Bool) (n : ℕ) (p : Parser) : Type 0 where
  pub bytes : p.bytes ≡ bs
  pub lent : p.words.ghost_name ≡ ws.ghost_name
  pub words : p.words.now ≡ ws.now
  pub position : p.position ≡ 0
  pub end : p.end ≡ 0
  pub fields : p.fields ≡ n
  pub recording : p.recording ≡ rec

-- an own question, once the code has asked it
unfoldable pub own_question : Result (Unit {0}) Reason → Rule (Unit {0})
own_question (Ok a) = done tt
own_question (Err e) = ends (end_of e)

-- `entry` with such a question: it is `entry` of the question's number, if the question refuses
unfoldable pub entered : ℕ → Result (Unit {0}) Reason → ℕ → Rule (Unit {0})
entered size own offset = do
  demand (leb size 8388608) (refused 1)
  own_question own
  set_end (8 * size)
  skip offset
