-- How a loop is proved: by what is left of the rule, from where the loop stands.
use mathlib.Core.Path.{◌≡◌}
use Rattle.std.specs.Prelude as std
use Rattle.std.specs.Prelude.{Ok, Err}
use Rattle.rules.specs.declared.reason.Reason.{Reason}
use Rattle.rules.specs.Rule.{Rule, ◌>>=◌}
use Rattle.parser.specs.declared.Parser.{Parser}
use Rattle.parser.specs.Met.{Met}
use Rattle.parser.proofs.Laws.{first, ended_first}

pub record Left {A : Type 0} (r : Rule A) (p : Parser) (q : Rule A) (t : Parser) : Type 0 where
  pub rest : {b : std.Result A Reason} {u : Parser} → Met q t b u → Met r p b u

pub left_all : {A : Type 0} {r : Rule A} {p : Parser} → Left r p r p
left_all = record { rest = λ x. x }

module _ {A B : Type 0} {r : Rule B} {q : Rule A} {p t u : Parser} (f : A → Rule B) (l : Left r p (q >>= f) t) {x : std.Result A Reason} (m : Met q t x u) where
  pub left_step : {a : A} → x ≡ Ok a → Left r p (f a) u
  left_step e = record { rest = λ y. l.rest (first f m e y) }

  pub left_ended : {e : Reason} → x ≡ Err e → Met r p (Err e) u
  left_ended e = l.rest (ended_first f m e)
