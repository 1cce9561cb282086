-- What a loop over a closure is told of each call.
use Rattle.std.specs.Prelude.{ℕ, ◌<◌, Result}
use Rattle.std.specs.Borrow.{MutBor}
use Rattle.rules.specs.declared.reason.Reason.{Reason}
use Rattle.rules.specs.Rule.{Rule, done, pick, ◌>>=◌}
use Rattle.rules.specs.Derived.{flag}
use Rattle.parser.specs.declared.Parser.{Parser}
use Rattle.parser.specs.Met.{Met}

-- a call with each number below `n` goes as that number's rule says, where `post` tells what a call does
abbrev pub EachMet : (MutBor Parser → ℕ → Result (Unit {0}) Reason → MutBor Parser → Type 0) → (ℕ → Rule (Unit {0})) → ℕ → Type 0
EachMet post rule n =
    (i : ℕ) → i < n → (p : MutBor Parser) (r : Result (Unit {0}) Reason) (q : MutBor Parser) → post p i r q → Met (rule i) p.now r q.now

abbrev pub CallMet : (MutBor Parser → Result (Unit {0}) Reason → MutBor Parser → Type 0) → Rule (Unit {0}) → Type 0
CallMet post rule = (p : MutBor Parser) (r : Result (Unit {0}) Reason) (q : MutBor Parser) → post p r q → Met rule p.now r q.now

-- a flag, and what follows it if it is set
abbrev pub optional : ℕ → Rule (Unit {0}) → Rule (Unit {0})
optional name rule = do
  there ← flag name
  pick there rule (done tt)

-- a flag, and what follows it unless it is set
abbrev pub unless : ℕ → Rule (Unit {0}) → Rule (Unit {0})
unless name rule = do
  there ← flag name
  pick there (done tt) rule
