-- What validation says of shapes meets its rule, and is what it answers alone.
use Prim.Native.Nat.{ℕ}
use mathlib.Core.Path.{◌≡◌, refl}
use mathlib.Core.List.{List}
use Rattle.std.specs.Prelude as std
use Rattle.std.specs.Prelude.{Ok, Err, IfOk}
use Rattle.rules.specs.declared.reason.Reason.{Reason}
use Rattle.rules.proofs.Numbered.{numbered}
use Rattle.rules.specs.Derived.{demand}
use Rattle.rules.specs.Reading.{reading}
use Rattle.rules.specs.Rule.{Rule, done, ◌>>=◌}
use Rattle.parser.specs.declared.Parser.{Parser}
use Rattle.parser.specs.Met.{Met, giving}
use Rattle.rules.specs.Reason.{IsRefusal, asked}
use Rattle.parser.proofs.Laws.{first, ended_first, last}
use Rattle.parser.proofs.Steps.{ends_now}
use Rattle.position.specs.declared.PositionSyntax.{PositionSyntax}
use Rattle.ranks.specs.Rank.{verdict}
use Rattle.validation.specs.Validation.{parents, largest_rank, validate_graph, if_valid, no_input, graph_answer, graph_ended}

pub validated_met : {p : Parser} (shapes : List PositionSyntax) (x : std.Result ℕ Reason) → asked x ≡ verdict (parents shapes) → IsRefusal x → Met (validate_graph shapes) p (giving tt x) p
unfolding validate_graph demand
validated_met shapes (Ok d) e h = rw (← e) last
validated_met shapes (Err z) e h = rw (← e, numbered z) (ends_now h)

-- called alone
pub told_alone : (shapes : List PositionSyntax) (x : std.Result ℕ Reason) (at : ℕ) → asked x ≡ verdict (parents shapes) → IsRefusal x →
    IfOk x (λ d. d ≡ largest_rank shapes) → graph_ended x at 0 ≡ graph_answer (reading no_input (if_valid shapes) at at 0)
unfolding reading validate_graph demand ◌>>=◌
told_alone shapes (Ok d) at e h k = rw (← e, ← k) refl
told_alone shapes (Err z) at e h k = rw (← e, numbered z, h) refl

-- shapes of which a rule is asked after the last of them is read
module _ {B : Type 0} {r : Rule (List PositionSyntax)} {p q u : Parser} {x : std.Result (List PositionSyntax) Reason} (asked : List PositionSyntax → Rule (Unit {0})) (m : Met r p x q) where
  pub then_asked : {shapes : List PositionSyntax} (y : std.Result B Reason) → x ≡ Ok shapes → Met (asked shapes) q (giving tt y) u →
      Met (r >>= (λ shapes. asked shapes >>= (λ _. done shapes))) p (giving shapes y) u
  then_asked (Ok a) e n = first _ m e (first _ n refl last)
  then_asked (Err z) e n = first _ m e (ended_first _ n refl)

-- and so do shapes that are validated after them: `y` is what validation says
module _ {r : Rule (List PositionSyntax)} {p q : Parser} {x : std.Result (List PositionSyntax) Reason} (m : Met r p x q) where
  pub valid_after : {shapes : List PositionSyntax} (y : std.Result ℕ Reason) → x ≡ Ok shapes → asked y ≡ verdict (parents shapes) → IsRefusal y →
      Met (r >>= if_valid) p (giving shapes y) q
  valid_after {shapes} y e n h = then_asked validate_graph m y e (validated_met shapes y n h)

  pub valid_ended : {e : Reason} → x ≡ Err e → Met (r >>= if_valid) p (Err e) q
  valid_ended e = ended_first _ m e
