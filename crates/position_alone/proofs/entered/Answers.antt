use Prim.Native.Nat.{ℕ}
use mathlib.Core.Path.{◌≡◌, refl, sym, ◌∙◌}
use mathlib.Core.Bool.{Bool, true, false}
use native.Mathlib.Omega.{arith}
use borrow.Author.Rules.{rules}
use Rattle.rules.specs.Rule.{pick}
use Rattle.parser.proofs.Laws.{first_unit, ended_first}
use Rattle.parser.proofs.Entered.{own_met, as_entry}
use Rattle.position.proofs.Formed.{shaped_when}
use Rattle.position_alone.proofs.entered.Goals as goal

is_met : (b : Bool) → ◌≡◌ {A = ℕ} (pick b 0 2) 0 → b ≡ true
is_met true e = refl
is_met false e = absurd (omega (arith, e))

pub returns : goal.returns
returns c =
    let read = rw c.shape_question.ensures.number at (as_entry _ _ _ c.shape_question.ensures.refusal c.entry.ensures) in
    ended_first _ read (search rules)

pub position-requires : goal.position-requires
position-requires c =
    shaped_when _ (is_met _ (sym c.shape_question.ensures.number ∙ own_met _ _ _ (as_entry _ _ _ c.shape_question.ensures.refusal c.entry.ensures) (search rules)))

pub returns-2 : goal.returns-2
returns-2 c =
    let read = rw c.shape_question.ensures.number at (as_entry _ _ _ c.shape_question.ensures.refusal c.entry.ensures) in
    first_unit _ read (search rules) c.position.ensures.met
