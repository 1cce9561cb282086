use Prim.Native.Nat.{ℕ, ◌+◌, ◌*◌, ◌<◌, ◌≤◌, ◌^◌}
use mathlib.Core.Path.{◌≡◌}
use native.Mathlib.Omega.{arith}
use native.Mathlib.Nat.{sub-zero}
use borrow.Author.Rules.{rules}
use Rattle.std.specs.Prelude as std
use Rattle.std.specs.Prelude.{Ok, IfOk}
use Rattle.rules.specs.declared.reason.Reason.{Reason}
use Rattle.parser.proofs.Left.{left_all}
use Rattle.parser.proofs.Fold.{fold_more, fold_ended, fold_none}
use Rattle.radiation.specs.Radiation.{sizes}
use Rattle.radiation.proofs.sizes.Goals as goal

-- the entries of one size more are few too
few : (i : ℕ) {v entries : ℕ} {x : std.Result ℕ Reason} → x ≡ Ok v → IfOk x (λ a. a < entries + 2 ^ 22 + 1) → entries ≤ 2 ^ 22 * i → v ≤ 2 ^ 22 * (i + 1)
few i e h l = let less = rw e at h in omega (arith, less, l)

pub loop-i-init : goal.loop-i-init
unfolding sizes
loop-i-init c = record { small = omega arith; left = rw sub-zero left_all }

pub returns-in-loop-i-clause-met : goal.returns-in-loop-i-clause-met
returns-in-loop-i-clause-met c =
    fold_ended _ _ _ _ c.loop-i.invariant.left c.loop-i-test.true c.size.ensures.met (search rules)

pub loop-i-preserved : goal.loop-i-preserved
loop-i-preserved c = record {
  small = few _ (search rules) c.size.ensures.small c.loop-i.invariant.small;
  left = fold_more _ _ _ _ c.loop-i.invariant.left c.loop-i-test.true c.size.ensures.met (search rules);
}

pub returns-clause-met : goal.returns-clause-met
returns-clause-met c = fold_none _ _ _ _ c.loop-i.invariant.left c.loop-i-test.false
