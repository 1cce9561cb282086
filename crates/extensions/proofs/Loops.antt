-- The loop over extensions: one more, the last one, one that ends the reading, and too many.
use Prim.Native.Nat.{ℕ, zero, suc, ◌+◌, ◌-◌, ◌*◌, ◌<◌, ◌≤◌}
use mathlib.Core.Path.{◌≡◌, refl}
use mathlib.Core.Bool.{Bool, true, false}
use native.Mathlib.Omega.{arith}
use Rattle.std.specs.Prelude as std
use Rattle.std.specs.Prelude.{Ok, Err}
use Rattle.rules.specs.declared.reason.Reason.{Reason}
use Rattle.rules.specs.declared.reason.Reason.TheVariants.{ExtensionsUnended}
use Rattle.rules.specs.Name.{third}
use Rattle.rules.specs.Rule.{Rule}
use Rattle.parser.specs.declared.Parser.{Parser}
use Rattle.parser.specs.Met.{Met}
use Rattle.parser.proofs.Left.{Left, left_step, left_ended}
use Rattle.parser.proofs.Laws.{last}
use Rattle.parser.proofs.Steps.{ends_now}
use Rattle.extensions.specs.Extensions.{extension, extensions}

module _ {r : Rule (Unit {0})} {p t : Parser} (q i : ℕ) (l : Left r p (extensions (32 - i) (q + third * i)) t) where
  module _ {x : std.Result Bool Reason} {u : Parser} (h : i < 32) (m : Met (extension (q + third * i)) t x u) where
    module _ {more : Bool} (d : x ≡ Ok more) where
      pub extension_more : more ≡ true → Left r p (extensions (32 - (i + 1)) (q + third * (i + 1))) u
      unfolding extensions
      extension_more b =
          let e : 32 - i ≡ suc (32 - (i + 1)) = omega arith in
          let n : q + third * (i + 1) ≡ q + third * i + third = omega arith in
          rw n (rw b at (left_step _ (rw e at l) m d))

      pub extension_last : more ≡ false → Met r p (Ok tt) u
      unfolding extensions
      extension_last b =
          let e : 32 - i ≡ suc (32 - (i + 1)) = omega arith in
          (rw b at (left_step _ (rw e at l) m d)).rest last

    pub extension_ended : {e : Reason} → x ≡ Err e → Met r p (Err e) u
    unfolding extensions
    extension_ended d = let e : 32 - i ≡ suc (32 - (i + 1)) = omega arith in left_ended _ (rw e at l) m d

  pub extensions_over : 32 ≤ i → Met r p (Err ExtensionsUnended) t
  unfolding extensions
  extensions_over h = let e : 32 - i ≡ zero = omega arith in (rw e at l).rest (ends_now refl)
