-- One turn of each loop: over the widths of a list of numbers, the parts of an escaped number, and the bytes of a label.
use Prim.Native.Nat.{ℕ, zero, suc, ◌+◌, ◌-◌, ◌*◌, ◌<◌, ◌≤◌, ◌^◌}
use mathlib.Core.Path.{◌≡◌, refl, ap, ◌∙◌}
use mathlib.Core.List.{List, [], ◌∷◌}
use mathlib.Core.Bool.{Bool, true, false}
use native.Mathlib.Omega.{arith}
use native.Mathlib.Nat.{mul-suc}
use native.Mathlib.Numerals.{add-one}
use borrow.Author.Tests.{eq-eqb, ne_eqb}
use lib.ListN.{length, get_or, drop, drop_of_length-le}
use lib.Pow.{pow_mono}
use lib.Seq.{drop-cons}
use Rattle.std.specs.Prelude as std
use Rattle.std.specs.Prelude.{Ok, Err}
use Rattle.rules.specs.declared.reason.Reason.{Reason}
use Rattle.rules.specs.declared.reason.Reason.TheVariants.{LabelUnended}
use Rattle.rules.specs.Rule.{Rule, done, bits, pick}
use Rattle.rules.specs.Derived.{is_full, parts, take, passive_values, label_bytes}
use Rattle.parser.specs.declared.Parser.{Parser}
use Rattle.parser.specs.Met.{Met}
use Rattle.parser.specs.Widths.{Narrow, Widths}
use Rattle.parser.proofs.Laws.{last}
use Rattle.parser.proofs.Steps.{ends_now}
use Rattle.parser.proofs.Left.{Left, left_step, left_ended}

-- the next width of a list can be read
pub narrow_at : (widths : List ℕ) → Narrow widths → (i : ℕ) → i < length widths → get_or widths i 0 ≤ 64
narrow_at [] w i h = absurd (omega arith)
narrow_at (x ∷ widths) w zero h = w.0
narrow_at (x ∷ widths) w (suc i) h = narrow_at widths w.1 i (omega arith)

-- names `step` apart that are small go on being so
pub names_more : (name step n i : ℕ) → i < n → name + step * (n - i) < 2 ^ 64 → name + step + step * (n - (i + 1)) < 2 ^ 64
names_more name step n i h l =
    let e : n - i ≡ suc (n - (i + 1)) = omega arith in
    let d : step * (n - i) ≡ step * (n - (i + 1)) + step = ap (λ (k : ℕ). step * k) e ∙ mul-suc step (n - (i + 1)) in
    omega arith

module _ {r : Rule (Unit {0})} {p t : Parser} (widths : List ℕ) (name step i : ℕ) (l : Left r p (passive_values name step (drop i widths)) t) where
  module _ {x : std.Result ℕ Reason} {u : Parser} (h : i < length widths) (m : Met (take name (get_or widths i 0)) t x u) where
    pub values_more : {v : ℕ} → x ≡ Ok v → Left r p (passive_values (name + step) step (drop (i + 1) widths)) u
    unfolding passive_values
    values_more e = rw add-one (left_step _ (rw (drop-cons widths i 0 h) at l) m e)

    pub values_ended : {e : Reason} → x ≡ Err e → Met r p (Err e) u
    unfolding passive_values
    values_ended e = left_ended _ (rw (drop-cons widths i 0 h) at l) m e

  pub values_none : length widths ≤ i → Met r p (Ok tt) t
  unfolding passive_values
  values_none h = (rw (drop_of_length-le widths h) at l).rest last

pub width_small : {widths : List ℕ} → Widths widths → (i : ℕ) → i < 3 → get_or widths i 0 ≤ 20
width_small w zero h = w.first
width_small w (suc zero) h = w.second
width_small w (suc (suc zero)) h = w.third
width_small w (suc (suc (suc i))) h = absurd (omega arith)

-- a part of such a width
pub part_small : {widths : List ℕ} {v : ℕ} → Widths widths → (i : ℕ) → i < 3 → v < 2 ^ get_or widths i 0 → v < 2 ^ 20
part_small w i h l = omega (arith, pow_mono (width_small w i h))

module _ {r : Rule ℕ} {p t : Parser} (widths : List ℕ) (value i : ℕ) (long : length widths ≡ 3) (l : Left r p (parts value (drop i widths)) t) where
  module _ {x : std.Result ℕ Reason} {u : Parser} (h : i < 3) (m : Met (bits (get_or widths i 0)) t x u) where
    module _ {v : ℕ} {full : Bool} (e : x ≡ Ok v) (f : full ≡ is_full v (get_or widths i 0)) where
      part_step : Left r p (pick full (parts (value + v) (drop (suc i) widths)) (done (value + v))) u
      unfolding parts
      part_step = rw f (left_step _ (rw (drop-cons widths i 0 (omega arith)) at l) m e)

      pub part_more : full ≡ true → Left r p (parts (value + v) (drop (i + 1) widths)) u
      part_more q = rw add-one (rw q at part_step)

      pub part_last : full ≡ false → Met r p (Ok (value + v)) u
      part_last q = (rw q at part_step).rest last

    pub part_ended : {e : Reason} → x ≡ Err e → Met r p (Err e) u
    unfolding parts
    part_ended e = left_ended _ (rw (drop-cons widths i 0 (omega arith)) at l) m e

  pub part_none : 3 ≤ i → Met r p (Ok value) t
  unfolding parts
  part_none h = let k : length widths ≤ i = omega arith in (rw (drop_of_length-le widths k) at l).rest last

module _ {r : Rule ℕ} {p t : Parser} (n : ℕ) (l : Left r p (label_bytes (4097 - n) n) t) where
  module _ {x : std.Result ℕ Reason} {u : Parser} (h : n < 4097) (m : Met (bits 8) t x u) where
    module _ {b : ℕ} (e : x ≡ Ok b) where
      pub byte_more : (b ≡ 0 → ⊥) → Left r p (label_bytes (4097 - (n + 1)) (n + 1)) u
      unfolding label_bytes
      byte_more q =
          let d : 4097 - n ≡ suc (4097 - (n + 1)) = omega arith in
          rw (ne_eqb _ _ q) at (left_step _ (rw d at l) m e)

      pub byte_last : b ≡ 0 → Met r p (Ok (n + 1)) u
      unfolding label_bytes
      byte_last q =
          let d : 4097 - n ≡ suc (4097 - (n + 1)) = omega arith in
          (rw (eq-eqb _ _ q) at (left_step _ (rw d at l) m e)).rest last

    pub byte_ended : {e : Reason} → x ≡ Err e → Met r p (Err e) u
    unfolding label_bytes
    byte_ended e =
        let d : 4097 - n ≡ suc (4097 - (n + 1)) = omega arith in
        left_ended _ (rw d at l) m e

  pub byte_none : 4097 ≤ n → Met r p (Err LabelUnended) t
  unfolding label_bytes
  byte_none h =
      let d : 4097 - n ≡ zero = omega arith in
      (rw d at l).rest (ends_now refl)
