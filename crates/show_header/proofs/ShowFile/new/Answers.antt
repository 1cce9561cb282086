use mathlib.Core.Path.{refl, sym, ◌∙◌}
use native.Mathlib.Omega.{arith}
use Rattle.show_header.proofs.Sound.{sound_if, too_long, not_too_long}
use Rattle.show_header.proofs.ShowFile.new.Goals as goal

pub returns-then-bytes-gt-BYTES : goal.returns-then-bytes-gt-BYTES
returns-then-bytes-gt-BYTES c = record { number = sym (too_long _ c.if-bytes-gt-BYTES.true); refuses = refl; opened = tt }

pub invariant_of-result : goal.invariant_of-result
invariant_of-result c = record {
  sound = sound_if _ (sym c.is_sound.ensures ∙ c.if-is_sound.true);
  few = omega (arith, c.if-bytes-gt-BYTES.false);
}

pub returns-then-is_sound : goal.returns-then-is_sound
returns-then-is_sound c =
    let met = not_too_long _ c.if-bytes-gt-BYTES.false c.is_sound.ensures in
    record { number = sym (rw c.if-is_sound.true at met); refuses = tt; opened = refl }

pub returns : goal.returns
returns c =
    let met = not_too_long _ c.if-bytes-gt-BYTES.false c.is_sound.ensures in
    record { number = sym (rw c.if-is_sound.false at met); refuses = refl; opened = tt }
