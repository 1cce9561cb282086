-- The number by which a reading ends has words: what is printed of a refusal or a stop is never `a number without a meaning`.
use Prim.Native.Nat.{ℕ}
use mathlib.Core.List.{List}
use mathlib.Core.Bool.{Bool}
use native.Mathlib.Omega.{arith}
use lib.ListN.{take, length-take}
use Rattle.rules.specs.declared.Outcome.{Outcome}
use Rattle.rules.specs.Reading.{Input}
use Rattle.rules.specs.Answer.{answer_of}
use Rattle.position.specs.declared.PositionSyntax.{PositionSyntax}
use Rattle.position_alone.specs.Entry.{position_reading}
use Rattle.validation.specs.Validation.{validation_reading}
use Rattle.scene.specs.Scene.{scene_reading}
use Rattle.update.specs.Update.{update_reading}
use Rattle.metadata.specs.Entry.{metadata_reading}
use Rattle.laws.specs.Named.{Numbered}
use Rattle.numbers.specs.Meaning.{HasWords}
use Rattle.known_names.specs.Known.{Explained}
use Rattle.known_names.proofs.Position.{position_alone_known}
use Rattle.known_names.proofs.Validation.{validation_known}
use Rattle.known_names.proofs.Scene.{scene_known}
use Rattle.known_names.proofs.Update.{update_known}
use Rattle.known_names.proofs.Metadata.{metadata_known}

pub explained : (o : Outcome) → Numbered HasWords o → Explained o
explained o h = record { refused = λ n e. rw e at h; stopped = λ n e. rw e at h }

module _ (i : Input) (offset : ℕ) where
  pub scene_explained : Explained (answer_of (scene_reading i offset)).outcome
  scene_explained = explained _ (scene_known i offset).outcome

  pub update_explained : (count : ℕ) (shapes : List PositionSyntax) →
      Explained (answer_of (update_reading i offset count (take count shapes))).outcome
  update_explained count shapes = explained _ (update_known i offset count (take count shapes) (omega (arith, length-take count shapes))).outcome

  pub position_explained : (shape : PositionSyntax) (full : Bool) → Explained (answer_of (position_reading i offset shape full)).outcome
  position_explained shape full = explained _ (position_alone_known i offset shape full).outcome

  pub metadata_explained : Explained (answer_of (metadata_reading i offset)).outcome
  metadata_explained = explained _ (metadata_known i offset).outcome

pub validation_explained : (count : ℕ) (shapes : List PositionSyntax) (at : ℕ) → Explained (answer_of (validation_reading count shapes at)).outcome
validation_explained count shapes at = explained _ (validation_known count shapes at).outcome
