-- The claim on `scene-fields` is met.
use Prim.Native.Nat.{ℕ}
use mathlib.Core.Path.{◌≡◌, refl, ◌∙◌, ap₂}
use mathlib.Core.List.{List, ◌++◌}
use mathlib.Core.Bool.{Bool, true}
use base.Logic.{SProp}
use prog.Memory.{Memory}
use prog.Routine.{Env}
use borrow.Fn.World.{World}
use Rattle.std.specs.Prelude.{Ok}
use Rattle.rules.specs.declared.Answer.{Answer}
use Rattle.rules.specs.Answer.{input_of, Answered}
use Rattle.scene.specs.declared.SceneAnswer.{SceneAnswer}
use Rattle.scene.specs.Scene.{scene_reading, SceneAnswered}
use Rattle.metadata.specs.Entry.{metadata_reading}
use Rattle.text.proofs.Lines.{line_front}
use Rattle.known_names.proofs.Explained as explained
use Rattle.part_fields.specs.Part.{PartAnswered}
use Rattle.listing.specs.Listing.{listing}
use Rattle.listing_claims.specs.Printed.{lines, printed}
use Rattle.listing_claims.proofs.Printed as listings
use Rattle.owner.specs.Cells.{Cells}
use Rattle.runs.specs.Sent.{input_sent}
use Rattle.printed_runs.specs.Show.{Asked, PartRead}
use Rattle.printed_runs.specs.Line.{Line, line_text, LinePut}
use Rattle.printed_runs.proofs.Metadata.{metadata_reads}
use Rattle.printed_runs.proofs.Show.{parts_read}
use Rattle.printed_runs.proofs.Line.{lines_put}
use Rattle.printed_claims.specs.Listing.{HasListingCode, line_of, Lines, none, line, PutOut, listed_of, ListingClaim}

-- a call that records
module _ (bs ws : List ℕ) (offset : ℕ) {rec : Bool} (on : rec ≡ true) {vs : List ℕ} where
  scene_printed : {r : SceneAnswer} → SceneAnswered (scene_reading (input_of bs rec ws) offset) rec ws r vs →
      printed r.graph.answer vs ≡ listing (scene_reading (input_of bs rec ws) offset)
  scene_printed y = rw on (listings.scene_printed bs ws offset (rw on at y))

  metadata_printed : {r : Answer} → Answered (metadata_reading (input_of bs rec ws) offset) tt rec ws r tt vs →
      printed r vs ≡ listing (metadata_reading (input_of bs rec ws) offset)
  metadata_printed y = rw on (listings.metadata_printed bs ws offset (rw on at y))

module _ (w : World) (γ : Env) where
  -- a part that was read
  ended : {p : Asked} {σ : Memory} {F : SProp w.𝓤} (run : PartRead w γ p σ F) {answer : Answer} → run.answer ≡ Ok answer →
      PartAnswered (listed_of p) p.words.held (Ok answer) run.words
  ended run e = rw e at run.answered

  line_of_lem : {x : Line} {bytes : Cells ℕ} {σ : Memory} {F : SProp w.𝓤} (run : LinePut w γ x bytes σ F) → line_of w γ run ≡ line_text x
  line_of_lem run = line_front run.lined

  lines_are : {words : Cells ℕ} {n i : ℕ} {text : List ℕ} → Lines w γ words n i text → text ≡ lines words.held n i
  unfolding lines
  lines_are none = refl
  lines_are (line run rest) = ap₂ ◌++◌ (line_of_lem run) (lines_are rest)

  put_out : {answer : Answer} {words : Cells ℕ} {text : List ℕ} → PutOut w γ answer words text → text ≡ printed answer words.held
  put_out out = out.text_is ∙ ap₂ ◌++◌ (lines_are out.of_fields) (line_of_lem out.outcome)

  pub listing_claim : HasListingCode γ → ListingClaim w γ
  listing_claim has = record {
    every_metadata = metadata_reads w γ has.metadata;
    every_part = parts_read w γ has.part;
    every_line = λ x. lines_put w γ x (has.lines x);
    scene_listed = λ f p σ F run on text out. put_out out ∙ scene_printed _ _ p.offset on run.answered;
    scene_explained = λ f p σ F run. rw run.answered.answered.answered.answer (explained.scene_explained (input_sent p) p.offset);
    metadata_listed = λ p σ F run on text out. put_out out ∙ metadata_printed _ _ p.offset on run.answered;
    metadata_explained = λ p σ F run. rw run.answered.answer (explained.metadata_explained (input_sent p) p.offset);
    part_listed = λ p σ F run answer e text out. put_out out ∙ listings.part_printed _ _ p.offset _ (ended run e);
    part_explained = λ p σ F run answer e. listings.part_explained _ _ p.offset _ (ended run e);
  }
