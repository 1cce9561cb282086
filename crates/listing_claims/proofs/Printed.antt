-- What is printed of a call is the listing of the reading that the rules define, if what the call promises holds of it, with
-- whatever words it is lent. Of a part from bit 0 on that is what the show prints of it (`shown_update` of the crate `part_fields`). And
-- `a number without a meaning` is never printed.
use Prim.Native.Nat.{ℕ, ◌*◌, ◌≤◌}
use mathlib.Core.Path.{◌≡◌, refl, ap}
use mathlib.Core.List.{List, []}
use mathlib.Core.Bool.{true, false}
use native.Mathlib.Omega.{arith}
use lib.Dec.{eqb, ltb, leb}
use lib.ListN.{length}
use Rattle.std.specs.Prelude.{Result, Ok, Err}
use Rattle.rules.specs.declared.Answer.{Answer}
use Rattle.rules.specs.declared.Outcome.{Outcome}
use Rattle.rules.specs.declared.Outcome.TheVariants.{Read}
use Rattle.rules.specs.Rule.{Rule, refused}
use Rattle.rules.specs.Reading.{Reading, ended_at}
use Rattle.rules.specs.Answer.{answer_of, input_of, entry_reading, Answered}
use Rattle.rules.proofs.Pick.{by_pick}
use Rattle.rules.proofs.Laws.{never}
use Rattle.position.specs.declared.PositionSyntax.{PositionSyntax}
use Rattle.scene.specs.declared.SceneAnswer.{SceneAnswer}
use Rattle.scene.specs.Scene.{scene_reading, SceneAnswered}
use Rattle.metadata.specs.Entry.{metadata_reading}
use Rattle.numbers.specs.Meaning.{HasWords}
use Rattle.numbers.proofs.Distinct.{has_words}
use Rattle.laws.specs.Named.{Numbered, AllNamed}
use Rattle.laws.proofs.Free.{enough}
use Rattle.laws.proofs.Front.{entry_fits}
use Rattle.book.specs.Spare.{too_much_follows, part_reading}
use Rattle.book.specs.Book.{Packet, is_accepted, scene_step, show, step_in, scene_part, update_part}
use Rattle.book.proofs.Settled.{part_fields}
use Rattle.book.proofs.Book.{scene_is, update_is}
use Rattle.show_header.specs.Header.{part_count, part_of, is_sound, file_question}
use Rattle.show_parts.specs.Parts.{packet}
use Rattle.part_fields.specs.declared.NotRead.{NotRead}
use Rattle.part_fields.specs.declared.NotRead.TheVariants.{NoPart, NoScene}
use Rattle.part_fields.specs.Part.{Listed, listed, unlisted, shapes_before, part_from, update_listed, sound_listed, part_listed, PartAnswered}
use Rattle.known_names.specs.Known.{Known, AllKnown, Explained}
use Rattle.known_names.proofs.Scene.{scene_known}
use Rattle.known_names.proofs.Update.{update_known}
use Rattle.known_names.proofs.Metadata.{metadata_known}
use Rattle.known_names.proofs.Explained.{explained}
use Rattle.listing.specs.Listing.{listing}
use Rattle.listing_claims.specs.Printed.{printed, part_listing}
use Rattle.listing_claims.proofs.Lines.{printed_lines, printed_is}

module _ (bs ws : List ℕ) (offset : ℕ) where
  pub scene_printed : {vs : List ℕ} {r : SceneAnswer} → SceneAnswered (scene_reading (input_of bs true ws) offset) true ws r vs →
      printed r.graph.answer vs ≡ listing (scene_reading (input_of bs true ws) offset)
  scene_printed p = printed_is bs ws _ offset _ (scene_known _ offset) p.answered.answered.answer p.answered.answered.words

  pub metadata_printed : {vs : List ℕ} {answer : Answer} → Answered (metadata_reading (input_of bs true ws) offset) tt true ws answer tt vs →
      printed answer vs ≡ listing (metadata_reading (input_of bs true ws) offset)
  metadata_printed p = printed_is bs ws _ offset _ (metadata_known _ offset) p.answer p.words

  -- With the 81,920 words that the program lends, 5 is never given: these are the readings with recording off.
  pub scene_enough : 81920 ≤ length ws → scene_reading (input_of bs true ws) offset ≡ scene_reading (input_of bs false []) offset
  scene_enough h = enough bs 0 (length ws) _ 0 0 h

  pub metadata_enough : 81920 ≤ length ws → metadata_reading (input_of bs true ws) offset ≡ metadata_reading (input_of bs false []) offset
  metadata_enough h = enough bs 0 (length ws) _ 0 0 h

fields_of : Result Answer NotRead → ℕ
fields_of (Ok answer) = answer.fields
fields_of (Err e) = 0

outcome_in : Result Answer NotRead → Outcome
outcome_in (Ok answer) = answer.outcome
outcome_in (Err e) = Read

-- A part's answer tells how many fields go with it, and all of them have known names and are in the words; and its number has words.
record Whole (ws : List ℕ) (x : Listed) : Type 0 where
  counted : (answer : Answer) → ◌≡◌ {A = Result Answer NotRead} (Ok answer) x.answer → answer.fields ≡ length x.fields
  known : AllNamed Known x.fields
  room : 5 * length x.fields ≤ length ws
  numbered : Numbered HasWords (outcome_in x.answer)

-- the questions of a show file, 23 and 24
file_words : (file : List ℕ) → eqb (file_question file) 0 ≡ false → HasWords (file_question file)
unfolding file_question
file_words file =
    by_pick (λ n. eqb n 0 ≡ false → HasWords n) (leb (length file) 65536) _ _
    (λ _. by_pick (λ n. eqb n 0 ≡ false → HasWords n) (is_sound file) 0 24 (λ _ e. never refl e) (λ _ _. has_words 24 refl))
    (λ _ _. has_words 23 refl)

-- what a reading of a part comes to has the same fields, and 39 has words
part_known : (bs : List ℕ) (x : Reading (List PositionSyntax)) → AllKnown x → AllKnown (part_reading bs x)
unfolding part_reading
part_known bs x known =
    by_pick AllKnown (too_much_follows bs (answer_of x)) _ x (λ _. record { fields = known.fields; outcome = has_words 39 refl }) (λ _. known)

module _ (file : List ℕ) (k offset : ℕ) (ws : List ℕ) where
  abbrev pub asked : Packet
  asked = part_from file k offset ws

  whole : (x : Reading (List PositionSyntax)) → AllKnown x → 5 * length x.fields ≤ length ws → Whole ws (listed x)
  unfolding fields_of outcome_in
  whole x known room = record { counted = λ answer e. ap fields_of e; known = known.fields; room = room; numbered = known.outcome }

  unread : (a : NotRead) → Whole ws (unlisted a)
  unfolding fields_of outcome_in AllNamed
  unread a = record { counted = λ answer e. ap fields_of e; known = tt; room = omega arith; numbered = tt }

  -- so it is of what a reading of the part comes to
  part_reading_whole : (x : Reading (List PositionSyntax)) → AllKnown x → 5 * length x.fields ≤ length ws →
      Whole ws (listed (part_reading (part_of file k) x))
  part_reading_whole x known room =
      let bs = part_of file k in
      whole (part_reading bs x) (part_known bs x known) (rw (part_fields bs x) room)

  whole_entry : (own : ℕ) (r : Rule (List PositionSyntax)) → AllKnown (entry_reading (input_of (part_of file k) true ws) own offset r) →
      Whole ws (listed (part_reading (part_of file k) (entry_reading (input_of (part_of file k) true ws) own offset r)))
  whole_entry own r known = part_reading_whole _ known (entry_fits (part_of file k) ws own offset r)

  -- of what the show reads
  scene_whole : Whole ws (listed (scene_part asked))
  scene_whole = rw (← scene_is (part_of file k) offset true ws) (whole_entry _ _ (scene_known _ offset))

  packet_whole : (s : List PositionSyntax) → Whole ws (listed (update_part asked s))
  packet_whole s = rw (← update_is (part_of file k) offset true ws (length s) s refl) (whole_entry _ _ (update_known _ offset (length s) s (omega arith)))

  update_whole : Whole ws (update_listed file k asked)
  unfolding update_listed fields_of outcome_in
  update_whole =
      by_pick (Whole ws) (is_accepted (step_in show scene_step (packet file 0) []).told) _ _
      (λ _. packet_whole (shapes_before file k))
      (λ _. unread NoScene)

  part_whole : Whole ws (part_listed file k asked)
  unfolding part_listed sound_listed fields_of outcome_in AllNamed
  part_whole =
      by_pick (Whole ws) (eqb (file_question file) 0) _ _
      (λ _. by_pick (Whole ws) (ltb k (part_count file)) _ _
      (λ _. by_pick (Whole ws) (eqb k 0) _ _ (λ _. scene_whole) (λ _. update_whole))
      (λ _. unread NoPart))
      (λ e. whole (ended_at (refused (file_question file)) 0 0) (record { fields = tt; outcome = file_words file e }) (omega arith))

  pub part_printed : {answer : Answer} {vs : List ℕ} → PartAnswered (part_listed file k asked) ws (Ok answer) vs →
      printed answer vs ≡ part_listing (part_listed file k asked)
  part_printed {answer} {vs} told =
      rw (← told.answer) (printed_lines ws vs _ part_whole.known part_whole.room told.words answer (part_whole.counted answer told.answer))

  -- and its number has words, also if it is that of a file which is not a show
  pub part_explained : {answer : Answer} {vs : List ℕ} → PartAnswered (part_listed file k asked) ws (Ok answer) vs → Explained answer.outcome
  unfolding outcome_in
  part_explained told = explained _ (rw (← told.answer) at part_whole.numbered)
