-- The lines of recorded words are those of the fields that were recorded.
use Prim.Native.Nat.{ℕ, ◌+◌, ◌*◌, ◌≤◌}
use mathlib.Core.Path.{◌≡◌, refl, sym, ap₂}
use mathlib.Core.List.{List, [], ◌∷◌, ◌++◌, append_assoc}
use mathlib.Core.Bool.{true}
use native.Mathlib.Omega.{arith}
use lib.ListN.{length, length-append}
use Rattle.rules.specs.declared.Answer.{Answer}
use Rattle.rules.specs.declared.Field.{Field}
use Rattle.rules.specs.Rule.{Rule}
use Rattle.rules.specs.Words.{recorded}
use Rattle.rules.specs.Answer.{input_of, answer_of, entry_reading}
use Rattle.laws.specs.Named.{AllNamed}
use Rattle.laws.proofs.Front.{entry_fits}
use Rattle.known_names.specs.Known.{Known, AllKnown}
use Rattle.known_names.proofs.Back.{stands}
use Rattle.field_lines.specs.FieldLine.{field_line, line_at}
use Rattle.outcome_lines.specs.OutcomeLine.{outcome_line}
use Rattle.listing.specs.Listing.{field_lines, listing}
use Rattle.listing_claims.specs.Printed.{lines, printed}

module _ (ws vs : List ℕ) where
  -- one of the fields, whose name is known
  line_is : (before : List Field) (f : Field) (after : List Field) → Known f.name → 5 * length (before ++ f ∷ after) ≤ length ws →
      vs ≡ recorded true ws 0 (before ++ f ∷ after) → line_at vs (length before) ≡ field_line f
  unfolding line_at
  line_is before f after k room words =
      let there = stands ws vs before f after _ (length before) refl (omega arith) room words in
      rw (there, k.is_known)

  -- those after the first ones
  lines_after : (before fs : List Field) → AllNamed Known fs → 5 * length (before ++ fs) ≤ length ws → vs ≡ recorded true ws 0 (before ++ fs) →
      lines vs (length fs) (length before) ≡ field_lines fs
  unfolding lines field_lines AllNamed
  lines_after before [] known room words = refl
  lines_after before (f ∷ fs) known room words =
      let next : before ++ f ∷ fs ≡ (before ++ (f ∷ [])) ++ fs = sym (append_assoc before (f ∷ []) fs) in
      let count : length (before ++ (f ∷ [])) ≡ length before + 1 = length-append before (f ∷ []) in
      let rest = lines_after (before ++ (f ∷ [])) fs known.1 (rw next at room) (rw next at words) in
      ap₂ ◌++◌ (line_is before f fs known.0 room words) (rw count at rest)

  -- and all, with that of the outcome
  pub printed_lines : (fs : List Field) → AllNamed Known fs → 5 * length fs ≤ length ws → vs ≡ recorded true ws 0 fs → (answer : Answer) →
      answer.fields ≡ length fs → printed answer vs ≡ field_lines fs ++ outcome_line answer
  printed_lines fs known room words answer count = rw count (ap₂ ◌++◌ (lines_after [] fs known room words) refl)

-- So what is printed of a call that records is the listing of its reading.
module _ {A : Type 0} (bs ws : List ℕ) (own offset : ℕ) (r : Rule A) where
  pub printed_is : {answer : Answer} {vs : List ℕ} → AllKnown (entry_reading (input_of bs true ws) own offset r) →
      answer ≡ answer_of (entry_reading (input_of bs true ws) own offset r) → vs ≡ recorded true ws 0 (entry_reading (input_of bs true ws) own offset r).fields →
      printed answer vs ≡ listing (entry_reading (input_of bs true ws) own offset r)
  printed_is {vs = vs} known answer words = rw answer (printed_lines ws vs _ known.fields (entry_fits bs ws own offset r) words _ refl)
