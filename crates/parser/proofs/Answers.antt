-- From what a reading promises to the answer of a call.
use Prim.Native.Nat.{ℕ}
use mathlib.Core.Path.{◌≡◌, ap, ◌∙◌}
use mathlib.Core.List.{List}
use mathlib.Core.Bool.{Bool}
use native.Mathlib.Nat.{zero-add}
use lib.ListN.{length}
use Rattle.std.specs.Prelude as std
use Rattle.std.specs.Prelude.{Ok, Err}
use Rattle.std.specs.Borrow.{Bor, MutBor}
use Rattle.rules.specs.declared.Answer.{Answer}
use Rattle.rules.specs.declared.Outcome.{Outcome}
use Rattle.rules.specs.declared.Outcome.TheVariants.{Read}
use Rattle.rules.specs.declared.reason.Reason.{Reason}
use Rattle.rules.specs.Rule.{Rule}
use Rattle.rules.specs.Reason.{end_of}
use Rattle.rules.specs.Reading.{Reading, reading}
use Rattle.rules.specs.Answer.{end_outcome, ended_as, input_of, Answered}
use Rattle.parser.specs.declared.Parser.{Parser}
use Rattle.parser.specs.Met.{Met, Gives, giving}
use Rattle.parser.specs.Begun.{Begun}

-- the answer of a parser, with an outcome
abbrev pub answer_at : Outcome → Parser → Answer
answer_at o q = record { outcome = o; position = q.position; fields = q.fields }

module _ {A : Type 0} where
  same_reading : (r : Rule A) {b c : List ℕ} {rec rec' : Bool} {w v x y e f n m : ℕ} → b ≡ c → rec ≡ rec' → w ≡ v → x ≡ y → e ≡ f → n ≡ m →
      reading (record { bytes = b; recording = rec; room = w }) r x e n ≡ reading (record { bytes = c; recording = rec'; room = v }) r y f m
  same_reading r d₁ d₂ d₃ d₄ d₅ d₆ = rw (d₁, d₂, d₃, d₄, d₅, d₆)

  same_gives : {x y : Reading A} {rec rec' : Bool} {n m : ℕ} {ws vs : List ℕ} {a : std.Result A Reason} {q : Parser} → x ≡ y → rec ≡ rec' → n ≡ m → ws ≡ vs →
      Gives x rec n ws a q → Gives y rec' m vs a q
  same_gives d₁ d₂ d₃ d₄ g = rw (d₁, d₂, d₃, d₄) at g

-- the reading of a rule from the beginning
abbrev pub whole : {A : Type 0} → Rule A → List ℕ → Bool → List ℕ → Reading A
whole r bs rec ws = reading (input_of bs rec ws) r 0 0 0

module _ {A : Type 0} (r : Rule A) {bs : Bor (List ℕ)} {ws : MutBor (List ℕ)} {rec : Bool} {p q : Parser} (b : Begun bs ws rec 0 p) where
  begun_gives : {a : std.Result A Reason} → Met r p a q → Gives (whole r bs.now rec ws.now) rec 0 ws.now a q
  begun_gives m =
      same_gives (same_reading r (ap (λ x. x.now) b.bytes) b.recording (ap length b.words) b.position b.end b.fields) b.recording b.fields b.words m.gives

  module _ (d : A) {a : Answer} where
    pub answered_read : {v : A} → Met r p (Ok v) q → a ≡ answer_at Read q → Answered (whole r bs.now rec ws.now) d rec ws.now a v q.words.now
    answered_read m e =
        let g = begun_gives m in
        record { answer = e ∙ rw (g.result, g.position, g.fields, zero-add); value = rw g.result; words = g.written }

    pub answered_ended : {z : Reason} → Met r p (Err z) q → a ≡ answer_at (end_outcome (end_of z)) q → Answered (whole r bs.now rec ws.now) d rec ws.now a d q.words.now
    answered_ended m e =
        let g = begun_gives m in
        record { answer = e ∙ rw (g.result, g.position, g.fields, zero-add); value = rw g.result; words = g.written }

  -- what the code leaves in what it was lent, whether it was read or not
  pub answered_lent : {v : A} (x : std.Result (Unit {0}) Reason) {a : Answer} → Met r p (giving v x) q → a ≡ answer_at (ended_as x) q →
      Answered (whole r bs.now rec ws.now) v rec ws.now a v q.words.now
  answered_lent {v} (Ok u) m e = answered_read v m e
  answered_lent {v} (Err z) m e = answered_ended v m e

-- a reading that gives nothing
module _ (r : Rule (Unit {0})) {bs : Bor (List ℕ)} {ws : MutBor (List ℕ)} {rec : Bool} {p q : Parser} (b : Begun bs ws rec 0 p) where
  pub answered_alone : (x : std.Result (Unit {0}) Reason) {a : Answer} → Met r p x q → a ≡ answer_at (ended_as x) q →
      Answered (whole r bs.now rec ws.now) tt rec ws.now a tt q.words.now
  answered_alone (Ok u) m e = answered_read r b tt m e
  answered_alone (Err z) m e = answered_ended r b tt m e
