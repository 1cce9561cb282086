-- From what is promised of a reading that ends in validation to the same with the largest rank of its shapes.
use Prim.Native.Nat.{ℕ}
use mathlib.Core.Path.{◌≡◌, refl, sym, ◌∙◌, ap, ap₂, subst}
use mathlib.Core.Bool.{Bool, true, false}
use mathlib.Core.List.{List}
use Rattle.std.specs.Prelude as std
use Rattle.std.specs.Prelude.{Ok, Err, IfOk}
use Rattle.std.specs.Borrow.{Bor, MutBor}
use Rattle.rules.specs.declared.Answer.{Answer}
use Rattle.rules.specs.declared.reason.Reason.{Reason}
use Rattle.rules.specs.Rule.{Rule, refused, stopped}
use Rattle.rules.specs.Reason.{end_of}
use Rattle.rules.specs.Reading.{Reading, Result, read, ended, reading, is_read}
use Rattle.rules.specs.Answer.{outcome_of, value_or, input_of, Answered}
use Rattle.rules.proofs.Answers.{ended_unread, value_unread, value_of_read}
use Rattle.rules.proofs.Laws.{never}
use Rattle.parser.specs.declared.Parser.{Parser}
use Rattle.parser.specs.Met.{Met, giving}
use Rattle.parser.specs.Begun.{Begun}
use Rattle.parser.proofs.Answers.{answered_read, answered_ended}
use Rattle.position.specs.declared.PositionSyntax.{PositionSyntax}
use Rattle.validation.specs.declared.GraphAnswer.{GraphAnswer}
use Rattle.ranks.specs.Rank.{HaveRanks}
use Rattle.ranks.proofs.Largest.{have_largest}
use Rattle.validation.specs.Validation.{parents, largest_rank, deepest_of, graph_answer, LargestTold, TellsLargest, graph_ended, GraphAnswered}

-- the largest rank of what was read, and of what was not
pub largest_read : (before : List PositionSyntax) (x : Result (List PositionSyntax)) → is_read (outcome_of x) ≡ true → largest_rank (value_or before x) ≡ deepest_of x
largest_read before (read l) h = refl
largest_read before (ended (refused n)) h = never h refl
largest_read before (ended (stopped n)) h = never h refl

pub largest_unread : (x : Result (List PositionSyntax)) → is_read (outcome_of x) ≡ false → 0 ≡ deepest_of x
largest_unread (read l) h = never refl h
largest_unread (ended z) h = refl

module _ {x : Reading (List PositionSyntax)} {before after : List PositionSyntax} {rec : Bool} {ws vs : List ℕ} {r : Answer} (m : Answered x before rec ws r after vs) where
  told : is_read r.outcome ≡ is_read (outcome_of x.result)
  told = ap (λ (a : Answer). is_read a.outcome) m.answer

  pub with_deepest : {d : ℕ} → is_read r.outcome ≡ true → d ≡ largest_rank after → GraphAnswered x before rec ws (record { answer = r; deepest = d }) after vs
  with_deepest h e = record { answered = m; deepest = e ∙ ap largest_rank m.value ∙ largest_read before x.result (sym told ∙ h) }

  pub without : is_read r.outcome ≡ false → GraphAnswered x before rec ws (record { answer = r; deepest = 0 }) after vs
  without h = record { answered = m; deepest = largest_unread x.result (sym told ∙ h) }

-- other shapes in the place of those that stand where nothing was read
module _ {x : Reading (List PositionSyntax)} {before after : List PositionSyntax} {rec : Bool} {ws vs : List ℕ} {r : GraphAnswer} (m : GraphAnswered x before rec ws r after vs) (other : List PositionSyntax) where
  pub read_over : is_read r.answer.outcome ≡ true → GraphAnswered x other rec ws r after vs
  read_over h =
      let read = m.answered in
      record {
        answered = record { answer = read.answer; value = read.value ∙ value_of_read before other x.result (sym (told read) ∙ h); words = read.words };
        deepest = m.deepest;
      }

  pub unread_over : is_read r.answer.outcome ≡ false → GraphAnswered x other rec ws r other vs
  unread_over h =
      let read = m.answered in
      record {
        answered = record { answer = read.answer; value = sym (value_unread other x.result (sym (told read) ∙ h)); words = read.words };
        deepest = m.deepest;
      }

-- an answer is the reading's
pub graph_is : {x : Reading (List PositionSyntax)} {before after : List PositionSyntax} {rec : Bool} {ws vs : List ℕ} {r : GraphAnswer} → GraphAnswered x before rec ws r after vs → r ≡ graph_answer x
graph_is m = ap₂ (λ (a : Answer) (d : ℕ). record { answer = a; deepest = d }) m.answered.answer m.deepest

-- and where the shapes that it gives have ranks, the largest of them is told
pub reading_tells : (before : List PositionSyntax) (x : Result (List PositionSyntax)) → ((l : List PositionSyntax) → x ≡ read l → HaveRanks (parents l)) →
    LargestTold (outcome_of x) (deepest_of x) (value_or before x)
reading_tells before (read l) k = record { of_read = λ h. have_largest (parents l) (k l refl); of_unread = λ h. never refl h }
reading_tells before (ended z) k = record { of_read = λ h. never h (ended_unread z); of_unread = λ h. refl }

pub answer_tells : {x : Reading (List PositionSyntax)} {before after : List PositionSyntax} {rec : Bool} {ws vs : List ℕ} {r : GraphAnswer} → GraphAnswered x before rec ws r after vs →
    ((l : List PositionSyntax) → x.result ≡ read l → HaveRanks (parents l)) → TellsLargest r after
answer_tells {x} {before} m k = rw (m.answered.answer, m.deepest, m.answered.value) (reading_tells before x.result k)

-- what the code leaves in what it was lent, whether it was read or not
module _ (r : Rule (List PositionSyntax)) {bs : Bor (List ℕ)} {ws : MutBor (List ℕ)} {rec : Bool} {p q : Parser} (b : Begun bs ws rec 0 p) where
  pub graph_lent : {v : List PositionSyntax} (x : std.Result ℕ Reason) {g : GraphAnswer} → Met r p (giving v x) q → IfOk x (λ d. d ≡ largest_rank v) →
      g ≡ graph_ended x q.position q.fields →
      GraphAnswered (reading (input_of bs.now rec ws.now) r 0 0 0) v rec ws.now g v q.words.now
  graph_lent {v} (Ok d) m k e = rw e (with_deepest (answered_read r b v m refl) refl k)
  graph_lent {v} (Err z) m k e = rw e (without (answered_ended r b v m refl) (ended_unread (end_of z)))

-- the largest rank of shapes, by another name
pub largest_as : {a b : List PositionSyntax} (x : std.Result ℕ Reason) → b ≡ a → IfOk x (λ d. d ≡ largest_rank a) → IfOk x (λ d. d ≡ largest_rank b)
largest_as x e k = subst (λ (s : List PositionSyntax). IfOk x (λ d. d ≡ largest_rank s)) (sym e) k
