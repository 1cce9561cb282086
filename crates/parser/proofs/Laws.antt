-- How code over a parser is proved from what its calls ensure.
use Prim.Native.Nat.{ℕ, ◌+◌, ◌-◌}
use mathlib.Core.Path.{◌≡◌, refl, ap, sym, subst, ◌∙◌}
use mathlib.Core.Bool.{Bool, true, false}
use native.Mathlib.Nat.{add-zero, add_assoc}
use borrow.Author.Tests.{eq-eqb, ne_eqb, le-leb, lt-leb}
use lib.ListN.{length, length-append}
use Rattle.std.specs.Prelude as std
use Rattle.std.specs.Prelude.{Ok, Err}
use Rattle.rules.specs.declared.reason.Reason.{Reason}
use Rattle.rules.specs.Rule.{Rule, done, ends, End, position, end, pick, ◌>>=◌}
use Rattle.rules.specs.Reading.{reading}
use Rattle.rules.specs.Derived.{remaining, demand}
use Rattle.rules.proofs.Words.{recorded_append, recorded_none, recorded_length}
use Rattle.rules.proofs.Bind.{bind}
use Rattle.parser.specs.declared.Parser.{Parser}
use Rattle.rules.specs.Reason.{end_of}
use Rattle.parser.specs.Met.{Met, Gives, giving, reading_at}
use Rattle.parser.specs.Begun.{own_question}

module _ {A B : Type 0} {r : Rule A} (f : A → Rule B) {p q : Parser} where
  -- a rule that gave a value, and the rule after it
  going_on : {a : A} {b : std.Result B Reason} {u : Parser} → Met r p (Ok a) q → Met (f a) q b u → Met (r >>= f) p b u
  going_on {a} {b} {u} x y =
      record { bytes = y.bytes ∙ x.bytes; lent = y.lent ∙ x.lent; recording = y.recording ∙ x.recording; gives = on }
    where
      on : Gives (reading_at p (r >>= f)) p.recording p.fields p.words.now b u
      on =
          let g = x.gives in
          let l : length q.words.now ≡ length p.words.now = ap length g.written ∙ recorded_length p.recording p.words.now p.fields _ in
          let d = rw (l, x.bytes, x.recording, g.position, g.end, g.fields, g.written) at y.gives in
          rw (bind _ r f p.position p.end p.fields, g.result)
          (record {
            result = d.result;
            position = d.position;
            end = d.end;
            fields = d.fields ∙ (add_assoc _ _ _ ∙ ap (λ (m : ℕ). p.fields + m) (sym (length-append (reading_at p r).fields _)));
            written = d.written ∙ sym (recorded_append p.recording p.words.now p.fields (reading_at p r).fields _);
          })

  -- a rule that ended, whatever was to come
  ending : {e : Reason} → Met r p (Err e) q → Met (r >>= f) p (Err e) q
  ending {e} x =
      let g = x.gives in
      record {
        bytes = x.bytes;
        lent = x.lent;
        recording = x.recording;
        gives = rw (bind _ r f p.position p.end p.fields, g.result)
            (record { result = refl; position = g.position; end = g.end; fields = g.fields; written = g.written });
      }

  -- the same of a call, of whose result the code knows which it is
  module _ {x : std.Result A Reason} (m : Met r p x q) where
    pub first : {a : A} {b : std.Result B Reason} {u : Parser} → x ≡ Ok a → Met (f a) q b u → Met (r >>= f) p b u
    first e y = going_on (rw e at m) y

    pub ended_first : {e : Reason} → x ≡ Err e → Met (r >>= f) p (Err e) q
    ended_first e = ending (rw e at m)

-- the same of a call that gives no value
module _ {B : Type 0} {r : Rule (Unit {0})} (f : Unit {0} → Rule B) {p q : Parser} {x : std.Result (Unit {0}) Reason} where
  pub first_unit : {b : std.Result B Reason} {u : Parser} → Met r p x q → x ≡ Ok tt → Met (f tt) q b u → Met (r >>= f) p b u
  first_unit m e y = first f m e y

-- a value at the end, and what a rule asks of the parser itself
module _ {p : Parser} where
  pub last : {A : Type 0} {a : A} → Met (done a) p (Ok a) p
  unfolding reading
  last = record {
    bytes = refl;
    lent = refl;
    recording = refl;
    gives = record { result = refl; position = refl; end = refl; fields = sym (add-zero _); written = sym (recorded_none p.recording p.words.now _) };
  }

  pub last_as : {A : Type 0} {a b : A} → b ≡ a → Met (done a) p (Ok b) p
  last_as e = rw e last

  here : Met position p (Ok p.position) p
  unfolding position reading
  here = let d = last {a = p.position} in record { bytes = refl; lent = refl; recording = refl; gives = d.gives }

  there : Met end p (Ok p.end) p
  unfolding end reading
  there = let d = last {a = p.end} in record { bytes = refl; lent = refl; recording = refl; gives = d.gives }

module _ {B : Type 0} (f : ℕ → Rule B) {p : Parser} {b : std.Result B Reason} {u : Parser} where
  pub first_position : Met (f p.position) p b u → Met (position >>= f) p b u
  first_position y = first f here refl y

  pub first_end : Met (f p.end) p b u → Met (end >>= f) p b u
  first_end y = first f there refl y

  pub first_remaining : Met (f (p.end - p.position)) p b u → Met (remaining >>= f) p b u
  unfolding remaining
  first_remaining y = first f (first _ there refl (first _ here refl last)) refl y

-- the same of a number that the code has asked for before
module _ {B : Type 0} (f : ℕ → Rule B) {x : ℕ} {p : Parser} {b : std.Result B Reason} {u : Parser} where
  pub position_is : x ≡ p.position → Met (f x) p b u → Met (position >>= f) p b u
  position_is e y = first_position f (subst (λ (v : ℕ). Met (f v) p b u) e y)

  pub end_is : x ≡ p.end → Met (f x) p b u → Met (end >>= f) p b u
  end_is e y = first_end f (subst (λ (v : ℕ). Met (f v) p b u) e y)

  pub remaining_is : x ≡ p.end - p.position → Met (f x) p b u → Met (remaining >>= f) p b u
  remaining_is e y = first_remaining f (subst (λ (v : ℕ). Met (f v) p b u) e y)

-- a value that the code leaves in what it was lent, by another name
pub giving_as : {A B : Type 0} {r : Rule A} {p q : Parser} {a b : A} (x : std.Result B Reason) → b ≡ a → Met r p (giving a x) q → Met r p (giving b x) q
giving_as x e m = rw e m

-- a test of the rule, by what the code knows of it
module _ {A : Type 0} (r r' : Rule A) {p : Parser} {a : std.Result A Reason} {q : Parser} {b : Bool} where
  pub if_true : b ≡ true → Met r p a q → Met (pick b r r') p a q
  if_true e x = rw e x

  pub if_false : b ≡ false → Met r' p a q → Met (pick b r r') p a q
  if_false e x = rw e x

  pub if_true_by : {d : Bool} → d ≡ b → d ≡ true → Met r p a q → Met (pick b r r') p a q
  if_true_by m e x = rw (← m, e) x

  pub if_false_by : {d : Bool} → d ≡ b → d ≡ false → Met r' p a q → Met (pick b r r') p a q
  if_false_by m e x = rw (← m, e) x

-- a question that the code asks by a test of its own: it is met, or not
module _ {B : Type 0} (x : End) (f : Unit {0} → Rule B) {p : Parser} {b : std.Result B Reason} {q : Parser} {ok : Bool} where
  pub demand_kept : ok ≡ true → Met (f tt) p b q → Met (demand ok x >>= f) p b q
  unfolding demand ◌>>=◌
  demand_kept e y = rw e y

  pub demand_broken : ok ≡ false → Met {A = B} (ends x) p b q → Met (demand ok x >>= f) p b q
  unfolding demand ◌>>=◌
  demand_broken e y = rw e y

-- an entry's own question
module _ {B : Type 0} (f : Unit {0} → Rule B) {p : Parser} {b : std.Result B Reason} {q : Parser} {own : std.Result (Unit {0}) Reason} where
  pub own_kept : {u : Unit {0}} → own ≡ Ok u → Met (f tt) p b q → Met (own_question own >>= f) p b q
  unfolding own_question ◌>>=◌
  own_kept e y = rw e y

  pub own_broken : {e : Reason} → own ≡ Err e → Met {A = B} (ends (end_of e)) p b q → Met (own_question own >>= f) p b q
  unfolding own_question ◌>>=◌
  own_broken e y = rw e y

pub ruleset readings =
    (first_unit, first, ended_first, first_position, first_end, first_remaining, last, last_as, if_true, if_false, if_true_by, if_false_by, eq-eqb, ne_eqb)

-- and questions of a number's size, which the code asks by a test of its own
pub ruleset questions = (demand_kept, demand_broken, le-leb, lt-leb)
