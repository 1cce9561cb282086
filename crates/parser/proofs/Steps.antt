-- The primitives of rules, one law for each answer to each question.
use Prim.Native.Nat.{ℕ, ◌+◌, ◌-◌, ◌*◌, ◌/◌, ◌<◌, ◌≤◌}
use mathlib.Core.Path.{◌≡◌, refl, sym, ◌∙◌}
use mathlib.Core.List.{List, [], ◌∷◌}
use mathlib.Core.Bool.{Bool, true, false}
use native.Mathlib.Omega.{arith}
use native.Mathlib.Nat.{add-zero}
use borrow.Author.Tests.{lt-ltb, le-ltb, le-leb, lt-leb}
use lib.ListN.{length}
use lib.Seq.{sets}
use Rattle.std.specs.Prelude.{Ok, Err}
use Rattle.bits.specs.Bits.{bits_at}
use Rattle.rules.specs.declared.reason.Reason.{Reason}
use Rattle.rules.specs.declared.reason.Reason.TheVariants.{BitsMissing, TooManyFields, NoRoom}
use Rattle.rules.specs.declared.FieldValue.{FieldValue}
use Rattle.rules.specs.declared.Field.{Field}
use Rattle.rules.specs.Rule.{Rule, ends, End, bits, skip, set_end, field}
use Rattle.rules.specs.Reason.{end_of}
use Rattle.rules.specs.Reading.{reading, ended_at, field_to, has_room, read}
use Rattle.rules.specs.Words.{words_of, encoded, recorded}
use Rattle.rules.proofs.Words.{recorded_none}
use Rattle.parser.specs.declared.Parser.{Parser}
use Rattle.parser.specs.Met.{Met, reading_at}

-- the parser `p` at another position, with another end
pub record Moved (p q : Parser) (x e : ℕ) : Type 0 where
  pub bytes : q.bytes ≡ p.bytes
  pub words : q.words ≡ p.words
  pub recording : q.recording ≡ p.recording
  pub fields : q.fields ≡ p.fields
  pub position : q.position ≡ x
  pub end : q.end ≡ e

-- the same with one field more counted, and these words
pub record Made (p q : Parser) (vs : List ℕ) : Type 0 where
  pub bytes : q.bytes ≡ p.bytes
  pub lent : q.words.ghost_name ≡ p.words.ghost_name
  pub recording : q.recording ≡ p.recording
  pub fields : q.fields ≡ p.fields + 1
  pub position : q.position ≡ p.position
  pub end : q.end ≡ p.end
  pub written : q.words.now ≡ vs

module _ {p : Parser} where
  -- a rule that ends where the parser stands
  ends_at : {A : Type 0} {r : Rule A} {e : Reason} {q : Parser} → Moved p q p.position p.end → reading_at p r ≡ ended_at (end_of e) p.position p.end → Met r p (Err e) q
  ends_at m x = record {
    bytes = m.bytes;
    lent = rw m.words;
    recording = m.recording;
    gives = rw x
        (record {
          result = refl;
          position = m.position;
          end = m.end;
          fields = m.fields ∙ sym (add-zero _);
          written = rw m.words (sym (recorded_none p.recording p.words.now _));
        });
  }

  pub ends_here : {A : Type 0} {r : Rule A} {e : Reason} → reading_at p r ≡ ended_at (end_of e) p.position p.end → Met r p (Err e) p
  ends_here x = ends_at (record { bytes = refl; words = refl; recording = refl; fields = refl; position = refl; end = refl }) x

  pub ends_now : {A : Type 0} {z : End} {e : Reason} → end_of e ≡ z → Met {A = A} (ends z) p (Err e) p
  unfolding reading
  ends_now m = ends_here (rw m)

  goes_on : {A : Type 0} {r : Rule A} {a : A} {q : Parser} {x e : ℕ} → Moved p q x e →
      reading_at p r ≡ record { result = read a; position = x; end = e; fields = [] } → Met r p (Ok a) q
  goes_on m g = record {
    bytes = m.bytes;
    lent = rw m.words;
    recording = m.recording;
    gives = rw g
        (record {
          result = refl;
          position = m.position;
          end = m.end;
          fields = m.fields ∙ sym (add-zero _);
          written = rw m.words (sym (recorded_none p.recording p.words.now _));
        });
  }

  pub bits_short : {w : ℕ} → p.end - p.position < w → Met (bits w) p (Err BitsMissing) p
  unfolding bits reading
  bits_short l = ends_here (rw (lt-ltb _ _ l))

  pub skip_short : {w : ℕ} → p.end - p.position < w → Met (skip w) p (Err BitsMissing) p
  unfolding skip reading
  skip_short l = ends_here (rw (lt-ltb _ _ l))

  pub end_back : {x : ℕ} → x < p.position → Met (set_end x) p (Err BitsMissing) p
  unfolding set_end reading
  end_back l = ends_here (rw (lt-leb _ _ l))

  pub end_past : {x : ℕ} → p.position ≤ x → length p.bytes.now < (x + 7) / 8 → Met (set_end x) p (Err BitsMissing) p
  unfolding set_end reading
  end_past {x} l m =
      let past : 8 * length p.bytes.now < x = omega arith in
      ends_here (rw (le-leb _ _ l, lt-leb _ _ past))

  pub bits_read : {w v : ℕ} {q : Parser} → w ≤ p.end - p.position → v ≡ bits_at p.bytes.now p.position w → Moved p q (p.position + w) p.end → Met (bits w) p (Ok v) q
  unfolding bits reading
  bits_read l m e = goes_on e (rw (le-ltb _ _ l, m))

  pub skip_read : {w : ℕ} {q : Parser} → w ≤ p.end - p.position → Moved p q (p.position + w) p.end → Met (skip w) p (Ok tt) q
  unfolding skip reading
  skip_read l e = goes_on e (rw (le-ltb _ _ l))

  pub end_set : {x : ℕ} {q : Parser} → p.position ≤ x → (x + 7) / 8 ≤ length p.bytes.now → Moved p q p.position x → Met (set_end x) p (Ok tt) q
  unfolding set_end reading
  end_set {x} l m e =
      let there : x ≤ 8 * length p.bytes.now = omega arith in
      goes_on e (rw (le-leb _ _ l, le-leb _ _ there))

-- the words after a field, with recording off and on
recorded_off : {rec : Bool} (ws : List ℕ) (n : ℕ) (fs : List Field) → rec ≡ false → recorded rec ws n fs ≡ ws
unfolding recorded
recorded_off ws n fs b = rw b

recorded_one : {rec : Bool} (ws : List ℕ) (n : ℕ) (f : Field) → rec ≡ true → recorded rec ws n (f ∷ []) ≡ sets ws (5 * n) (words_of f)
unfolding recorded encoded
recorded_one ws n f b = rw b

module _ (name start : ℕ) (v : FieldValue) {p : Parser} where
  pub field_many : 16384 ≤ p.fields → Met (field name start v) p (Err TooManyFields) p
  unfolding field reading
  field_many l = ends_here (rw (le-ltb _ _ l))

  pub field_full : p.fields < 16384 → p.recording ≡ true → length p.words.now < 5 * p.fields + 5 → {q : Parser} → Moved p q p.position p.end → Met (field name start v) p (Err NoRoom) q
  unfolding field reading
  field_full l b m e = ends_at e (rw (lt-ltb _ _ l, b, lt-leb _ _ m))

  field_made : {q : Parser} → p.fields < 16384 → has_room (record { bytes = p.bytes.now; recording = p.recording; room = length p.words.now }) p.fields ≡ true →
      Made p q (recorded p.recording p.words.now p.fields (field_to name start v p.position ∷ [])) → Met (field name start v) p (Ok tt) q
  unfolding field reading
  field_made l b m = record {
    bytes = m.bytes;
    lent = m.lent;
    recording = m.recording;
    gives = rw (lt-ltb _ _ l, b)
        (record { result = refl; position = m.position; end = m.end; fields = m.fields; written = m.written });
  }

  pub field_off : {q : Parser} → p.fields < 16384 → p.recording ≡ false → Made p q p.words.now → Met (field name start v) p (Ok tt) q
  field_off l b m =
      field_made l (rw b) (record { bytes = m.bytes; lent = m.lent; recording = m.recording; fields = m.fields; position = m.position; end = m.end; written = m.written ∙ sym (recorded_off _ _ _ b) })

  pub field_on : {q : Parser} → p.fields < 16384 → p.recording ≡ true → 5 * p.fields + 5 ≤ length p.words.now →
      Made p q (sets p.words.now (5 * p.fields) (words_of (field_to name start v p.position))) → Met (field name start v) p (Ok tt) q
  field_on l b n m =
      field_made l (rw (b, le-leb _ _ n)) (record { bytes = m.bytes; lent = m.lent; recording = m.recording; fields = m.fields; position = m.position; end = m.end; written = m.written ∙ sym (recorded_one _ _ _ b) })
