-- Law (b): a reading that has ended stays as it is, whatever rule comes after it; and what code leaves that meets a rule and one after it
-- is what its first call left, where that ended.
use Prim.Native.Nat.{ℕ}
use mathlib.Core.Path.{◌≡◌, sym, ◌∙◌}
use Rattle.std.specs.Prelude as std
use Rattle.std.specs.Prelude.{Err}
use Rattle.rules.specs.declared.reason.Reason.{Reason}
use Rattle.rules.specs.Rule.{Rule, End, ◌>>=◌}
use Rattle.rules.specs.Reason.{end_of}
use Rattle.rules.specs.Reading.{Result, ended, Input, reading}
use Rattle.rules.proofs.Bind.{bind}
use Rattle.parser.specs.declared.Parser.{Parser}
use Rattle.parser.specs.Met.{Met, result_of, reading_at}

pub stays_ended : {A B : Type 0} (i : Input) (r : Rule A) (f : A → Rule B) (p e n : ℕ) (x : End) → (reading i r p e n).result ≡ ended x →
    reading i (r >>= f) p e n
    ≡ record { result = ended x; position = (reading i r p e n).position; end = (reading i r p e n).end; fields = (reading i r p e n).fields }
stays_ended i r f p e n x h = rw (bind i r f p e n, h)

-- a parser `u` and what was answered with it, beside a parser `q` whose reading ended by `e`
pub record Stayed {B : Type 0} (e : Reason) (q : Parser) (b : std.Result B Reason) (u : Parser) : Type 0 where
  pub result : ended (end_of e) ≡ result_of b
  pub position : u.position ≡ q.position
  pub end : u.end ≡ q.end
  pub fields : u.fields ≡ q.fields
  pub words : u.words.now ≡ q.words.now

-- Of code: a call that meets a rule ended. Whatever meets that rule and one that comes after it has this end, and leaves the parser
-- and its words as the call left them.
pub parser_stays : {A B : Type 0} {r : Rule A} (f : A → Rule B) {p q u : Parser} {e : Reason} {b : std.Result B Reason} → Met r p (Err e) q →
    Met (r >>= f) p b u → Stayed e q b u
parser_stays {r = r} f {p = p} {e = e} x y =
    let g = x.gives in
    let s = stays_ended _ r f p.position p.end p.fields (end_of e) g.result in
    let d = rw s at y.gives in
    record {
      result = d.result;
      position = d.position ∙ sym g.position;
      end = d.end ∙ sym g.end;
      fields = d.fields ∙ sym g.fields;
      words = d.written ∙ sym g.written;
    }
