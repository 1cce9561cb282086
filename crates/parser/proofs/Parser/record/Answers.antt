use mathlib.Core.Path.{refl}
use Rattle.parser.proofs.Steps.{field_many, field_full, field_off, field_on}
use Rattle.parser.proofs.Parser.record.Goals as goal
use Rattle.parser.proofs.Parser.record.Goals.{then-self+else-self-k, else-self}

pub returns-then-n-ge-FIELDS : goal.returns-then-n-ge-FIELDS
returns-then-n-ge-FIELDS c = field_many _ _ _ c.if-n-ge-FIELDS.true

pub returns-then-self-k : goal.returns-then-self-k
returns-then-self-k c =
    field_full _ _ _ c.if-n-ge-FIELDS.false c.if-self.true c.if-self-k.true (record { bytes = refl; words = refl; recording = refl; fields = refl; position = refl; end = refl })

pub returns : goal.returns
returns c = elim c.if-self.branch [
  | then-self+else-self-k w ↦ field_on _ _ _ c.if-n-ge-FIELDS.false w.if-self.true w.if-self-k.false (record { bytes = rw w.self-is refl; lent = rw w.self-is refl; recording = rw w.self-is refl; fields = refl; position = rw w.self-is refl; end = rw w.self-is refl; written = rw w.self-is w.put.ensures })
  | else-self w ↦ field_off _ _ _ c.if-n-ge-FIELDS.false w.if-self.false (record { bytes = rw w.self-is refl; lent = rw w.self-is refl; recording = rw w.self-is refl; fields = refl; position = rw w.self-is refl; end = rw w.self-is refl; written = rw w.self-is refl })
]
