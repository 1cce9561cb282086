use borrow.Author.Rules.{rules}
use mathlib.Core.Path.{sym, ◌∙◌}
use mathlib.Core.List.{[]}
use Prim.Native.Nat.{◌<◌, ◌≤◌, ◌^◌}
use native.Mathlib.Omega.{arith}
use lib.ListN.{length}
use Rattle.rules.specs.Rule.{pick}
use Rattle.rules.proofs.Pick.{by_pick}
use Rattle.text.specs.Writer.{Wrote}
use Rattle.text.proofs.Writes.{wrote_none, lent_fits, lent_lined}
use Rattle.name_words.specs.NameText.{known}
use Rattle.field_lines.specs.FieldLine.{field_line}
use Rattle.field_lines.proofs.Room.{field_most}
use Rattle.field_lines.proofs.known_line.Goals as goal
use Rattle.field_lines.proofs.known_line.Goals.{then-known, else-known}

pub put_field-requires : goal.put_field-requires
put_field-requires c =
    let small : c.args.field.name < 2 ^ 64 = search rules in
    lent_fits c.new-writer.ensures _ (omega (arith, field_most c.args.field small, c.told-line))

pub returns : goal.returns
returns c =
    let name = c.args.field.name in
    let line = field_line c.args.field in
    let small : name < 2 ^ 64 = search rules in
    let wrote : Wrote (pick (known name) line []) c.new-writer.result c.if-known.writer =
    elim c.if-known.branch [
      | then-known w ↦ rw (sym c.known.ensures ∙ w.if-known.true, w.writer-is) w.put_field.ensures
      | else-known w ↦ rw (sym c.known.ensures ∙ w.if-known.false) (wrote_none w.writer-is)
    ]
    in
    let most = by_pick (λ l. length l ≤ 256) (known name) line [] (λ _. field_most c.args.field small) (λ _. omega arith) in
    rw c.length.ensures (lent_lined c.new-writer.ensures wrote most (search rules))
