use Prim.Native.Nat.{◌-◌}
use mathlib.Core.Path.{◌≡◌}
use lib.ListN.{take}
use Rattle.book.specs.Book.{show, book_shapes}
use Rattle.show_parts.specs.Parts.{packets}
use Rattle.part_fields.proofs.shapes_before.Given as goal

-- the parts from `i` on leave of the shapes so far what all of them leave of the first
abbrev pub invariant-loop-i : goal.invariant-loop-i
invariant-loop-i l =
    book_shapes show (packets l.file.bytes.now (l.k - l.i) l.i) (take l.count l.shapes)
    ≡ book_shapes show (packets l.file.bytes.now (l.k - 1) 1) (take l.count l.initial.shapes)
