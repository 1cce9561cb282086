use Prim.Native.Nat.{◌-◌}
use lib.ListN.{take}
use Rattle.text.proofs.Writes.{Left}
use Rattle.show_header.specs.Header.{part_count}
use Rattle.show_parts.specs.Parts.{packets}
use Rattle.show.specs.Show.{updates_text}
use Rattle.show.proofs.put_updates.Given as goal

-- the lines of the updates from part `k` on, and what is printed of the shapes after them, are still to be put
abbrev pub invariant-loop-k : goal.invariant-loop-k
invariant-loop-k l =
    let bytes = l.file.bytes.now in
    let parts = part_count bytes in
    Left
    (updates_text 1 (packets bytes (parts - 1) 1) (take l.count l.initial.shapes))
    l.initial.writer
    (updates_text l.k (packets bytes (parts - l.k) l.k) (take l.count l.shapes))
    l.writer
