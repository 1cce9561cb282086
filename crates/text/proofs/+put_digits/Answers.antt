use mathlib.Core.List.{[], ◌∷◌}
use Prim.Native.Nat.{◌/◌, ◌%◌}
use mathlib.Core.Path.{◌≡◌}
use native.Mathlib.Omega.{arith}
use Rattle.text.specs.Text.{digit, decimal, Put}
use Rattle.text.proofs.Decimal.{tens, decimal_more}
use Rattle.text.proofs.Puts.{room_first}
use Rattle.text.proofs.Writes.{put_few_tens, put_more_tens, digit_room, digit_last}
use Rattle.text.proofs.+put_digits.Goals as goal
use Rattle.text.proofs.+put_digits.Goals.{then-n-ge10, else-n-ge10}

-- the digits of a tenth, and the last one: there is room for both
pub put_digits-last-requires : goal.put_digits-last-requires
put_digits-last-requires t c =
    let n = c.args.n in
    let e = decimal_more n c.if-n-ge10.true c.ranges.n.fits in
    let same : n ≡ t = c.decreases in
    (omega (arith, same, c.if-n-ge10.true), room_first c.args.at (decimal (n / 10)) (digit (n % 10) ∷ []) (rw e at c.requires))

pub bounds-out-last : goal.bounds-out-last
bounds-out-last t c =
    let n = c.args.n in
    let before : Put c.args.out.now c.args.at (tens n) c.if-n-ge10.last c.if-n-ge10.out =
    elim c.if-n-ge10.branch [ then-n-ge10 w ↦ put_more_tens n w.if-n-ge10.true w.put_digits-last.ensures w.last-is w.out-is | else-n-ge10 w ↦ put_few_tens n w.if-n-ge10.false w.last-is w.out-is ] in
    digit_room n c.ranges.n.fits before c.requires

pub overflow_add-result : goal.overflow_add-result
overflow_add-result t c =
    let n = c.args.n in
    let before : Put c.args.out.now c.args.at (tens n) c.if-n-ge10.last c.if-n-ge10.out =
    elim c.if-n-ge10.branch [ then-n-ge10 w ↦ put_more_tens n w.if-n-ge10.true w.put_digits-last.ensures w.last-is w.out-is | else-n-ge10 w ↦ put_few_tens n w.if-n-ge10.false w.last-is w.out-is ] in
    let room = digit_room n c.ranges.n.fits before c.requires in
    record { fits = omega (arith, room, c.if-n-ge10.auto.out) }

pub returns : goal.returns
returns t c =
    let n = c.args.n in
    let before : Put c.args.out.now c.args.at (tens n) c.if-n-ge10.last c.if-n-ge10.out =
    elim c.if-n-ge10.branch [ then-n-ge10 w ↦ put_more_tens n w.if-n-ge10.true w.put_digits-last.ensures w.last-is w.out-is | else-n-ge10 w ↦ put_few_tens n w.if-n-ge10.false w.last-is w.out-is ] in
    digit_last n c.ranges.n.fits before
