use mathlib.Core.Path.{◌≡◌, ◌∙◌}
use native.Mathlib.Omega.{arith}
use lib.ListN.{length}
use lib.Seq.{length-take-le}
use Rattle.text.proofs.Puts.{put_long, put_front}
use Rattle.name_words.specs.NameText.{name_text}
use Rattle.name_words.proofs.Lengths.{name_short}
use Rattle.names.proofs.Questions.{too_few, enough}
use Rattle.names.proofs.write_text.Goals as goal

pub returns-then-bytes-length : goal.returns-then-bytes-length
returns-then-bytes-length c = too_few _ _ (omega (arith, c.put_text-length.ensures.place, c.if-bytes-length.true))

pub slice_bounds-text-end : goal.slice_bounds-text-end
slice_bounds-text-end c =
    let put = c.put_text-length.ensures in
    omega (arith, put.place, put_long put, name_short _ c.ranges.word.fits)

pub slice_bounds-copy_from_slice-end-3 : goal.slice_bounds-copy_from_slice-end-3
slice_bounds-copy_from_slice-end-3 c =
    let put = c.put_text-length.ensures in
    rw (put_front put (name_short _ c.ranges.word.fits)) (omega (arith, put.place))

pub copy_from_slice-requires : goal.copy_from_slice-requires
copy_from_slice-requires c =
    let put = c.put_text-length.ensures in
    length-take-le _ _ c.if-bytes-length.false ∙ rw (put_front put (name_short _ c.ranges.word.fits)) (omega (arith, put.place))

pub returns : goal.returns
returns c =
    let put = c.put_text-length.ensures in
    let long : c.put_text-length.result ≡ length (name_text c.args.word) = omega (arith, put.place) in
    let text = put_front put (name_short _ c.ranges.word.fits) in
    rw (c.copy_from_slice.ensures.after ∙ text, long) (enough _ _ (omega (arith, long, c.if-bytes-length.false)))
