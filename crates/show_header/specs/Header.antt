-- The header of a show file, big-endian: two bytes, the number of parts; four bytes a part, its byte offset.
use Rattle.std.specs.Prelude.{ℕ, zero, suc, ◌+◌, ◌-◌, ◌*◌, ◌<◌, ◌≤◌, ◌≡◌, List, Bool, true, ◌&&◌, ltb, leb, eqb, length, take, drop}
use Rattle.bits.specs.Bits.{bits_at}
use Rattle.rules.specs.Rule.{pick}

unfoldable pub part_count : List ℕ → ℕ
part_count file = bits_at file 0 16

-- the offset of part k, counted from 0
unfoldable pub offset_of : List ℕ → ℕ → ℕ
offset_of file k = bits_at file (16 + 32 * k) 32

abbrev pub header_length : List ℕ → ℕ
header_length file = 2 + 4 * part_count file

-- The header is sound: 1 to 256 parts; the first offset is the header's length; offsets never fall and none passes the
-- file's end. So all of the header is there.
pub record HeaderSound (file : List ℕ) : Type 0 where
  pub some : 1 ≤ part_count file
  pub most : part_count file ≤ 256
  pub first : offset_of file 0 ≡ header_length file
  pub rising : (k : ℕ) → k + 1 < part_count file → offset_of file k ≤ offset_of file (k + 1)
  pub inside : (k : ℕ) → k < part_count file → offset_of file k ≤ length file

-- part k ends at the next offset or the file's end
unfoldable pub end_of : List ℕ → ℕ → ℕ
end_of file k = pick (ltb (k + 1) (part_count file)) (offset_of file (k + 1)) (length file)

unfoldable pub part_of : List ℕ → ℕ → List ℕ
part_of file k = take (end_of file k - offset_of file k) (drop (offset_of file k) file)

-- The same, computed. None of the n parts from k on ends before it begins.
unfoldable pub in_order : List ℕ → ℕ → ℕ → Bool
in_order file zero k = true
in_order file (suc n) k = leb (offset_of file k) (end_of file k) && in_order file n (k + 1)

unfoldable pub is_sound : List ℕ → Bool
is_sound file =
    leb 1 (part_count file)
    && (leb (part_count file) 256 && (eqb (offset_of file 0) (header_length file) && in_order file (part_count file) 0))

-- questions 23, at most 65,536 bytes, and 24, a sound header: the number of the first that is not met, or 0
unfoldable pub file_question : List ℕ → ℕ
file_question file = pick (leb (length file) 65536) (pick (is_sound file) 0 24) 23
