-- What a writer of bits promises.
use Rattle.std.specs.Prelude.{ℕ, ◌+◌, ◌*◌, ◌≤◌, ◌≡◌, List, [], ◌++◌, length, drop}
use Rattle.std.specs.Borrow.{MutBor}
use Rattle.bit_writer.specs.declared.BitWriter.{BitWriter}
use Rattle.bit_writer.specs.Bits.{bits_of, bits_from, Stand}

-- the bits that are written: those of the full bytes, and those that wait
abbrev pub written : BitWriter → List ℕ
written w = bits_from w.bytes.now 0 (8 * w.full) ++ bits_of w.held w.waiting

-- the lent bytes, into which no bit is written
pub record Lent (out : MutBor (List ℕ)) (w : BitWriter) : Type 0 where
  pub lent : w.bytes.ghost_name ≡ out.ghost_name
  pub bytes : w.bytes.now ≡ out.now
  pub written : written w ≡ []

-- there is room for so many bits more
abbrev pub Fits : ℕ → BitWriter → Type 0
Fits n w = 8 * w.full + w.held + n ≤ 8 * length w.bytes.now

-- bits written after those before them, into bytes of which those that are not full yet are as they were
pub record Wrote (bits : List ℕ) (p q : BitWriter) : Type 0 where
  pub lent : q.bytes.ghost_name ≡ p.bytes.ghost_name
  pub long : length q.bytes.now ≡ length p.bytes.now
  pub written : written q ≡ written p ++ bits
  pub forward : p.full ≤ q.full
  pub others : drop q.full q.bytes.now ≡ drop q.full p.bytes.now

-- the last byte is made: what is written stands in the bytes, and more may be written after it
pub record Finished (p q : BitWriter) : Type 0 where
  pub lent : q.bytes.ghost_name ≡ p.bytes.ghost_name
  pub stand : Stand (written p) p.bytes.now q.bytes.now
  pub written : written q ≡ written p
