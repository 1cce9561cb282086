use mathlib.Core.Path.{refl}
use Rattle.bit_writer.specs.Bits.{bits_of, bits_from}
use Rattle.bit_writer.proofs.BitWriter.new.Goals as goal

pub returns : goal.returns
unfolding bits_of bits_from
returns c = record { lent = refl; bytes = refl; written = refl }
