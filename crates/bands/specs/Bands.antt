-- The bands of radiation patterns 1 and 2, and numbers of a declared precision.
use Rattle.std.specs.Prelude.{ℕ, ◌+◌, ◌*◌, [], ◌∷◌, eqb}
use Rattle.rules.specs.Name.{third, fourth}
use Rattle.rules.specs.Leaf as leaf
use Rattle.rules.specs.Rule.{Rule, done, ◌>>=◌, ◌>>◌, pick}
use Rattle.rules.specs.Derived.{flag, escaped, passive_values, stop, count, repeat}
use Rattle.common_resources.specs.Common.{number}
use Rattle.bands.specs.declared.Kind.{Kind}
use Rattle.bands.specs.declared.Kind.TheVariants.{CompactOrPrecise, AnglesAndGain}

-- the number of the pattern whose bands these are, by the code's enum
abbrev pub code_of : Kind → ℕ
code_of CompactOrPrecise = 1
code_of AnglesAndGain = 2

-- `renderer_precision`: 64 bits are not read
unfoldable pub renderer_precision : ℕ → ℕ → Rule (Unit {0})
renderer_precision name width =
    pick (eqb width 64)
    (stop 32)
    (number name width)

-- what follows the frequency of a band, whose names begin with `q`: of pattern 1
unfoldable pub compact_or_precise : ℕ → ℕ → Rule (Unit {0})
compact_or_precise q width = do
  compact ← flag (q + leaf.band_compact)
  pick compact
      (passive_values (q + leaf.band_encoded) fourth (3 ∷ 8 ∷ []))
      (do
        renderer_precision (q + leaf.band_encoded) width
        renderer_precision (q + leaf.band_encoded + fourth) width)

-- and of pattern 2
unfoldable pub angles_and_gain : ℕ → ℕ → Rule (Unit {0})
angles_and_gain q width = do
  passive_values (q + leaf.band_encoded) fourth (9 ∷ 9 ∷ [])
  renderer_precision (q + leaf.band_gain_encoded) width

unfoldable pub band_values : ℕ → ℕ → ℕ → Rule (Unit {0})
band_values q kind width = pick (eqb kind 1) (compact_or_precise q width) (angles_and_gain q width)

-- one band: its flag comes before its frequency
unfoldable pub band : ℕ → ℕ → ℕ → Rule (Unit {0})
band q kind width = do
  unity ← flag (q + leaf.band_unity)
  escaped (q + leaf.band_frequency_minus_one) (10 ∷ 13 ∷ 17 ∷ [])
  pick unity (done tt) (band_values q kind width)

-- the count of bands and of sizes, each of at least so many bits
unfoldable pub count_plus_one : ℕ → ℕ → Rule ℕ
count_plus_one p least = do
  n ← escaped (p + leaf.count_minus_one) (3 ∷ 6 ∷ 9 ∷ [])
  count (n + 1) least

-- `for i in 0..count { .. }` over the bands
unfoldable pub each_band : ℕ → ℕ → ℕ → ℕ → Rule (Unit {0})
each_band p kind width n = repeat (λ i. band (p + third * i) kind width) n

unfoldable pub bands : ℕ → ℕ → ℕ → Rule (Unit {0})
bands p kind width = do
  n ← count_plus_one p 11
  each_band p kind width n
