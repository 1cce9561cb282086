-- Kind 15 of the parameters of a whole configuration: headphone channels.
use Rattle.std.specs.Prelude.{ℕ, ◌+◌, ◌-◌, ◌*◌, leb}
use Rattle.rules.specs.Name.{third}
use Rattle.rules.specs.Leaf as leaf
use Rattle.rules.specs.Rule.{Rule, refused, ◌>>=◌, ◌>>◌, position}
use Rattle.rules.specs.Derived.{take, passive_bits, demand, repeat}
use Rattle.common_resources.specs.Common.{number}

-- kind 15: headphone channels. Their declared bytes are counted from the count of channels on, and padding fills them.
unfoldable pub channels : ℕ → ℕ → Rule (Unit {0})
channels p n = repeat (λ i. number (p + leaf.channels + third * i) 3) n

unfoldable pub padding : ℕ → ℕ → Rule (Unit {0})
padding p end = do
  here ← position
  passive_bits (p + leaf.padding) (end - here)

unfoldable pub padded_channels : ℕ → ℕ → ℕ → Rule (Unit {0})
padded_channels p n end = do
  channels p n
  padding p end

unfoldable pub headphone_channels : ℕ → ℕ → Rule (Unit {0})
headphone_channels p bits = do
  start ← position
  n ← take (p + leaf.channels_minus_one) 8
  demand (leb ((n + 1) * 3 + 8) bits) (refused 18)
  padded_channels p (n + 1) (start + bits)

unfoldable pub headphones : ℕ → Rule (Unit {0})
headphones p = do
  n ← take (p + leaf.bytes_minus_one) 4
  headphone_channels p ((n + 1) * 8)
