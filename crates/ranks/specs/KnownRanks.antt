-- What is known of the ranks of positions while they are computed: a place for each, with its rank, or 0.
use Rattle.std.specs.Prelude.{ℕ, ◌-◌, ◌<◌, ◌≡◌, List, length, get_or}
use Rattle.ranks.specs.Rank.{Declared, HasRank}

pub record KnownRanks (ps known : List ℕ) : Type 0 where
  pub as_many : length known ≡ length ps
  pub few : length ps < 256
  pub ranks : (i : ℕ) → Declared ps i → 0 < get_or known (i - 1) 0 → HasRank ps i (get_or known (i - 1) 0)
