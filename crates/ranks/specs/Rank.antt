-- Which positions have a rank, and what validation says of their parents.
-- A list `ps` has the parents of positions 1 to its length; 0 is no parent.
use Rattle.std.specs.Prelude.{ℕ, zero, suc, ◌-◌, ◌≤◌, ◌<◌, ◌≡◌, max, List, ◌⊎◌, Result, Ok, Err, length, get_or, leb, eqb}
use Rattle.rules.specs.Rule.{pick}
use Rattle.rules.specs.declared.reason.Reason.{Reason}
use Rattle.rules.specs.declared.reason.Reason.TheVariants.{ParentUndeclared, ParentsInCircle}
use Rattle.rules.specs.Reason.{number_of}

-- the parent of position i
abbrev pub parent_of : List ℕ → ℕ → ℕ
parent_of ps i = get_or ps (i - 1) 0

-- i is the number of a position
pub record Declared (ps : List ℕ) (i : ℕ) : Type 0 where
  pub from : 1 ≤ i
  pub to : i ≤ length ps

-- The rank of position i: 1 if its parent is 0, otherwise one more than the rank of its parent, which is declared.
abbrev pub RankRule : List ℕ → (ℕ → ℕ) → ℕ → Type 0
RankRule ps rank i =
    ((parent_of ps i ≡ 0) × (rank i ≡ 1)) ⊎ (Declared ps (parent_of ps i) × (rank i ≡ suc (rank (parent_of ps i))))

-- `rank` gives each position its rank
abbrev pub Ranks : List ℕ → (ℕ → ℕ) → Type 0
Ranks ps rank = (i : ℕ) → Declared ps i → RankRule ps rank i

-- every position has a rank
abbrev pub HaveRanks : List ℕ → Type 0
HaveRanks ps = (rank : ℕ → ℕ) × Ranks ps rank

-- d is the largest of these ranks: no position has a larger one and, unless there are no positions, some position has it.
pub record Largest (ps : List ℕ) (rank : ℕ → ℕ) (d : ℕ) : Type 0 where
  pub none_larger : (i : ℕ) → Declared ps i → rank i ≤ d
  pub reached : ((length ps ≡ 0) × (d ≡ 0)) ⊎ ((i : ℕ) × Declared ps i × (rank i ≡ d))

-- every position has a rank, and d is the largest
abbrev pub HaveLargest : List ℕ → ℕ → Type 0
HaveLargest ps d = (rank : ℕ → ℕ) × Ranks ps rank × Largest ps rank d

-- The chain of i: its k-th number is i itself, its parent, the parent of that, ..
unfoldable pub above : List ℕ → ℕ → ℕ → ℕ
above ps zero i = i
above ps (suc k) i = above ps k (parent_of ps i)

-- the first k numbers of the chain of i are declared
abbrev pub Passes : List ℕ → ℕ → ℕ → Type 0
Passes ps k i = (j : ℕ) → j < k → Declared ps (above ps j i)

-- the chain of i ends, at 0, after r positions
pub record HasRank (ps : List ℕ) (i r : ℕ) : Type 0 where
  pub passes : Passes ps r i
  pub ends : above ps r i ≡ 0

-- the chain of i leaves the declared numbers
pub record GoesOut (ps : List ℕ) (i : ℕ) : Type 0 where
  pub at : ℕ
  pub passes : Passes ps at i
  pub beyond : length ps < above ps at i

-- the chain of i returns to a position
pub record GoesRound (ps : List ℕ) (i : ℕ) : Type 0 where
  pub first : ℕ
  pub again : ℕ
  pub later : first < again
  pub passes : Passes ps (suc again) i
  pub same : above ps first i ≡ above ps again i

abbrev pub Ranked : List ℕ → ℕ → Type 0
Ranked ps i = (r : ℕ) × HasRank ps i r

-- the positions before i have ranks
abbrev pub RankedBefore : List ℕ → ℕ → Type 0
RankedBefore ps i = (j : ℕ) → Declared ps j → j < i → Ranked ps j

-- Document 01's number: 0 if every position has a rank. Otherwise the lowest-numbered position without one decides:
-- 8 if its chain leaves the declared numbers, 9 if it returns.
pub data Judged (ps : List ℕ) (n : ℕ) : Type 0 where
  all_ranked : ((i : ℕ) → Declared ps i → Ranked ps i) → n ≡ 0 → Judged ps n
  first_out : (i : ℕ) → Declared ps i → RankedBefore ps i → GoesOut ps i → n ≡ 8 → Judged ps n
  first_round : (i : ℕ) → Declared ps i → RankedBefore ps i → GoesRound ps i → n ≡ 9 → Judged ps n

-- the numbers of a refusal for its parents
abbrev pub ForParents : ℕ → Type 0
ForParents n = (n ≡ 8) ⊎ (n ≡ 9)

-- What a chain of parents does, as the code tells it: it ends at 0, after as many positions as the rank says; it leaves the declared
-- numbers; or it returns to a position.
abbrev pub Chain : Type 0
Chain = Result ℕ Reason

-- The same, computed: the chain from i on, of which at most `f` numbers are looked at, after `k` positions.
unfoldable pub climb : List ℕ → ℕ → ℕ → ℕ → Chain
climb ps zero k i = Err ParentsInCircle
climb ps (suc f) k i = pick (eqb i 0) (Ok k) (pick (leb i (length ps)) (climb ps f (suc k) (parent_of ps i)) (Err ParentUndeclared))

-- one number more than there are positions is enough
abbrev pub chain : List ℕ → ℕ → Chain
chain ps i = climb ps (suc (length ps)) 0 i

-- the rank of a position that has one
abbrev pub rank_in : Chain → ℕ
rank_in (Ok r) = r
rank_in (Err e) = 0

abbrev pub rank_of : List ℕ → ℕ → ℕ
rank_of ps i = rank_in (chain ps i)

-- the largest rank of the positions up to n; and of all, 0 if there are none
unfoldable pub largest_up_to : List ℕ → ℕ → ℕ
largest_up_to ps zero = 0
largest_up_to ps (suc n) = max (largest_up_to ps n) (rank_of ps (suc n))

abbrev pub deepest : List ℕ → ℕ
deepest ps = largest_up_to ps (length ps)

-- the number by the chain of one position, if `next` is that of the positions after it
abbrev pub on_chain : Chain → ℕ → ℕ
on_chain (Ok r) next = next
on_chain (Err e) next = number_of e

-- the number by the n positions after i
unfoldable pub judge : List ℕ → ℕ → ℕ → ℕ
judge ps zero i = 0
judge ps (suc n) i = on_chain (chain ps (suc i)) (judge ps n (suc i))

unfoldable pub verdict : List ℕ → ℕ
verdict ps = judge ps (length ps) 0
