-- A step is what a call does by the rules: from what it is fed and the state that it finds, to what is told of it and the state
-- that it leaves. The book is the fold of a step. Here for any step: what a call is fed, its state and what is told are of
-- whatever types.
use Rattle.std.specs.Prelude.{◌≡◌, List, [], ◌∷◌, ◌++◌, map, Bool, false}
use Rattle.rules.specs.Rule.{pick}

pub record After (S T : Type 0) : Type 0 where
  pub told : T
  pub left : S

abbrev pub Step : Type 0 → Type 0 → Type 0 → Type 0
Step P S T = P → S → After S T

-- what the book tells of calls, one after another, and its state after them
unfoldable pub book_told : {P S T : Type 0} → Step P S T → List P → S → List T
book_told step [] s = []
book_told step (p ∷ ps) s = (step p s).told ∷ book_told step ps (step p s).left

unfoldable pub book_state : {P S T : Type 0} → Step P S T → List P → S → S
book_state step [] s = s
book_state step (p ∷ ps) s = book_state step ps (step p s).left

-- The step leaves its state where it does not accept; `accepts` says of what is told whether that is an acceptance.
abbrev pub Leaves : {P S T : Type 0} → Step P S T → (T → Bool) → Type 0
Leaves {P} {S} step accepts = (p : P) (s : S) → accepts (step p s).told ≡ false → (step p s).left ≡ s

-- each step keeps what I says of the state
abbrev pub Keeps : {P S T : Type 0} → Step P S T → (S → Type 0) → Type 0
Keeps {P} {S} step I = (p : P) (s : S) → I s → I (step p s).left

-- a call as it went: what it was fed, and what it told
pub record Call (P T : Type 0) : Type 0 where
  pub fed : P
  pub told : T

abbrev pub all_fed : {P T : Type 0} → List (Call P T) → List P
all_fed = map (λ c. c.fed)

abbrev pub all_told : {P T : Type 0} → List (Call P T) → List T
all_told = map (λ c. c.told)

-- the calls that were accepted, in their order
unfoldable pub accepted : {P T : Type 0} → (T → Bool) → List (Call P T) → List (Call P T)
accepted accepts [] = []
accepted accepts (c ∷ cs) = pick (accepts c.told) (c ∷ accepted accepts cs) (accepted accepts cs)

-- Calls one after another, each on the state that the one before left: `Run s c t` is what is known of a call c that found the
-- state s and left the state t.
pub data Ran {ℓ} {P S T : Type 0} (Run : S → Call P T → S → Type ℓ) : S → List (Call P T) → S → Type ℓ where
  none : {s : S} → Ran Run s [] s
  call : {s t u : S} {c : Call P T} {cs : List (Call P T)} → Run s c t → Ran Run t cs u → Ran Run s (c ∷ cs) u

-- a call by the step
pub record ByStep {P S T : Type 0} (step : Step P S T) (s : S) (c : Call P T) (t : S) : Type 0 where
  pub tells : c.told ≡ (step c.fed s).told
  pub leaves : t ≡ (step c.fed s).left

-- The claim on any list of calls that found the state s and left the state t.
pub record Booked {ℓ} {P S T : Type 0} (step : Step P S T) (accepts : T → Bool) (Run : S → Call P T → S → Type ℓ)
    (s : S) (cs : List (Call P T)) (t : S) : Type ℓ where
  -- every answer and every state, the last one and those on the way, are the book's
  pub told_are : all_told cs ≡ book_told step (all_fed cs) s
  pub state_is : t ≡ book_state step (all_fed cs) s
  pub states_are : (first rest : List (Call P T)) → cs ≡ first ++ rest →
      (m : S) × Ran Run s first m × Ran Run m rest t × (m ≡ book_state step (all_fed first) s)
  -- the accepted calls alone, as they went, stand one after another from the same state to the same state
  pub alone_ran : Ran Run s (accepted accepts cs) t
  -- and those that are fed what the accepted calls were, however they are made, tell the same and leave the same state
  pub alone : (ds : List (Call P T)) (u : S) → all_fed ds ≡ all_fed (accepted accepts cs) → Ran Run s ds u →
      (all_told ds ≡ all_told (accepted accepts cs)) × (u ≡ t)
