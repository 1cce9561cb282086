-- What the owner's theorem speaks of: the kinds of parameters, what the owner passes, and what of it lies in memory before
-- a call and after it. So what a function's theorem says is said of the cells of a memory before and after, and no ghost name
-- and no lifetime is left in it.
use Prim.Native.Nat.{ℕ, zero, suc}
use mathlib.Core.Path.{◌≡◌, refl, ap}
use mathlib.Core.List.{List, [], ◌∷◌, ◌++◌}
use seplogic.Ra.Ura.{Ura}
use base.Fraction.{full_share}
use lib.ListN.{length}
use mir.Val.{Val}
use base.Fml.{GName, Share, Fml, ftrue, fsep, fdead, flent}
use types.Logic.{Logic}
use types.SemTy.{Body}
use types.Share.{parts}
use contract.Lifetimes.{Lfts, Shares, Within, lft_at}
use denote.RattleType.{RattleType, Denots, Valss, flat}
use denote.Memory.{part_at, mem, shares, shared_of}
use denote.Array.{Array}
use denote.ArrayMemory.{Single}
use denote.Laws.{Is, Makes}
use denote.Exit.{yes, Last}
use denote.Slice.{Room}
use denote.Lend.{Held}
use denote.Lends.{Lent}
use denote.Signature.{Slot, plain, mut_ref_to, mut_slice_of, shr_slice_of, types_at}
use denote.Triple.End.{all, Fins}
use Rattle.owner.specs.Cells.{Cells, slice, pointer}

-- A parameter's kind, at a signature of n lifetimes: `&'j [T]`, of which any share is lent, `&'j mut [T]`, `&'j mut [T; m]`, and
-- plain data by value, with its machine values.
pub data Kind (n : ℕ) : Type 2 where
  shared : (j : ℕ) → Within n j → RattleType → Kind n
  mutable : (j : ℕ) → Within n j → RattleType → Kind n
  reference : (j : ℕ) → Within n j → (R : RattleType) → Single R.mir → ℕ → Kind n
  value : (R : RattleType) → (R.Denot → List Val) → Kind n

module _ {n : ℕ} where
  abbrev pub slot : Kind n → Slot n
  slot (shared j ok R) = shr_slice_of (j ∷ []) ok (plain (λ κs. R))
  slot (mutable j ok R) = mut_slice_of (j ∷ []) ok (plain (λ κs. R))
  slot (reference j ok R one m) = mut_ref_to (j ∷ []) ok (plain (λ κs. Array R m))
  slot (value R vals) = plain (λ κs. R)

  abbrev pub slots : List (Kind n) → List (Slot n)
  slots [] = []
  slots (k ∷ ks) = slot k ∷ slots ks

  -- what the owner passes: cells, or a value
  abbrev pub Given1 : Kind n → Type 0
  Given1 (shared j ok R) = Share × Cells R.Denot
  Given1 (mutable j ok R) = Cells R.Denot
  Given1 (reference j ok R one m) = Cells R.Denot
  Given1 (value R vals) = R.Denot

  abbrev pub Givens : List (Kind n) → Type 0
  Givens [] = Unit {0}
  Givens (k ∷ ks) = Given1 k × Givens ks

  -- the cells are few enough for their count to be a usize and their bytes an isize, or as many as the array has; the value
  -- is one of its type
  abbrev pub Fits1 : (k : Kind n) → Given1 k → Type 0
  Fits1 (shared j ok R) c = Room R (length c.1.held)
  Fits1 (mutable j ok R) c = Room R (length c.held)
  Fits1 (reference j ok R one m) c = length c.held ≡ m
  Fits1 (value R vals) x = Is R x (vals x)

  abbrev pub Fits : (ks : List (Kind n)) → Givens ks → Type 0
  Fits [] xs = Unit {0}
  Fits (k ∷ ks) xs = Fits1 k xs.0 × Fits ks xs.1

  -- the machine values that are passed: pointer and count, or the value
  abbrev pub words1 : (k : Kind n) → Given1 k → List Val
  words1 (shared j ok R) c = slice c.1 ∷ []
  words1 (mutable j ok R) c = slice c ∷ []
  words1 (reference j ok R one m) c = pointer c ∷ []
  words1 (value R vals) x = vals x

  abbrev pub words : (ks : List (Kind n)) → Givens ks → List Val
  words [] xs = []
  words (k ∷ ks) xs = words1 k xs.0 ++ words ks xs.1

  -- what a call leaves: other elements in the cells of a `&mut`
  abbrev pub Left1 : Kind n → Type 0
  Left1 (shared j ok R) = Unit {0}
  Left1 (mutable j ok R) = List R.Denot
  Left1 (reference j ok R one m) = List R.Denot
  Left1 (value R vals) = Unit {0}

  abbrev pub Lefts : List (Kind n) → Type 0
  Lefts [] = Unit {0}
  Lefts (k ∷ ks) = Left1 k × Lefts ks

  -- as many as there were
  abbrev pub AsMany1 : (k : Kind n) → Given1 k → Left1 k → Type 0
  AsMany1 (shared j ok R) c l = Unit {0}
  AsMany1 (mutable j ok R) c l = length l ≡ length c.held
  AsMany1 (reference j ok R one m) c l = length l ≡ m
  AsMany1 (value R vals) x l = Unit {0}

  abbrev pub AsMany : (ks : List (Kind n)) → Givens ks → Lefts ks → Type 0
  AsMany [] xs ls = Unit {0}
  AsMany (k ∷ ks) xs ls = AsMany1 k xs.0 ls.0 × AsMany ks xs.1 ls.1

  -- what is in memory before the call, and after it
  abbrev pub before1 : (k : Kind n) → Given1 k → Fml
  before1 (shared j ok R) c = parts (mem R) (shares R) c.0 c.1.held c.1.block c.1.offset
  before1 (mutable j ok R) c = parts (mem R) (shares R) full_share c.held c.block c.offset
  before1 (reference j ok R one m) c = parts (mem R) (shares R) full_share c.held c.block c.offset
  before1 (value R vals) x = ftrue

  abbrev pub after1 : (k : Kind n) → Given1 k → Left1 k → Fml
  after1 (shared j ok R) c l = parts (mem R) (shares R) c.0 c.1.held c.1.block c.1.offset
  after1 (mutable j ok R) c l = parts (mem R) (shares R) full_share l c.block c.offset
  after1 (reference j ok R one m) c l = parts (mem R) (shares R) full_share l c.block c.offset
  after1 (value R vals) x l = ftrue

  abbrev pub before : (ks : List (Kind n)) → Givens ks → Fml
  before [] xs = ftrue
  before (k ∷ ks) xs = fsep (before1 k xs.0) (before ks xs.1)

  abbrev pub after : (ks : List (Kind n)) → Givens ks → Lefts ks → Fml
  after [] xs ls = ftrue
  after (k ∷ ks) xs ls = fsep (after1 k xs.0 ls.0) (after ks xs.1 ls.1)

  -- ---- not for a reader of the theorem: what goes on under it
  abbrev pub Name1 : Kind n → Type 0
  Name1 (shared j ok R) = Unit {0}
  Name1 (mutable j ok R) = GName
  Name1 (reference j ok R one m) = GName
  Name1 (value R vals) = Unit {0}

  abbrev pub Names : List (Kind n) → Type 0
  Names [] = Unit {0}
  Names (k ∷ ks) = Name1 k × Names ks

  module _ (κs : Lfts n) where
    -- the denotation of what is passed
    abbrev pub denot1 : (k : Kind n) → Given1 k → Name1 k → ((slot k).row κs).Denot
    denot1 (shared j ok R) c γ = record { ref_ptr = (c.1.block, c.1.offset); now = c.1.held }
    denot1 (mutable j ok R) c γ = record { ref_ptr = (c.block, c.offset); ghost_name = γ; now = c.held }
    denot1 (reference j ok R one m) c γ = record { ref_ptr = (c.block, c.offset); ghost_name = γ; now = c.held }
    denot1 (value R vals) x γ = x

    abbrev pub denots : (ks : List (Kind n)) → Givens ks → Names ks → Denots (types_at (slots ks) κs)
    denots [] xs γs = tt
    denots (k ∷ ks) xs γs = (denot1 k xs.0 γs.0, denots ks xs.1 γs.1)

    abbrev pub wordss : (ks : List (Kind n)) → Givens ks → Valss (types_at (slots ks) κs)
    wordss [] xs = tt
    wordss (k ∷ ks) xs = (words1 k xs.0, wordss ks xs.1)

    -- the lender's part
    abbrev pub lender1 : (k : Kind n) → Given1 k → Name1 k → Fml
    lender1 (shared j ok R) c γ = flent (lft_at n j ok κs) (parts (mem R) (shares R) c.0 c.1.held c.1.block c.1.offset)
    lender1 (mutable j ok R) c γ = flent (lft_at n j ok κs) (Held R (length c.held) c.block c.offset γ)
    lender1 (reference j ok R one m) c γ = flent (lft_at n j ok κs) (Body (mem (Array R m)) c.block c.offset γ)
    lender1 (value R vals) x γ = ftrue

    abbrev pub lenders : (ks : List (Kind n)) → Givens ks → Names ks → Fml
    lenders [] xs γs = ftrue
    lenders (k ∷ ks) xs γs = fsep (lender1 k xs.0 γs.0) (lenders ks xs.1 γs.1)

    -- what was left, of the last values
    abbrev pub left_of1 : (k : Kind n) (x : Given1 k) (γ : Name1 k) → Last (((slot k).row κs).exit yes) (denot1 k x γ) → Left1 k
    left_of1 (shared j ok R) c γ l = tt
    left_of1 (mutable j ok R) c γ l = l
    left_of1 (reference j ok R one m) c γ l = l
    left_of1 (value R vals) x γ l = tt

    abbrev pub lefts_of : (ks : List (Kind n)) (xs : Givens ks) (γs : Names ks) → Fins κs (slots ks) (all yes (slots ks)) (denots ks xs γs) → Lefts ks
    lefts_of [] xs γs ls = tt
    lefts_of (k ∷ ks) xs γs ls = (left_of1 k xs.0 γs.0 ls.0, lefts_of ks xs.1 γs.1 ls.1)

  pub words_are : (κs : Lfts n) (ks : List (Kind n)) (xs : Givens ks) → flat (types_at (slots ks) κs) (wordss κs ks xs) ≡ words ks xs
  words_are κs [] xs = refl
  words_are κs (k ∷ ks) xs = ap (λ (vs : List Val). words1 k xs.0 ++ vs) (words_are κs ks xs.1)

-- n lifetimes, each a fresh atom, and their tokens, whole
abbrev pub Fresh : ℕ → Type 0
Fresh zero = Unit {0}
Fresh (suc n) = ℕ × Fresh n

abbrev pub lifetimes : (n : ℕ) → Fresh n → Lfts n
lifetimes zero αs = tt
lifetimes (suc n) αs = (αs.0 ∷ [], lifetimes n αs.1)

abbrev pub whole : (n : ℕ) → Shares n
whole zero = tt
whole (suc n) = (full_share, whole n)

-- all are over
abbrev pub over : (n : ℕ) → Fresh n → Fml
over zero αs = ftrue
over (suc n) αs = fsep (fdead (αs.0 ∷ [])) (over n αs.1)

-- what is asked of the types
module _ {M : Type 1} {𝓤 : Ura M} (𝓛 : Logic 𝓤) where
  -- any share of a value of the type is lent as `&`
  abbrev pub Lends : RattleType → Type 1
  Lends R = (t : Share) (x : R.Denot) (b o : ℕ) → Lent 𝓛 (part_at R t x b o) (shared_of R x b o)

  module _ {n : ℕ} where
    -- the elements of a shared slice can be lent, and plain data is made of its machine values alone
    abbrev pub Made1 : Kind n → Type 1
    Made1 (shared j ok R) = Lends R
    Made1 (mutable j ok R) = Unit {1}
    Made1 (reference j ok R one m) = Unit {1}
    Made1 (value R vals) = Makes 𝓛 R (Is R)

    abbrev pub Made : List (Kind n) → Type 1
    Made [] = Unit {1}
    Made (k ∷ ks) = Made1 k × Made ks
