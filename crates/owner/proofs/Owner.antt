-- What the owner's theorem says of a function of such parameters: what is asked of the owner, and what a call comes to. The
-- theorem is in Theorem.antt.
use Prim.Native.Nat.{ℕ}
use mathlib.Core.List.{List, [], ◌∷◌}
use mathlib.Core.Option.{Option, none, some}
use mir.Val.{Val}
use base.Logic.{SProp, sep}
use prog.Memory.{Memory}
use prog.Routine.{Routine}
use types.Logic.{sem}
use contract.Lifetimes.{Lfts}
use contract.Adequate.{Satisfies}
use denote.RattleType.{RattleType, Denots}
use denote.Laws.{Is}
use denote.Exit.{yes}
use denote.Signature.{plain, types_at}
use denote.Triple.Clauses.{Ended}
use denote.Triple.End.{all}
use borrow.Fn.World.{World}
use Rattle.owner.specs.Machine.{Ran}
use Rattle.owner.proofs.Returns.{Plain}
use Rattle.owner.proofs.Contents.{Contents, contents, read, read_left}
use Rattle.owner.proofs.Loans.{Kind, slots, Givens, words, Lefts, AsMany, before, after}

-- A function of such parameters and of a result R. E is what it ensures, of the contents that were passed, of the result and
-- of what was left; what it requires is of the contents.
module _ (n : ℕ) (ks : List (Kind n)) (R : RattleType) where
  abbrev pub T : Ended
  T = record { signature = record { lifetimes = n; outlives = []; params = slots ks; result = plain (λ κs. R) }; kept = all yes (slots ks) }

  abbrev pub Says : Type 1
  Says = Contents ks → R.Denot → Lefts ks → Type 0

  abbrev pub Requires : Type 1
  Requires = Option (Contents ks → Type 0)

  -- it holds of these contents
  abbrev pub Granted : Requires → Contents ks → Type 0
  Granted none c = Unit {0}
  Granted (some P) c = P c

  abbrev asks : Requires → Option ((κs : Lfts n) → Denots (types_at (slots ks) κs) → Type 0)
  asks none = none
  asks (some P) = some (λ κs a. P (read κs ks a))

  -- the contract as the function's theorem has it
  abbrev pub promised : Requires → Says → Plain T
  promised requires E = record { requires = asks requires; ensures = λ κs a r e. E (read κs ks a) r (read_left κs ks e) }

  module _ (w : World) (ρ : Routine) (E : Says) where
    abbrev Holds : Memory → SProp w.𝓤 → Type 1
    Holds σ P = Satisfies w.𝓤 w.𝓛.H w.𝓜 σ P

    abbrev pub Before : Givens ks → SProp w.𝓤
    Before xs = sem w.𝓛 (before ks xs)

    abbrev pub After : Givens ks → Lefts ks → SProp w.𝓤
    After xs ls = sem w.𝓛 (after ks xs ls)

    -- A run of the routine on what the owner has at xs, from the memory σ, beside a frame F. It ends with a machine value and
    -- a memory: the value is that of `result`; in the memory the cells hold what was `left`, and F is as it was.
    pub record WentWell (xs : Givens ks) (σ : Memory) (F : SProp w.𝓤) : Type 1 where
      pub value : Val
      pub memory : Memory
      pub ran : Ran ρ (words ks xs) σ value memory
      pub result : R.Denot
      pub stands_for : Is R result (value ∷ [])
      pub left : Lefts ks
      pub as_many : AsMany ks xs left
      pub holds : Holds memory (sep w.𝓤 (After xs left) F)
      pub ensured : E (contents ks xs) result left
