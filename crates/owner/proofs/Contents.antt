-- What a contract reads of a call: the elements and the values that are passed, and the elements that are left; not where they
-- lie, and no name of the logic.
use Prim.Native.Nat.{ℕ}
use mathlib.Core.Path.{◌≡◌, refl}
use mathlib.Core.List.{List, [], ◌∷◌}
use contract.Lifetimes.{Lfts}
use denote.RattleType.{Denots}
use denote.Exit.{yes, Last, Seen, see}
use denote.Signature.{types_at}
use denote.Triple.End.{all, Fins, Outs, outs}
use Rattle.owner.proofs.Loans.{Kind, shared, mutable, reference, value, slot, slots, Given1, Givens, Left1, Lefts, Name1, Names}
use Rattle.owner.proofs.Loans.{denot1, denots, left_of1, lefts_of}

module _ {n : ℕ} where
  abbrev Content1 : Kind n → Type 0
  Content1 (shared j ok R) = List R.Denot
  Content1 (mutable j ok R) = List R.Denot
  Content1 (reference j ok R one m) = List R.Denot
  Content1 (value R vals) = R.Denot

  abbrev pub Contents : List (Kind n) → Type 0
  Contents [] = Unit {0}
  Contents (k ∷ ks) = Content1 k × Contents ks

  -- of what the owner passes
  abbrev content1 : (k : Kind n) → Given1 k → Content1 k
  content1 (shared j ok R) c = c.1.held
  content1 (mutable j ok R) c = c.held
  content1 (reference j ok R one m) c = c.held
  content1 (value R vals) x = x

  abbrev pub contents : (ks : List (Kind n)) → Givens ks → Contents ks
  contents [] xs = tt
  contents (k ∷ ks) xs = (content1 k xs.0, contents ks xs.1)

  -- of the arguments as the function's theorem has them, and of the parameters at exit
  module _ (κs : Lfts n) where
    abbrev read1 : (k : Kind n) → ((slot k).row κs).Denot → Content1 k
    read1 (shared j ok R) x = x.now
    read1 (mutable j ok R) x = x.now
    read1 (reference j ok R one m) x = x.now
    read1 (value R vals) x = x

    abbrev pub read : (ks : List (Kind n)) → Denots (types_at (slots ks) κs) → Contents ks
    read [] a = tt
    read (k ∷ ks) a = (read1 k a.0, read ks a.1)

    abbrev read_left1 : (k : Kind n) → Seen (((slot k).row κs).exit yes) → Left1 k
    read_left1 (shared j ok R) x = tt
    read_left1 (mutable j ok R) x = x.now
    read_left1 (reference j ok R one m) x = x.now
    read_left1 (value R vals) x = tt

    abbrev pub read_left : (ks : List (Kind n)) → Outs κs (slots ks) (all yes (slots ks)) → Lefts ks
    read_left [] e = tt
    read_left (k ∷ ks) e = (read_left1 k e.0, read_left ks e.1)

    read1_is : (k : Kind n) (x : Given1 k) (γ : Name1 k) → read1 k (denot1 κs k x γ) ≡ content1 k x
    read1_is (shared j ok R) x γ = refl
    read1_is (mutable j ok R) x γ = refl
    read1_is (reference j ok R one m) x γ = refl
    read1_is (value R vals) x γ = refl

    pub read_is : (ks : List (Kind n)) (xs : Givens ks) (γs : Names ks) → read ks (denots κs ks xs γs) ≡ contents ks xs
    read_is [] xs γs = refl
    read_is (k ∷ ks) xs γs = λ i. (read1_is k xs.0 γs.0 i, read_is ks xs.1 γs.1 i)

    left1_is : (k : Kind n) (x : Given1 k) (γ : Name1 k) (l : Last (((slot k).row κs).exit yes) (denot1 κs k x γ)) →
        read_left1 k (see (((slot k).row κs).exit yes) (denot1 κs k x γ) l) ≡ left_of1 κs k x γ l
    left1_is (shared j ok R) x γ l = refl
    left1_is (mutable j ok R) x γ l = refl
    left1_is (reference j ok R one m) x γ l = refl
    left1_is (value R vals) x γ l = refl

    pub left_is : (ks : List (Kind n)) (xs : Givens ks) (γs : Names ks) (ls : Fins κs (slots ks) (all yes (slots ks)) (denots κs ks xs γs)) →
        read_left ks (outs κs (slots ks) (all yes (slots ks)) (denots κs ks xs γs) ls) ≡ lefts_of κs ks xs γs ls
    left_is [] xs γs ls = refl
    left_is (k ∷ ks) xs γs ls = λ i. (left1_is k xs.0 γs.0 ls.0 i, left_is ks xs.1 γs.1 ls.1 i)
