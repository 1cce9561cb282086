-- The theorem on lists of calls, for any step that leaves its state where it does not accept.
use Prim.Native.Nat.{suc}
use mathlib.Core.Path.{◌≡◌, refl, sym, ◌∙◌, ap, ap₂}
use mathlib.Core.Bool.{Bool, true, false}
use mathlib.Core.List.{List, [], ◌∷◌, ◌++◌}
use lib.ListN.{length}
use Rattle.book.specs.Step.{Step, book_told, book_state, Leaves, Keeps, Call, all_fed, all_told, accepted, Ran, none, call, ByStep, Booked}

-- what each step keeps holds after any list
pub kept : {P S T : Type 0} (step : Step P S T) (I : S → Type 0) → Keeps step I → (ps : List P) (s : S) → I s → I (book_state step ps s)
unfolding book_state
kept step I k [] s h = h
kept step I k (p ∷ ps) s h = kept step I k ps (step p s).left (k p s h)

-- the calls that are accepted of a list: one more, or one not
module _ {P T : Type 0} (accepts : T → Bool) (c : Call P T) (cs : List (Call P T)) where
  accepted_yes : accepts c.told ≡ true → accepted accepts (c ∷ cs) ≡ c ∷ accepted accepts cs
  unfolding accepted
  accepted_yes e = rw e

  accepted_no : accepts c.told ≡ false → accepted accepts (c ∷ cs) ≡ accepted accepts cs
  unfolding accepted
  accepted_no e = rw e

module _ {P S T : Type 0} (step : Step P S T) where
  -- the book on the calls `cs` alone tells what they told, and has the state t
  record Same (s : S) (cs : List (Call P T)) (t : S) : Type 0 where
    same_told : all_told cs ≡ book_told step (all_fed cs) s
    same_state : t ≡ book_state step (all_fed cs) s

  same_none : (s : S) → Same s [] s
  unfolding book_told book_state
  same_none s = record { same_told = refl; same_state = refl }

  same_more : {s m t : S} {c : Call P T} {cs : List (Call P T)} → ByStep step s c m → Same m cs t → Same s (c ∷ cs) t
  unfolding book_told book_state
  same_more {cs = cs} q a = record {
    same_told = ap₂ (λ (g : T) (gs : List T). g ∷ gs) q.tells (a.same_told ∙ ap (book_told step (all_fed cs)) q.leaves);
    same_state = a.same_state ∙ ap (book_state step (all_fed cs)) q.leaves;
  }

  module _ {ℓ} (Run : S → Call P T → S → Type ℓ) (by-step : (s : S) (c : Call P T) (t : S) → Run s c t → ByStep step s c t) where
    all_same : {s t : S} {cs : List (Call P T)} → Ran Run s cs t → Same s cs t
    all_same none = same_none _
    all_same (call k r) = same_more (by-step _ _ _ k) (all_same r)

    -- a list in two parts, and the state between them
    between : {s t : S} (first rest : List (Call P T)) → Ran Run s (first ++ rest) t → (m : S) × Ran Run s first m × Ran Run m rest t
    between [] rest r = (_, none, r)
    between {s = s} {t = t} (c ∷ first) rest (call {t = t'} k r) = let cut = between {s = t'} first rest r in (cut.0, call k cut.1, cut.2)

    module _ (accepts : T → Bool) (leaves : Leaves step accepts) where
      refused_leaves : {s m : S} {c : Call P T} → Run s c m → accepts c.told ≡ false → m ≡ s
      refused_leaves {s} {m} {c} k h = let q = by-step s c m k in q.leaves ∙ leaves c.fed s (rw q.tells at h)

      accepted_ran : {s t : S} {cs : List (Call P T)} → Ran Run s cs t → Ran Run s (accepted accepts cs) t
      unfolding accepted
      accepted_ran none = none
      accepted_ran {s} {t} (call {t = m} {c = c} {cs = cs} k r) = by (accepts c.told) refl (accepted_ran r)
        where
          by : (b : Bool) → accepts c.told ≡ b → Ran Run m (accepted accepts cs) t → Ran Run s (accepted accepts (c ∷ cs)) t
          by true e a = rw (accepted_yes accepts c cs e) (call k a)
          by false e a = rw (accepted_no accepts c cs e, ← refused_leaves k e) a

      pub booked : {s t : S} {cs : List (Call P T)} → Ran Run s cs t → Booked step accepts Run s cs t
      booked {s} {t} {cs} r =
          let all = all_same r in
          let alone = all_same (accepted_ran r) in
          record {
            told_are = all.same_told;
            state_is = all.same_state;
            states_are = λ first rest e. let cut = between first rest (rw e at r) in (cut.0, cut.1, cut.2, (all_same cut.1).same_state);
            alone_ran = accepted_ran r;
            alone = λ ds u e w. let other = all_same w in (
              other.same_told ∙ ap (λ (ps : List P). book_told step ps s) e ∙ sym alone.same_told,
              other.same_state ∙ ap (λ (ps : List P). book_state step ps s) e ∙ sym alone.same_state,
            );
          }

-- the book tells as many things as there are calls
pub told_many : {P S T : Type 0} (step : Step P S T) (ps : List P) (s : S) → length (book_told step ps s) ≡ length ps
unfolding book_told
told_many step [] s = refl
told_many step (p ∷ ps) s = ap suc (told_many step ps (step p s).left)
