-- The loop over positions: at its start, after one more, where the reading ends, and at its end.
use Prim.Native.Nat.{ℕ, ◌+◌, ◌<◌, ◌≤◌}
use mathlib.Core.Path.{◌≡◌, refl, sym, ap, ◌∙◌, subst, fun_ext}
use mathlib.Core.List.{List, ◌∷◌, ◌++◌, append-nil}
use native.Mathlib.Omega.{arith}
use native.Mathlib.Numerals.{add-one}
use lib.ListN.{length, get_or, take, drop, set, length-set, drop_of_length-le}
use lib.Seq.{take-length, take-suc-set, append_snoc, drop-cons, drop-set-lt, drop-drop, get_or-drop}
use Rattle.std.specs.Prelude as std
use Rattle.std.specs.Prelude.{Ok, Err}
use Rattle.rules.specs.declared.reason.Reason.{Reason}
use Rattle.rules.specs.Rule.{Rule, done, ◌>>=◌}
use Rattle.rules.specs.Derived.{each}
use Rattle.rules.proofs.Bind.{bind_done}
use Rattle.parser.specs.declared.Parser.{Parser}
use Rattle.parser.specs.Met.{Met}
use Rattle.parser.proofs.Laws.{last_as}
use Rattle.parser.proofs.Left.{Left, left_all}
use Rattle.parser.proofs.Each.{each_more, each_ended, each_none}

module _ {A : Type 0} (f : ℕ → A → Rule A) (before : List A) (p : Parser) where
  -- what follows the first `i` values
  abbrev rest : ℕ → List A → Rule (List A)
  rest i next = each f i (drop i before) >>= (λ ys. done (take i next ++ ys))

  -- the first `i` values are read, and the others are as they came
  pub record Reached (i : ℕ) (next : List A) (t : Parser) : Type 0 where
    pub long : length next ≡ length before
    pub others : drop i next ≡ drop i before
    pub left : Left (each f 0 before) p (rest i next) t

  pub reached_none : Reached 0 before p
  reached_none = record { long = refl; others = refl; left = rw bind_done left_all }

  module _ (d : A) {i : ℕ} {next : List A} {t : Parser} (x : Reached i next t) where
    pub next_at : get_or next i d ≡ get_or before i d
    next_at =
        let z : i + 0 ≡ i = omega arith in
        let same : get_or (drop i next) 0 d ≡ get_or (drop i before) 0 d = ap (λ (l : List A). get_or l 0 d) x.others in
        rw (get_or-drop i next 0 d, get_or-drop i before 0 d, z) at same

    module _ (h : i < length before) where
      first_left : drop i before ≡ get_or next i d ∷ drop (i + 1) before
      first_left = rw (next_at, add-one) (drop-cons before i d h)

      one_read : (y : A) → ◌≡◌ {A = List A → Rule (List A)} (λ ys. done (take i next ++ y ∷ ys)) (λ ys. done (take (i + 1) (set next i y) ++ ys))
      one_read y =
          let here : i < length next = omega (arith, x.long) in
          fun_ext (λ ys. ap done (sym (rw (add-one, take-suc-set next i y here) (append_snoc (take i next) y ys))))

      module _ {a : std.Result A Reason} {u : Parser} (m : Met (f i (get_or next i d)) t a u) where
        pub reached_more : {y : A} → a ≡ Ok y → Reached (i + 1) (set next i y) u
        reached_more {y} e = record {
          long = length-set next i y ∙ x.long;
          others = drop-set-lt (i + 1) next i y (omega arith) ∙ (sym (drop-drop 1 i next) ∙ (ap (drop 1) x.others ∙ drop-drop 1 i before));
          left = subst (λ k. Left (each f 0 before) p (each f (i + 1) (drop (i + 1) before) >>= k) u) (one_read y)
              (each_more f i _ (drop (i + 1) before) (rw first_left at x.left) m e);
        }

        pub reached_ended : {e : Reason} → a ≡ Err e → Met (each f 0 before) p (Err e) u
        reached_ended e = each_ended f i _ (drop (i + 1) before) (rw first_left at x.left) m e

    pub reached_all : length before ≤ i → i ≤ length before → Met (each f 0 before) p (Ok next) t
    reached_all h l =
        let all : i ≡ length next = omega (arith, x.long) in
        let few : length before ≤ i = h in
        (each_none f i _ (rw (drop_of_length-le before few) at x.left)).rest (last_as (sym (rw (append-nil, all) (take-length next))))
