-- The default shapes, and the answer of a scene.
use Prim.Native.Nat.{ℕ, zero, suc, ◌+◌, ◌-◌, ◌<◌, ◌≤◌}
use mathlib.Core.Path.{◌≡◌, refl, sym, ap, ◌∙◌}
use mathlib.Core.List.{List, [], ◌∷◌}
use mathlib.Core.Bool.{Bool, true}
use native.Mathlib.Omega.{arith}
use native.Mathlib.Nat.{sub-zero}
use lib.ListN.{length, get_or, take, drop, replicate, length-replicate, get_or-replicate}
use lib.Seq.{length-take-le, get_or-take}
use Rattle.std.specs.Prelude as std
use Rattle.std.specs.Prelude.{Ok, Err, IfOk}
use Rattle.rules.specs.declared.reason.Reason.{Reason}
use Rattle.rules.specs.Block as block
use Rattle.rules.specs.Leaf as leaf
use Rattle.rules.specs.Rule.{Rule}
use Rattle.rules.specs.Derived.{drc_count}
use Rattle.rules.specs.Reading.{Reading}
use Rattle.parser.specs.declared.Parser.{Parser}
use Rattle.parser.specs.Met.{Met, giving}
use Rattle.parser.proofs.Laws.{first}
use Rattle.position.specs.declared.PositionSyntax.{PositionSyntax}
use Rattle.position.specs.Shape.{default}
use Rattle.position.specs.Formed.{Shaped}
use Rattle.validation.specs.Validation.{largest_rank, GraphAnswered}
use Rattle.scene.specs.declared.SceneAnswer.{SceneAnswer}
use Rattle.positions.specs.Positions.{positions}
use Rattle.scene.specs.Scene.{defaults, scene_fields, scene_graph, declared, SceneAnswered, TookScene, TookGraph}

take_replicate : {A : Type 0} (n m : ℕ) (a : A) → n ≤ m → take n (replicate m a) ≡ replicate n a
take_replicate zero m a h = refl
take_replicate (suc n) zero a h = absurd (omega arith)
take_replicate (suc n) (suc m) a h = ap (λ l. a ∷ l) (take_replicate n m a (omega arith))

drop_replicate : {A : Type 0} (n m : ℕ) (a : A) → n ≤ m → drop n (replicate m a) ≡ replicate (m - n) a
drop_replicate zero m a h = rw sub-zero
drop_replicate (suc n) zero a h = absurd (omega arith)
drop_replicate (suc n) (suc m) a h =
    let e : suc m - suc n ≡ m - n = omega arith in
    rw e (drop_replicate n m a (omega arith))

default_shaped : Shaped default
default_shaped = record { position = omega arith; rotation = omega arith }

pub defaults_shaped : (i : ℕ) → i < 63 → Shaped (get_or defaults i default)
unfolding defaults
defaults_shaped i h = rw (get_or-replicate 63 i default default h) default_shaped

pub defaults_first : (n : ℕ) → n ≤ 63 → take n defaults ≡ replicate n default
unfolding defaults
defaults_first n h = take_replicate n 63 default h

pub defaults_rest : (n : ℕ) → n ≤ 63 → drop n defaults ≡ replicate (63 - n) default
unfolding defaults
defaults_rest n h = drop_replicate n 63 default h

pub defaults_length : length defaults ≡ 63
unfolding defaults
defaults_length = length-replicate 63 default

-- an answer with the shapes of as many positions as it says
pub scene_answered : {x : Reading (List PositionSyntax)} {rec : Bool} {ws vs : List ℕ} {r : SceneAnswer} → length r.shapes ≡ 63 → r.count ≤ 63 →
    GraphAnswered x [] rec ws r.graph (take r.count r.shapes) vs → drop r.count r.shapes ≡ drop r.count defaults → SceneAnswered x rec ws r vs
scene_answered {x} {rec} {ws} {vs} {r} long most a others = record {
  answered = a;
  count = sym (length-take-le r.count r.shapes (omega arith)) ∙ ap length a.answered.value;
  others = others ∙ defaults_rest r.count most;
}

-- A count of six bits, and the positions after it: `x` is the count as it was read, and `y` what came of the positions.
module _ {x : std.Result ℕ Reason} {n : ℕ} (e : x ≡ Ok n) (small : IfOk x (λ a. a < 64)) where
  pub few : n ≤ 63
  few = let l : n < 64 = rw e at small in omega arith

  module _ {shapes : List PositionSyntax} (d : shapes ≡ defaults) where
    pub first_shaped : (i : ℕ) → i < length (take n shapes) → Shaped (get_or (take n shapes) i default)
    first_shaped i l =
        let most = length-take-le n defaults (omega (arith, few, defaults_length)) in
        let below : i < n = omega (arith, rw d at l, most) in
        rw (d, get_or-take n defaults i default below) (defaults_shaped i (omega (arith, few)))

    pub fields_met : {p q u : Parser} {y : std.Result (List PositionSyntax) Reason} → Met (drc_count (block.scene_graph + leaf.count) 6 18) p x q →
        Met (positions true (take n shapes)) q y u → Met scene_fields p y u
    unfolding scene_fields
    fields_met m w = first _ m e (rw (d, defaults_first n few) at w)

    pub others_default : (after : List PositionSyntax) → drop n after ≡ drop n shapes → drop n after ≡ replicate (63 - n) default
    others_default after h = rw d at h ∙ defaults_rest n few

-- the shapes that positions leave in what they were lent, if they were read, and if the reading ended
module _ {r : Rule (List PositionSyntax)} {p q : Parser} {B : Type 0} (a : List PositionSyntax) (y : std.Result B Reason) (m : Met r p (giving a y) q) where
  pub left_read : {b : List PositionSyntax} {u : B} → y ≡ Ok u → b ≡ a → Met r p (Ok b) q
  left_read e d = rw d (rw e at m)

  pub left_ended : {z : Reason} → y ≡ Err z → Met r p (Err z) q
  left_ended e = rw e at m

-- what a count is, of which the code knows how it was read
module _ {x : std.Result ℕ Reason} where
  pub declared_read : {n : ℕ} (shapes : List PositionSyntax) → x ≡ Ok n → declared shapes x ≡ Ok (take n shapes)
  declared_read shapes e = rw e

  pub declared_ended : {z : Reason} (shapes : List PositionSyntax) → x ≡ Err z → declared shapes x ≡ Err z
  declared_ended shapes e = rw e

  counted : (P : ℕ → Type 0) {n : ℕ} → x ≡ Ok n → IfOk x P → P n
  counted P e h = rw e at h

-- the fields of a scene, of `x` positions, and then its validation, of which `y` is the largest rank
pub graph_took : {p q : Parser} {shapes : List PositionSyntax} {x y : std.Result ℕ Reason} {n d : ℕ} → TookScene scene_fields p x shapes q → x ≡ Ok n →
    Met scene_graph p (giving (take n shapes) y) q → y ≡ Ok d → IfOk y (λ k. k ≡ largest_rank (take n shapes)) →
    TookGraph scene_graph p (Ok (record { count = n; deepest = d })) shapes q
graph_took {shapes = shapes} {y = y} m e v f k = record {
  took = record {
    met = left_read (take _ shapes) y v f refl;
    most = counted (λ n. n ≤ 63) e m.most;
    others = counted (λ n. drop n shapes ≡ replicate (63 - n) default) e m.others;
  };
  deepest = counted (λ d. d ≡ largest_rank (take _ shapes)) f k;
}
