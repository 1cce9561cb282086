-- The packet is an update that gives the shapes those parents.
use Prim.Native.Nat.{ℕ, zero, suc, ◌+◌, ◌*◌, ◌<◌}
use mathlib.Core.Path.{◌≡◌, refl, sym, ap}
use mathlib.Core.List.{List, [], ◌∷◌, ◌++◌}
use mathlib.Core.Bool.{Bool, true, false, ◌||◌}
use native.Mathlib.Omega.{arith}
use borrow.Author.Tests.{ne_eqb, eqb-true}
use lib.Dec.{eqb}
use lib.ListN.{length, get_or}
use Rattle.rules.specs.Rule.{done, pick, ◌>>=◌}
use Rattle.rules.specs.Derived.{each, demand}
use Rattle.rules.proofs.Laws.{never, both}
use Rattle.rules.proofs.Pick.{by_pick}
use Rattle.position.specs.declared.PositionSyntax.{PositionSyntax}
use Rattle.position.specs.Shape.{with_parent}
use Rattle.position.specs.Position.{header, changed, new_parent, parent, range, coordinates_if_present, rotation, before_range, after_range, position}
use Rattle.extensions.specs.Extensions.{extensions_if_present}
use Rattle.positions.specs.Positions.{updated_position, position_at, positions}
use Rattle.ranks.specs.Rank.{verdict}
use Rattle.validation.specs.Validation.{parents, validate_graph, if_valid}
use Rattle.update.specs.Update.{update_fields, graph_update}
use Rattle.parent_packet.specs.Packet.{parent_bits, range_bits, position_bits, packet}
use Rattle.parent_packet.specs.Shortest.{with_parents, all_dynamic}
use Rattle.parent_packet.proofs.Takes.{Takes, takes_bind, takes_done, takes_next, takes_take, takes_flag, takes_more, takes_last}

new_parent_takes : (p : ℕ) (sh : PositionSyntax) (v : ℕ) → v < 64 → Takes (new_parent p sh) (parent_bits v) 2 (with_parent sh v)
unfolding new_parent
new_parent_takes p sh zero l = takes_more 2 (omega arith) (takes_last _ (takes_flag _ 1 (omega arith)) takes_done)
new_parent_takes p sh (suc v) l =
    let some : suc v ≡ 0 → ⊥ = (λ e. omega arith) in
    rw (ne_eqb (suc v) 0 some) (takes_bind _ (takes_flag _ 0 (omega arith)) (takes_last _ (takes_take _ 6 (suc v) l) takes_done))

parent_takes : (p : ℕ) (sh : PositionSyntax) (v : ℕ) → sh.parent_dynamic ≡ true → v < 64 → Takes (parent p sh false) (1 ∷ parent_bits v) 3 (with_parent sh v)
unfolding parent changed
parent_takes p sh v d l =
    by_pick (λ r. Takes (r >>= (λ there. pick there (new_parent p sh) (done sh))) (1 ∷ parent_bits v) 3 (with_parent sh v)) sh.parent_dynamic _ _
    (λ _. takes_bind _ (takes_flag _ 1 (omega arith)) (new_parent_takes p sh v l))
    (λ e. never d e)

range_takes : (p : ℕ) (dynamic : Bool) → Takes (range p dynamic false) (range_bits dynamic) 1 tt
unfolding range changed
range_takes p true = takes_bind _ (takes_flag _ 0 (omega arith)) takes_done
range_takes p false = takes_more 1 (omega arith) (takes_next _ false takes_done)

after_range_takes : (p : ℕ) (sh : PositionSyntax) → Takes (after_range p sh false) (0 ∷ 0 ∷ 0 ∷ []) 3 sh
unfolding after_range coordinates_if_present rotation extensions_if_present
after_range_takes p sh =
    takes_bind _ (takes_bind _ (takes_flag _ 0 (omega arith)) takes_done)
    (takes_bind _ (takes_bind _ (takes_flag _ 0 (omega arith)) takes_done) (takes_bind _ (takes_bind _ (takes_flag _ 0 (omega arith)) takes_done) takes_done))

position_takes : (p : ℕ) (sh : PositionSyntax) (v : ℕ) → sh.parent_dynamic ≡ true → v < 64 →
    Takes (position p sh false) (1 ∷ parent_bits v ++ (range_bits sh.range_dynamic ++ 0 ∷ 0 ∷ 0 ∷ [])) 7 (with_parent sh v)
unfolding position before_range header
position_takes p sh v d l = takes_bind _ (takes_next _ sh (parent_takes p sh v d l)) (takes_bind _ (range_takes p sh.range_dynamic) (after_range_takes p (with_parent sh v)))

dynamic : (b d : Bool) → b ≡ false → (b || d) ≡ true → d ≡ true
dynamic true d h k = never refl h
dynamic false d h k = k

updated_position_takes : (p : ℕ) (sh : PositionSyntax) (v : ℕ) → (eqb sh.parent v || sh.parent_dynamic) ≡ true → v < 64 →
    Takes (updated_position p sh) (position_bits sh v) 8 (with_parent sh v)
unfolding updated_position position_bits
updated_position_takes p sh v d l =
    by_pick (λ code. Takes (updated_position p sh) code 8 (with_parent sh v)) (eqb sh.parent v) _ _
    (λ e. rw (sym (eqb-true sh.parent v e)) (takes_more 8 (omega arith) (takes_bind _ (takes_flag _ 0 (omega arith)) takes_done)))
    (λ e. takes_bind _ (takes_flag _ 1 (omega arith)) (position_takes p sh v (dynamic (eqb sh.parent v) sh.parent_dynamic e d) l))

positions_take : (i : ℕ) (shapes : List PositionSyntax) (vs : List ℕ) → length shapes ≡ length vs → all_dynamic shapes vs ≡ true →
    ((k : ℕ) → k < length vs → get_or vs k 0 < 64) → Takes (each (position_at false) i shapes) (packet shapes vs) (8 * length shapes) (with_parents shapes vs)
unfolding each packet with_parents all_dynamic position_at
positions_take i [] vs h d l = takes_done
positions_take i (sh ∷ shapes) [] h d l = absurd (omega arith)
positions_take i (sh ∷ shapes) (v ∷ vs) h d l =
    let asked = both (eqb sh.parent v || sh.parent_dynamic) d in
    let rest = positions_take (i + 1) shapes vs (omega arith) asked.1 (λ k m. l (suc k) (omega arith)) in
    takes_more _ (omega arith) (takes_bind _ (updated_position_takes _ sh v asked.0 (l 0 (omega arith))) (takes_last _ rest takes_done))

pub parents_given : (shapes : List PositionSyntax) (vs : List ℕ) → length shapes ≡ length vs → parents (with_parents shapes vs) ≡ vs
unfolding with_parents
parents_given [] [] h = refl
parents_given [] (v ∷ vs) h = absurd (omega arith)
parents_given (sh ∷ shapes) [] h = absurd (omega arith)
parents_given (sh ∷ shapes) (v ∷ vs) h = ap (λ (l : List ℕ). v ∷ l) (parents_given shapes vs (omega arith))

pub update_takes : (shapes : List PositionSyntax) (vs : List ℕ) → length shapes ≡ length vs → all_dynamic shapes vs ≡ true →
    ((k : ℕ) → k < length vs → get_or vs k 0 < 64) → verdict vs ≡ 0 → Takes (graph_update shapes) (packet shapes vs) (8 * length shapes) (with_parents shapes vs)
unfolding graph_update update_fields positions validate_graph demand
update_takes shapes vs h d l q =
    takes_last if_valid (positions_take 0 shapes vs h d l) (rw (parents_given shapes vs h, q) (takes_next _ tt takes_done))
