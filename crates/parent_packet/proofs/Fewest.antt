-- The rules of an update read no fewer bits than the packet has, and as many are the packet's.
use Prim.Native.Nat.{ℕ, zero, suc, ◌+◌, ◌<◌, ◌≤◌}
use mathlib.Core.Path.{◌≡◌, refl, ap₂}
use mathlib.Core.List.{List, [], ◌∷◌, ◌++◌, append-nil}
use mathlib.Core.Bool.{Bool, true, false}
use mathlib.Core.Logic.{◌⊎◌, inl, inr}
use native.Mathlib.Omega.{arith}
use borrow.Author.Tests.{eq-eqb, ne_eqb}
use lib.Dec.{eqb}
use lib.ListN.{length, length-append}
use Rattle.rules.proofs.Laws.{never}
use Rattle.rules.proofs.Pick.{by_pick}
use Rattle.coordinates.specs.Coordinates.{coordinate_values}
use Rattle.rules.specs.Leaf as leaf
use Rattle.rules.specs.Rule.{Rule, done, ends, refused, pick, ◌>>=◌}
use Rattle.rules.specs.Derived.{each, demand}
use Rattle.position.specs.declared.PositionSyntax.{PositionSyntax}
use Rattle.position.specs.Shape.{with_polar}
use Rattle.position.specs.Position.{header, changed, new_parent, parent, range, flag_unless, coordinates, coordinates_if_present, rotation, before_range, after_range, position}
use Rattle.extensions.specs.Extensions.{extension, extensions, extensions_if_present}
use Rattle.positions.specs.Positions.{updated_position, position_at, positions}
use Rattle.ranks.specs.Rank.{verdict}
use Rattle.validation.specs.Validation.{parents, validate_graph}
use Rattle.update.specs.Update.{update_fields, graph_update}
use Rattle.bit_writer.specs.Bits.{bits_of}
use Rattle.parent_packet.specs.Packet.{parent_bits, range_bits, changed_bits, position_bits, packet}
use Rattle.parent_packet.proofs.Bits.{Reads, reads_bind, reads_done, reads_next, reads_ended, reads_take, reads_flag, reads_any, reads_weaker}

-- bits that are those of a code, or more than it has
abbrev pub NoFewer : List ℕ → List ℕ → Type 0
NoFewer code bs = (bs ≡ code) ⊎ (length code < length bs)

long : {code bs : List ℕ} → NoFewer code bs → length code ≤ length bs
long (inl e) = rw e (omega arith)
long (inr h) = omega arith

-- one code after another
pub both : (code bs more cs : List ℕ) → NoFewer code bs → NoFewer more cs → NoFewer (code ++ more) (bs ++ cs)
both code bs more cs (inl e) (inl f) = inl (ap₂ (λ (k l : List ℕ). k ++ l) e f)
both code bs more cs (inl e) (inr g) = inr (rw (length-append, length-append, e) (omega arith))
both code bs more cs (inr h) f = inr (rw (length-append, length-append) (omega (arith, long f)))

-- the parent: a range that is dynamic stays so, and a parent that changes has its bits
abbrev OfParent : PositionSyntax → PositionSyntax → List ℕ → Type 0
OfParent sh a bs = (a.range_dynamic ≡ sh.range_dynamic) × (eqb sh.parent a.parent ≡ false → NoFewer (1 ∷ parent_bits a.parent) bs)

kept : (sh : PositionSyntax) (bs : List ℕ) → OfParent sh sh bs
kept sh bs = (refl, λ h. never (eq-eqb sh.parent sh.parent refl) h)

indexed : (v : ℕ) → NoFewer (1 ∷ parent_bits v) (1 ∷ 0 ∷ (bits_of 6 v ++ []))
unfolding bits_of
indexed zero = inr (omega arith)
indexed (suc v) = let some : suc v ≡ 0 → ⊥ = (λ e. omega arith) in inl (rw (append-nil, ne_eqb (suc v) 0 some) refl)

new_parent_reads : (p : ℕ) (sh : PositionSyntax) → Reads (λ a bs. OfParent sh a (1 ∷ bs)) (new_parent p sh)
unfolding new_parent
new_parent_reads p sh = reads_flag _ _ (reads_take _ 6 _ (λ v l. reads_done (refl, λ _. indexed v))) (reads_done (refl, λ _. inl refl))

parent_reads : (p : ℕ) (sh : PositionSyntax) → Reads (OfParent sh) (parent p sh false)
unfolding parent changed
parent_reads p sh =
    by_pick (λ r. Reads (OfParent sh) (r >>= (λ there. pick there (new_parent p sh) (done sh)))) sh.parent_dynamic _ _
    (λ _. reads_flag _ _ (reads_done (kept sh _)) (new_parent_reads p sh))
    (λ _. reads_next _ _ (reads_done (kept sh _)))

range_reads : (p : ℕ) (dynamic : Bool) → Reads (λ u bs. NoFewer (range_bits dynamic) bs) (range p dynamic false)
unfolding range changed bits_of
range_reads p true = reads_flag _ _ (reads_done (inl refl)) (reads_take _ 4 _ (λ v l. reads_done (inr (omega arith))))
range_reads p false = reads_next _ _ (reads_done (inl refl))

-- a part that is there has a bit at least after its flag
abbrev More : List ℕ → Type 0
More bs = 1 ≤ length bs

-- what is read first, and then anything
first_more : {A B : Type 0} {r : Rule A} (f : A → Rule B) → Reads (λ a bs. More bs) r → Reads (λ b bs. More bs) (r >>= f)
first_more f t = reads_bind t (λ a bs h. reads_weaker reads_any (λ b cs _. rw length-append (omega arith)))

coordinates_reads : (p : ℕ) (sh : PositionSyntax) → Reads (λ a bs. (a.parent ≡ sh.parent) × More bs) (coordinates p sh false)
unfolding coordinates flag_unless
coordinates_reads p sh = reads_flag _ _ (after 0 false) (after 1 true)
  where
    after : (b : ℕ) (delta : Bool) →
        Reads (λ a bs. (a.parent ≡ sh.parent) × More (b ∷ bs)) (flag_unless (p + leaf.polar) delta sh.polar >>= (λ polar. coordinate_values p polar sh.position_precision delta >>= (λ _. done (with_polar sh polar))))
    after b delta = reads_bind reads_any (λ polar bs _. reads_bind reads_any (λ _ cs _. reads_done (refl, omega arith)))

coordinates_if_present_reads : (p : ℕ) (sh : PositionSyntax) → Reads (λ a bs. (a.parent ≡ sh.parent) × NoFewer (0 ∷ []) bs) (coordinates_if_present p sh false)
unfolding coordinates_if_present
coordinates_if_present_reads p sh =
    reads_flag _ _ (reads_done (refl, inl refl)) (reads_weaker (coordinates_reads p sh) (λ a bs h. (h.0, inr (omega (arith, h.1)))))

rotation_reads : (p precision : ℕ) → Reads (λ u bs. NoFewer (0 ∷ []) bs) (rotation p precision false)
unfolding rotation flag_unless
rotation_reads p precision =
    reads_flag _ _ (reads_done (inl refl))
    (reads_flag _ _ (reads_weaker reads_any (λ u bs _. inr (omega arith))) (reads_weaker reads_any (λ u bs _. inr (omega arith))))

extension_reads : (q : ℕ) → Reads (λ more bs. More bs) (extension q)
unfolding extension bits_of
extension_reads q = reads_take _ 4 _ (λ v l. reads_weaker reads_any (λ more bs _. omega arith))

extensions_reads : (q : ℕ) → Reads (λ u bs. More bs) (extensions 32 q)
unfolding extensions
extensions_reads q = first_more _ (extension_reads q)

extensions_if_present_reads : (p : ℕ) → Reads (λ u bs. NoFewer (0 ∷ []) bs) (extensions_if_present p)
unfolding extensions_if_present
extensions_if_present_reads p = reads_flag _ _ (reads_done (inl refl)) (reads_weaker (extensions_reads p) (λ u bs h. inr (omega arith)))

after_range_reads : (p : ℕ) (sh : PositionSyntax) → Reads (λ a bs. (a.parent ≡ sh.parent) × NoFewer (0 ∷ 0 ∷ 0 ∷ []) bs) (after_range p sh false)
unfolding after_range
after_range_reads p sh =
    reads_bind (coordinates_if_present_reads p sh) (λ a bs h.
    reads_bind (rotation_reads p _) (λ _ cs k.
    reads_bind (extensions_if_present_reads p) (λ _ ds m.
    reads_done (h.0, rw append-nil (both _ _ _ _ h.1 (both _ _ _ _ k m))))))

-- a position of an update, whether its parent changes or not
abbrev OfPosition : PositionSyntax → PositionSyntax → List ℕ → Type 0
OfPosition sh a bs = More bs × (eqb sh.parent a.parent ≡ false → NoFewer (changed_bits sh a.parent) (1 ∷ bs))

together : (sh a b : PositionSyntax) (bs cs ds : List ℕ) → OfParent sh a bs → NoFewer (range_bits a.range_dynamic) cs →
    (b.parent ≡ a.parent) × NoFewer (0 ∷ 0 ∷ 0 ∷ []) ds → OfPosition sh b (bs ++ (cs ++ ds))
together sh a b bs cs ds h k m =
    let l = long m.1 in
    let range : NoFewer (range_bits sh.range_dynamic) cs = rw h.0 at k in (
      rw (length-append, length-append) (omega arith),
      rw m.0 (λ e. both (1 ∷ []) (1 ∷ []) _ _ (inl refl) (both (1 ∷ parent_bits a.parent) bs _ _ (h.1 e) (both _ _ _ _ range m.1))),
    )

position_reads : (p : ℕ) (sh : PositionSyntax) → Reads (OfPosition sh) (position p sh false)
unfolding position before_range header
position_reads p sh =
    reads_bind (reads_next sh _ (parent_reads p sh)) (λ a bs h.
    reads_bind (range_reads p a.range_dynamic) (λ _ cs k.
    reads_weaker (after_range_reads p a) (λ b ds m. together sh a b bs cs ds h k m)))

updated_position_reads : (p : ℕ) (sh : PositionSyntax) → Reads (λ a bs. NoFewer (position_bits sh a.parent) bs) (updated_position p sh)
unfolding updated_position position_bits
updated_position_reads p sh =
    reads_flag _ _ (reads_done (rw (eq-eqb sh.parent sh.parent refl) (inl refl)))
    (reads_weaker (position_reads p sh) (λ a bs h. by_pick (λ code. NoFewer code (1 ∷ bs)) (eqb sh.parent a.parent) _ _ (λ _. inr (omega (arith, h.0))) (λ e. h.1 e)))

positions_reads : (i : ℕ) (shapes : List PositionSyntax) → Reads (λ l bs. NoFewer (packet shapes (parents l)) bs) (each (position_at false) i shapes)
unfolding each packet position_at
positions_reads i [] = reads_done (inl refl)
positions_reads i (sh ∷ shapes) =
    reads_bind (updated_position_reads _ sh) (λ a bs h.
    reads_bind (positions_reads (i + 1) shapes) (λ l cs k.
    reads_done (rw append-nil (both _ _ _ _ h k))))

pub update_reads : (shapes : List PositionSyntax) → Reads (λ l bs. NoFewer (packet shapes (parents l)) bs) (graph_update shapes)
unfolding graph_update update_fields positions validate_graph demand
update_reads shapes =
    reads_bind (positions_reads 0 shapes) (λ l bs h.
    let same : NoFewer (packet shapes (parents l)) (bs ++ []) = rw append-nil h in
    let end = refused (verdict (parents l)) in
    by_pick (λ r. Reads (λ a cs. NoFewer (packet shapes (parents a)) (bs ++ cs)) (r >>= (λ _. done l))) (eqb (verdict (parents l)) 0) (done tt) (ends end)
    (λ _. reads_next tt (λ _. done l) (reads_done same))
    (λ _. reads_ended end (λ _. done l)))
