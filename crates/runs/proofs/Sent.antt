-- The parameters that the functions which read a packet have first, said once: bytes, offset, recording, words.
use Prim.Native.Nat.{ℕ}
use mathlib.Core.Path.{refl}
use mathlib.Core.List.{List, [], ◌∷◌, map}
use mathlib.Core.Bool.{Bool}
use mathlib.Core.Logic.{∥∥₁_map}
use mathlib.Core.Option.{none}
use mir.Syntax.{w8, w64}
use mir.Val.{Val, WT, WTs, of_list}
use base.Logic.{SProp, sep}
use prog.Memory.{Memory}
use prog.Routine.{Routine}
use types.Logic.{Logic}
use contract.Lifetimes.{Within}
use denote.Builtin as builtin
use denote.Plain.{uint_vals, bool_vals, uint_Makes, bool_Makes}
use denote.RattleType.{RattleType}
use denote.Laws.{Is, Tells, Makes}
use denote.Struct.Laws.{makes, owes}
use denote.Triple.Spec.{Meets}
use borrow.Fn.World.{World}
use Rattle.rules.specs.Reading.{Input}
use Rattle.rules.specs.Answer.{input_of}
use Rattle.position.specs.declared.PositionSyntax.{PositionSyntax}
use Rattle.position.specs.contracts.PositionSyntax as shape_row_lem
use Rattle.position.proofs.PositionSyntax.TheLaws as shape-laws
use Rattle.owner.specs.Cells.{Cells}
use Rattle.owner.specs.Machine.{AllOf}
use Rattle.owner.specs.Holds.{◌⊨◌}
use Rattle.owner.proofs.Returns.{written}
use Rattle.owner.proofs.Loans.{Kind, shared, mutable, value, Givens, Fits, Lefts, Made}
use Rattle.owner.proofs.Placed.{Placed, part_out, part_in, number_placed, number_lent}
use Rattle.owner.proofs.Owner.{T, Says, promised}
use Rattle.owner.proofs.Around.{Places, Has, Run, runs}
use Rattle.owner.proofs.Cells.{well_typed}
use Rattle.runs.specs.Sent.{Sent, SentFits, AllFit, Shapes}

module _ (n : ℕ) (first : Within n 0) (second : Within n 1) (ks : List (Kind n)) where
  abbrev pub sent_kinds : List (Kind n)
  sent_kinds =
      shared 0 first builtin.u8 ∷ value builtin.usize (uint_vals w64) ∷ value builtin.bool bool_vals ∷ mutable 1 second builtin.u64 ∷ ks

  abbrev pub sent_given : Sent → Givens ks → Givens sent_kinds
  sent_given p rest = ((p.share, p.bytes), (p.offset, (p.recording, (p.words, rest))))

  sent_fits : (p : Sent) → SentFits p → (rest : Givens ks) → Fits ks rest → Fits sent_kinds (sent_given p rest)
  sent_fits p ok rest fits = (ok.bytes, ((refl, ok.offset), (refl, (ok.words, fits))))

  -- of all that is left: the words, and what is left of the others
  abbrev pub words_left : Lefts sent_kinds → List ℕ
  words_left l = l.1.1.1.0

  abbrev pub rest_left : Lefts sent_kinds → Lefts ks
  rest_left l = l.1.1.1.1

-- what a contract reads of them
module _ {R : Type 0} (a : List ℕ × (ℕ × (Bool × (List ℕ × R)))) where
  abbrev pub input_in : Input
  input_in = input_of a.0 a.1.1.0 a.1.1.1.0

  abbrev pub offset_in : ℕ
  offset_in = a.1.0

  abbrev pub recording_in : Bool
  recording_in = a.1.1.0

  abbrev pub words_in : List ℕ
  words_in = a.1.1.1.0

  abbrev pub rest_in : R
  rest_in = a.1.1.1.1

module _ (w : World) where
  abbrev pub W : Logic w.𝓤
  W = w.𝓛

  abbrev pub bytes_placed : Placed w.𝓛 builtin.u8
  bytes_placed = number_placed W w8

  abbrev pub words_placed : Placed w.𝓛 builtin.u64
  words_placed = number_placed W w64

  pub shape_is : (d : PositionSyntax) → WT (shape-laws.lowered d) → Is shape_row_lem.the_row d (shape-laws.lowered d ∷ [])
  shape_is d t =
      let numbers = t.1.1 in
      owes shape_row_lem.the_type shape-laws.the_laws d
      (refl, (refl, ((refl, numbers.0.fits), ((refl, numbers.1.0.fits), ((refl, numbers.1.1.0.fits), (refl, tt))))))

  abbrev pub shapes_placed : Placed w.𝓛 shape_row_lem.the_row
  shapes_placed = record {
    type = shape-laws.mir;
    val = shape-laws.lowered;
    size_is = refl;
    goes_out = part_out W shape-laws.mir (shape_row_lem.the_row).own_val shape-laws.lowered (shape-laws.lowers).val_is
        (makes shape_row_lem.the_type shape-laws.the_plain w.𝓛) shape_is;
    comes_in = part_in W shape-laws.mir (shape_row_lem.the_row).own_val shape-laws.lowered (shape-laws.lowers).val_is
        (makes shape_row_lem.the_type shape-laws.the_plain w.𝓛) shape_is;
  }

  pub number_made : Makes w.𝓛 builtin.usize (Is builtin.usize)
  number_made = uint_Makes w.𝓛 w64

  -- shapes that lie in cells are values of their type
  all_fit : (ss : List PositionSyntax) → AllOf shape-laws.mir (map shape-laws.lowered ss) → AllFit ss
  all_fit [] a = tt
  all_fit (s ∷ ss) a = (a.0.1, all_fit ss a.1)

  pub shapes_fit : (d : Cells PositionSyntax) (σ : Memory) (F : SProp w.𝓤) → ◌⊨◌ w σ (sep w.𝓤 (Shapes w d) F) → ∥ AllFit d.held ∥₁
  shapes_fit d σ F s = ∥∥₁_map (well_typed w σ _ shape-laws.mir d.block F d.offset (map shape-laws.lowered d.held) s) (all_fit d.held)

pub all_shapes : (ss : List PositionSyntax) → AllFit ss → AllOf shape-laws.mir (map shape-laws.lowered ss)
all_shapes [] f = tt
all_shapes (s ∷ ss) f = ((tt, f.0), all_shapes ss f.1)

-- so are those of an array that is one
pub array_fits : (ss : List PositionSyntax) → WTs (of_list (map shape-laws.lowered ss)) → AllFit ss
array_fits [] t = tt
array_fits (s ∷ ss) t = (t.0, array_fits ss t.1)

-- a run of a function that has these parameters first
module _ (w : World) (n : ℕ) (first : Within n 0) (second : Within n 1) (ks : List (Kind n)) (ps : Places w.𝓛 ks)
    (R : RattleType) (low : R.Denot → Val) (ρ : Routine) (E : Says n (sent_kinds n first second ks) R) where
  abbrev kinds : List (Kind n)
  kinds = sent_kinds n first second ks

  abbrev places : Places w.𝓛 kinds
  places = (bytes_placed w, (tt, (tt, (words_placed w, ps))))

  pub sent_runs : Tells R (Is R) (λ r. low r ∷ [])
      → Meets w.𝓛 (T n kinds R).signature (w.𝓡.returns ρ) (written w (T n kinds R) (promised n kinds R none E) ρ)
      → Made w.𝓛 ks → (p : Sent) → SentFits p → (rest : Givens ks) → Fits ks rest → (σ : Memory) (F : SProp w.𝓤)
      → Has n kinds R low w places ρ E σ (sent_given n first second ks p rest) F →
      ∥ Run n kinds R low w places ρ E (sent_given n first second ks p rest) σ F ∥₁
  sent_runs tells met made p ok rest fits σ F holds =
      runs n kinds R low w places ρ E tells none met (number_lent w.𝓛 w8, (number_made w, (bool_Makes w.𝓛, (tt, made))))
      (sent_given n first second ks p rest) tt (sent_fits n first second ks p ok rest fits) σ F holds
