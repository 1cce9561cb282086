-- A run of an update: of shapes by value, of lent shapes, and of lent shapes as it is exported.
use Rattle.std.specs.Prelude.{ℕ, ◌<◌, ◌^◌, ◌≡◌, List, [], ◌∷◌, map, length, take, drop}
use Rattle.std.specs.Int.{w64}
use mir.Val.{Val, vint}
use base.Logic.{SProp, sep}
use prog.Memory.{Memory}
use prog.Routine.{Env, Routine}
use prog.Wired.{Code}
use denote.Array.{array_val}
use borrow.Fn.World.{World}
use Rattle.position.specs.declared.PositionSyntax.{PositionSyntax}
use Rattle.position.proofs.PositionSyntax.TheLaws as shape
use Rattle.validation.specs.declared.GraphAnswer.{GraphAnswer}
use Rattle.validation.specs.Validation.{GraphAnswered}
use Rattle.validation.proofs.GraphAnswer.TheLaws as lent-answer
use Rattle.update.specs.Update.{update_reading}
use Rattle.update.proofs.UpdateAnswer.TheLaws as value-answer
use Rattle.update.proofs.graph_update.Symbol.{name as value_update, code as value_code}
use Rattle.lent.proofs.graph_update.Symbol.{name as lent_update, code as lent_code}
use Rattle.exported.specs.Exported.{exported_graph}
use Rattle.exported.proofs.GatewayGraphAnswer.TheLaws as exported-answer
use Rattle.gateway.proofs.gateway_update.Symbol.{name as exported_update, code as exported_code}
use Rattle.owner.specs.Cells.{Cells, refilled, Slice, slice}
use Rattle.owner.specs.Machine.{Ran}
use Rattle.owner.specs.Holds.{◌⊨◌}
use Rattle.runs.specs.Sent.{Variant, plain, exported, Sent, passed, input_sent, AllFit, Shapes, SentInCells}

-- `update::graph_update`, which has its shapes by value, and `lent::graph_update` or `gateway_update`, which are lent them
pub data Form : Type 0 where
  by_value : Form
  lent : Variant → Form

-- as they are in the environment γ; and the code that γ has of each, with that of what it calls, where it is `Wired` for it
abbrev pub update_routine : Env → Form → Routine
update_routine γ by_value = γ value_update
update_routine γ (lent plain) = γ lent_update
update_routine γ (lent exported) = γ exported_update

abbrev pub update_code : Form → Code
update_code by_value = value_code
update_code (lent plain) = lent_code
update_code (lent exported) = exported_code

-- an array of shapes, of which the first `count` are in use
pub record Counted : Type 0 where
  pub shapes : List PositionSyntax
  pub count : ℕ

-- the shapes that a call is handed: by value, or in cells
abbrev pub Handed : Form → Type 0
Handed by_value = Counted
Handed (lent v) = Cells PositionSyntax

pub record CountedFits (h : Counted) : Type 0 where
  pub all : length h.shapes ≡ 63
  pub fit : AllFit h.shapes
  pub count : h.count < 2 ^ 64

abbrev pub HandedFits : (f : Form) → Handed f → Type 0
HandedFits by_value h = CountedFits h
HandedFits (lent v) d = Slice 40 d

abbrev pub handed_values : (f : Form) → Handed f → List Val
handed_values by_value h = array_val (map shape.lowered h.shapes) ∷ vint w64 h.count ∷ []
handed_values (lent v) d = slice d ∷ []

-- all the shapes that are handed; how many are in use; and which of all shapes those are
abbrev pub all_of : (f : Form) → Handed f → List PositionSyntax
all_of by_value h = h.shapes
all_of (lent v) d = d.held

abbrev pub count_of : (f : Form) → Handed f → ℕ
count_of by_value h = h.count
count_of (lent v) d = length d.held

abbrev pub used : (f : Form) → Handed f → List PositionSyntax → List PositionSyntax
used by_value h ss = take h.count ss
used (lent v) d ss = ss

-- those that are not in use are as they came
abbrev pub OthersKept : (f : Form) → Handed f → List PositionSyntax → Type 0
OthersKept by_value h ss = drop h.count ss ≡ drop h.count h.shapes
OthersKept (lent v) d ss = Unit {0}

-- the machine's value of what is returned: of an answer, and by value of the shapes with it
abbrev pub update_value : Form → GraphAnswer → List PositionSyntax → Val
update_value by_value a ss = value-answer.lowered (record { graph = a; shapes = ss })
update_value (lent plain) a ss = lent-answer.lowered a
update_value (lent exported) a ss = exported-answer.lowered (exported_graph a)

-- what is handed, with these shapes in its cells, beside F
abbrev pub HandedInCells : (w : World) (f : Form) → Handed f → List PositionSyntax → SProp w.𝓤 → SProp w.𝓤
HandedInCells w by_value h ss F = F
HandedInCells w (lent v) d ss F = sep w.𝓤 (Shapes w (refilled d ss)) F

-- A run from the memory σ, beside F. It ends, with the machine's value of an answer, in a memory that holds the bytes as they
-- were, the words and the lent shapes as they were left, no more and no fewer, and F as it was. Answer, shapes and words are
-- as the update's reading has them. By value the shapes are those of what is returned.
pub record Updated (w : World) (γ : Env) (f : Form) (p : Sent) (h : Handed f) (σ : Memory) (F : SProp w.𝓤) : Type 1 where
  pub answer : GraphAnswer
  pub words : List ℕ
  pub shapes : List PositionSyntax
  pub memory : Memory
  pub ran : Ran (update_routine γ f) (passed p (handed_values f h)) σ (update_value f answer shapes) memory
  pub words_many : length words ≡ length p.words.held
  pub shapes_many : length shapes ≡ length (all_of f h)
  pub shapes_fit : AllFit shapes
  pub holds : ◌⊨◌ w memory (SentInCells w p words (HandedInCells w f h shapes F))
  pub answered :
      GraphAnswered (update_reading (input_sent p) p.offset (count_of f h) (used f h (all_of f h))) (used f h (all_of f h)) p.recording p.words.held
      answer (used f h shapes) words
  pub others_kept : OthersKept f h shapes
