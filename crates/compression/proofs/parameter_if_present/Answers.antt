use mathlib.Core.Path.{◌≡◌, refl}
use mathlib.Core.Bool.{false}
use lib.Dec.{eqb}
use borrow.Author.Rules.{rules}
use Rattle.parser.proofs.Laws.{readings}
use Rattle.code_tables.specs.declared.TableKind.{TableKind}
use Rattle.code_tables.specs.declared.TableKind.TheVariants.{FirstProbabilities, SecondProbabilities, Codewords}
use Rattle.code_tables.specs.Kind.{code_of}
use Rattle.compression.specs.Compression.{parameter, parameter_if_present}
use Rattle.compression.proofs.parameter_if_present.Goals as goal

not_codewords : {kind : TableKind} → (kind ≡ Codewords → ⊥) → eqb (code_of kind) 3 ≡ false
not_codewords {kind = FirstProbabilities} h = refl
not_codewords {kind = SecondProbabilities} h = refl
not_codewords {kind = Codewords} h = absurd (h refl)

pub returns-in-Codewords : goal.returns-in-Codewords
unfolding parameter_if_present
returns-in-Codewords c = rw c.in-Codewords.is (search readings depth 14)

pub returns : goal.returns
unfolding parameter_if_present
returns c = rw (not_codewords c.in_default.not-Codewords) (c.if_flag.ensures parameter (λ p r q k. search rules))
