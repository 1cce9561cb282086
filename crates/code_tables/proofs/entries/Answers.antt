use mathlib.Core.Path.{◌≡◌, refl}
use mathlib.Core.Bool.{false}
use mathlib.Core.Logic.{◌⊎◌, inl, inr}
use borrow.Author.Rules.{rules}
use lib.Dec.{eqb}
use Rattle.code_tables.specs.declared.TableKind.{TableKind}
use Rattle.code_tables.specs.declared.TableKind.TheVariants.{FirstProbabilities, SecondProbabilities}
use Rattle.code_tables.specs.Kind.{code_of}
use Rattle.code_tables.specs.Tables.{codeword, entries}
use Rattle.code_tables.proofs.entries.Goals as goal

-- a type whose tables are of probabilities
of_probabilities : {kind : TableKind} → (kind ≡ FirstProbabilities) ⊎ (kind ≡ SecondProbabilities) → eqb (code_of kind) 3 ≡ false
of_probabilities (inl e) = rw e refl
of_probabilities (inr e) = rw e refl

pub returns-in-FirstProbabilities : goal.returns-in-FirstProbabilities
unfolding entries
returns-in-FirstProbabilities c = rw (of_probabilities c.in-FirstProbabilities.is, ← c.symbols-n.ensures.0) c.probabilities.ensures

pub returns-in-Codewords : goal.returns-in-Codewords
unfolding entries
returns-in-Codewords c = rw (c.in-Codewords.is, ← c.symbols-n.ensures.0) (c.each.ensures (codeword c.args.q.word) (λ i h p r q k. search rules))
