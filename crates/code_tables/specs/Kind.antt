-- The types of compression that have tables, by the code's enum.
use Rattle.std.specs.Prelude.{ℕ}
use Rattle.code_tables.specs.declared.TableKind.{TableKind}
use Rattle.code_tables.specs.declared.TableKind.TheVariants.{FirstProbabilities, SecondProbabilities, Codewords}

abbrev pub code_of : TableKind → ℕ
code_of FirstProbabilities = 1
code_of SecondProbabilities = 2
code_of Codewords = 3
