-- The names of a compression configuration are known.
use Prim.Native.Nat.{ℕ, ◌+◌, ◌^◌, ◌<◌, ◌≤◌}
use mathlib.Core.Path.{refl}
use mathlib.Core.List.{[], ◌∷◌}
use lib.Ieee.{Float}
use lib.Pow.{pow_mono}
use Rattle.rules.specs.Leaf as leaf
use Rattle.probability.specs.Probability.{add_float, floats, add_integer, integers, probabilities}
use Rattle.code_tables.specs.Tables.{codeword, entries, table, table_count, tables}
use Rattle.lzw.specs.Lzw.{lzw_widths, lzw}
use Rattle.compression.specs.Compression.{parameter, parameter_if_present, padding, padded_tables, contents, metadata_compression}
use Rattle.numbers.specs.Meaning.{HasWords}
use Rattle.numbers.proofs.Distinct.{has_words}
use Rattle.laws.specs.Named.{Names}
use Rattle.laws.proofs.Named.{names_bind, names_weaker, escaped_value, count_value}
use Rattle.known_names.specs.Known.{Known, KnownNames}
use Rattle.known_names.proofs.Words.{Begun, firsts, thirds, known_leaf, begun_compression, begun_tables, known_names}

lzw_known : KnownNames lzw
unfolding lzw lzw_widths thirds
lzw_known = search (known_names, begun_compression) depth 8

-- the entries of a table, at most 4,096
module _ (q : ℕ) (b : Begun (5 ∷ []) 1 q) where
  codeword_known : (j : ℕ) → j < 4096 → KnownNames (codeword q j)
  unfolding codeword thirds
  codeword_known j h = search known_names

  add_float_known : (j : ℕ) (sum : Float) → j < 4096 → KnownNames (add_float q j sum)
  unfolding add_float thirds
  add_float_known j sum h = search known_names

  floats_known : (n : ℕ) → n ≤ 4096 → KnownNames (floats q n)
  unfolding floats
  floats_known n h = search (known_names, add_float_known)

  add_integer_known : (w j sum : ℕ) → j < 4096 → KnownNames (add_integer q w j sum)
  unfolding add_integer thirds
  add_integer_known w j sum h = search known_names

  integers_known : (w n : ℕ) → n ≤ 4096 → KnownNames (integers q w n)
  unfolding integers
  integers_known w n h = search (known_names, add_integer_known)

  probabilities_known : (n : ℕ) → n ≤ 4096 → KnownNames (probabilities q n)
  unfolding probabilities thirds
  probabilities_known n h = search (known_names, floats_known, integers_known)

  entries_known : (kind w : ℕ) → w ≤ 12 → KnownNames (entries kind q w)
  unfolding entries
  entries_known kind w h = let few : 2 ^ w ≤ 4096 = pow_mono h in search (known_names, codeword_known, probabilities_known)

table_known : (kind i : ℕ) → i < firsts 5 → KnownNames (table kind i)
unfolding table thirds
table_known kind i h = let b = begun_tables i h in search (known_names, entries_known)

table_count_value : Names Known HasWords (λ n. n ≤ 4096) table_count
unfolding table_count thirds
table_count_value =
    names_bind (escaped_value _ _ (known_leaf _ leaf.table_count_minus_one begun_compression refl))
    (λ n _. names_weaker (count_value (n + 1) 5 (has_words 6 refl)) (λ v q. q.1))

tables_known : (kind : ℕ) → KnownNames (tables kind)
unfolding tables firsts
tables_known kind = names_bind table_count_value (search (known_names, table_known))

parameter_known : KnownNames parameter
unfolding parameter thirds
parameter_known = search (known_names, begun_compression)

parameter_if_present_known : (kind : ℕ) → KnownNames (parameter_if_present kind)
unfolding parameter_if_present thirds
parameter_if_present_known kind = search (known_names, begun_compression, parameter_known)

padding_known : (start : ℕ) → KnownNames (padding start)
unfolding padding thirds
padding_known start = search (known_names, begun_compression)

padded_tables_known : (kind start : ℕ) → KnownNames (padded_tables kind start)
unfolding padded_tables
padded_tables_known kind start = search (known_names, tables_known, parameter_if_present_known, padding_known)

contents_known : (kind start w : ℕ) → KnownNames (contents kind start w)
unfolding contents thirds
contents_known kind start w = search (known_names, begun_compression, lzw_known, padded_tables_known)

pub metadata_compression_known : (kind size : ℕ) → KnownNames (metadata_compression kind size)
unfolding metadata_compression
metadata_compression_known kind size = search (known_names, contents_known) depth 12
