-- 256 bytes are enough for the line of every outcome.
use Prim.Native.Nat.{ℕ, ◌≤◌}
use Prim.Native.String.{String}
use mathlib.Core.List.{[], ◌∷◌, ◌++◌}
use native.Mathlib.Omega.{arith}
use lib.ListN.{length}
use Rattle.rules.specs.declared.Answer.{Answer}
use Rattle.rules.specs.declared.Outcome.{Outcome}
use Rattle.rules.specs.declared.Outcome.TheVariants.{Read, Refused, Stopped}
use Rattle.text.specs.Text.{ascii, decimal, newline}
use Rattle.text.proofs.Lines.{both_most, number_most, widest, line_most}
use Rattle.numbers.specs.Meaning.{meaning}
use Rattle.numbers.proofs.Lengths.{meaning_most}
use Rattle.outcome_lines.specs.OutcomeLine.{end_line, outcome_text, outcome_line}

ended_most : (word : String) (n position : ℕ) → length (ascii word) ≤ 8 → length (end_line word n position) ≤ 256
unfolding end_line ascii
ended_most word n position h =
    let words = both_most (meaning n) newline {m = 59} {n = 1} (meaning_most n) (omega arith) in
    let after = both_most (ascii ": ") (meaning n ++ newline) {m = 2} {n = 60} (omega arith) words in
    let at = both_most (ascii " at " ++ decimal position) (ascii ": " ++ (meaning n ++ newline)) {m = 24} {n = 62} (number_most (ascii " at ") position {m = 4} (omega arith)) after in
    let most = both_most (ascii word ++ decimal n) ((ascii " at " ++ decimal position) ++ (ascii ": " ++ (meaning n ++ newline))) (number_most (ascii word) n h) at in
    omega arith

told_most : (o : Outcome) (position fields : ℕ) → length (outcome_text o position fields) ≤ 256
unfolding outcome_text widest ascii
told_most Read position fields = let most = line_most (("read ", position) ∷ (" fields ", fields) ∷ []) in omega arith
told_most (Refused n) position fields = ended_most "refused " n position (omega arith)
told_most (Stopped n) position fields = ended_most "stopped " n position (omega arith)

pub outcome_most : (a : Answer) → length (outcome_line a) ≤ 256
outcome_most a = told_most a.outcome a.position a.fields
