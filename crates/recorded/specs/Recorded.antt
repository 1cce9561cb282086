-- What is lent to a call, before it and after it, and the answer of a text as a record has it.
use Rattle.std.specs.Prelude.{ℕ, Bool, List, map, drop, ◌+◌, ◌*◌, ◌%◌, ◌^◌}
use Rattle.std.specs.List.{range_with_len, enumerate_from, list_all}
use Rattle.rules.specs.declared.Answer.{Answer}
use Rattle.text.specs.declared.TextAnswer.{TextAnswer}

-- what is lent before a call, where each place has its own blank
abbrev pub blanks : {T : Type 0} → (ℕ → T) → ℕ → List T
blanks blank n = map blank (range_with_len 0 n)

-- the blank of a word: a pattern, and the place in its lowest 16 bits
abbrev pub blank_word : ℕ → ℕ
blank_word place = 2779096485 * 2 ^ 32 + place % 2 ^ 16

-- whether each place from one on has its blank
abbrev pub are_blank : {T : Type 0} → (T → T → Bool) → (ℕ → T) → ℕ → List T → Bool
are_blank same blank n lent = list_all (λ p. same p.1 (blank p.0)) (drop n (enumerate_from 0 lent))

-- the answer of a text, whose length stands in the place of the fields
abbrev pub text_answer : TextAnswer → Answer
text_answer a = record { outcome = a.outcome; position = a.position; fields = a.length }
