-- Texts as ASCII codes, a number in decimal, a line of both; and what every function promises that puts a text into lent bytes.
use Rattle.std.specs.Prelude.{ℕ, zero, suc, ◌+◌, ◌-◌, ◌*◌, ◌/◌, ◌%◌, ◌≤◌, ◌≡◌, List, [], ◌∷◌, ◌++◌, Bool, true, false, ◌&&◌, ltb, leb, eqb, length}
use Prim.Native.Char.{code}
use Prim.Native.String.{String, [] as none, ◌∷◌ as ◌then◌}
use Rattle.std.proofs.lemmas.List.Edits.{sets}
use Rattle.rules.specs.Rule.{pick}

-- the ASCII codes of a text
unfoldable pub ascii : String → List ℕ
ascii none = []
ascii (c then s) = code c ∷ ascii s

-- whether two texts are the same
unfoldable pub same_text : List ℕ → List ℕ → Bool
same_text [] [] = true
same_text [] (d ∷ ds) = false
same_text (c ∷ cs) [] = false
same_text (c ∷ cs) (d ∷ ds) = eqb c d && same_text cs ds

-- the code of a digit
abbrev pub digit : ℕ → ℕ
digit d = 48 + d

-- the decimal digits of a number that has at most `k`
unfoldable pub decimal_within : ℕ → ℕ → List ℕ
decimal_within zero n = []
decimal_within (suc k) n = pick (ltb n 10) [] (decimal_within k (n / 10)) ++ (digit (n % 10) ∷ [])

-- of a number of 64 bits, which has at most 20
unfoldable pub decimal : ℕ → List ℕ
decimal n = decimal_within 20 n

abbrev pub is_digit : ℕ → Bool
is_digit c = leb 48 c && leb c 57

-- the number that digits after `v` are
unfoldable pub value_after : ℕ → List ℕ → ℕ
value_after v [] = v
value_after v (d ∷ ds) = value_after (10 * v + (d - 48)) ds

abbrev pub newline : List ℕ
newline = 10 ∷ []

-- a line: words, each with the number after it
unfoldable pub line : List (String × ℕ) → List ℕ
line [] = newline
line (x ∷ xs) = (ascii x.0 ++ decimal x.1) ++ line xs

-- a text put at a place of the bytes: the place after it, and the bytes then, of which all others are as they were
pub record Put (before : List ℕ) (at : ℕ) (text : List ℕ) (to : ℕ) (after : List ℕ) : Type 0 where
  pub place : to ≡ at + length text
  pub bytes : after ≡ sets before at text

-- What a call promises that puts a line at the beginning of lent bytes, for which there is room.
pub record Lined (before text : List ℕ) (to : ℕ) (after : List ℕ) : Type 0 where
  pub put : Put before 0 text to after
  pub room : to ≤ length after
