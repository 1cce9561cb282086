-- What each number means, in words: the table of docs/NUMBERS.md. A row's text ends at a bar. Numbers that
-- the papers do not have, 0 and 27 to 30 among them, have the words of row 0.
use Rattle.std.specs.Prelude.{ℕ, ◌≡◌, List, [], ◌∷◌, eqb}
use Prim.Native.Char.{code}
use Prim.Native.String.{String}
use Rattle.rules.specs.Rule.{pick}
use Rattle.text.specs.Table.{row}

unfoldable pub meanings : List String
meanings =
    "a number without a meaning|                                "
    ∷ "the input has more than 8,388,608 bytes|                   "
    ∷ "more than 63 shapes, or a precision above 24|              "
    ∷ "the bits asked for are not there|                          "
    ∷ "16,384 fields are counted already|                         "
    ∷ "no five words remain for the field|                        "
    ∷ "count above 4,096, or above what the bits left can hold|   "
    ∷ "no type 0 among 32 position extensions|                    "
    ∷ "a chain of parents leaves the declared positions|          "
    ∷ "a chain of parents closes a circle|                        "
    ∷ "no configuration is present|                               "
    ∷ "more than 128 global parameters|                           "
    ∷ "more than 128 renderer parameters|                         "
    ∷ "reverb type above 3|                                       "
    ∷ "matrix location above 2|                                   "
    ∷ "radiation type above 4|                                    "
    ∷ "component type above 4|                                    "
    ∷ "label not ended within 4,097 bytes|                        "
    ∷ "too few headphone bytes for the channels|                  "
    ∷ "compression bytes not inside the input, or not used up|    "
    ∷ "symbol width above 12|                                     "
    ∷ "codeword above 64 bits|                                    "
    ∷ "probability rules not kept, or parameter not finite|       "
    ∷ "show file of more than 65,536 bytes|                       "
    ∷ "header of the show file not sound|                         "
    ∷ "name word not known|                                       "
    ∷ "buffer too short for the text|                             "
    ∷ "a number without a meaning|                                "
    ∷ "a number without a meaning|                                "
    ∷ "a number without a meaning|                                "
    ∷ "a number without a meaning|                                "
    ∷ "room-geometry fallback not 0|                              "
    ∷ "64-bit radiation value|                                    "
    ∷ "HRTF type 2|                                               "
    ∷ "HRTF type above 2|                                         "
    ∷ "LZW initial width above 15, or greatest width above 16|    "
    ∷ "not as many new parents as shapes|                         "
    ∷ "the parent that changes is not dynamic|                    "
    ∷ "buffer too short for the packet|                           "
    ∷ "eight or more bits follow, or one of them is 1|            "
    ∷ []

-- the text of a row
unfoldable pub up_to_bar : List ℕ → List ℕ
up_to_bar [] = []
up_to_bar (c ∷ cs) = pick (eqb c (code "|")) [] (c ∷ up_to_bar cs)

unfoldable pub meaning : ℕ → List ℕ
meaning n = up_to_bar (row meanings n)

-- a number that has words: they are not those of a number without a meaning
pub record HasWords (n : ℕ) : Type 0 where
  pub words : meaning n ≡ meaning 0 → ⊥
