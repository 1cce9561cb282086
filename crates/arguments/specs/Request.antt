-- What `scene-fields` is asked for, by its arguments: a word, then K after `part`, then the bit, which may be left out.
use Rattle.std.specs.Prelude.{ℕ, List, [], ◌∷◌, Option, Some, None, option_map, option_and_then, map, if◌then◌else◌, bytes_eq, codes}
use Rattle.std.specs.Borrow.{Bor}
use Rattle.digits.specs.Digits.{number_in}
use Rattle.arguments.specs.declared.Request.{Request}
use Rattle.arguments.specs.declared.Request.TheVariants.{Scene, Metadata, Part}

-- the text of each argument
abbrev pub texts_of : List (Bor (List ℕ)) → List (List ℕ)
texts_of arguments = map (λ argument. argument.now) arguments

-- a bit that is left out is 0, and nothing stands after it
unfoldable pub bit_in : List (List ℕ) → Option ℕ
bit_in [] = Some 0
bit_in (bit ∷ []) = number_in bit
bit_in (bit ∷ next ∷ rest) = None

unfoldable pub part_in : List (List ℕ) → Option Request
part_in [] = None
part_in (part ∷ rest) = option_and_then (λ k. option_map (λ bit. Part k bit) (bit_in rest)) (number_in part)

unfoldable pub request_of : List (List ℕ) → Option Request
request_of [] = None
request_of (word ∷ rest) =
    if bytes_eq word (codes "scene") then option_map Scene (bit_in rest)
    else (if bytes_eq word (codes "metadata") then option_map Metadata (bit_in rest)
    else (if bytes_eq word (codes "part") then part_in rest else None))
