-- Where a text is cut: at its first space.
use Rattle.std.specs.Prelude.{◌≡◌, ◌≢◌, ◌++◌, ℕ, List, [], ◌∷◌, Option, Some, None}
use Rattle.std.specs.List.{AllByRecursion}

-- what follows a word: a space and the rest, or nothing
abbrev pub tail_of : Option (List ℕ) → List ℕ
tail_of None = []
tail_of (Some rest) = 32 ∷ rest

-- a word has no space
abbrev pub IsWord : List ℕ → Type 0
IsWord word = AllByRecursion (λ b. b ≢ 32) word

-- a text is this word, and after a space this rest, if there is one
abbrev pub IsCut : List ℕ → List ℕ → Option (List ℕ) → Type 0
IsCut text word rest = (text ≡ word ++ tail_of rest) × IsWord word
