-- How pending bytes begin.
use Rattle.std.specs.Prelude.{◌≡◌, ◌≤◌, ◌<◌, ◌+◌, ℕ, zero, suc, Bool, true, List, [], ◌∷◌, length, take, drop}
use Rattle.alog_lines.specs.Lines.{IsUnbroken}
use Rattle.alog_lines.specs.declared.front.Front.{Front}
use Rattle.alog_lines.specs.declared.front.Front.TheVariants as front

-- So many bytes are a line, and so many behind it are its newline: one, or none where the reader is at its end with it.
abbrev pub IsLine : List ℕ → Bool → ℕ → ℕ → Type 0
IsLine bytes ended len zero = (len ≡ length bytes) × (ended ≡ true) × (0 < len)
IsLine bytes ended len (suc n) = (n ≡ 0) × (drop len bytes ≡ 10 ∷ drop (len + 1) bytes)

-- what is said of the bytes, by the most that a text has, and by whether the reader is at its end
abbrev pub Begins : List ℕ → ℕ → Bool → Front → Type 0
Begins bytes limit ended (front.Line len newline) =
    (len + newline ≤ length bytes) × (len ≤ limit) × IsUnbroken (take len bytes) × IsLine bytes ended len newline
Begins bytes limit ended front.Long = (limit < length bytes) × IsUnbroken (take (limit + 1) bytes)
Begins bytes limit ended front.Part = IsUnbroken bytes × (length bytes ≤ limit) × (ended ≡ true → bytes ≡ [])
