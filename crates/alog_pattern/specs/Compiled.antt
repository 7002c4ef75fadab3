-- What callers see of a compiled pattern.
use Rattle.std.specs.Prelude.{ℕ, ◌≤◌, List}
use Rattle.alog_msg.specs.declared.limits.TheConstants.{TEXT_LIMIT_MIN, TEXT_LIMIT_MAX}
use Rattle.alog_pattern.specs.declared.items.Item.{Item}
use Rattle.alog_pattern.specs.Length.{longest_line}

-- its items, and the greatest length of a message's text that it is made for
pub record Compiled : Type 0 where
  pub items : List Item
  pub text_limit : ℕ

-- the longest line, with its newline
abbrev pub longest : Compiled → ℕ
longest p = longest_line p.text_limit p.items

abbrev pub IsTextLimit : ℕ → Type 0
IsTextLimit limit = (TEXT_LIMIT_MIN ≤ limit) × (limit ≤ TEXT_LIMIT_MAX)
