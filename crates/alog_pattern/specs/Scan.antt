-- The plain program that computes the items of a string, byte by byte.
use Rattle.std.specs.Prelude.{ℕ, ◌+◌, ◌-◌, ◌*◌, min, List, [], ◌∷◌, ◌++◌, true, false, Option, Some, None, ◌==◌, if◌then◌else◌}
use Rattle.std.specs.Option.{option_to_list}
use Rattle.std.specs.Char.{is_ascii_digit}
use Rattle.std.specs.Str.{byte}
use Rattle.alog_pattern.specs.declared.items.Side.TheVariants.{Right, Left, Centre}
use Rattle.alog_pattern.specs.declared.items.Padding.{Padding}
use Rattle.alog_pattern.specs.declared.items.Item.{Item}
use Rattle.alog_pattern.specs.declared.items.TheConstants.{WIDTH_MAX}
use Rattle.alog_pattern.specs.declared.items.Item.TheVariants as items
use Rattle.alog_pattern.specs.declared.scan.Scan.{Scan}
use Rattle.alog_pattern.specs.declared.scan.Scan.TheVariants.{Between, Opened, Sided, Wide, Cut}
use Rattle.alog_pattern.specs.declared.flags.Flag.{Flag}
use Rattle.alog_pattern.specs.Flag.{flag_of}

-- the item that a flag byte completes, behind a padding or none
abbrev pub unknown_item : Option Padding → ℕ → Item
unknown_item None b = items.Unknown b
unknown_item (Some p) b = if p.cut then items.Function p.width p.side b else items.Unknown b

abbrev pub item_by : Option Flag → Option Padding → ℕ → Item
item_by (Some flag) padding b = items.Flag flag padding
item_by None padding b = unknown_item padding b

abbrev pub completed : Option Padding → ℕ → Item
completed padding b = item_by (flag_of b) padding b

-- where a byte leaves the reading, and the item that it completes
abbrev pub step : Scan → ℕ → Scan × Option Item
step Between b = if b == byte "%" then (Opened, None) else (Between, Some (items.Byte b))
step Opened b =
    if b == byte "-" then (Sided Left, None)
    else (if b == byte "=" then (Sided Centre, None)
    else (if is_ascii_digit b then (Wide Right (b - byte "0"), None)
    else (Between, Some (completed None b))))
step (Sided side) b = if is_ascii_digit b then (Wide side (b - byte "0"), None) else (Between, Some (completed None b))
step (Wide side width) b =
    if is_ascii_digit b then (Wide side (min WIDTH_MAX (10 * width + (b - byte "0"))), None)
    else (if b == byte "!" then (Cut side width, None)
    else (Between, Some (completed (Some (record { width = width; side = side; cut = false })) b)))
step (Cut side width) b = (Between, Some (completed (Some (record { width = width; side = side; cut = true })) b))

-- the items of what is still to be read
abbrev pub items_from : Scan → List ℕ → List Item
items_from scan [] = []
items_from scan (b ∷ bs) = option_to_list (step scan b).1 ++ items_from (step scan b).0 bs

abbrev pub items_of : List ℕ → List Item
items_of bytes = items_from Between bytes
