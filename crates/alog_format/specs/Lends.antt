-- What the bytes of a block end as, once a `&mut` to places of them has ended.
use Rattle.std.specs.Prelude.{ℕ, ◌^◌, ◌<◌, List, length, refl}
use mathlib.Core.Path.{subst}
use Rattle.std.specs.Borrow.{Fml, MutBor, Array, Lends, u8}
use Rattle.std.specs.List.{refill, length_refill}
use Rattle.alog_format.specs.Block.{overwritten}
use Rattle.alog_format.specs.declared.block.Bytes.{Bytes}
use Rattle.alog_format.specs.contracts.block.Bytes.{the_row}

-- b with the bytes xs. Where they are fewer or more, they are filled up from b's or cut
abbrev pub with_bytes : Bytes → List ℕ → Bytes
with_bytes b xs =
    let same = length_refill (length b.items) b.items xs refl in
    record { start = b.start; items = refill (length b.items) b.items xs; small = subst (λ n. n < 2 ^ 63) same b.small }

-- r are places of b from `at` on
abbrev pub lends_places : MutBor Bytes → ℕ → MutBor (List ℕ) → Fml
lends_places b at r = Lends the_row (Array u8 0) b r (λ ws. with_bytes b.now (overwritten b.now.items at ws))
