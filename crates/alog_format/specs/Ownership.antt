-- What the parts of a block own and lend.
--     bytes_own      the bytes xs at p
--     bytes_lent     what a `&` to them shows
--     rest_own       a vector but for its bytes: its words, the room behind them, and the right to free the block
--     Span         where the bytes of a block begin, and how many there are
use Rattle.std.specs.Prelude.{ℕ, ◌-◌, ◌*◌, ◌^◌, List, [], ◌∷◌, length, refl}
use Rattle.std.specs.Allocator.{array_of}
use Rattle.std.specs.Coded.{Coded, code_by, coded×, coded_ℕ}
use Rattle.std.specs.Vec.Ownership.{owns_if, has_block}
use Rattle.std.specs.contracts.alloc.Global as Global
use Rattle.std.specs.contracts.impls.GlobalAllocator.TheImpl.{ghosts}
use Rattle.std.specs.contracts.vec.Vec as Vecs
use base.Fraction.{full_share}
use base.Fml.{Lft, Fml, fsep, flt}
use denote.Array.{Array}
use denote.Builtin.{u8}
use denote.Memory.{lone}
use denote.RattleType.{RattleType}
use denote.RawPtr.{Ptr, coded_ptr, lies_at, room_for, in_block, ◌+ₚ◌}
use denote.Struct.Lending.{lent_at}
use denote.Struct.Owning.{shape}
use denote.Struct.Struct.{Struct}
use mir.Val.{Val}
use prog.Memory.{size}

abbrev pub bytes_own : Ptr → List ℕ → Fml
bytes_own p xs = lies_at (Array u8 (length xs)) full_share p xs

abbrev pub bytes_lent : Ptr → List ℕ → Lft → Fml
bytes_lent p xs = lent_at (Array u8 (length xs)) p xs

-- a vector of bytes, and its words alone: pointer, length, capacity and allocator
abbrev pub V : RattleType
V = Vecs.the_row u8 Global.the_row ghosts

abbrev pub Words : RattleType
Words = Struct (shape (Vecs.the_type u8 Global.the_row ghosts))

abbrev pub words_of : V.Denot → Words.Denot
words_of v = (v.ptr, (v.len, (v.cap, (v.alloc, tt))))

-- a struct with one field
abbrev pub Around : RattleType → RattleType
Around R = Struct (record { name = []; args = []; types = []; fields = R ∷ [] })

-- the room of a block behind its first v.len bytes, and the right to free it
abbrev pub room_own : V.Denot → Fml
room_own v =
    fsep (room_for (array_of u8 (v.cap - v.len)) (v.ptr +ₚ v.len * size (lone u8.mir)))
    (ghosts.dealloc_token v.alloc (array_of u8 v.cap) v.ptr)

abbrev pub rest_own : V.Denot → List Val → Fml
rest_own v vs =
    fsep ((Around Words).own_val (words_of v, tt) vs)
    (fsep (flt (v.cap * size (lone u8.mir)) (2 ^ 63)) (in_block v.ptr (owns_if (has_block v.cap) (room_own v))))

pub record Span : Type 0 where
  pub start : Ptr
  pub len : ℕ

-- it is kept as the pair of its fields
abbrev pub span_code : Coded Span
span_code = code_by (Ptr × ℕ) (coded× coded_ptr coded_ℕ) (λ e. (e.start, e.len)) (λ p. record { start = p.0; len = p.1 }) (λ _. refl)
