-- A `&` to the bytes is made where one to a byte is. Assumes `Logic`.
use Rattle.std.proofs.Common.{length, refl, w8}
use denote.Array.{Array, Array-row_laws}
use denote.Builtin.{u8}
use denote.Param.Laws.{Laws, of_field}
use denote.Param.Shared.{copy_shared}
use denote.Plain.{uint_row_laws}
use denote.Shares.{Shares-Array}
use denote.Struct.Field.{u8-field}
use denote.Struct.Laws.{u8-laws, u8-copy}
use denote.Struct.Lending.{lent_at_shr_laws, Lends-lies, of_Lends}
use Rattle.alog_format.specs.contracts.block.Bytes as C
use Rattle.alog_format.proofs.block.Bytes.TheLaw.Statement.{statement}

abbrev byte_laws : Laws u8
byte_laws = of_field u8-field u8-laws refl (copy_shared u8-field u8-copy)

pub shares : statement
shares =
    of_Lends C.struct C.the_codes C.the_heap C.the_lent
    (λ d p. lent_at_shr_laws (Array u8 (length d.items)) (Array-row_laws u8 (uint_row_laws w8) (length d.items)) d.start d.items)
    tt
    (λ M 𝓤 𝓛 d p. Lends-lies 𝓛 (Array u8 (length d.items)) C.the_row.lives d.start d.items
    (Shares-Array 𝓛 u8 tt (length d.items) C.the_row.lives (byte_laws.shares 𝓛) d.items))
