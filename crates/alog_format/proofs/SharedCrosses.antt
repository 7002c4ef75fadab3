-- What the parts of a block own and show names no thread, and neither does a context.
use Rattle.std.proofs.Common.{ℕ, List, [], Bool, true, false, length}
use mir.Val.{Val}
use base.Fml.{Fml, ftrue, fsep}
use base.Fraction.{full_share}
use base.Shift.{Keyless}
use denote.Array.{Array}
use denote.Builtin.{u8}
use denote.RawPtr.{Ptr, block_ptr, null_ptr, block_of, count_of, in_block}
use denote.Param.Send.{IsSend, IsSync, Common, part_keyless, array_send, array_sync, sendable, struct_sync, owning_send}
use denote.Struct.Owning.{shape, to}
use Rattle.std.specs.Vec.Ownership.{owns_if, has_block}
use Rattle.std.proofs.Crossing.{Vec-send}
use Rattle.jiff_tz.specs.contracts.posix.Day as Day
use Rattle.jiff_tz.specs.contracts.posix.DayTime as DayTime
use Rattle.jiff_tz.specs.contracts.posix.Dst as Dst
use Rattle.jiff_tz.specs.contracts.posix.TimeZone as TimeZone
use Rattle.alog_format.specs.Ownership.{V, bytes_own, bytes_lent, room_own, rest_own}
use Rattle.alog_format.specs.contracts.block.Bytes as Bytes
use Rattle.alog_format.specs.contracts.block.Deed as Deed
use Rattle.alog_format.specs.contracts.context.Context as Context
use Rattle.alog_format.specs.contracts.context.Zone as Zone

byte-send : IsSend u8
byte-send = search sendable

byte-sync : IsSync u8
byte-sync = search sendable

own-keyless : (p : Ptr) (xs : List ℕ) → Keyless (bytes_own p xs)
own-keyless (block_ptr b o) xs = part_keyless (Array u8 (length xs)) (array_send u8 (length xs) byte-send) full_share xs b o
own-keyless null_ptr xs = tt

in-keyless : (p : Ptr) → Keyless (in_block p ftrue)
in-keyless (block_ptr b o) = tt
in-keyless null_ptr = tt

lent-common : (p : Ptr) (xs : List ℕ) → Common (bytes_lent p xs)
lent-common p xs κ = (in-keyless p, (array_sync u8 (length xs) byte-sync).shared xs (block_of p) (count_of p) κ)

pub bytes-send : IsSend Bytes.the_row
bytes-send = owning_send Bytes.the_type tt (λ d. own-keyless d.start d.items) (λ k x w. tt)

pub bytes-sync : IsSync Bytes.the_row
bytes-sync = record {
  shared = λ d b o κ. (
    (struct_sync (shape Bytes.the_type) tt).shared (to Bytes.the_type d) b o κ,
    lent-common d.start d.items κ,
  );
}

-- what a vector owns names no thread, so neither does a part of it
without_first : (p : Ptr) (y : Bool) (A B : Fml) → Keyless (in_block p (owns_if y (fsep A B))) → Keyless (in_block p (owns_if y B))
without_first (block_ptr b o) true A B h = h.1
without_first (block_ptr b o) false A B h = tt
without_first null_ptr y A B h = h

rest-keyless : (v : V.Denot) (vs : List Val) → Keyless (rest_own v vs)
rest-keyless v vs =
    let whole : (ws : List Val) → Keyless (V.own_val v ws) = λ ws. (Vec-send u8 byte-send).owned v ws in
    ((λ vss. (tt, ((whole vss.0).0, tt))), (tt, without_first v.ptr (has_block v.cap) _ (room_own v) (whole []).1.1))

pub deed-send : IsSend Deed.the_row
deed-send = record {
  owned = λ e vs. ((λ _. tt), λ v. (tt, (tt, rest-keyless v.vec vs)));
  leaving = λ k x w. tt;
}

pub deed-sync : IsSync Deed.the_row
deed-sync = record { shared = λ e b o κ. tt }

day_send : IsSend Day.the_row
day_send = search sendable depth 40

day_time_send : IsSend DayTime.the_row
day_time_send = search (sendable, day_send) depth 20

dst_send : IsSend Dst.the_row
dst_send = search (sendable, day_time_send) depth 40

time_zone_field_send : IsSend (TimeZone.the_field).row
time_zone_field_send = search (sendable, dst_send) depth 60 fits 50000

zone_field_send : IsSend (Zone.the_field).row
zone_field_send = search (sendable, time_zone_field_send) depth 20

pub context_field_send : IsSend (Context.the_field).row
context_field_send = search (sendable, zone_field_send) depth 20
