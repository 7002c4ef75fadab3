-- A loss book may be shared and may go to other threads, and so may its seats, and a pace.
use denote.Builtin.{u64, unit}
use denote.Param.Send.{IsSend, IsSync, sendable, view_send, view_sync, struct_send, struct_sync, recorded_send, recorded_sync}
use denote.Struct.Declared.{shape}
use Rattle.std.proofs.Crossing.{frees, send as heap_send, sync as heap_sync}
use Rattle.std.specs.contracts.alloc.Global as Global
use Rattle.std.specs.contracts.impls.GlobalAllocator.TheImpl.{ghosts as alloc_ghosts}
use Rattle.std.specs.contracts.option.Option as Option
use Rattle.atomic_table.proofs.shared.Seat.TheSendSync.{the_send as table_seat_send}
use Rattle.atomic_table.proofs.owned.Table.TheSendSync.{the_field_send as table_field_send, the_field_sync as table_field_sync}
use Rattle.alog_policy.specs.contracts.book_seat.BookSeat as BookSeat
use Rattle.alog_policy.specs.contracts.book_seat.BookSeat.TheInside as SeatInside
use Rattle.alog_policy.specs.contracts.book_view.View as View
use Rattle.alog_policy.specs.contracts.book_view.Law as Law
use Rattle.alog_policy.specs.contracts.book_view.LawTableRuleUnitViewUnit.TheImpl as LawRule
use Rattle.alog_policy.specs.contracts.loss_book.LossBook as LossBook
use Rattle.alog_policy.specs.contracts.loss_book.LossBook.TheInside as BookInside
use Rattle.alog_policy.specs.contracts.room_wait.Pace as Pace

number_send : IsSend u64
number_send = search sendable

unit_send : IsSend unit
unit_send = search sendable

seat_inside_send : IsSend SeatInside.the_row
seat_inside_send = recorded_send (SeatInside.the_field).row _ _ (SeatInside.the_type).to_one (struct_send
    (shape SeatInside.the_type) (table_seat_send unit View.the_row unit_send, (number_send, tt)))

pub book_seat_send : IsSend BookSeat.the_row
book_seat_send = view_send _ _ _ _ _ seat_inside_send

book_inside_send : IsSend BookInside.the_row
book_inside_send = recorded_send (BookInside.the_field).row _ _ (BookInside.the_type).to_one (struct_send
    (shape BookInside.the_type) (table_field_send unit View.the_row unit Law.the_row Global.the_row LawRule.ghosts alloc_ghosts unit_send heap_send frees, tt))

book_inside_sync : IsSync BookInside.the_row
book_inside_sync = recorded_sync (BookInside.the_field).row _ _ (BookInside.the_type).to_one (struct_sync
    (shape BookInside.the_type) (table_field_sync unit View.the_row unit Law.the_row Global.the_row LawRule.ghosts alloc_ghosts unit_send heap_send heap_sync frees, tt))

pub book_send : IsSend LossBook.the_row
book_send = view_send _ _ _ _ _ book_inside_send

pub book_sync : IsSync LossBook.the_row
book_sync = view_sync _ _ _ _ _ book_inside_sync

ticket_send : IsSend (Option.the_field u64).row
ticket_send = search sendable depth 9

pub pace_send : IsSend Pace.the_row
pace_send = recorded_send (Pace.the_field).row _ _ (Pace.the_type).to_one (struct_send
    (shape Pace.the_type) (number_send, (number_send, (number_send, (number_send, (ticket_send, tt))))))
