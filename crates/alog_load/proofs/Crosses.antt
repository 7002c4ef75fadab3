-- What goes to a producer's thread.
use denote.Param.Send.{IsSend, sendable, struct_send, recorded_send}
use denote.Struct.Declared.{shape}
use Rattle.alog_load.specs.contracts.load_seat.LoadSeat as LoadSeat
use Rattle.alog_pool.proofs.SharedCrosses.{producer_send}

pub load_seat_send : IsSend LoadSeat.the_row
load_seat_send = recorded_send (LoadSeat.the_field).row _ _ (LoadSeat.the_type).to_one (struct_send (shape LoadSeat.the_type)
    (producer_send, (search sendable, tt)))
