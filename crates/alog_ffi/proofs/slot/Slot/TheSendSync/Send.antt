use denote.Param.Send.{IsSend}
use Rattle.alog_ffi.proofs.Crosses.{slot_send}
use Rattle.alog_ffi.specs.contracts.slot.Slot.{the_row}

pub send : IsSend the_row
send = slot_send
