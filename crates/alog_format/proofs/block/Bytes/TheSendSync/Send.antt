use denote.Param.Send.{IsSend}
use Rattle.alog_format.proofs.SharedCrosses.{bytes-send}
use Rattle.alog_format.specs.contracts.block.Bytes as C

pub send : IsSend C.the_row
send = bytes-send
