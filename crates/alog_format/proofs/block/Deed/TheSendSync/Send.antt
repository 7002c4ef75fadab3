use denote.Param.Send.{IsSend}
use Rattle.alog_format.proofs.SharedCrosses.{deed-send}
use Rattle.alog_format.specs.contracts.block.Deed as C

pub send : IsSend C.the_row
send = deed-send
