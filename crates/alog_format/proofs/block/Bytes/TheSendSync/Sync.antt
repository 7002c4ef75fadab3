use denote.Param.Send.{IsSync}
use Rattle.alog_format.proofs.SharedCrosses.{bytes-sync}
use Rattle.alog_format.specs.contracts.block.Bytes as C

pub sync : IsSync C.the_row
sync = bytes-sync
