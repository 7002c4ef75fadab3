use denote.Param.Send.{IsSync}
use Rattle.alog_format.proofs.SharedCrosses.{deed-sync}
use Rattle.alog_format.specs.contracts.block.Deed as C

pub sync : IsSync C.the_row
sync = deed-sync
