use Rattle.alog_core.proofs.SharedSizes.{mask_is}
use Rattle.alog_core.proofs.table.place_of.Goals as goal

pub returns : goal.returns
returns c = mask_is c.args.mask c.args.ticket c.requires
