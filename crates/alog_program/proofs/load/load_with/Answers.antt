use Rattle.alog_program.proofs.Loading.{match_none, match_some}
use Rattle.alog_program.proofs.load.load_with.Goals as goal

pub returns-in-None : goal.returns-in-None
returns-in-None g c = match_none c.args.request.now.folder _ _ c.in-None.is c.load_in_memory.ensures

pub returns-in-Some : goal.returns-in-Some
returns-in-Some g c = match_some c.args.request.now.folder c.in-Some.path _ _ c.in-Some.is c.load_to_folder.ensures
