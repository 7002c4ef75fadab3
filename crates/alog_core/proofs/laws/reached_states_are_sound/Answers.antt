use Rattle.alog_core.proofs.SharedHistories.{reached_states_are_sound}
use Rattle.alog_core.proofs.laws.reached_states_are_sound.Goals as goal

pub returns : goal.returns
returns g c = reached_states_are_sound g.row.T.Denot g.row.N.Denot
