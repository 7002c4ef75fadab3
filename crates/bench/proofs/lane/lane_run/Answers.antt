use denote.Param.Send.{sendable}
use Rattle.bench.proofs.AddersCross.{its_seat, its_lane}
use Rattle.bench.proofs.lane.lane_run.Goals as goal

pub run-requires-send-A : goal.run-requires-send-A
run-requires-send-A g c κs within = search (sendable, its_seat, its_lane) depth 9
