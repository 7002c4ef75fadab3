use denote.Param.Send.{IsSync, param_send, sendable}
use Rattle.std.proofs.Crossing.{crosses}
use Rattle.alog_hosted.proofs.SharedCrosses.{hosted_sync, producer_send}
use Rattle.test_hosted.proofs.Forks.{files_send}
use Rattle.test_hosted.proofs.thread_tests.run_all.Lts.{arg-0-1}
use Rattle.test_hosted.specs.contracts.thread_tests.Told as Told
use Rattle.test_hosted.proofs.thread_tests.run_all.Goals as goal

told_sync : IsSync Told.the_row
told_sync = search (sendable, crosses) depth 9

pub join_mut-requires-send-F : goal.join_mut-requires-send-F
join_mut-requires-send-F g c κs within =
    param_send 1 (arg-0-1 g.row.R g.R.laws g.R.Abort-dict g.R.Threads-dict κs)
    (search (sendable, crosses, hosted_sync, producer_send, files_send, told_sync) depth 20)
