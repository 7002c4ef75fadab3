-- A task may go to another thread.
use denote.Builtin.{u64}
use denote.Param.Send.{IsSend, sendable, struct_send, recorded_send}
use denote.Struct.Declared.{shape}
use Rattle.std.proofs.Crossing.{Vec-send}
use Rattle.alog_pool.proofs.SharedCrosses.{producer_send}
use Rattle.bench.specs.contracts.load.work.Task as Task

pub task_send : IsSend Task.the_row
task_send = recorded_send (Task.the_field).row _ _ (Task.the_type).to_one (struct_send (shape Task.the_type)
    (producer_send, (search sendable depth 12, (Vec-send u64 (search sendable), (search sendable, tt)))))
