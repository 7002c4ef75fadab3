-- Adders may go to other threads.
use denote.Builtin.{u64, unit}
use denote.Param.Send.{IsSend, IsSync, sendable}
use Rattle.alog_lane.specs.contracts.seat.LaneSeat as LaneSeat
use Rattle.alog_lane.specs.contracts.lane.Lane as Lane
use Rattle.alog_lane.proofs.SharedCrosses.{seat_send, lane_sync}
use Rattle.bench.specs.contracts.lane.adder.Total as Total
use Rattle.bench.specs.contracts.lane.adder.TotalTurn.TheImpl.{ghosts}

total_send : IsSend Total.the_row
total_send = search sendable

pub its_seat : IsSend (LaneSeat.the_row Total.the_row u64 u64 unit ghosts)
its_seat = seat_send Total.the_row u64 u64 unit ghosts total_send

pub its_lane : IsSync (Lane.the_row Total.the_row u64 u64 unit ghosts)
its_lane = lane_sync Total.the_row u64 u64 unit ghosts total_send
