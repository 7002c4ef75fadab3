-- A lane may be shared and may go to other threads, and so may its seats, where the value may.
use denote.RattleType.{RattleType}
use denote.Param.Send.{IsSend, IsSync, sendable, view_send, view_sync, struct_send, struct_sync, recorded_send, recorded_sync}
use denote.Struct.Declared.{shape}
use Rattle.std.proofs.Crossing.{crosses, frees, send as heap_send, sync as heap_sync}
use Rattle.atomic_table.proofs.shared.Seat.TheSendSync.{the_send as table_seat_send}
use Rattle.atomic_table.proofs.owned.Table.TheSendSync.{the_field_send as table_field_send, the_field_sync as table_field_sync}
use Rattle.alog_lane.specs.declared.turn.Turn.{Ghosts}
use Rattle.alog_lane.specs.contracts.seat.LaneSeat as LaneSeat
use Rattle.alog_lane.specs.contracts.seat.LaneSeat.TheInside as Inside
use Rattle.alog_lane.specs.contracts.lane.Lane as Lane
use Rattle.alog_lane.specs.contracts.lane.Lane.TheInside as LaneInside
use Rattle.std.specs.contracts.snapshot.Snapshot as Snapshot
use Rattle.std.specs.contracts.alloc.Global as Global
use Rattle.std.specs.contracts.impls.GlobalAllocator.TheImpl.{ghosts as alloc_ghosts}
use Rattle.alog_lane.specs.contracts.view.LockedValue as LockedValue
use Rattle.alog_lane.specs.contracts.view.View as View
use Rattle.alog_lane.specs.contracts.view.Law as Law
use Rattle.alog_lane.specs.contracts.view.LawTableRuleLockedValueViewSnapshot.TheImpl as LawRule

locked_send : (T I R S : RattleType) → IsSend T → IsSend (LockedValue.the_row T I R S)
locked_send T I R S t = search (sendable, crosses) depth 9

module _ (T I R S : RattleType) (g : Ghosts T.Denot I.Denot R.Denot S.Denot) where
  inside_send : IsSend T → IsSend (Inside.the_row T I R S g)
  inside_send t = search (sendable, crosses, table_seat_send, locked_send) depth 9

  pub seat_send : IsSend T → IsSend (LaneSeat.the_row T I R S g)
  seat_send t = view_send _ _ _ _ _ (inside_send t)

  lane_inside_sync : IsSend T → IsSync (LaneInside.the_row T I R S g)
  lane_inside_sync t = recorded_sync (LaneInside.the_field T I R S g).row _ _ (LaneInside.the_type T I R S g).to_one (struct_sync
      (shape (LaneInside.the_type T I R S g)) (
        table_field_sync (LockedValue.the_row T I R S) (View.the_row T I R S g)
            (Snapshot.the_row T) Law.the_row Global.the_row (LawRule.ghosts T I R S g LawRule.no_dict) alloc_ghosts
            (locked_send T I R S t) heap_send heap_sync frees,
        tt,
      ))

  pub lane_sync : IsSend T → IsSync (Lane.the_row T I R S g)
  lane_sync t = view_sync _ _ _ _ _ (lane_inside_sync t)

  lane_inside_send : IsSend T → IsSend (LaneInside.the_row T I R S g)
  lane_inside_send t = recorded_send (LaneInside.the_field T I R S g).row _ _ (LaneInside.the_type T I R S g).to_one (struct_send
      (shape (LaneInside.the_type T I R S g)) (
        table_field_send (LockedValue.the_row T I R S) (View.the_row T I R S g)
            (Snapshot.the_row T) Law.the_row Global.the_row (LawRule.ghosts T I R S g LawRule.no_dict) alloc_ghosts
            (locked_send T I R S t) heap_send frees,
        tt,
      ))

  pub lane_send : IsSend T → IsSend (Lane.the_row T I R S g)
  lane_send t = view_send _ _ _ _ _ (lane_inside_send t)
