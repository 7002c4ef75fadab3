-- A thread's seat may go to that thread.
use denote.RattleType.{RattleType}
use denote.Param.Send.{IsSend, sendable, view_send, struct_send, recorded_send}
use denote.Struct.Declared.{shape}
use Rattle.std.proofs.Crossing.{crosses}
use Rattle.alog_pool.proofs.SharedCrosses.{producer_send}
use Rattle.alog_server.specs.declared.home.Home.{Ghosts}
use Rattle.alog_server.specs.contracts.client.Client as Client
use Rattle.alog_server.specs.contracts.client.Client.TheInside as Inside
use Rattle.alog_server.specs.contracts.seats.Seat as Seat

module _ (H : RattleType) (g : Ghosts H.Denot) where
  inside_send : IsSend H → IsSend (Inside.the_row H g)
  inside_send h = recorded_send (Inside.the_field H g).row _ _ (Inside.the_type H g).to_one (struct_send (shape (Inside.the_type H g))
      (search (sendable, crosses) depth 20, (producer_send, (search sendable depth 9, tt))))

  client_send : IsSend H → IsSend (Client.the_row H g)
  client_send h = view_send _ _ _ _ _ (inside_send h)

module _ (H E : RattleType) (g : Ghosts H.Denot) where
  pub seat_send : IsSend H → IsSend E → IsSend (Seat.the_row H E g)
  seat_send h e = recorded_send (Seat.the_field H E g).row _ _ (Seat.the_type H E g).to_one (struct_send (shape (Seat.the_type H E g))
      (client_send H g h, (search sendable depth 9, tt)))
