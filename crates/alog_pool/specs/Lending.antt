-- A producer's account, and what two states of its port have in common.
use Rattle.std.specs.Prelude.{◌≡◌, []}
use Rattle.alog_core.specs.Accounts.{claimed, taken}
use Rattle.alog_lane.specs.Seats as lane
use Rattle.alog_msg.specs.declared.item.Item.{Item}
use Rattle.alog_policy.specs.BookAdds.{Add, items_in}
use Rattle.alog_pool.specs.Accounts.{of_all, of_stops}
use Rattle.alog_registry.specs.BlockPort.{BlockPort, block_note}
use Rattle.alog_ring.specs.Known.{Known}

-- A producer's account: its pass and its seat have one part each, and nothing was joined into them. The pass put no stop in, and
-- the seat counted as many overrun items as the pass took out.
pub record IsAccountOf (pass : Known Item block_note) (seat : lane.Known Add) : Type 0 where
  pub parts : pass.parts ≡ 1
  pub joined : pass.joined ≡ []
  pub seat_parts : seat.parts ≡ 1
  pub seat_joined : seat.joined ≡ []
  pub no_stop : claimed of_stops pass.own ≡ 0
  pub counted : items_in seat.own ≡ taken of_all pass.own

-- Both lend the same ring and book, and by the same references a pass and a seat, whose account stays one, two blocks, and a pace.
pub record LendsAlike (p q : BlockPort) : Type 0 where
  pub ring : q.ring ≡ p.ring
  pub book : q.book ≡ p.book
  pub pass : q.pass.ghost_name ≡ p.pass.ghost_name
  pub seat : q.seat.ghost_name ≡ p.seat.ghost_name
  pub hand : q.hand.ghost_name ≡ p.hand.ghost_name
  pub spare : q.spare.ghost_name ≡ p.spare.ghost_name
  pub pace : q.pace.ghost_name ≡ p.pace.ghost_name
  pub account : IsAccountOf p.pass.now.known p.seat.now.known → IsAccountOf q.pass.now.known q.seat.now.known
