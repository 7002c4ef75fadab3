-- A ring may be shared and may go to other threads, and so may its passes, where the values may.
use denote.RattleType.{RattleType}
use denote.Builtin.{u64, unit}
use denote.Param.Send.{IsSend, IsSync, sendable, view_send, view_sync, struct_send, struct_sync, recorded_send, recorded_sync}
use denote.Struct.Declared.{shape}
use Rattle.std.proofs.Crossing.{Vec-send, Vec-sync, frees, send as heap_send, sync as heap_sync}
use Rattle.atomic_table.proofs.shared.Seat.TheSendSync.{the_send as table_seat_send}
use Rattle.atomic_table.proofs.owned.Table.TheSendSync.{the_field_send as table_field_send, the_field_sync as table_field_sync}
use Rattle.std.specs.contracts.option.Option as Option
use Rattle.std.specs.contracts.alloc.Global as Global
use Rattle.std.specs.contracts.impls.GlobalAllocator.TheImpl.{ghosts as alloc_ghosts}
use Rattle.alog_ring.specs.declared.kind.Kind.{Ghosts as KindGhosts}
use Rattle.alog_ring.specs.declared.limit.Limit.{Ghosts}
use Rattle.alog_ring.specs.contracts.board.Board as Board
use Rattle.alog_ring.specs.contracts.kind.Plain as Plain
use Rattle.alog_ring.specs.contracts.kind.PlainKindOptionUnit.TheImpl as PlainKind
use Rattle.alog_ring.specs.contracts.limit.IfThere as IfThere
use Rattle.alog_ring.specs.contracts.limit.IfThereLimitOption.TheImpl as Places
use Rattle.alog_ring.specs.contracts.pass.Pass as Pass
use Rattle.alog_ring.specs.contracts.pass.Pass.TheInside as PassInside
use Rattle.alog_ring.specs.declared.kind.Shows.{Ghosts as ShowsGhosts}
use Rattle.alog_ring.specs.contracts.kind.Swap as Swap
use Rattle.alog_ring.specs.contracts.kind.SwapKindOption.TheImpl as SwapKind
use Rattle.alog_ring.specs.contracts.swap_ring.SwapRing as SwapRing
use Rattle.alog_ring.specs.contracts.swap_ring.SwapRing.TheInside as SwapInside
use Rattle.alog_ring.specs.contracts.ring.Ring as Ring
use Rattle.alog_ring.specs.contracts.ring.Ring.TheInside as RingInside
use Rattle.alog_ring.specs.contracts.view.View as View
use Rattle.alog_ring.specs.contracts.view.Shape as Shape
use Rattle.alog_ring.specs.contracts.view.Law as Law
use Rattle.alog_ring.specs.contracts.view.LawTableRuleViewShape.TheImpl as LawRule

number_send : IsSend u64
number_send = search sendable

number_sync : IsSync u64
number_sync = search sendable

option_send : (T : RattleType) → IsSend T → IsSend (Option.the_row T)
option_send T t = search sendable depth 9

module _ (T S N : RattleType) where
  pass_inside_send : IsSend S → IsSend (PassInside.the_row T S N)
  pass_inside_send s = recorded_send (PassInside.the_field T S N).row _ _ (PassInside.the_type T S N).to_one (struct_send
      (shape (PassInside.the_type T S N)) (table_seat_send S (View.the_row T N) s, (number_send, tt)))

  any_pass_send : IsSend S → IsSend (Pass.the_row T S N)
  any_pass_send s = view_send _ _ _ _ _ (pass_inside_send s)

-- a pass of a `Ring`
pub pass_send : (T : RattleType) → IsSend T → IsSend (Pass.the_row T (Option.the_row T) unit)
pass_send T t = any_pass_send T (Option.the_row T) unit (option_send T t)

module _ (S T N K L : RattleType) (k : KindGhosts K.Denot S.Denot T.Denot N.Denot) (g : Ghosts L.Denot S.Denot) where
  board_send : IsSend S → IsSend (Board.the_field S T N K L k g).row
  board_send s = struct_send
      (shape (Board.the_type S T N K L k g)) (
        table_field_send S (View.the_row T N) (Shape.the_row S L) (Law.the_row K)
            Global.the_row (LawRule.ghosts S T N K L k LawRule.no_dict g LawRule.no_dict) alloc_ghosts s heap_send frees,
        (number_send, tt),
      )

  board_sync : IsSend S → IsSync (Board.the_field S T N K L k g).row
  board_sync s = struct_sync
      (shape (Board.the_type S T N K L k g)) (
        table_field_sync S (View.the_row T N) (Shape.the_row S L) (Law.the_row K)
            Global.the_row (LawRule.ghosts S T N K L k LawRule.no_dict g LawRule.no_dict) alloc_ghosts s heap_send heap_sync frees,
        (number_sync, tt),
      )

module _ (T L : RattleType) (g : Ghosts L.Denot T.Denot) where
  ring_inside_send : IsSend T → IsSend (RingInside.the_row T L g)
  ring_inside_send t = recorded_send (RingInside.the_field T L g).row _ _ (RingInside.the_type T L g).to_one (struct_send
      (shape (RingInside.the_type T L g)) (
        board_send (Option.the_row T) T unit Plain.the_row (IfThere.the_row L) (PlainKind.ghosts T)
            (Places.ghosts T L g Places.no_dict) (option_send T t),
        (search (sendable, Vec-send) depth 12, tt),
      ))

  ring_inside_sync : IsSend T → IsSync T → IsSync (RingInside.the_row T L g)
  ring_inside_sync t s = recorded_sync (RingInside.the_field T L g).row _ _ (RingInside.the_type T L g).to_one (struct_sync
      (shape (RingInside.the_type T L g)) (
        board_sync (Option.the_row T) T unit Plain.the_row (IfThere.the_row L) (PlainKind.ghosts T)
            (Places.ghosts T L g Places.no_dict) (option_send T t),
        (search (sendable, Vec-sync) depth 12, tt),
      ))

  pub ring_send : IsSend T → IsSend (Ring.the_row T L g)
  ring_send t = view_send _ _ _ _ _ (ring_inside_send t)

  pub ring_sync : IsSend T → IsSync T → IsSync (Ring.the_row T L g)
  ring_sync t s = view_sync _ _ _ _ _ (ring_inside_sync t s)

-- a pass of a `SwapRing`
pub swap_pass_send : (B T : RattleType) → IsSend B → IsSend (Pass.the_row T B (Option.the_row B))
swap_pass_send B T b = any_pass_send T B (Option.the_row B) b

module _ (B T W L : RattleType) (w : ShowsGhosts W.Denot B.Denot T.Denot) (g : Ghosts L.Denot B.Denot) where
  swap_inside_send : IsSend B → IsSend (SwapInside.the_row B T W L w g)
  swap_inside_send b = recorded_send (SwapInside.the_field B T W L w g).row _ _ (SwapInside.the_type B T W L w g).to_one (struct_send
      (shape (SwapInside.the_type B T W L w g)) (
        board_send B T (Option.the_row B) (Swap.the_row W) L
            (SwapKind.ghosts B T W w SwapKind.no_dict) g b,
        (search (sendable, Vec-send) depth 12, (search (sendable, Vec-send) depth 12, tt)),
      ))

  swap_inside_sync : IsSend B → IsSync B → IsSync (SwapInside.the_row B T W L w g)
  swap_inside_sync b s = recorded_sync (SwapInside.the_field B T W L w g).row _ _ (SwapInside.the_type B T W L w g).to_one (struct_sync
      (shape (SwapInside.the_type B T W L w g)) (
        board_sync B T (Option.the_row B) (Swap.the_row W) L
            (SwapKind.ghosts B T W w SwapKind.no_dict) g b,
        (search (sendable, Vec-sync) depth 12, (search (sendable, Vec-sync) depth 12, tt)),
      ))

  pub swap_ring_send : IsSend B → IsSend (SwapRing.the_row B T W L w g)
  swap_ring_send b = view_send _ _ _ _ _ (swap_inside_send b)

  pub swap_ring_sync : IsSend B → IsSync B → IsSync (SwapRing.the_row B T W L w g)
  swap_ring_sync b s = view_sync _ _ _ _ _ (swap_inside_sync b s)
