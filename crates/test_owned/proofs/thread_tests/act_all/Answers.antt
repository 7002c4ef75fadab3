use denote.Enum.Declared.{shape}
use denote.Exit.{no}
use denote.Param.Send.{IsSend, enum_send, param_send, recorded_send, arg_send}
use denote.RattleType.{RattleType}
use Rattle.alog_sink.proofs.SharedCrosses.{store_send}
use Rattle.alog_sink.specs.contracts.mem_store.MemStore as MemRow
use Rattle.alog_sink.specs.contracts.mem_store.MemStoreStore.TheImpl.{ghosts as mem_ghosts}
use Rattle.alog_sink.specs.declared.store.Store.{Ghosts}
use Rattle.alog_owned.proofs.SharedCrosses.{owned_producer_send, owned_worker_send}
use Rattle.test_owned.specs.contracts.thread_tests.Part as Part
use Rattle.test_owned.proofs.thread_tests.act_all.Lts.{arg-0-1}
use Rattle.test_owned.proofs.thread_tests.act_all.Goals as goal

mem_send : IsSend MemRow.the_row
mem_send = recorded_send (MemRow.the_field).row _ _ (MemRow.the_type).to_one store_send

part_send : (S : RattleType) (g : Ghosts S.Denot) → IsSend S → IsSend (Part.the_row S g)
part_send S g s = recorded_send (Part.the_field S g).row _ _ (Part.the_type S g).to_one
    (enum_send (shape (Part.the_type S g)) ((owned_producer_send S g s, tt), ((owned_worker_send S g s, tt), (tt, tt))))

own_send : IsSend (Part.the_row MemRow.the_row mem_ghosts)
own_send = part_send MemRow.the_row mem_ghosts mem_send

pub for_each_mut-requires-send-T : goal.for_each_mut-requires-send-T
for_each_mut-requires-send-T g c κs within =
    param_send 1 (arg-0-1 g.row.R g.R.laws g.R.Abort-dict g.R.Threads-dict κs) (arg_send _ no _ own_send)
