use Rattle.std.proofs.Common.{◌≡◌, ◌≤◌, length, vec_capacity}
use Rattle.std.specs.Prelude.{All}
use Rattle.alog_server.specs.Stores.{IsNew}
use Rattle.alog_sink.specs.contracts.mem_store.MemStoreStore.TheImpl.{ghosts}
use Rattle.alog_program.proofs.stores.memory_stores.Given as goal

abbrev pub invariant-loop-number : goal.invariant-loop-number
invariant-loop-number l = record {
  fresh : All (IsNew ghosts.tells ghosts.files ghosts.failures) l.stores.items;
  count : length l.stores.items ≡ l._number;
  within : l._number ≤ l.fn.count;
  room : l.fn.count ≤ vec_capacity l.stores;
}
