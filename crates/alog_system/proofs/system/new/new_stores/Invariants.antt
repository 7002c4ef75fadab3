use Rattle.std.proofs.Common.{◌≡◌, length, vec_capacity}
use Rattle.alog_sink.specs.contracts.mem_store.MemStoreStore.TheImpl.{files-value}
use Rattle.alog_system.specs.Named.{AreEmpty}
use Rattle.alog_system.proofs.system.new.new_stores.Given as goal

abbrev pub invariant-loop : goal.invariant-loop
invariant-loop l = record {
  many : length l.stores.items ≡ l.counter;
  room : vec_capacity l.stores ≡ l.fn.count;
  empty : AreEmpty (files-value).it l.stores.items;
}
