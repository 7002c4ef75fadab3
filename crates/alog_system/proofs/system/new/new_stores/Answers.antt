use Rattle.std.proofs.Common.{[], ◌∷◌, length, sym, ap, subst, ◌∙◌, arith}
use Rattle.std.proofs.lemmas.List.{length-append}
use Rattle.alog_sink.specs.Files.{AreSame, no_files}
use Rattle.alog_sink.specs.contracts.mem_store.MemStoreStore.TheImpl.{files-value}
use Rattle.alog_system.specs.Named.{AreEmpty}
use Rattle.alog_lane.proofs.SharedLists.{each_append}
use Rattle.alog_system.proofs.system.new.new_stores.Goals as goal

pub loop-preserved : goal.loop-preserved
loop-preserved c =
    let so = c.loop.invariant in
    let more = length-append c.loop.stores.items (c.new.result ∷ []) in
    let many = so.many in
    record {
      many = ap length c.push_reserved.ensures.items ∙ omega (arith, more, many);
      room = c.push_reserved.ensures.capacity ∙ so.room;
      empty = subst (AreEmpty (files-value).it) (sym c.push_reserved.ensures.items)
          (each_append (λ s. AreSame no_files ((files-value).it s)) c.loop.stores.items (c.new.result ∷ []) so.empty (c.new.ensures.files, tt));
    }
