-- The files of a store in memory, as they are listed.
use Rattle.std.specs.Prelude.{ℕ, List}
use Rattle.alog_sink.specs.Listed.{entries_of}
use Rattle.alog_sink.specs.declared.mem_store.MemStore.{MemStore}

-- the names of a store's files with what they have, in the order of the names
abbrev pub listing : MemStore → List (List ℕ × List ℕ)
listing store = entries_of store.files
