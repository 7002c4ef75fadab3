-- One more new store with its drain behind such stores.
use Rattle.std.proofs.Common.{List, [], ◌∷◌, ◌++◌}
use Rattle.alog_ffi.specs.Opening.{AreNew}
use Rattle.alog_ffi.specs.Stores.{Begins}
use Rattle.alog_outbox.specs.Views.{DrainView, OutboxView}
use Rattle.alog_outbox.specs.declared.found.FoundFile.{FoundFile}

pub new_and : (found : List FoundFile) (ss : List OutboxView) (ds : List DrainView) (s : OutboxView) (d : DrainView) → AreNew found ss ds → Begins found s d
    → AreNew found (ss ++ s ∷ []) (ds ++ d ∷ [])
new_and found [] [] s d all new = (new, tt)
new_and found [] (e ∷ ds) s d all new = absurd all
new_and found (t ∷ ss) [] s d all new = absurd all
new_and found (t ∷ ss) (e ∷ ds) s d all new = (all.0, new_and found ss ds s d all.1 new)
