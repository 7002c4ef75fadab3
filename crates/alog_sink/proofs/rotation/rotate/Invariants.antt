use Rattle.std.proofs.Common.{◌≡◌, ◌-◌, ◌≤◌, true, length, map, string_bytes}
use Rattle.alog_sink.specs.RotationDeeds.{base_name, gives_up, renames}
use Rattle.alog_sink.proofs.RotatedDoes.{HasDone}
use Rattle.alog_sink.proofs.rotation.rotate.Given as goal

abbrev pub invariant-loop-i : goal.invariant-loop-i
invariant-loop-i g l =
    let file = base_name (map string_bytes l.names) in record {
      done : g.S.Store.tells ≡ true
          → HasDone (gives_up file (length l.names - 1)) (renames file (l.i - 1)) (g.S.Store.files l.fn.store) (g.S.Store.files l.store);
      counted : g.S.Store.failures l.store ≡ g.S.Store.failures l.fn.store;
      within : l.i ≤ length l.names;
    }
