use Rattle.std.proofs.Common.{◌≡◌, ◌≤◌, length, vec_capacity}
use Rattle.std.specs.Prelude.{All}
use Rattle.alog_server.specs.Stores.{IsNew}
use Rattle.alog_server.proofs.folders.folder_stores.Given as goal

abbrev pub invariant-loop-number : goal.invariant-loop-number
invariant-loop-number g l = record {
  fresh : All (IsNew g.R.Folder.Store.tells g.R.Folder.Store.files g.R.Folder.Store.failures) l.stores.items;
  tries : All (λ (s : _). g.R.Folders.tries s ≡ l.fn.patience) l.stores.items;
  count : length l.stores.items ≡ l._number;
  within : l._number ≤ l.fn.count;
  room : l.fn.count ≤ vec_capacity l.stores;
}
