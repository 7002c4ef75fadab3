use Rattle.std.proofs.Common.{sym, ◌∙◌}
use Rattle.alog_sink.specs.Listed.{entries_of}
use Rattle.alog_replay.specs.Rows.{in_order}
use Rattle.alog_replay.proofs.Rows.{in_order_rises, one_row, row_has}
use Rattle.alog_replay.proofs.of_config.one_row.Goals as goal

pub returns : goal.returns
returns c store = (
  record { rises = in_order_rises (entries_of store.files); same = row_has store.files },
  λ other h.
      one_row other (in_order (entries_of store.files)) h.rises (in_order_rises (entries_of store.files))
      (λ name. h.same name ∙ sym (row_has store.files name)),
)
