use Rattle.std.proofs.Common.{rules, ◌≡◌, ◌++◌, ap, string_bytes, ◌∙◌}
use Rattle.std.specs.Prelude.{map}
use Rattle.alog_sink.specs.Memory.{listing}
use Rattle.alog_replay.specs.Configured.{listed_text}
use Rattle.alog_replay.specs.Rows.{Row}
use Rattle.alog_replay.proofs.Rows.{listed_in_order}
use Rattle.alog_replay.proofs.configured.print_listed.Goals as goal

pub loop-file-init : goal.loop-file-init
loop-file-init c =
    let before = c.args.out.now.items in
    let listed : map (λ e. (string_bytes e.0, e.1.items)) c.into_iter-file-iterator.result ≡ listing c.args.store.now = search rules in
    ap (λ (row : Row). before ++ listed_text c.args.sink.now row)
    (listed ∙ listed_in_order c.files.result.now.entries (listing c.args.store.now) c.files.ensures.ordered c.files.ensures.listed)
