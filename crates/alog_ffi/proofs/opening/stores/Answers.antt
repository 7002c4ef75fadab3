use Rattle.std.proofs.Common.{rules}
use Rattle.std.specs.Arc.{arc_value}
use Rattle.alog_ffi.proofs.News.{new_and}
use Rattle.alog_ffi.specs.Stores.{Begins}
use Rattle.alog_ffi.proofs.opening.stores.Goals as goal

pub loop-number-preserved : goal.loop-number-preserved
loop-number-preserved c =
    let e = c.in_ok-store.ensures in
    let at = c.loop-number in
    let found = (arc_value c.args.found.now).items in
    let begun : Begins found c.in_ok-store.store c.in_ok-store.drain = record { found_are = search rules; untold = e.told; untaken = e.got; line = e.line } in
    let new = new_and found at.stores.items at.drains.items c.in_ok-store.store c.in_ok-store.drain at.invariant.new begun in
    search rules
