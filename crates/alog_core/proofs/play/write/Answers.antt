use Rattle.std.proofs.Common.{◌+◌, ◌-◌, set, refl, ap, arith}
use Rattle.alog_core.specs.Table.{places_of, queue_in}
use Rattle.alog_core.proofs.Advancing.{writes}
use Rattle.alog_core.proofs.SharedRising.{listed_within}
use Rattle.alog_core.proofs.play.write.Goals as goal

pub overflow_add-ticket : goal.overflow_add-ticket
overflow_add-ticket g c =
    let t = c.args.table.now
    in let q = queue_in t
    in let has = c.requires.claimed
    in let low = listed_within c.args.ticket (t.next - places_of t) q.cells t.next _ c.requires.table.sound.rising has.2
    in omega (arith, low.1, c.requires.table.issued)

pub returns : goal.returns
returns g c a staged =
    writes c.args.table.now _ c.requires.table a refl c.args.ticket staged refl refl
    (ap (λ i. set c.args.table.now.sequences.items i (c.args.ticket + 1)) c.place_of.ensures) refl
