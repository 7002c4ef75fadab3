use Rattle.std.proofs.Common.{List, subst}
use Rattle.std.specs.List.{AllByRecursion}
use Rattle.alog_pool.specs.Producer.{ProducerView}
use Rattle.alog_server.specs.Homes.{IsAtHome}
use Rattle.alog_server.proofs.seats.seat_all.Goals as goal

pub of-requires : goal.of-requires
of-requires g c =
    (subst (λ (l : List ProducerView). AllByRecursion (λ p. IsAtHome g.H.Home.is_home g.H.Home.loggers p) l) c.in-Some.ensures.items
    c.loop-producer.invariant.home).0
