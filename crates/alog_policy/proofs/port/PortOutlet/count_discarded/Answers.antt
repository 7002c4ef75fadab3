use Rattle.std.proofs.Common.{refl, inl, inr}
use Rattle.alog_policy.proofs.Ports.{counted_discarded}
use Rattle.alog_policy.proofs.port.PortOutlet.count_discarded.Goals as goal

pub returns-clause-counted : goal.returns-clause-counted
returns-clause-counted g c =
    let a = c.args.self.now in
    record {
      ring = refl;
      book = refl;
      pass_lent = refl;
      seat_lent = refl;
      pass = inl (refl, refl);
      seat = inr (counted_discarded a.book.now a.seat.now c.discarded.new.seat c.requires.1 c.discarded.ensures.seat
          c.discarded.ensures.added);
    }
