use Rattle.std.proofs.Common.{map, sym, subst, ◌∙◌}
use Rattle.std.specs.Prelude.{None, Some}
use Rattle.std.proofs.lemmas.List.{length-map}
use Rattle.alog_server.specs.Ends.{TellsError}
use Rattle.alog_server.specs.declared.seats.Seat.{Seat}
use Rattle.alog_server.proofs.SharedEnding.{tells}
use Rattle.alog_server.proofs.seats.run_all.Goals as goal

pub returns-in-None-clause-ends : goal.returns-in-None-clause-ends
returns-in-None-clause-ends g c =
    let gives = g.W.Work.ends c.args.work.now in
    let error = λ (s : Seat g.row.H.Denot g.row.W-Error.Denot). s.error in
    let seats = c.work_all.new.seats.items in
    subst (λ n. TellsError gives n None)
    (length-map seats error ∙ c.work_all.ensures.count ∙ c.seat_all-seats.ensures.count)
    (tells gives (map error seats) None c.work_all.ensures.ends (sym c.in-None.is ∙ c.rise_all.ensures.first))

pub returns-in-Some-clause-ends : goal.returns-in-Some-clause-ends
returns-in-Some-clause-ends g c =
    let gives = g.W.Work.ends c.args.work.now in
    let error = λ (s : Seat g.row.H.Denot g.row.W-Error.Denot). s.error in
    let seats = c.work_all.new.seats.items in
    subst (λ n. TellsError gives n (Some c.in-Some.error))
    (length-map seats error ∙ c.work_all.ensures.count ∙ c.seat_all-seats.ensures.count)
    (tells gives (map error seats) (Some c.in-Some.error) c.work_all.ensures.ends (sym c.in-Some.is ∙ c.rise_all.ensures.first))
