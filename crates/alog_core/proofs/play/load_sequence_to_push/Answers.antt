use Rattle.std.proofs.Common.{arith}
use Rattle.alog_core.proofs.Advancing.{finds_full, finds_free, finds_later}
use Rattle.alog_core.proofs.play.load_sequence_to_push.Goals as goal

pub returns-then-sequence-ticket : goal.returns-then-sequence-ticket
returns-then-sequence-ticket g c a =
    finds_full c.args.table.now c.requires.table a c.args.ticket c.place_of.result c.index-sequence.result.now
    c.place_of.ensures c.index-sequence.ensures c.args.item c.requires.read c.if-sequence-ticket.true

pub returns-then-sequence-ticket-2 : goal.returns-then-sequence-ticket-2
returns-then-sequence-ticket-2 g c a =
    finds_free c.args.table.now c.requires.table a c.args.ticket c.place_of.result c.index-sequence.result.now
    c.place_of.ensures c.index-sequence.ensures c.args.item c.requires.read c.if-sequence-ticket-2.true

pub returns-else-sequence-ticket-2 : goal.returns-else-sequence-ticket-2
returns-else-sequence-ticket-2 g c a =
    finds_later c.args.table.now c.requires.table a c.args.ticket c.place_of.result c.index-sequence.result.now
    c.place_of.ensures c.index-sequence.ensures c.args.item c.requires.read
    (omega (arith, c.if-sequence-ticket.false, c.if-sequence-ticket-2.false))
