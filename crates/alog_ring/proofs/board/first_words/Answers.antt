use Rattle.std.proofs.Common.{ℕ, ◌+◌, ◌<◌, ◌≤◌, List, ◌∙◌, arith, get_or-set_other, length-set}
use Rattle.alog_core.proofs.SharedSizes.{size_facts}
use Rattle.alog_ring.specs.declared.words.TheConstants.{NEXT, FRONT}
use Rattle.alog_ring.specs.Rule.{seq_of}
use Rattle.alog_ring.proofs.Starting.{words_more}
use Rattle.alog_ring.proofs.board.first_words.Goals as goal

pub loop-ticket-preserved : goal.loop-ticket-preserved
loop-ticket-preserved c =
    let n : ℕ = c.args.places
    in let t : ℕ = c.loop-ticket.ticket
    in let filled : List ℕ = c.loop-ticket.filled
    in let inv = c.loop-ticket.invariant
    in let two : 2 ≤ n = (size_facts c.args.places c.requires.size).1
    in let low : c.args.first ≤ t = c.loop-ticket.auto.ticket
    in let high : t < c.args.first + n = c.loop-ticket-test.true
    in (
      length-set filled (seq_of n t) t ∙ inv.0,
      get_or-set_other filled (seq_of n t) NEXT t 0 (λ e. omega arith) ∙ inv.1,
      get_or-set_other filled (seq_of n t) FRONT t 0 (λ e. omega arith) ∙ inv.2,
      words_more filled two low high inv.0 inv.3,
    )
