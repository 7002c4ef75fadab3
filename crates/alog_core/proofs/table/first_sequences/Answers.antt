use Rattle.std.proofs.Common.{◌≡◌, ℕ, ◌+◌, ◌-◌, ◌%◌, ◌<◌, ◌≤◌, List, set, sym, ap, subst, ◌∙◌, arith, length-set}
use Rattle.std.specs.Prelude.{slice_index}
use Rattle.alog_core.proofs.SharedSizes.{size_facts}
use Rattle.alog_core.proofs.Starting.{sequences_more}
use Rattle.alog_core.proofs.table.first_sequences.Goals as goal

pub loop-ticket-preserved : goal.loop-ticket-preserved
loop-ticket-preserved c =
    let n : ℕ = c.args.places
    in let t : ℕ = c.loop-ticket.ticket
    in let row : List ℕ = c.loop-ticket.sequences.items
    in let two : 2 ≤ n = (size_facts n c.requires.size).1
    in let up : n ≡ n - 1 + 1 = omega arith
    in let place : c.place_of.result ≡ t % n = c.place_of.ensures ∙ ap (λ k. t % k) (sym up)
    in let P : ℕ → Type 0 =
    λ i. (u : ℕ) → c.args.first ≤ u → u < t + 1 → slice_index (set row i t) (u % n) ≡ u
    in record {
      count = length-set row c.place_of.result t ∙ c.loop-ticket.invariant.count;
      tickets = subst P (sym place)
          (sequences_more row two c.loop-ticket.auto.ticket c.loop-ticket-test.true c.loop-ticket.invariant.count
          c.loop-ticket.invariant.tickets);
    }
