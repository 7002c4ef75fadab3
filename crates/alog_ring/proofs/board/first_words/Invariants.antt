use Rattle.std.proofs.Common.{◌≡◌, ℕ, ◌<◌, ◌≤◌, length}
use Rattle.std.specs.Prelude.{slice_index}
use Rattle.alog_ring.specs.declared.words.TheConstants.{NEXT, FRONT}
use Rattle.alog_ring.specs.Rule.{seq_of, word_count}
use Rattle.alog_ring.proofs.board.first_words.Given as goal

abbrev pub invariant-loop-ticket : goal.invariant-loop-ticket
invariant-loop-ticket l =
    (length l.filled ≡ word_count l.fn.places) × (slice_index l.filled NEXT ≡ l.fn.first)
    × (slice_index l.filled FRONT ≡ l.fn.first)
    × ((t : ℕ) → l.fn.first ≤ t → t < l.ticket → slice_index l.filled (seq_of l.fn.places t) ≡ t)
