-- Two looks, put together: the first at the overrun number, the second at the discarded number.
use Rattle.std.proofs.Common.{ℕ, [], ◌∙◌}
use Rattle.atomic_table.specs.Table.{Me}
use Rattle.alog_lane.specs.Seats.{IsFaithful}
use Rattle.alog_lane.proofs.SharedKnowing.{made_then}
use Rattle.alog_policy.specs.declared.loss_book.TheConstants.{OVERRUN, DISCARDED}
use Rattle.alog_policy.specs.BookCalls.{AreCounted}
use Rattle.alog_policy.specs.BookRule.{BookSight}
use Rattle.alog_policy.specs.BookPlays.{Looked}

pub counted : (m0 m1 m2 : Me (Unit {0}) BookSight) (items posts : ℕ) → Looked OVERRUN m0 items m1 → Looked DISCARDED m1 posts m2
    → IsFaithful m0.0.known → AreCounted m0.0.known m2.0.known (record { overrun = items; discarded = posts })
counted m0 m1 m2 items posts one two faithful = record {
  looks = made_then m0.0.known m1.0.known m2.0.known [] [] one.looks two.looks;
  first = m1.0.known.seen;
  longer = one.looks.seen;
  second = two.looks.seen;
  overrun = one.number;
  discarded = two.number;
  alone = λ all. (one.alone all faithful, two.alone (one.looks.parts ∙ all) one.looks.faithful ∙ one.alone all faithful);
}
