-- What the rule of the book says at its end.
use Rattle.std.proofs.Common.{◌≡◌, ℕ, ◌%◌, ◌^◌, List}
use Rattle.std.proofs.Common.{sym, ap, subst, ◌∙◌}
use Rattle.std.specs.Prelude.{slice_index}
use Rattle.std.specs.List.{AllByRecursion}
use mathlib.Core.Option.{some}
use lib.ListN.{get_elem?}
use Rattle.atomic_table.specs.Table.{State, Final, Seen}
use Rattle.alog_lane.specs.declared.seat.TheConstants.{ALL_PARTS}
use Rattle.alog_lane.specs.Seats.{Entry, Member, members_of, IsAmong, AreExact, IsFaithful, IsWhole}
use Rattle.alog_lane.specs.Roster.{Idle, members_at}
use Rattle.alog_lane.proofs.SharedLists.{found}
use Rattle.alog_lane.proofs.SharedRosters.{all_members}
use Rattle.alog_lane.proofs.SharedKnowing.{by_stage}
use Rattle.alog_policy.specs.declared.counts.Counts.{Counts}
use Rattle.alog_policy.specs.declared.loss_book.TheConstants.{OVERRUN, DISCARDED}
use Rattle.alog_policy.specs.BookAdds.{Add, items_of, posts_of, overrun_after, discarded_after}
use Rattle.alog_policy.specs.BookCalls.{Closes}
use Rattle.alog_policy.specs.BookRule.{BookSight, Ruled}
use Rattle.alog_policy.proofs.BookSteps.{saw_all}
use Rattle.alog_policy.proofs.BookSums.{sum_of_all}

-- the seat has all parts
pub closes : (id : ℕ) (v : BookSight) {words : List ℕ} (slots : List (Unit {0})) → Final (Seen Ruled id v) words slots
    → v.stage ≡ Idle → v.known.parts ≡ ALL_PARTS → IsFaithful v.known → {c : Counts}
    → (get_elem? words OVERRUN ≡ some c.overrun) × (get_elem? words DISCARDED ≡ some c.discarded) → Closes v.known c
closes id v {words} slots final idle all faithful {c} counted =
    let s : State (Unit {0}) BookSight = final.0
    in let r : Ruled s = final.1.0
    in let at : get_elem? s.views id ≡ some v = final.1.1
    in let mine : members_at id v ≡ members_of v.known = by_stage id v Idle idle
    in let exact : AreExact (members_of v.known) v.known.seen = (faithful.own, faithful.joined)
    in let seen : v.known.seen ≡ r.history = saw_all s r id v at idle all faithful
    in let M : List (Member Add) → Type 0 = λ l. AllByRecursion (λ (x : Entry Add). IsAmong x.seat l) r.history
    in let H : List (Entry Add) → Type 0 = λ g. AllByRecursion (λ (x : Entry Add). IsAmong x.seat (members_of v.known)) g
    in let whole : IsWhole v.known = subst H (sym seen) (subst M mine (all_members tt r.history s.views id v r.agrees at all))
    in let word : (i n : ℕ) → get_elem? words i ≡ some n → n ≡ slice_index s.words i = λ i n e. sym (found words i n 0 e)
    ∙ ap (λ (l : List ℕ). slice_index l i) (sym final.2)
    in record {
      faithful = faithful;
      whole = whole;
      overrun = word OVERRUN c.overrun counted.0 ∙ r.words.overrun ∙ ap (λ h. overrun_after h) (sym seen)
          ∙ ap (λ (n : ℕ). n % 2 ^ 64)
          (sum_of_all (λ (x : Entry Add). items_of x.deed) (members_of v.known) v.known.seen exact faithful.distinct whole);
      discarded = word DISCARDED c.discarded counted.1 ∙ r.words.discarded ∙ ap (λ h. discarded_after h) (sym seen)
          ∙ ap (λ (n : ℕ). n % 2 ^ 64)
          (sum_of_all (λ (x : Entry Add). posts_of x.deed) (members_of v.known) v.known.seen exact faithful.distinct whole);
    }
