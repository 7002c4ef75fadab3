-- What a post overran is what its events take.
use Rattle.std.proofs.Common.{◌≡◌, ℕ, List, refl, sym, ap, ◌∙◌}
use Rattle.alog_core.specs.Queue.{Event}
use Rattle.alog_policy.specs.Post.{IsPost, takes_in, End, Wrote, OutOfTickets, NoRoom, NothingToTake, AllGrabbed}
use Rattle.alog_policy.specs.Post.{OutOfRounds, outcome_of, overran_in}
use Rattle.alog_policy.specs.declared.policy.Policy.{Policy}
use Rattle.alog_policy.specs.declared.policy.Outcome.{Outcome}

overran_in-outcome : {V : Type 0} (v : V) (k : ℕ) (e : End) → overran_in (outcome_of v k e) ≡ k
overran_in-outcome v k (Wrote t) = refl
overran_in-outcome v k OutOfTickets = refl
overran_in-outcome v k (NoRoom f) = refl
overran_in-outcome v k (NothingToTake f t) = refl
overran_in-outcome v k (AllGrabbed f t) = refl
overran_in-outcome v k OutOfRounds = refl

pub overran_takes : {T V : Type 0} (p : Policy) (x : T) (v : V) (es : List (Event T)) (o : Outcome V) → IsPost p x v es o
    → takes_in es ≡ overran_in o
overran_takes {T} {V} p x v es o post =
    sym (ap (λ (r : Outcome V). overran_in r) post.outcome_is ∙ overran_in-outcome v (takes_in es) post.end)
