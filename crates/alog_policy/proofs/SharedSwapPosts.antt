-- What a post on a swap ring leaves.
use Rattle.std.proofs.Common.{arith, ◌≡◌, ◌⊎◌, ◌<◌, ◌+◌, ℕ, Option, None, Some, List, inl, inr, sym, ap, subst, ◌∙◌, zero-add}
use Rattle.std.specs.Prelude.{IsSome, MatchOption}
use Rattle.alog_core.specs.Queue.{Event}
use Rattle.alog_policy.specs.Outlet.{Posts, left_in}
use Rattle.alog_policy.specs.Post.{writes_in, events_of_rounds, events_of_end, outcome_of, takes_in, IsPost}
use Rattle.alog_policy.specs.Post.{End, Wrote, OutOfTickets, NoRoom, NothingToTake, AllGrabbed, OutOfRounds}
use Rattle.alog_policy.specs.SwapPort.{IsThere, HandDid, HandLeft, SwapPortDid}
use Rattle.alog_policy.specs.declared.policy.Policy.{Policy}
use Rattle.alog_policy.specs.declared.policy.Outcome.{Outcome}
use Rattle.alog_policy.specs.declared.policy.Outcome.TheVariants.{Posted, Discarded}
use Rattle.alog_policy.specs.declared.swap_port.SwapPort.{SwapPort}
use Rattle.alog_policy.proofs.Posts.{writes_in-append, rounds_write_nothing}

module _ {B : Type 0} (admits : B → Type 0) (old new : Option B) where
  -- where so much was written
  abbrev pub LeftBy : ℕ → Type 0
  LeftBy n = ((n ≡ 0) × (new ≡ old)) ⊎ ((0 < n) × IsThere admits new)

  unwritten : LeftBy 0 → new ≡ old
  unwritten (inl is) = is.1
  unwritten (inr is) = absurd (omega (arith, is.0))

  written : LeftBy 1 → IsThere admits new
  written (inl is) = absurd (cc)
  written (inr is) = is.1

  end_leaves : {T V : Type 0} (x : T) (v : V) (k : ℕ) (e : End) → LeftBy (writes_in (events_of_end x e))
      → HandLeft admits old (outcome_of v k e) new
  end_leaves x v k (Wrote t) is = written is
  end_leaves x v k OutOfTickets is = unwritten is
  end_leaves x v k (NoRoom f) is = unwritten is
  end_leaves x v k (NothingToTake f t) is = unwritten is
  end_leaves x v k (AllGrabbed f t) is = unwritten is
  end_leaves x v k OutOfRounds is = unwritten is

  post_leaves : {T V : Type 0} (p : Policy) (x : T) (v : V) (es : List (Event T)) (o : Outcome V) → IsPost p x v es o
      → HandDid admits old es new → HandLeft admits old o new
  post_leaves {T} {V} p x v es o post did =
      let last : List (Event T) = events_of_end x post.end in
      let count : writes_in es ≡ writes_in last =
      ap (λ (fs : List (Event T)). writes_in fs) post.events_are
      ∙ (writes_in-append (events_of_rounds post.rounds) last
      ∙ (ap (λ n. n + writes_in last) (rounds_write_nothing post.rounds) ∙ zero-add (writes_in last))) in
      subst (λ (r : Outcome V). HandLeft admits old r new) (sym post.outcome_is)
      (end_leaves x v (takes_in es) post.end (subst (λ n. LeftBy n) count did))

module _ {B T W L V : Type 0} (admits : L → B → Type 0) (p : Policy) (x : T) (v : V) (a b : SwapPort B T W L) (o : Outcome V)
    (post : Posts (SwapPortDid admits) p x v a b o) where
  -- what a post leaves in the hand
  pub hand_left : HandLeft (admits a.ring.now.ring.limit) a.hand.now o b.hand.now
  hand_left = post_leaves (admits a.ring.now.ring.limit) a.hand.now b.hand.now p x v post.events o post.post post.done.1

-- what was taken out of a hand for a post, and put back where it was not posted
pub left_with : {B : Type 0} (admits : B → Type 0) (o : Outcome (Unit {0})) (old kept between now new : Option B) → IsSome old
    → kept ≡ left_in o old → MatchOption kept (new ≡ now) (λ b. new ≡ Some b) → HandLeft admits between o now
    → HandLeft admits old o new
left_with admits (Posted t k) old kept between now new there left comes done =
    let M : Option _ → Type 0 = λ h. MatchOption h (new ≡ now) (λ b. new ≡ Some b) in
    subst (λ h. IsThere admits h) (sym (subst M left comes)) done
left_with admits (Discarded u w k) None kept between now new there left comes done = absurd (cc)
left_with admits (Discarded u w k) (Some y) kept between now new there left comes done =
    let M : Option _ → Type 0 = λ h. MatchOption h (new ≡ now) (λ b. new ≡ Some b) in subst M left comes
