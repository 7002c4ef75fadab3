-- A post that is made at once, from its first call to its end.
use Rattle.std.proofs.Common.{◌≡◌, ◌≢◌, ℕ, ◌+◌, ◌⊎◌, inl, inr, Option, Some, Result, Ok, Err, List, [], ◌∷◌, ◌++◌, refl, sym, ap, subst, ◌∙◌}
use Rattle.std.proofs.Common.{add-zero, append-nil}
use Rattle.std.specs.Prelude.{IsSome}
use Rattle.alog_core.specs.Queue.{Event, Claim, Write}
use Rattle.alog_policy.specs.Post.{IsPost, Part, Pushing, takes_in, writes_in, events_of_rounds, events_of_part}
use Rattle.alog_policy.specs.Post.{End, Wrote, OutOfTickets, NoRoom, NothingToTake, AllGrabbed}
use Rattle.alog_policy.specs.Post.{OutOfRounds, outcome_of}
use Rattle.alog_policy.specs.Progress.{IsKept, IsFresh, IsSoFar, without_waiting, begun}
use Rattle.alog_policy.specs.Outlet.{Doing, Posts, Leads, with_value, left_in, IsLeft, IsPostedOrSpent}
use Rattle.alog_policy.specs.declared.policy.Policy.{Policy}
use Rattle.alog_policy.specs.declared.policy.Policy.TheVariants.{Block, OverrunOldest, DiscardNew}
use Rattle.alog_policy.specs.declared.policy.Outcome.{Outcome}
use Rattle.alog_policy.specs.declared.policy.Outcome.TheVariants.{Posted, Discarded}
use Rattle.alog_policy.specs.declared.progress.Side.TheVariants.{Push}
use Rattle.alog_policy.specs.declared.progress.Progress.{Progress}
use Rattle.alog_policy.specs.declared.progress.Lost.{Lost}
use Rattle.alog_policy.proofs.Posts.{end_agrees, begun_agrees, takes_in-append, writes_in-append, rounds_write_nothing, fresh_writes_nothing}
use Rattle.alog_policy.proofs.Keeping.{kept_begun}
use Rattle.alog_policy.proofs.Leading.{fresh_push}
use Rattle.alog_policy.proofs.SharedLosses.{overran_takes}

pub never_block : (p : Policy) → without_waiting p ≢ Block
never_block Block h = absurd (cc)
never_block OverrunOldest h = absurd (cc)
never_block DiscardNew h = absurd (cc)

-- the outlet did this, or nothing yet
abbrev pub DidSoFar : {S T : Type 0} → Doing S T → S → List (Event T) → S → Type 0
DidSoFar did a es b = ((es ≡ []) × (a ≡ b)) ⊎ did a es (takes_in es) 0 b

-- what was done first and what was done then are one
abbrev pub AreTogether : {S T : Type 0} → Doing S T → Type 0
AreTogether {S} {T} did =
    (a b c : S) (es fs : List (Event T)) (k l m n : ℕ) → did a es k l b → did b fs m n c → did a (es ++ fs) (k + m) (l + n) c

-- The post under way: it brings v, of which a cell shows x.
pub record IsPosting {S T V : Type 0} (did : Doing S T) (fit : S → Type 0) (p : Policy) (x : T) (v : V) (first : S)
    (g : Progress) (now : S) : Type 0 where
  pub ready : fit now
  pub kept : IsKept g
  pub policy : g.policy ≡ p
  pub part : Part
  pub events : List (Event T)
  pub fresh : IsFresh g.side part
  pub way : IsSoFar g x part events
  pub done : DidSoFar did first events now

done_more : {S T : Type 0} (did : Doing S T) (one : AreTogether did) {a b c : S} {es fs : List (Event T)}
    → DidSoFar did a es b → did b fs (takes_in fs) 0 c → did a (es ++ fs) (takes_in (es ++ fs)) 0 c
done_more {S} {T} did one {a} {c} {fs} (inl h) then =
    subst (λ (gs : List (Event T)). did a (gs ++ fs) (takes_in (gs ++ fs)) 0 c) (sym h.0)
    (subst (λ (s : S). did s fs (takes_in fs) 0 c) (sym h.1) then)
done_more {S} {T} did one {a} {b} {c} {es} {fs} (inr h) then =
    subst (λ n. did a (es ++ fs) n 0 c) (sym (takes_in-append es fs))
    (one a b c es fs (takes_in es) 0 (takes_in fs) 0 h then)

module _ {S T V : Type 0} (did : Doing S T) (fit : S → Type 0) (one : AreTogether did) where
  pub posting_begins : (p : Policy) (x : T) (v : V) (first : S) (g : Progress) → g ≡ begun p → fit first
      → IsPosting did fit p x v first g first
  posting_begins p x v first g e ready =
      subst (λ (h : Progress). IsPosting did fit p x v first h first) (sym e)
      (record {
        ready = ready;
        kept = kept_begun p;
        policy = refl;
        part = Pushing;
        events = [];
        fresh = refl;
        way = begun_agrees p x;
        done = inl (refl, refl);
      })

  module _ (p : Policy) (x : T) (v : V) (first now new : S) (g : Progress) (posting : IsPosting did fit p x v first g now) where
    pub posting_goes_on : (h : Progress) → Leads did fit x v g now new (Ok h) → IsPosting did fit p x v first h new
    posting_goes_on h leads =
        let agrees = leads.agrees posting.part posting.events posting.fresh posting.way in
        record {
          ready = leads.ready;
          kept = leads.kept;
          policy = agrees.0 ∙ posting.policy;
          part = agrees.1.0;
          events = posting.events ++ leads.made;
          fresh = agrees.1.1;
          way = agrees.1.2;
          done = inr (done_more did one posting.done leads.done);
        }

    pub posting_is_lost : (l : Lost) (final : S) → Leads did fit x v g now new (Err l) → did new [] 0 1 final
        → Posts did p x v first final (Discarded v l.why l.overran)
    posting_is_lost l final leads counted =
        let events = posting.events ++ leads.made in
        let agrees = leads.agrees posting.part posting.events posting.fresh posting.way in
        let post : IsPost p x v events (Discarded v l.why l.overran) =
        subst (λ (q : Policy). IsPost q x v events (Discarded v l.why l.overran)) posting.policy agrees in
        let all : did first (events ++ []) (takes_in events + 0) 1 final =
        one first new final events [] (takes_in events) 0 0 1
        (done_more did one posting.done leads.done) counted in
        record {
          events = events;
          post = post;
          done = subst (λ (es : List (Event T)). did first es l.overran 1 final) (append-nil events)
              (subst (λ n. did first (events ++ []) n 1 final)
              (add-zero (takes_in events) ∙ overran_takes p x v events (Discarded v l.why l.overran) post) all);
        }

    pub posting_wrote : (t : ℕ) → g.side ≡ Push → did now (Claim t x ∷ Write t ∷ []) 0 0 new
        → Posts did p x v first new (Posted t g.overran)
    posting_wrote t side wrote =
        let made : List (Event T) = Claim t x ∷ Write t ∷ [] in
        let events = posting.events ++ made in
        let way = subst (λ (b : Part). IsSoFar g x b posting.events) (fresh_push g.side posting.part side posting.fresh)
        posting.way in
        let post : IsPost p x v events (Posted t g.overran) =
        subst (λ (q : Policy). IsPost q x v events (Posted t g.overran)) posting.policy
        (end_agrees g.policy x g.rounds g.overran Pushing posting.events made way v (Wrote t) posting.kept.within refl refl) in
        record {
          events = events;
          post = post;
          done = subst (λ n. did first events n 0 new)
              (overran_takes p x v events (Posted t g.overran) post)
              (done_more did one posting.done wrote);
        }

-- the same lead, where the outlet and what follows are told by other names
pub leads_told : {S T V : Type 0} {did : Doing S T} {fit : S → Type 0} {x : T} {v : V} {g : Progress}
    {old new told : S} {next told_next : Result Progress Lost} → told ≡ new → told_next ≡ next
    → Leads did fit x v g old new next → Leads did fit x v g old told told_next
leads_told {S} {T} {V} {did} {fit} {x} {v} {g} {old} {new} {told_next} f h leads =
    subst (λ (s : S). Leads did fit x v g old s told_next) (sym f)
    (subst (λ (r : Result Progress Lost). Leads did fit x v g old new r) (sym h) leads)

-- nothing is written as long as a post goes on
pub nothing_written : {T : Type 0} (g : Progress) (x : T) (part : Part) (es : List (Event T)) → IsFresh g.side part
    → IsSoFar g x part es → writes_in es ≡ 0
nothing_written {T} g x part es fresh way =
    ap (λ (fs : List (Event T)). writes_in fs) way.events_are
    ∙ (writes_in-append (events_of_rounds way.rounds) (events_of_part x part)
    ∙ (λ i. rounds_write_nothing way.rounds i + fresh_writes_nothing x g.side part fresh i))

-- what was admitted first is admitted still
pub stays_admitted : {S T V : Type 0} (did : Doing S T) (admits : S → V → Type 0)
    → ((a b : S) (v : V) (es : List (Event T)) (k l : ℕ) → writes_in es ≡ 0 → did a es k l b → admits a v → admits b v)
    → (a : S) {b : S} {v : V} {es : List (Event T)} → writes_in es ≡ 0 → DidSoFar did a es b → admits a v → admits b v
stays_admitted did admits still a {v} quiet (inl none) is = subst (λ s. admits s v) none.1 is
stays_admitted did admits still a {b} {v} {es} quiet (inr done) is = still a b v es (takes_in es) 0 quiet done is

with_value-outcome : {V : Type 0} (v : V) (k : ℕ) (e : End) → with_value v (outcome_of (tt {0}) k e) ≡ outcome_of v k e
with_value-outcome v k (Wrote t) = refl
with_value-outcome v k OutOfTickets = refl
with_value-outcome v k (NoRoom f) = refl
with_value-outcome v k (NothingToTake f t) = refl
with_value-outcome v k (AllGrabbed f t) = refl
with_value-outcome v k OutOfRounds = refl

post_with : {T V : Type 0} (p : Policy) (x : T) (v : V) (es : List (Event T)) (o : Outcome (Unit {0}))
    → IsPost p x (tt {0}) es o → IsPost p x v es (with_value v o)
post_with p x v es o q = record {
  rounds = q.rounds;
  end = q.end;
  go_on = q.go_on;
  ends = q.ends;
  events_are = q.events_are;
  outcome_is = ap (with_value v) q.outcome_is ∙ with_value-outcome v (takes_in es) q.end;
}

-- a post that leaves its value in a hand is the same post with its value handed back
pub posts_with : {S T V : Type 0} (did : Doing S T) (p : Policy) (x : T) (v : V) (old new : S) (o : Outcome (Unit {0}))
    → Posts did p x (tt {0}) old new o → Posts did p x v old new (with_value v o)
posts_with did p x v old new (Posted t k) q = record {
  events = q.events;
  post = post_with p x v q.events (Posted t k) q.post;
  done = q.done;
}
posts_with did p x v old new (Discarded u w k) q = record {
  events = q.events;
  post = post_with p x v q.events (Discarded u w k) q.post;
  done = q.done;
}

-- what a post leaves is left
pub is_left : {V : Type 0} (o : Outcome (Unit {0})) (v : V) (hand : Option V) → hand ≡ left_in o (Some v) → IsLeft o hand
is_left (Posted t k) v hand e = e
is_left (Discarded u w k) v hand e = let P : Option _ → Type 0 = λ h. IsSome h in subst P (sym e) refl

pub posted_or_spent_with : {V : Type 0} (v : V) (o : Outcome (Unit {0})) → IsPostedOrSpent o → IsPostedOrSpent (with_value v o)
posted_or_spent_with v (Posted t k) is = is
posted_or_spent_with v (Discarded u w k) is = is
