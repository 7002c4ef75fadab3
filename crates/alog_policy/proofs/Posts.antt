-- How the events of a post go on, from round to round and to its end.
use Rattle.std.proofs.Common.{◌≡◌, ℕ, ◌+◌, ◌<◌, cond, Ok, Err, List, [], ◌∷◌, ◌++◌, length}
use Rattle.std.proofs.Common.{refl, sym, ap, subst, ◌∙◌, arith, zero-add, add_assoc, append_assoc, append-nil, length-append}
use Rattle.std.specs.List.{AllByRecursion}
use Rattle.alog_core.specs.Queue.{Event, Full}
use Rattle.alog_core.proofs.SharedCells.{on_test}
use Rattle.alog_ring.proofs.SharedLists.{each_append}
use Rattle.alog_policy.specs.Post.{Round, PushBeaten, Overran, PopBeaten, Waited, events_of_round, IsRoundUnder, End}
use Rattle.alog_policy.specs.Post.{NoRoom, OutOfRounds, events_of_end, IsEndUnder, outcome_of}
use Rattle.alog_policy.specs.Post.{counted, events_of_rounds, take_in, takes_in, write_in, writes_in, IsPost, Part, Pushing, Popping}
use Rattle.alog_policy.specs.Post.{events_of_part, IsPartUnder, IsUnderWay}
use Rattle.alog_policy.specs.Progress.{begun, lost, pushing, again_under, again, full_under}
use Rattle.alog_policy.specs.Progress.{after_full, after_take, IsFresh, IsSoFar, Agrees}
use Rattle.alog_policy.specs.declared.TheConstants.{ROUNDS_MAX}
use Rattle.alog_policy.specs.declared.policy.Policy.{Policy}
use Rattle.alog_policy.specs.declared.policy.Policy.TheVariants.{Block, OverrunOldest, DiscardNew}
use Rattle.alog_policy.specs.declared.policy.Why.TheVariants as why
use Rattle.alog_policy.specs.declared.policy.Outcome.TheVariants.{Discarded}
use Rattle.alog_policy.specs.declared.progress.Side.{Side}
use Rattle.alog_policy.specs.declared.progress.Side.TheVariants.{Push, Pop}
use Rattle.alog_policy.specs.declared.progress.Progress.{Progress}

events_of_rounds-last : {T : Type 0} (rs : List (Round T)) (r : Round T)
    → events_of_rounds (rs ++ r ∷ []) ≡ events_of_rounds rs ++ events_of_round r
events_of_rounds-last [] r = append-nil (events_of_round r)
events_of_rounds-last {T} (s ∷ rs) r =
    ap (λ (es : List (Event T)). events_of_round s ++ es) (events_of_rounds-last rs r)
    ∙ sym (append_assoc (events_of_round s) (events_of_rounds rs) (events_of_round r))

pub takes_in-append : {T : Type 0} (es fs : List (Event T)) → takes_in (es ++ fs) ≡ takes_in es + takes_in fs
takes_in-append [] fs = sym (zero-add (takes_in fs))
takes_in-append (e ∷ es) fs =
    ap (λ n. take_in e + n) (takes_in-append es fs) ∙ sym (add_assoc (take_in e) (takes_in es) (takes_in fs))

pub writes_in-append : {T : Type 0} (es fs : List (Event T)) → writes_in (es ++ fs) ≡ writes_in es + writes_in fs
writes_in-append [] fs = sym (zero-add (writes_in fs))
writes_in-append (e ∷ es) fs =
    ap (λ n. write_in e + n) (writes_in-append es fs) ∙ sym (add_assoc (write_in e) (writes_in es) (writes_in fs))

round_writes_nothing : {T : Type 0} (r : Round T) → writes_in (events_of_round r) ≡ 0
round_writes_nothing (PushBeaten t) = refl
round_writes_nothing (Overran f t y) = refl
round_writes_nothing (PopBeaten f t) = refl
round_writes_nothing (Waited f) = refl

-- no round that goes on writes anything
pub rounds_write_nothing : {T : Type 0} (rs : List (Round T)) → writes_in (events_of_rounds rs) ≡ 0
rounds_write_nothing [] = refl
rounds_write_nothing (r ∷ rs) = writes_in-append (events_of_round r) (events_of_rounds rs)
    ∙ (λ i. round_writes_nothing r i + rounds_write_nothing rs i)

-- nor does a round of which only the push was made
pub fresh_writes_nothing : {T : Type 0} (x : T) (s : Side) (b : Part) → IsFresh s b → writes_in (events_of_part x b) ≡ 0
fresh_writes_nothing {T} x Push b is = ap (λ (p : Part). writes_in (events_of_part x p)) is
fresh_writes_nothing {T} x Pop b is = ap (λ (p : Part). writes_in (events_of_part x p)) is.1

-- what comes behind rounds and the part of one, as the rounds and the whole of that one
joined : {T : Type 0} (es rs part made whole : List (Event T)) → es ≡ rs ++ part → part ++ made ≡ whole
    → es ++ made ≡ rs ++ whole
joined {T} es rs part made whole e f =
    ap (λ (xs : List (Event T)). xs ++ made) e
    ∙ (append_assoc rs part made ∙ ap (λ (xs : List (Event T)). rs ++ xs) f)

module _ {T : Type 0} (p : Policy) (x : T) (k o : ℕ) (part : Part) (es made : List (Event T))
    (way : IsUnderWay p x k o part es) where
  overran_more : o + takes_in made ≡ takes_in (es ++ made)
  overran_more = ap (λ n. n + takes_in made) way.overran_is ∙ sym (takes_in-append es made)

  rounds_more : (r : Round T) → events_of_part x part ++ made ≡ events_of_round r
      → es ++ made ≡ events_of_rounds (way.rounds ++ r ∷ []) ++ []
  rounds_more r whole =
      joined es (events_of_rounds way.rounds) (events_of_part x part) made (events_of_round r) way.events_are whole
      ∙ (sym (events_of_rounds-last way.rounds r) ∙ sym (append-nil (events_of_rounds (way.rounds ++ r ∷ []))))

  go_on_more : (r : Round T) → IsRoundUnder p r → AllByRecursion (IsRoundUnder p) (way.rounds ++ r ∷ [])
  go_on_more r under = each_append (IsRoundUnder p) way.rounds (r ∷ []) way.go_on (under, tt)

  length_more : (r : Round T) → length (way.rounds ++ r ∷ []) ≡ length way.rounds + 1
  length_more r = length-append way.rounds (r ∷ [])

  -- a round went on, and another one begins
  under_way_again : (r : Round T) (l : ℕ) → IsRoundUnder p r → events_of_part x part ++ made ≡ events_of_round r
      → l ≡ counted p (length way.rounds + 1) → l < ROUNDS_MAX
      → IsUnderWay p x l (o + takes_in made) Pushing (es ++ made)
  under_way_again r l under whole count within =
      record {
        rounds = way.rounds ++ r ∷ [];
        go_on = go_on_more r under;
        count = count ∙ ap (counted p) (sym (length_more r));
        within = within;
        of_part = tt;
        events_are = rounds_more r whole;
        overran_is = overran_more;
      }

  -- a round went on, and it was the last
  out_of_rounds : {V : Type 0} (v : V) (r : Round T) → IsRoundUnder p r
      → events_of_part x part ++ made ≡ events_of_round r → counted p (length way.rounds + 1) ≡ ROUNDS_MAX
      → IsPost p x v (es ++ made) (Discarded v why.Busy (o + takes_in made))
  out_of_rounds v r under whole count =
      record {
        rounds = way.rounds ++ r ∷ [];
        end = OutOfRounds;
        go_on = go_on_more r under;
        ends = ap (counted p) (length_more r) ∙ count;
        events_are = rounds_more r whole;
        outcome_is = ap (Discarded v why.Busy) overran_more;
      }

  -- the round goes on
  pub part_agrees : (next : Part) → IsPartUnder p next → events_of_part x part ++ made ≡ events_of_part x next
      → takes_in made ≡ 0 → IsUnderWay p x k o next (es ++ made)
  part_agrees next under whole none =
      record {
        rounds = way.rounds;
        go_on = way.go_on;
        count = way.count;
        within = way.within;
        of_part = under;
        events_are = joined es (events_of_rounds way.rounds) (events_of_part x part) made (events_of_part x next)
            way.events_are whole;
        overran_is = let more = overran_more in omega (arith, more, none);
      }

  -- the round ends the post
  pub end_agrees : {V : Type 0} (v : V) (e : End) → IsEndUnder p k e → events_of_part x part ++ made ≡ events_of_end x e
      → takes_in made ≡ 0 → IsPost p x v (es ++ made) (outcome_of v o e)
  end_agrees {V} v e under whole none =
      record {
        rounds = way.rounds;
        end = e;
        go_on = way.go_on;
        ends = subst (λ n. IsEndUnder p n e) way.count under;
        events_are = joined es (events_of_rounds way.rounds) (events_of_part x part) made (events_of_end x e)
            way.events_are whole;
        outcome_is = ap (λ n. outcome_of v n e) (let more = overran_more in omega (arith, more, none));
      }

-- the same, by the policy
again_agrees_under : {T V : Type 0} {p : Policy} {x : T} (v : V) (s : Side) {k o : ℕ} {part : Part} {es : List (Event T)}
    (made : List (Event T))
    (r : Round T) → IsUnderWay p x k o part es → IsRoundUnder p r → events_of_part x part ++ made ≡ events_of_round r
    → Agrees p x v (es ++ made)
    (again_under p (record { policy = p; side = s; rounds = k; overran = o + takes_in made }))
again_agrees_under {p = Block} {x} v s {k} {o} {part} {es} made r way under whole =
    (refl, (Pushing, refl, under_way_again Block x k o part es made way r k under whole way.count way.within))
again_agrees_under {T} {V} {p = OverrunOldest} {x} v s {k} {o} {part} {es} made r way under whole =
    let g : Progress = record { policy = OverrunOldest; side = s; rounds = k; overran = o + takes_in made } in
    let count : k + 1 ≡ counted OverrunOldest (length way.rounds + 1) = ap (λ n. n + 1) way.count in
    let le = way.within in
    on_test (λ b. Agrees OverrunOldest x v (es ++ made) (cond b (Err (lost g why.Busy)) (Ok (pushing g (k + 1))))) (k + 1)
    ROUNDS_MAX (λ e. out_of_rounds OverrunOldest x k o part es made way v r under whole (sym count ∙ e))
    (λ other. (
      refl,
      (
        Pushing,
        refl,
        under_way_again OverrunOldest x k o part es made way r (k + 1) under whole count (omega (arith, le, other)),
      ),
    ))
again_agrees_under {T} {V} {p = DiscardNew} {x} v s {k} {o} {part} {es} made r way under whole =
    let g : Progress = record { policy = DiscardNew; side = s; rounds = k; overran = o + takes_in made } in
    let count : k + 1 ≡ counted DiscardNew (length way.rounds + 1) = ap (λ n. n + 1) way.count in
    let le = way.within in
    on_test (λ b. Agrees DiscardNew x v (es ++ made) (cond b (Err (lost g why.Busy)) (Ok (pushing g (k + 1))))) (k + 1)
    ROUNDS_MAX (λ e. out_of_rounds DiscardNew x k o part es made way v r under whole (sym count ∙ e))
    (λ other. (
      refl,
      (
        Pushing,
        refl,
        under_way_again DiscardNew x k o part es made way r (k + 1) under whole count (omega (arith, le, other)),
      ),
    ))

add_none : (n m : ℕ) → m ≡ 0 → n + m ≡ n
add_none n m e = omega (arith, e)

-- a round that goes on without a loss
pub again_agrees : {T V : Type 0} (g : Progress) {x : T} (v : V) {part : Part} {es : List (Event T)} (made : List (Event T)) (r : Round T)
    → IsSoFar g x part es → IsRoundUnder g.policy r → events_of_part x part ++ made ≡ events_of_round r → takes_in made ≡ 0
    → Agrees g.policy x v (es ++ made) (again g)
again_agrees {T} {V} g {x} v {part} {es} made r way under whole none =
    let same : g.overran + takes_in made ≡ g.overran = add_none g.overran (takes_in made) none in
    subst
    (λ n. Agrees g.policy x v (es ++ made)
    (again_under g.policy (record { policy = g.policy; side = g.side; rounds = g.rounds; overran = n }))) same
    (again_agrees_under v g.side made r way under whole)

-- a round that took the oldest item out
pub take_agrees : {T V : Type 0} (g : Progress) {x : T} (v : V) {part : Part} {es : List (Event T)} (made : List (Event T)) (r : Round T)
    → IsSoFar g x part es → IsRoundUnder g.policy r → events_of_part x part ++ made ≡ events_of_round r → takes_in made ≡ 1
    → Agrees g.policy x v (es ++ made) (after_take g)
take_agrees {T} {V} g {x} v {part} {es} made r way under whole one =
    subst
    (λ n. Agrees g.policy x v (es ++ made)
    (again_under g.policy (record { policy = g.policy; side = g.side; rounds = g.rounds; overran = g.overran + n }))) one
    (again_agrees_under v g.side made r way under whole)

full_agrees_under : {T V : Type 0} {p q : Policy} (s : Side) {x : T} (v : V) {k o : ℕ} {es : List (Event T)} (f : ℕ) → p ≡ q
    → IsUnderWay p x k o Pushing es
    → Agrees p x v (es ++ Full f ∷ []) (full_under q (record { policy = p; side = s; rounds = k; overran = o }))
full_agrees_under {p} {q = Block} s {x} v {k} {o} {es} f is way =
    again_agrees (record { policy = p; side = s; rounds = k; overran = o }) v (Full f ∷ []) (Waited f) way is refl refl
full_agrees_under {p} {q = OverrunOldest} s {x} v {k} {o} {es} f is way =
    (refl, (Popping f, (f, refl), part_agrees p x k o Pushing es (Full f ∷ []) way (Popping f) is refl refl))
full_agrees_under {p} {q = DiscardNew} s {x} v {k} {o} {es} f is way =
    end_agrees p x k o Pushing es (Full f ∷ []) way v (NoRoom f) (way.within, is) refl refl

-- a push that found the queue full
pub full_agrees : {T V : Type 0} (g : Progress) (x : T) (v : V) (es : List (Event T)) (f : ℕ) → IsSoFar g x Pushing es
    → Agrees g.policy x v (es ++ Full f ∷ []) (after_full g)
full_agrees g x v es f way = full_agrees_under {q = g.policy} g.side v f refl way

-- before the first round
pub begun_agrees : {T : Type 0} (p : Policy) (x : T) → IsSoFar (begun p) x Pushing []
begun_agrees Block x = record {
  rounds = [];
  go_on = tt;
  count = refl;
  within = omega arith;
  of_part = tt;
  events_are = refl;
  overran_is = refl;
}
begun_agrees OverrunOldest x = record {
  rounds = [];
  go_on = tt;
  count = refl;
  within = omega arith;
  of_part = tt;
  events_are = refl;
  overran_is = refl;
}
begun_agrees DiscardNew x = record {
  rounds = [];
  go_on = tt;
  count = refl;
  within = omega arith;
  of_part = tt;
  events_are = refl;
  overran_is = refl;
}
