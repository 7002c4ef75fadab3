-- What one push or one pop of a post leads to, by what the outlet tells of it.
use Rattle.std.proofs.Common.{◌≡◌, ◌≢◌, ◌<◌, ℕ, Result, Err, List, [], ◌∷◌, ◌++◌, refl, sym, ap, subst}
use Rattle.std.specs.Prelude.{IfOk}
use Rattle.alog_core.specs.Queue.{Event, Grab, Take, Full, Front, Empty, Idle, PushBusy, PopBusy, Spent}
use Rattle.alog_policy.specs.Post.{Round, PushBeaten, PopBeaten, IsPost, Part, Pushing, Popping, takes_in, End, Wrote}
use Rattle.alog_policy.specs.Post.{OutOfTickets, NothingToTake, AllGrabbed, overran_in, discards_in}
use Rattle.alog_policy.specs.Post as post
use Rattle.alog_policy.specs.Progress.{IsKept, IsFresh, IsSoFar, Agrees, lost, again, after_full, after_take, work}
use Rattle.alog_policy.specs.Outlet.{Doing, Refused, Overran, Leads}
use Rattle.alog_policy.specs.declared.policy.Policy.TheVariants.{Block}
use Rattle.alog_policy.specs.declared.policy.Why.TheVariants as why
use Rattle.alog_policy.specs.declared.progress.Side.{Side}
use Rattle.alog_policy.specs.declared.progress.Side.TheVariants.{Push, Pop}
use Rattle.alog_policy.specs.declared.progress.Progress.{Progress}
use Rattle.alog_policy.specs.declared.progress.Lost.{Lost}
use Rattle.alog_policy.proofs.Posts.{again_agrees, take_agrees, full_agrees, end_agrees}
use Rattle.alog_policy.proofs.Keeping.{kept_again, kept_full, kept_take}
use Rattle.alog_policy.proofs.Working.{less_again, less_full, less_take}

pub fresh_push : (s : Side) (b : Part) → s ≡ Push → IsFresh s b → b ≡ Pushing
fresh_push Push b e h = h
fresh_push Pop b e h = absurd (cc)

pub fresh_pop : (s : Side) (b : Part) → s ≡ Pop → IsFresh s b → (f : ℕ) × (b ≡ Popping f)
fresh_pop Push b e h = absurd (cc)
fresh_pop Pop b e h = h

module _ {S T V : Type 0} (did : Doing S T) (fit : S → Type 0) (x : T) (v : V) (g : Progress) (old new : S)
    (kept : IsKept g) where
  -- from the events made, and how they agree with whatever the post was
  leads : {next next' : Result Progress Lost} {made : List (Event T)} → next ≡ next' → did old made (takes_in made) 0 new
      → fit new → IfOk next' IsKept
      → (g.policy ≢ Block → IfOk next' (λ h. work h < work g))
      → ((b : Part) (es : List (Event T)) → IsFresh g.side b → IsSoFar g x b es → Agrees g.policy x v (es ++ made) next')
      → Leads did fit x v g old new next
  leads {made} e done ready keeps less agrees =
      subst (λ (r : Result Progress Lost). Leads did fit x v g old new r) (sym e)
      (record { made = made; done = done; ready = ready; kept = keeps; less = less; agrees = agrees })

  pub full_leads : (next : Result Progress Lost) (f : ℕ) → g.side ≡ Push → next ≡ after_full g
      → Refused did fit old (Full f ∷ []) new → Leads did fit x v g old new next
  full_leads next f side e h =
      leads e h.0 h.1 (kept_full g kept)
      (λ not. less_full g not side kept.within)
      (λ b es fresh way.
      full_agrees g x v es f (subst (λ (p : Part). IsSoFar g x p es) (fresh_push g.side b side fresh) way))

  pub push_busy_leads : (next : Result Progress Lost) (t : ℕ) → g.side ≡ Push → next ≡ again g
      → Refused did fit old (PushBusy t ∷ []) new → Leads did fit x v g old new next
  push_busy_leads next t side e h =
      leads e h.0 h.1 (kept_again g kept)
      (λ not. less_again g not kept.within)
      (λ b es fresh way.
      again_agrees g v (PushBusy t ∷ []) (PushBeaten t) (subst (λ (p : Part). IsSoFar g x p es) (fresh_push g.side b side fresh) way) tt
      refl refl)

  pub spent_leads : (l : Lost) → g.side ≡ Push → l ≡ lost g why.Spent → Refused did fit old (Spent ∷ []) new
      → Leads did fit x v g old new (Err l)
  spent_leads l side e h =
      leads (ap Err e) h.0 h.1 tt
      (λ _. tt)
      (λ b es fresh way.
      end_agrees g.policy x g.rounds g.overran Pushing es (Spent ∷ [])
      (subst (λ (p : Part). IsSoFar g x p es) (fresh_push g.side b side fresh) way) v OutOfTickets kept.within refl refl)

  -- what the post was, where it pops
  pop_way : (b : Part) (es : List (Event T)) → g.side ≡ Pop → IsFresh g.side b → IsSoFar g x b es
      → (f : ℕ) × IsSoFar g x (Popping f) es
  pop_way b es side fresh way =
      let at = fresh_pop g.side b side fresh in (at.0, subst (λ (p : Part). IsSoFar g x p es) at.1 way)

  pub overran_leads : (next : Result Progress Lost) (t : ℕ) → g.side ≡ Pop → next ≡ after_take g
      → Overran did fit old t new → Leads did fit x v g old new next
  overran_leads next t side e h =
      let y = h.0.0 in
      leads e h.0.1 h.1 (kept_take g kept side)
      (λ not. less_take g not kept.within)
      (λ b es fresh way.
      let at = pop_way b es side fresh way in
      take_agrees g v (Grab t ∷ Take t y ∷ []) (post.Overran at.0 t y) at.1 (kept.pops side) refl refl)

  pub pop_busy_leads : (next : Result Progress Lost) (t : ℕ) → g.side ≡ Pop → next ≡ again g
      → Refused did fit old (PopBusy t ∷ []) new → Leads did fit x v g old new next
  pop_busy_leads next t side e h =
      leads e h.0 h.1 (kept_again g kept)
      (λ not. less_again g not kept.within)
      (λ b es fresh way.
      let at = pop_way b es side fresh way in
      again_agrees g v (PopBusy t ∷ []) (PopBeaten at.0 t) at.1 (kept.pops side) refl refl)

  -- the pop found nothing to take
  pub empty_leads : (l : Lost) (t : ℕ) → g.side ≡ Pop → l ≡ lost g why.Stalled
      → Refused did fit old (Front t ∷ Empty t ∷ []) new → Leads did fit x v g old new (Err l)
  empty_leads l t side e h =
      leads (ap Err e) h.0 h.1 tt
      (λ _. tt)
      (λ b es fresh way.
      let at = pop_way b es side fresh way in
      end_agrees g.policy x g.rounds g.overran (Popping at.0) es (Front t ∷ Empty t ∷ []) at.1 v (NothingToTake at.0 t)
      (kept.within, kept.pops side) refl refl)

  pub idle_leads : (l : Lost) (t : ℕ) → g.side ≡ Pop → l ≡ lost g why.Stalled
      → Refused did fit old (Front t ∷ Idle t ∷ []) new → Leads did fit x v g old new (Err l)
  idle_leads l t side e h =
      leads (ap Err e) h.0 h.1 tt
      (λ _. tt)
      (λ b es fresh way.
      let at = pop_way b es side fresh way in
      end_agrees g.policy x g.rounds g.overran (Popping at.0) es (Front t ∷ Idle t ∷ []) at.1 v (AllGrabbed at.0 t)
      (kept.within, kept.pops side) refl refl)
