-- A step counts its losses: an overrun at the take of a post, a discarded post at its end.
use Rattle.std.proofs.Common.{◌≡◌, ℕ, ◌+◌, Option, None, Some, Result, Ok, Err, sym, ap, subst, ◌∙◌, refl, add-zero, zero-add}
use Rattle.alog_core.specs.Queue.{Event, Claim, Write, Grab, Take, Full, Front, Empty, Idle, PushBusy, PopBusy, Spent}
use Rattle.alog_core.specs.Round.{Move}
use Rattle.alog_core.specs.World.{Machine, said_of, brought}
use Rattle.alog_core.specs.declared.round.Round.{Round}
use Rattle.alog_core.specs.declared.said.Said.{Said}
use Rattle.alog_core.specs.declared.said.Said.TheVariants as said
use Rattle.alog_policy.specs.Post.{takes_in}
use Rattle.alog_policy.specs.Desk.{Follows, Stays, Ends, Leads, follows, value_in, with_said, with_discard, turn_to, turn_of, event_of}
use Rattle.alog_policy.specs.DeskOutlet.{with_losses}
use Rattle.alog_policy.specs.Following.{IsThere, HasValue}
use Rattle.alog_policy.specs.Runs.{discards_of}
use Rattle.alog_policy.specs.Together.{with_losses-add}
use Rattle.alog_policy.specs.declared.counts.Counts.{Counts}
use Rattle.alog_policy.specs.declared.post.Post.{Post}
use Rattle.alog_policy.specs.declared.progress.Progress.{Progress}
use Rattle.alog_policy.specs.declared.progress.Lost.{Lost}
use Rattle.alog_policy.proofs.Desks.{saying}

said_takes : {T : Type 0} (c : Counts) (x : Option T) (o : Option (Event T))
    → with_said c (said_of x o) ≡ with_losses c (takes_in (event_of o)) 0
said_takes c x None = refl
said_takes c x (Some (Claim t y)) = refl
said_takes c x (Some (Write t)) = refl
said_takes c x (Some (Grab t)) = refl
said_takes c x (Some (Take t y)) = refl
said_takes c x (Some (Full t)) = refl
said_takes c x (Some (Front t)) = refl
said_takes c x (Some (Empty t)) = refl
said_takes c x (Some (Idle t)) = refl
said_takes c x (Some (PushBusy t)) = refl
said_takes c x (Some (PopBusy t)) = refl
said_takes c x (Some Spent) = refl

turn_discards : {T : Type 0} (w : Machine T) (a : ℕ) (p : Post T) (c : Counts) (v : Option T) (f : Follows)
    → ((next : Result Progress Lost) → f ≡ Leads next → IsThere v)
    → (turn_to w a p c v f).counts ≡ with_losses c 0 (discards_of (turn_to w a p c v f).outcome)
turn_discards w a p c v Stays there = refl
turn_discards w a p c v (Ends t) there = refl
turn_discards w a p c v (Leads (Ok g)) there = refl
turn_discards {T} w a p c v (Leads (Err l)) there =
    let x = there (Err l) refl in
    subst (λ (u : Option T). with_discard c ≡ with_losses c 0 (discards_of (turn_to w a p c u (Leads (Err l))).outcome))
    (sym x.1) refl

value_there : {T : Type 0} (p : Post T) (s : Said T) (next : Result Progress Lost) → HasValue p s
    → follows p.progress s ≡ Leads next → IsThere (value_in p.hand s)
value_there p said.Nothing next h e = absurd (cc)
value_there p (said.Claim t) next h e = absurd (cc)
value_there p (said.Write t) next h e = absurd (cc)
value_there p (said.Full t x) next h e = h
value_there p (said.Grab t) next h e = absurd (cc)
value_there p (said.Take t y) next h e = h.0
value_there p (said.Front t) next h e = absurd (cc)
value_there p (said.Empty t) next h e = h
value_there p (said.Idle t) next h e = h
value_there p (said.Busy t x) next h e = h
value_there p (said.Spent x) next h e = h

-- the counts after the turn of a post
pub turn_counts : {T : Type 0} (w : Machine T) (a : ℕ) (p : Post T) (c : Counts) (r : Round T) (m : Move T)
    → HasValue p (saying r m)
    → (turn_of w a p c (saying r m)).counts
    ≡ with_losses c (takes_in (event_of m.event)) (discards_of (turn_of w a p c (saying r m)).outcome)
turn_counts {T} w a p c r m value =
    let s = saying r m in
    let d = with_said c s in
    let out = discards_of (turn_of w a p c s).outcome in
    let takes = takes_in (event_of m.event) in
    turn_discards w a p d (value_in p.hand s) (follows p.progress s) (λ next leads. value_there p s next value leads)
    ∙ (ap (λ k. with_losses k 0 out) (said_takes c (brought r) m.event)
    ∙ (with_losses-add c takes 0 0 out
    ∙ (ap (λ k. with_losses c k (0 + out)) (add-zero takes) ∙ ap (λ k. with_losses c takes k) (zero-add out))))
