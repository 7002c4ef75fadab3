-- Each step of a desk leaves an actor's own events cut into whole calls and the beginning of one.
use Rattle.std.proofs.Common.{◌≡◌, ◌≢◌, ℕ, Option, None, Some, Ok, Err}
use Rattle.std.proofs.Common.{List, [], ◌∷◌, ◌++◌, refl, sym, ap, subst, ◌∙◌, append_assoc, append-nil}
use Rattle.alog_core.specs.Queue.{Event, Claim, Write, Grab, Take, Full, Front, Empty, Idle, PushBusy, PopBusy, Spent}
use Rattle.alog_core.specs.Round.{Move}
use Rattle.alog_core.specs.World.{Machine, round_of}
use Rattle.alog_core.specs.declared.round.Round.{Round}
use Rattle.alog_core.specs.declared.round.Round.TheVariants as round
use Rattle.alog_core.specs.declared.said.Said.{Said}
use Rattle.alog_core.specs.declared.said.Said.TheVariants as said
use Rattle.alog_policy.specs.Post.{Part}
use Rattle.alog_policy.specs.Progress.{IsSoFar}
use Rattle.alog_policy.specs.Desk.{Follows, Stays, Ends, Leads, follows, value_in, with_said, turn_to, turn_of, event_of, IsAt}
use Rattle.alog_policy.specs.DeskInside.{FitsRound}
use Rattle.alog_policy.specs.Runs.{Call, ToPush, ToPop, ToPost, IsPush, IsPop, wrote, found_full, was_spent, took}
use Rattle.alog_policy.specs.Runs.{found_empty, found_idle, AreWhole, and_push}
use Rattle.alog_policy.specs.Runs.{and_pop, and_post, IsBegun, IsUnderWayIn, IsCut, outcome_in}
use Rattle.alog_policy.specs.Runs as runs
use Rattle.alog_policy.specs.declared.counts.Counts.{Counts}
use Rattle.alog_policy.specs.declared.policy.Policy.{Policy}
use Rattle.alog_policy.specs.declared.policy.Outcome.{Outcome}
use Rattle.alog_policy.specs.declared.post.Post.{Post}
use Rattle.alog_policy.proofs.SharedStepKinds.{PushHas, PopSeeks, Kind, IsIdle, Pushes, Claims, FindsFull, PushIsBusy, IsSpent, Writes}
use Rattle.alog_policy.proofs.SharedStepKinds.{Pops, Grabs, FindsFront, FindsEmpty, FindsIdle, PopIsBusy, Takes}
use Rattle.alog_policy.proofs.Desks.{saying, push_says, pop_says}
use Rattle.alog_policy.proofs.Turns.{CameTo}

one_push : {T : Type 0} (y z : T) (cs : List (Call T)) → y ≡ z → cs ≡ ToPush y ∷ [] → cs ≡ ToPush z ∷ []
one_push {T} y z cs e is = is ∙ ap (λ (w : T). let c : Call T = ToPush w in c ∷ []) e

begun_push : {T : Type 0} (y : T) (r : Round T) (cs : List (Call T)) (es : List (Event T)) → PushHas y r → IsBegun r cs es
    → (cs ≡ ToPush y ∷ []) × (es ≡ [])
begun_push y round.Idle cs es h b = absurd h
begun_push y (round.Push z) cs es h b = (one_push z y cs h b.0, b.1)
begun_push y (round.PushRead t z) cs es h b = (one_push z y cs h b.0, b.1)
begun_push y (round.PushFree t z) cs es h b = (one_push z y cs h b.0, b.1)
begun_push y (round.PushClaimed t) cs es h b = absurd h
begun_push y round.Pop cs es h b = absurd h
begun_push y (round.PopRead t) cs es h b = absurd h
begun_push y (round.PopReady t) cs es h b = absurd h
begun_push y (round.PopGrabbed t) cs es h b = absurd h
begun_push y (round.PopFronted t) cs es h b = absurd h

push_begun : {T : Type 0} (y : T) (r : Round T) (cs : List (Call T)) (es : List (Event T)) → PushHas y r
    → (cs ≡ ToPush y ∷ []) × (es ≡ []) → IsBegun r cs es
push_begun y round.Idle cs es h b = absurd h
push_begun y (round.Push z) cs es h b = (one_push y z cs (sym h) b.0, b.1)
push_begun y (round.PushRead t z) cs es h b = (one_push y z cs (sym h) b.0, b.1)
push_begun y (round.PushFree t z) cs es h b = (one_push y z cs (sym h) b.0, b.1)
push_begun y (round.PushClaimed t) cs es h b = absurd h
push_begun y round.Pop cs es h b = absurd h
push_begun y (round.PopRead t) cs es h b = absurd h
push_begun y (round.PopReady t) cs es h b = absurd h
push_begun y (round.PopGrabbed t) cs es h b = absurd h
push_begun y (round.PopFronted t) cs es h b = absurd h

begun_pop : {T : Type 0} (r : Round T) (cs : List (Call T)) (es : List (Event T)) → PopSeeks r → IsBegun r cs es
    → (cs ≡ ToPop ∷ []) × (es ≡ [])
begun_pop round.Idle cs es h b = absurd h
begun_pop (round.Push z) cs es h b = absurd h
begun_pop (round.PushRead t z) cs es h b = absurd h
begun_pop (round.PushFree t z) cs es h b = absurd h
begun_pop (round.PushClaimed t) cs es h b = absurd h
begun_pop round.Pop cs es h b = b
begun_pop (round.PopRead t) cs es h b = b
begun_pop (round.PopReady t) cs es h b = b
begun_pop (round.PopGrabbed t) cs es h b = absurd h
begun_pop (round.PopFronted t) cs es h b = absurd h

pop_begun : {T : Type 0} (r : Round T) (cs : List (Call T)) (es : List (Event T)) → PopSeeks r
    → (cs ≡ ToPop ∷ []) × (es ≡ []) → IsBegun r cs es
pop_begun round.Idle cs es h b = absurd h
pop_begun (round.Push z) cs es h b = absurd h
pop_begun (round.PushRead t z) cs es h b = absurd h
pop_begun (round.PushFree t z) cs es h b = absurd h
pop_begun (round.PushClaimed t) cs es h b = absurd h
pop_begun round.Pop cs es h b = b
pop_begun (round.PopRead t) cs es h b = b
pop_begun (round.PopReady t) cs es h b = b
pop_begun (round.PopGrabbed t) cs es h b = absurd h
pop_begun (round.PopFronted t) cs es h b = absurd h

-- a push or a pop after a step: it goes on, or it is whole
data PlainStep {T : Type 0} (s : Round T) (cs : List (Call T)) (made : List (Event T)) : Type 0 where
  GoesOn : IsBegun s cs made → PlainStep s cs made
  IsWholePush : (x : T) → s ≡ round.Idle → cs ≡ ToPush x ∷ [] → IsPush x made → PlainStep s cs made
  IsWholePop : s ≡ round.Idle → cs ≡ ToPop ∷ [] → IsPop made → PlainStep s cs made

after_nothing : {T : Type 0} (es fs : List (Event T)) → es ≡ [] → es ++ fs ≡ fs
after_nothing {T} es fs e = ap (λ (gs : List (Event T)). gs ++ fs) e

module _ {T : Type 0} (r : Round T) (m : Move T) (cs : List (Call T)) (es : List (Event T)) (busy : r ≢ round.Idle) where
  at_event : (o : Option (Event T)) → m.event ≡ o → PlainStep m.round cs (es ++ event_of o)
      → PlainStep m.round cs (es ++ event_of m.event)
  at_event o e h = subst (λ (u : Option (Event T)). PlainStep m.round cs (es ++ event_of u)) (sym e) h

  plain_step : Kind T r m → IsBegun r cs es → PlainStep m.round cs (es ++ event_of m.event)
  plain_step (IsIdle e) b = absurd (busy e)
  plain_step (Pushes y h e n less) b =
      let k = begun_push y r cs es h b in
      at_event None e (GoesOn (push_begun y m.round cs (es ++ []) n (k.0, after_nothing es [] k.1)))
  plain_step (Claims y t h e n) b =
      let k = begun_push y r cs es h b in
      at_event (Some (Claim t y)) e
      (GoesOn (subst (λ (s : Round T). IsBegun s cs (es ++ Claim t y ∷ [])) (sym n)
      (y, k.0, after_nothing es (Claim t y ∷ []) k.1)))
  plain_step (FindsFull y t h e n) b =
      let k = begun_push y r cs es h b in
      at_event (Some (Full t)) e (IsWholePush y n k.0 (found_full t (after_nothing es (Full t ∷ []) k.1)))
  plain_step (PushIsBusy y t h e n) b =
      let k = begun_push y r cs es h b in
      at_event (Some (PushBusy t)) e
      (IsWholePush y n k.0 (runs.IsPush.was_busy t (after_nothing es (PushBusy t ∷ []) k.1)))
  plain_step (IsSpent y h e n) b =
      let k = begun_push y r cs es h b in
      at_event (Some Spent) e (IsWholePush y n k.0 (was_spent (after_nothing es (Spent ∷ []) k.1)))
  plain_step (Writes t h e n) b =
      let k = subst (λ (s : Round T). IsBegun s cs es) h b in
      at_event (Some (Write t)) e
      (IsWholePush k.0 n k.1 (wrote t (ap (λ (gs : List (Event T)). gs ++ Write t ∷ []) k.2)))
  plain_step (Pops h e n less) b =
      let k = begun_pop r cs es h b in
      at_event None e (GoesOn (pop_begun m.round cs (es ++ []) n (k.0, after_nothing es [] k.1)))
  plain_step (Grabs t h e n) b =
      let k = begun_pop r cs es h b in
      at_event (Some (Grab t)) e
      (GoesOn (subst (λ (s : Round T). IsBegun s cs (es ++ Grab t ∷ [])) (sym n)
      (k.0, after_nothing es (Grab t ∷ []) k.1)))
  plain_step (FindsFront t h e n) b =
      let k = begun_pop r cs es h b in
      at_event (Some (Front t)) e
      (GoesOn (subst (λ (s : Round T). IsBegun s cs (es ++ Front t ∷ [])) (sym n)
      (k.0, after_nothing es (Front t ∷ []) k.1)))
  plain_step (FindsEmpty t h e n) b =
      let k = subst (λ (s : Round T). IsBegun s cs es) h b in
      at_event (Some (Empty t)) e
      (IsWholePop n k.0 (found_empty t (ap (λ (gs : List (Event T)). gs ++ Empty t ∷ []) k.1)))
  plain_step (FindsIdle t h e n) b =
      let k = subst (λ (s : Round T). IsBegun s cs es) h b in
      at_event (Some (Idle t)) e
      (IsWholePop n k.0 (found_idle t (ap (λ (gs : List (Event T)). gs ++ Idle t ∷ []) k.1)))
  plain_step (PopIsBusy t h e n) b =
      let k = begun_pop r cs es h b in
      at_event (Some (PopBusy t)) e (IsWholePop n k.0 (runs.IsPop.was_busy t (after_nothing es (PopBusy t ∷ []) k.1)))
  plain_step (Takes t y h e n) b =
      let k = subst (λ (s : Round T). IsBegun s cs es) h b in
      at_event (Some (Take t y)) e
      (IsWholePop n k.0 (took t y (ap (λ (gs : List (Event T)). gs ++ Take t y ∷ []) k.1)))

-- the cut of more events
cut_more : {T : Type 0} (es whole rest fs : List (Event T)) → es ≡ whole ++ rest → es ++ fs ≡ whole ++ (rest ++ fs)
cut_more {T} es whole rest fs e = ap (λ (gs : List (Event T)). gs ++ fs) e ∙ append_assoc whole rest fs

cut_whole : {T : Type 0} (es whole rest fs : List (Event T)) → es ≡ whole ++ rest
    → es ++ fs ≡ (whole ++ (rest ++ fs)) ++ []
cut_whole es whole rest fs e = cut_more es whole rest fs e ∙ sym (append-nil (whole ++ (rest ++ fs)))

-- the one call that was current has ended
all_ended : {T : Type 0} (cs ended current : List (Call T)) (c : Call T) → cs ≡ ended ++ current → current ≡ c ∷ []
    → cs ≡ (ended ++ c ∷ []) ++ []
all_ended {T} cs ended current c order is =
    order ∙ (ap (λ (ds : List (Call T)). ended ++ ds) is ∙ sym (append-nil (ended ++ c ∷ [])))

-- where none was current, one more is
one_open : {T : Type 0} (cs ended current : List (Call T)) (c : Call T) → cs ≡ ended ++ current → current ≡ []
    → cs ++ c ∷ [] ≡ ended ++ c ∷ []
one_open {T} cs ended current c order none =
    ap (λ (ds : List (Call T)). ds ++ c ∷ [])
    (order ∙ (ap (λ (ds : List (Call T)). ended ++ ds) none ∙ append-nil ended))

idle_begun : {T : Type 0} (s : Round T) → s ≡ round.Idle → IsBegun s [] []
idle_begun {T} s idle = subst (λ (r : Round T). IsBegun r [] []) (sym idle) (refl, refl)

-- a push or a pop makes a step
pub plain_cut : {T : Type 0} (r : Round T) (m : Move T) (cs : List (Call T)) (es : List (Event T)) (os : List (Outcome T))
    → r ≢ round.Idle → Kind T r m → IsCut None r cs es os → IsCut None m.round cs (es ++ event_of m.event) os
plain_cut {T} r m cs es os busy kind c =
    let fs = event_of m.event in
    elim (plain_step r m c.current c.rest busy kind c.begun) [
      | GoesOn b ↦
          record {
            ended = c.ended;
            current = c.current;
            order = c.order;
            whole = c.whole;
            rest = c.rest ++ fs;
            cut = cut_more es c.whole c.rest fs c.cut;
            calls = c.calls;
            begun = b;
          }
      | IsWholePush x idle call is ↦
          record {
            ended = c.ended ++ ToPush x ∷ [];
            current = [];
            order = all_ended cs c.ended c.current (ToPush x) c.order call;
            whole = c.whole ++ (c.rest ++ fs);
            rest = [];
            cut = cut_whole es c.whole c.rest fs c.cut;
            calls = and_push x (c.rest ++ fs) c.calls is;
            begun = idle_begun m.round idle;
          }
      | IsWholePop idle call is ↦
          record {
            ended = c.ended ++ ToPop ∷ [];
            current = [];
            order = all_ended cs c.ended c.current ToPop c.order call;
            whole = c.whole ++ (c.rest ++ fs);
            rest = [];
            cut = cut_whole es c.whole c.rest fs c.cut;
            calls = and_pop (c.rest ++ fs) c.calls is;
            begun = idle_begun m.round idle;
          }
    ]

-- a post goes on, or is whole
pub post_cut : {T : Type 0} {q : Policy} {x : T} {cs : List (Call T)} {es : List (Event T)} (fs : List (Event T)) {os : List (Outcome T)}
    {ended current : List (Call T)} {whole : List (Event T)} (rest : List (Event T)) {o : Option (Post T)} {r : Round T}
    {out : Option (Outcome T)}
    → cs ≡ ended ++ current → current ≡ ToPost q x ∷ [] → es ≡ whole ++ rest → AreWhole ended whole os
    → CameTo q x (rest ++ fs) o r out → (out ≢ None → r ≡ round.Idle) → IsCut o r cs (es ++ fs) (os ++ outcome_in out)
post_cut {T} {q} {x} {es} fs {os} {ended} {current} {whole} rest {r} {out = None} order call cut calls came idle =
    record {
      ended = ended;
      current = current;
      order = order;
      whole = whole;
      rest = rest ++ fs;
      cut = cut_more es whole rest fs cut;
      calls = subst (λ (ps : List (Outcome T)). AreWhole ended whole ps) (sym (append-nil os)) calls;
      begun = subst (λ (p : Option (Post T)). IsUnderWayIn p r current (rest ++ fs)) (sym came.there) (
        x,
        came.part,
        came.at,
        came.so_far,
        call ∙ ap (λ (p : Policy). let c : Call T = ToPost p x in c ∷ []) (sym came.under),
      );
    }
post_cut {T} {q} {x} {cs} {es} fs {ended} {current} {whole} rest {r} {out = Some out} order call cut calls came idle =
    let here : r ≡ round.Idle = idle (λ bad. cc) in
    record {
      ended = ended ++ ToPost q x ∷ [];
      current = [];
      order = all_ended cs ended current (ToPost q x) order call;
      whole = whole ++ (rest ++ fs);
      rest = [];
      cut = cut_whole es whole rest fs cut;
      calls = and_post q x (rest ++ fs) out calls came.0;
      begun = subst (λ (p : Option (Post T)). IsUnderWayIn p r [] []) (sym came.1) (idle_begun r here);
    }

-- a call begins, where there was none
pub begins_cut : {T : Type 0} {o : Option (Post T)} {r : Round T} (c : Call T) {cs : List (Call T)} {es : List (Event T)}
    {os : List (Outcome T)} → o ≡ None → IsCut o round.Idle cs es os → IsBegun r (c ∷ []) [] → IsCut None r (cs ++ c ∷ []) es os
begins_cut {T} c {cs} no_post was begun =
    let none = subst (λ (p : Option (Post T)). IsUnderWayIn p round.Idle was.current was.rest) no_post was.begun in
    record {
      ended = was.ended;
      current = c ∷ [];
      order = one_open cs was.ended was.current c was.order none.0;
      whole = was.whole;
      rest = [];
      cut = was.cut ∙ ap (λ (gs : List (Event T)). was.whole ++ gs) none.1;
      calls = was.calls;
      begun = begun;
    }

pub post_begins_cut : {T : Type 0} {o : Option (Post T)} {p : Post T} {q : Policy} {x : T} {b : Part} {r : Round T}
    {cs : List (Call T)} {es : List (Event T)} {os : List (Outcome T)} → o ≡ None → IsCut o round.Idle cs es os
    → p.progress.policy ≡ q → IsAt x p.hand p.progress.side r b → IsSoFar p.progress x b []
    → IsCut (Some p) r (cs ++ ToPost q x ∷ []) es os
post_begins_cut {T} {q} {x} {b} {cs} no_post was under at so_far =
    let none = subst (λ (k : Option (Post T)). IsUnderWayIn k round.Idle was.current was.rest) no_post was.begun in
    record {
      ended = was.ended;
      current = ToPost q x ∷ [];
      order = one_open cs was.ended was.current (ToPost q x) was.order none.0;
      whole = was.whole;
      rest = [];
      cut = was.cut ∙ ap (λ (gs : List (Event T)). was.whole ++ gs) none.1;
      calls = was.calls;
      begun = (x, b, at, so_far, ap (λ (k : Policy). let c : Call T = ToPost k x in c ∷ []) (sym under));
    }

module _ {T : Type 0} (w : Machine T) (a : ℕ) (p : Post T) (c : Counts) (r : Round T) (m : Move T) where
  stays_none : (s : Said T) → saying r m ≡ s → follows p.progress s ≡ Stays
      → (turn_of w a p c (saying r m)).outcome ≡ None
  stays_none s e stays =
      ap (λ (t : Said T). (turn_of w a p c t).outcome) e
      ∙ ap (λ (f : Follows). (turn_to w a p (with_said c s) (value_in p.hand s) f).outcome) stays

  -- a step that ends the post leaves its actor in no round
  ended_is_idle : Kind T r m → FitsRound p r → (turn_of w a p c (saying r m)).outcome ≢ None → m.round ≡ round.Idle
  ended_is_idle (IsIdle e) f some = absurd (subst (λ (s : Round T). FitsRound p s) e f)
  ended_is_idle (Pushes x h e n less) f some = absurd (some (stays_none said.Nothing (push_says x r m None h e) refl))
  ended_is_idle (Claims x t h e n) f some =
      absurd (some (stays_none (said.Claim t) (push_says x r m (Some (Claim t x)) h e) refl))
  ended_is_idle (FindsFull x t h e n) f some = n
  ended_is_idle (PushIsBusy x t h e n) f some = n
  ended_is_idle (IsSpent x h e n) f some = n
  ended_is_idle (Writes t h e n) f some = n
  ended_is_idle (Pops h e n less) f some = absurd (some (stays_none said.Nothing (pop_says r m None h e) refl))
  ended_is_idle (Grabs t h e n) f some =
      absurd (some (stays_none (said.Grab t) (pop_says r m (Some (Grab t)) h e) refl))
  ended_is_idle (FindsFront t h e n) f some =
      absurd (some (stays_none (said.Front t) (pop_says r m (Some (Front t)) h e) refl))
  ended_is_idle (FindsEmpty t h e n) f some = n
  ended_is_idle (FindsIdle t h e n) f some = n
  ended_is_idle (PopIsBusy t h e n) f some = n
  ended_is_idle (Takes t y h e n) f some = n

  turn_ended : (d : Counts) (v : Option T) (f : Follows) → (turn_to w a p d v f).outcome ≢ None
      → round_of (turn_to w a p d v f).world a ≡ round_of w a
  turn_ended d v Stays some = refl
  turn_ended d v (Ends t) some = refl
  turn_ended d v (Leads (Ok g)) some = absurd (some refl)
  turn_ended d v (Leads (Err l)) some = refl

  pub ended_leaves : Kind T r m → FitsRound p r → round_of w a ≡ m.round
      → (turn_of w a p c (saying r m)).outcome ≢ None → round_of (turn_of w a p c (saying r m)).world a ≡ round.Idle
  ended_leaves kind f here some =
      let s = saying r m in
      turn_ended (with_said c s) (value_in p.hand s) (follows p.progress s) some
      ∙ (here ∙ ended_is_idle kind f some)
