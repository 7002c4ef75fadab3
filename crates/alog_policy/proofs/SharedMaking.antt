-- One round whose steps an actor makes all at once.
use Rattle.std.proofs.Common.{◌≡◌, ℕ, ◌<◌, ◌≤◌, Option, None, Some, Result, Ok, Err, List, [], ◌∷◌, ◌++◌, length}
use Rattle.std.proofs.Common.{refl, sym, ap, subst, ◌∙◌, arith, set, set-set, true}
use Rattle.std.proofs.Common.{length-set}
use Rattle.std.specs.Prelude.{IfOk, IfErr}
use Rattle.std.specs.List.{AllByRecursion}
use Rattle.std.proofs.lemmas.List.{set-get_or}
use Rattle.alog_core.specs.Queue.{Queue, Event, Claim, Write, Grab, Take, Full, Front, Empty, Idle, PushBusy, PopBusy, Spent}
use Rattle.alog_core.specs.History.{Entry}
use Rattle.alog_core.specs.Round.{Move, after_event}
use Rattle.alog_core.specs.Run.{GoesOn, HasItsCell, entries_of_step}
use Rattle.alog_core.specs.World.{Machine, round_of, is_idle, began, next_move, stepped, told, entries_of}
use Rattle.alog_core.specs.declared.mark.Mark.TheVariants.{Emptying}
use Rattle.alog_core.specs.declared.round.Round.{Round}
use Rattle.alog_core.specs.declared.round.Round.TheVariants as round
use Rattle.alog_core.specs.declared.said.Said.{Said}
use Rattle.alog_core.specs.declared.said.Said.TheVariants as said
use Rattle.alog_core.proofs.SharedFronts.{goes_further}
use Rattle.alog_ring.specs.declared.push.PushError.{PushError}
use Rattle.alog_ring.specs.declared.push.PushError.TheVariants as push
use Rattle.alog_ring.specs.declared.pop.PopError.{PopError}
use Rattle.alog_ring.specs.declared.pop.PopError.TheVariants as pop
use Rattle.alog_lane.proofs.SharedLists.{each_append}
use Rattle.alog_policy.specs.Desk.{event_of}
use Rattle.alog_policy.specs.DeskOutlet.{IsUnbeaten}
use Rattle.alog_policy.specs.Rounds.{entries_by, Makes, PushRoundRefused, PopRoundRefused, IsOfPush, IsOfPop, push_answer, pop_answer}
use Rattle.alog_policy.specs.Together.{entries_by-append}
use Rattle.alog_policy.proofs.Alone.{IsCurrent, stays_current}
use Rattle.alog_policy.proofs.SharedStepKinds.{PushHas, PopSeeks, Kind, IsIdle, Pushes, Claims, FindsFull, PushIsBusy, IsSpent, Writes}
use Rattle.alog_policy.proofs.SharedStepKinds.{Pops, Grabs, FindsFront, FindsEmpty, FindsIdle, PopIsBusy, Takes, kind_of, steps_left}
use Rattle.alog_policy.proofs.Desks.{saying, push_says, pop_says, says, round_set}

entries_by-event : {T : Type 0} (a : ℕ) (o : Option (Event T)) → entries_by a (event_of o) ≡ entries_of a tt o
entries_by-event a None = refl
entries_by-event a (Some e) = refl

-- The actor has made these events so far, and only its own round has changed.
pub record MadeSoFar {T : Type 0} (a : ℕ) (old : Machine T) (es : List (Event T)) (now : Machine T) : Type 0 where
  pub places : now.places ≡ old.places
  pub rounds : now.rounds ≡ set old.rounds a (round_of now a)
  pub history : GoesOn old (entries_by a es) now

module _ {T : Type 0} (a : ℕ) (old : Machine T) (lt : a < length old.rounds) where
  pub made_nothing : (now : Machine T) (r : Round T) → now ≡ began old a r → GoesOn {N = Unit {0}} old [] now
      → MadeSoFar a old [] now
  made_nothing now r e goes =
      let rounds : now.rounds ≡ set old.rounds a r = ap (λ (m : Machine T). m.rounds) e in
      record {
        places = ap (λ (m : Machine T). m.places) e;
        rounds = rounds ∙ ap (λ (s : Round T). set old.rounds a s) (sym (round_set now old.rounds a r lt rounds));
        history = goes;
      }

  pub made_step : (es : List (Event T)) (now new : Machine T) → MadeSoFar a old es now → new ≡ stepped now a
      → GoesOn now (entries_of_step now a) new → MadeSoFar a old (es ++ event_of (next_move now a).event) new
  made_step es now new made e goes =
      let r : Round T = (next_move now a).round in
      let rounds : new.rounds ≡ set old.rounds a r =
      ap (λ (m : Machine T). m.rounds) e
      ∙ (ap (λ (rs : List (Round T)). set rs a r) made.rounds ∙ set-set old.rounds a (round_of now a) r) in
      let here : round_of new a ≡ r = round_set new old.rounds a r lt rounds in
      let all : entries_by a es ++ entries_of_step now a ≡ entries_by a (es ++ event_of (next_move now a).event) =
      ap (λ (h : List (Entry T (Unit {0}))). entries_by a es ++ h) (sym (entries_by-event a (next_move now a).event))
      ∙ sym (entries_by-append a es (event_of (next_move now a).event)) in
      record {
        places = ap (λ (m : Machine T). m.places) e ∙ made.places;
        rounds = rounds ∙ ap (λ (s : Round T). set old.rounds a s) (sym here);
        history = subst (λ (h : List (Entry T (Unit {0}))). GoesOn old h new) all
            (goes_further old now new (entries_by a es) (entries_of_step now a) made.history goes);
      }

  pub made_round : (es : List (Event T)) (new : Machine T) → MadeSoFar a old es new → round_of new a ≡ round.Idle
      → round_of old a ≡ round.Idle → Makes a old es new
  made_round es new made idle before =
      record {
        places = made.places;
        rounds = made.rounds
            ∙ (ap (λ (s : Round T). set old.rounds a s) (idle ∙ sym before) ∙ set-get_or old.rounds a round.Idle);
        history = made.history;
      }

-- a round that is no call is idle
pub idle_is : {T : Type 0} (r : Round T) → is_idle r ≡ true → r ≡ round.Idle
idle_is round.Idle e = refl
idle_is (round.Push y) e = absurd (cc)
idle_is (round.PushRead p y) e = absurd (cc)
idle_is (round.PushFree p y) e = absurd (cc)
idle_is (round.PushClaimed p) e = absurd (cc)
idle_is round.Pop e = absurd (cc)
idle_is (round.PopRead p) e = absurd (cc)
idle_is (round.PopReady p) e = absurd (cc)
idle_is (round.PopGrabbed p) e = absurd (cc)
idle_is (round.PopFronted p) e = absurd (cc)

-- a push of x that has made these events, and a pop
abbrev pub InPush : {T : Type 0} → T → Round T → List (Event T) → Type 0
InPush x round.Idle es = ⊥
InPush x (round.Push y) es = (y ≡ x) × (es ≡ [])
InPush x (round.PushRead p y) es = (y ≡ x) × (es ≡ [])
InPush x (round.PushFree p y) es = (y ≡ x) × (es ≡ [])
InPush x (round.PushClaimed p) es = es ≡ Claim p x ∷ []
InPush x round.Pop es = ⊥
InPush x (round.PopRead p) es = ⊥
InPush x (round.PopReady p) es = ⊥
InPush x (round.PopGrabbed p) es = ⊥
InPush x (round.PopFronted p) es = ⊥

abbrev pub InPop : {T : Type 0} → Round T → List (Event T) → Type 0
InPop round.Idle es = ⊥
InPop (round.Push y) es = ⊥
InPop (round.PushRead p y) es = ⊥
InPop (round.PushFree p y) es = ⊥
InPop (round.PushClaimed p) es = ⊥
InPop round.Pop es = es ≡ []
InPop (round.PopRead p) es = es ≡ []
InPop (round.PopReady p) es = es ≡ []
InPop (round.PopGrabbed p) es = es ≡ Grab p ∷ []
InPop (round.PopFronted p) es = es ≡ Front p ∷ []

push_in : {T : Type 0} (x y : T) (r : Round T) (es : List (Event T)) → PushHas y r → InPush x r es
    → (y ≡ x) × (es ≡ []) × (2 ≤ steps_left r)
push_in x y round.Idle es h i = absurd h
push_in x y (round.Push z) es h i = (sym h ∙ i.0, i.1, omega arith)
push_in x y (round.PushRead p z) es h i = (sym h ∙ i.0, i.1, omega arith)
push_in x y (round.PushFree p z) es h i = (sym h ∙ i.0, i.1, omega arith)
push_in x y (round.PushClaimed p) es h i = absurd h
push_in x y round.Pop es h i = absurd h
push_in x y (round.PopRead p) es h i = absurd h
push_in x y (round.PopReady p) es h i = absurd h
push_in x y (round.PopGrabbed p) es h i = absurd h
push_in x y (round.PopFronted p) es h i = absurd h

in_push : {T : Type 0} (x : T) (r : Round T) (es : List (Event T)) → PushHas x r → es ≡ [] → InPush x r es
in_push x round.Idle es h e = absurd h
in_push x (round.Push z) es h e = (h, e)
in_push x (round.PushRead p z) es h e = (h, e)
in_push x (round.PushFree p z) es h e = (h, e)
in_push x (round.PushClaimed p) es h e = absurd h
in_push x round.Pop es h e = absurd h
in_push x (round.PopRead p) es h e = absurd h
in_push x (round.PopReady p) es h e = absurd h
in_push x (round.PopGrabbed p) es h e = absurd h
in_push x (round.PopFronted p) es h e = absurd h

no_pop : {T : Type 0} (x : T) (r : Round T) (es : List (Event T)) → PopSeeks r → InPush x r es → ⊥
no_pop x round.Idle es h i = h
no_pop x (round.Push z) es h i = h
no_pop x (round.PushRead p z) es h i = h
no_pop x (round.PushFree p z) es h i = h
no_pop x (round.PushClaimed p) es h i = h
no_pop x round.Pop es h i = i
no_pop x (round.PopRead p) es h i = i
no_pop x (round.PopReady p) es h i = i
no_pop x (round.PopGrabbed p) es h i = i
no_pop x (round.PopFronted p) es h i = i

pop_in : {T : Type 0} (r : Round T) (es : List (Event T)) → PopSeeks r → InPop r es → (es ≡ []) × (2 ≤ steps_left r)
pop_in round.Idle es h i = absurd h
pop_in (round.Push z) es h i = absurd h
pop_in (round.PushRead p z) es h i = absurd h
pop_in (round.PushFree p z) es h i = absurd h
pop_in (round.PushClaimed p) es h i = absurd h
pop_in round.Pop es h i = (i, omega arith)
pop_in (round.PopRead p) es h i = (i, omega arith)
pop_in (round.PopReady p) es h i = (i, omega arith)
pop_in (round.PopGrabbed p) es h i = absurd h
pop_in (round.PopFronted p) es h i = absurd h

in_pop : {T : Type 0} (r : Round T) (es : List (Event T)) → PopSeeks r → es ≡ [] → InPop r es
in_pop round.Idle es h e = absurd h
in_pop (round.Push z) es h e = absurd h
in_pop (round.PushRead p z) es h e = absurd h
in_pop (round.PushFree p z) es h e = absurd h
in_pop (round.PushClaimed p) es h e = absurd h
in_pop round.Pop es h e = e
in_pop (round.PopRead p) es h e = e
in_pop (round.PopReady p) es h e = e
in_pop (round.PopGrabbed p) es h e = absurd h
in_pop (round.PopFronted p) es h e = absurd h

no_push : {T : Type 0} (x : T) (r : Round T) (es : List (Event T)) → PushHas x r → InPop r es → ⊥
no_push x round.Idle es h i = h
no_push x (round.Push z) es h i = i
no_push x (round.PushRead p z) es h i = i
no_push x (round.PushFree p z) es h i = i
no_push x (round.PushClaimed p) es h i = h
no_push x round.Pop es h i = h
no_push x (round.PopRead p) es h i = h
no_push x (round.PopReady p) es h i = h
no_push x (round.PopGrabbed p) es h i = h
no_push x (round.PopFronted p) es h i = h

-- what the events of a round are by its answer
abbrev pub PushEnds : {T : Type 0} → T → Result ℕ (PushError T) → List (Event T) → Type 0
PushEnds x (Ok t) es = es ≡ Claim t x ∷ Write t ∷ []
PushEnds x (Err (push.Full back next)) es = (back ≡ x) × (es ≡ Full next ∷ [])
PushEnds x (Err (push.Busy back seen)) es = (back ≡ x) × (es ≡ PushBusy seen ∷ [])
PushEnds x (Err (push.Spent back)) es = (back ≡ x) × (es ≡ Spent ∷ [])

abbrev pub PopEnds : {T : Type 0} → Result (ℕ × T) PopError → List (Event T) → Type 0
PopEnds (Ok r) es = es ≡ Grab r.0 ∷ Take r.0 r.1 ∷ []
PopEnds (Err (pop.Empty next)) es = es ≡ Front next ∷ Empty next ∷ []
PopEnds (Err (pop.Idle next)) es = es ≡ Front next ∷ Idle next ∷ []
PopEnds (Err (pop.Busy seen)) es = es ≡ PopBusy seen ∷ []

-- A step of a round, whose answer is None where it goes on.
pub record RoundGoes {T A : Type 0} (in_round : Round T → List (Event T) → Type 0) (ends : A → List (Event T) → Type 0)
    (r : Round T) (m : Move T) (es : List (Event T)) (of : Type 0) (o : Option (Event T)) (answer : Option A) : Type 0 where
  pub told : of
  pub goes : answer ≡ None → in_round m.round (es ++ event_of o) × (steps_left m.round < steps_left r)
  pub stops : (b : A) → answer ≡ Some b → (m.round ≡ round.Idle) × ends b (es ++ event_of o)

module _ {T A : Type 0} (in_round : Round T → List (Event T) → Type 0) (ends : A → List (Event T) → Type 0)
    (r : Round T) (m : Move T) (es : List (Event T)) where
  goes_on : (of : Type 0) (o : Option (Event T)) → of → in_round m.round (es ++ event_of o)
      → steps_left m.round < steps_left r → RoundGoes in_round ends r m es of o None
  goes_on of o told stays less = record { told = told; goes = λ _. (stays, less); stops = λ b bad. absurd (cc) }

  stops_with : (of : Type 0) (o : Option (Event T)) (b : A) → of → m.round ≡ round.Idle → ends b (es ++ event_of o)
      → RoundGoes in_round ends r m es of o (Some b)
  stops_with of o b told idle end =
      record {
        told = told;
        goes = λ bad. absurd (cc);
        stops = λ c e. let same : b ≡ c = cc in (idle, subst (λ (k : A). ends k (es ++ event_of o)) same end);
      }

after_none : {T : Type 0} (es : List (Event T)) (fs : List (Event T)) → es ≡ [] → es ++ fs ≡ fs
after_none {T} es fs e = ap (λ (gs : List (Event T)). gs ++ fs) e

module _ {T : Type 0} (x : T) (r : Round T) (m : Move T) (es : List (Event T)) where
  abbrev PushGoes : Said T → Option (Event T) → Type 0
  PushGoes s o = RoundGoes (InPush x) (PushEnds x) r m es (IsOfPush s) o (push_answer s)

  push_told : (s : Said T) (o : Option (Event T)) → saying r m ≡ s → m.event ≡ o → PushGoes s o
      → PushGoes (saying r m) m.event
  push_told s o e f h =
      subst (λ (t : Said T). PushGoes t m.event) (sym e) (subst (λ (u : Option (Event T)). PushGoes s u) (sym f) h)

  pub push_goes : Kind T r m → InPush x r es → PushGoes (saying r m) m.event
  push_goes (IsIdle e) i = absurd (subst (λ (u : Round T). InPush x u es) e i)
  push_goes (Pushes y h e n less) i =
      let k = push_in x y r es h i in
      push_told said.Nothing None (push_says y r m None h e) e
      (goes_on (InPush x) (PushEnds x) r m es (Unit {0}) None tt
      (in_push x m.round (es ++ []) (subst (λ (z : T). PushHas z m.round) k.0 n) (after_none es [] k.1)) less)
  push_goes (Claims y t h e n) i =
      let k = push_in x y r es h i in
      let left : steps_left m.round ≡ 1 = ap steps_left n in
      push_told (said.Claim t) (Some (Claim t y)) (push_says y r m (Some (Claim t y)) h e) e
      (goes_on (InPush x) (PushEnds x) r m es (Unit {0}) (Some (Claim t y)) tt
      (subst (λ (u : Round T). InPush x u (es ++ Claim t y ∷ [])) (sym n)
      (after_none es (Claim t y ∷ []) k.1 ∙ ap (λ (z : T). Claim t z ∷ []) k.0)) (omega (arith, left, k.2)))
  push_goes (FindsFull y t h e n) i =
      let k = push_in x y r es h i in
      push_told (said.Full t (Some y)) (Some (Full t)) (push_says y r m (Some (Full t)) h e) e
      (stops_with (InPush x) (PushEnds x) r m es (Unit {0}) (Some (Full t)) (Err (push.Full y t)) tt n
      (k.0, after_none es (Full t ∷ []) k.1))
  push_goes (PushIsBusy y t h e n) i =
      let k = push_in x y r es h i in
      push_told (said.Busy t (Some y)) (Some (PushBusy t)) (push_says y r m (Some (PushBusy t)) h e) e
      (stops_with (InPush x) (PushEnds x) r m es (Unit {0}) (Some (PushBusy t)) (Err (push.Busy y t)) tt n
      (k.0, after_none es (PushBusy t ∷ []) k.1))
  push_goes (IsSpent y h e n) i =
      let k = push_in x y r es h i in
      push_told (said.Spent (Some y)) (Some Spent) (push_says y r m (Some Spent) h e) e
      (stops_with (InPush x) (PushEnds x) r m es (Unit {0}) (Some Spent) (Err (push.Spent y)) tt n
      (k.0, after_none es (Spent ∷ []) k.1))
  push_goes (Writes t h e n) i =
      let k : es ≡ Claim t x ∷ [] = subst (λ (u : Round T). InPush x u es) h i in
      push_told (said.Write t) (Some (Write t)) (says r m (Some (Write t)) e) e
      (stops_with (InPush x) (PushEnds x) r m es (Unit {0}) (Some (Write t)) (Ok t) tt n
      (ap (λ (gs : List (Event T)). gs ++ Write t ∷ []) k))
  push_goes (Pops h e n less) i = absurd (no_pop x r es h i)
  push_goes (Grabs t h e n) i = absurd (no_pop x r es h i)
  push_goes (FindsFront t h e n) i = absurd (no_pop x r es h i)
  push_goes (FindsEmpty t h e n) i = absurd (subst (λ (u : Round T). InPush x u es) h i)
  push_goes (FindsIdle t h e n) i = absurd (subst (λ (u : Round T). InPush x u es) h i)
  push_goes (PopIsBusy t h e n) i = absurd (no_pop x r es h i)
  push_goes (Takes t y h e n) i = absurd (subst (λ (u : Round T). InPush x u es) h i)

module _ {T : Type 0} (r : Round T) (m : Move T) (es : List (Event T)) where
  abbrev PopGoes : Said T → Option (Event T) → Type 0
  PopGoes s o = RoundGoes InPop PopEnds r m es (IsOfPop s) o (pop_answer s)

  pop_told : (s : Said T) (o : Option (Event T)) → saying r m ≡ s → m.event ≡ o → PopGoes s o
      → PopGoes (saying r m) m.event
  pop_told s o e f h =
      subst (λ (t : Said T). PopGoes t m.event) (sym e) (subst (λ (u : Option (Event T)). PopGoes s u) (sym f) h)

  pub pop_goes : Kind T r m → InPop r es → PopGoes (saying r m) m.event
  pop_goes (IsIdle e) i = absurd (subst (λ (u : Round T). InPop u es) e i)
  pop_goes (Pushes y h e n less) i = absurd (no_push y r es h i)
  pop_goes (Claims y t h e n) i = absurd (no_push y r es h i)
  pop_goes (FindsFull y t h e n) i = absurd (no_push y r es h i)
  pop_goes (PushIsBusy y t h e n) i = absurd (no_push y r es h i)
  pop_goes (IsSpent y h e n) i = absurd (no_push y r es h i)
  pop_goes (Writes t h e n) i = absurd (subst (λ (u : Round T). InPop u es) h i)
  pop_goes (Pops h e n less) i =
      let k = pop_in r es h i in
      pop_told said.Nothing None (pop_says r m None h e) e
      (goes_on InPop PopEnds r m es (Unit {0}) None tt (in_pop m.round (es ++ []) n (after_none es [] k.0)) less)
  pop_goes (Grabs t h e n) i =
      let k = pop_in r es h i in
      let left : steps_left m.round ≡ 1 = ap steps_left n in
      pop_told (said.Grab t) (Some (Grab t)) (pop_says r m (Some (Grab t)) h e) e
      (goes_on InPop PopEnds r m es (Unit {0}) (Some (Grab t)) tt
      (subst (λ (u : Round T). InPop u (es ++ Grab t ∷ [])) (sym n) (after_none es (Grab t ∷ []) k.0))
      (omega (arith, left, k.1)))
  pop_goes (FindsFront t h e n) i =
      let k = pop_in r es h i in
      let left : steps_left m.round ≡ 1 = ap steps_left n in
      pop_told (said.Front t) (Some (Front t)) (pop_says r m (Some (Front t)) h e) e
      (goes_on InPop PopEnds r m es (Unit {0}) (Some (Front t)) tt
      (subst (λ (u : Round T). InPop u (es ++ Front t ∷ [])) (sym n) (after_none es (Front t ∷ []) k.0))
      (omega (arith, left, k.1)))
  pop_goes (FindsEmpty t h e n) i =
      let k : es ≡ Front t ∷ [] = subst (λ (u : Round T). InPop u es) h i in
      pop_told (said.Empty t) (Some (Empty t)) (says r m (Some (Empty t)) e) e
      (stops_with InPop PopEnds r m es (Unit {0}) (Some (Empty t)) (Err (pop.Empty t)) tt n
      (ap (λ (gs : List (Event T)). gs ++ Empty t ∷ []) k))
  pop_goes (FindsIdle t h e n) i =
      let k : es ≡ Front t ∷ [] = subst (λ (u : Round T). InPop u es) h i in
      pop_told (said.Idle t) (Some (Idle t)) (says r m (Some (Idle t)) e) e
      (stops_with InPop PopEnds r m es (Unit {0}) (Some (Idle t)) (Err (pop.Idle t)) tt n
      (ap (λ (gs : List (Event T)). gs ++ Idle t ∷ []) k))
  pop_goes (PopIsBusy t h e n) i =
      let k = pop_in r es h i in
      pop_told (said.Busy t None) (Some (PopBusy t)) (pop_says r m (Some (PopBusy t)) h e) e
      (stops_with InPop PopEnds r m es (Unit {0}) (Some (PopBusy t)) (Err (pop.Busy t)) tt n
      (after_none es (PopBusy t ∷ []) k.0))
  pop_goes (Takes t y h e n) i =
      let k : es ≡ Grab t ∷ [] = subst (λ (u : Round T). InPop u es) h i in
      pop_told (said.Take t y) (Some (Take t y)) (says r m (Some (Take t y)) e) e
      (stops_with InPop PopEnds r m es (Unit {0}) (Some (Take t y)) (Ok (t, y)) tt n
      (ap (λ (gs : List (Event T)). gs ++ Take t y ∷ []) k))

-- The round under way, from its beginning: what a loop over its steps keeps.
pub record RoundSoFar {T : Type 0} (in_round : Round T → List (Event T) → Type 0) (a : ℕ) (old now : Machine T) : Type 0 where
  pub events : List (Event T)
  pub made : MadeSoFar a old events now
  pub unbeaten : AllByRecursion IsUnbeaten events
  pub current : IsCurrent now.queue (round_of now a)
  pub stage : in_round (round_of now a) events

-- whoever grabbed a ticket has its cell, so the step is of some kind
pub kind_here : {T : Type 0} (m : Machine T) (a : ℕ) → HasItsCell m a → Kind T (round_of m a) (next_move m a)
kind_here m a cell =
    kind_of m.places m.queue (round_of m a)
    (λ t e. let c = cell.takes t e in (record { ticket = t; mark = Emptying; item = c.0; actor = a }, c.1))

-- A step of the round: it goes on, or has stopped with its answer.
pub record NextStep {T A : Type 0} (in_round : Round T → List (Event T) → Type 0) (ends : A → List (Event T) → Type 0)
    (a : ℕ) (old now new : Machine T) (answer : Option A) : Type 0 where
  pub goes : answer ≡ None → RoundSoFar in_round a old new × (steps_left (round_of new a) < steps_left (round_of now a))
  pub stops : (b : A) → answer ≡ Some b → round_of old a ≡ round.Idle
      → (es : List (Event T)) × ends b es × Makes a old es new × AllByRecursion IsUnbeaten es

next_step : {T A : Type 0} {in_round : Round T → List (Event T) → Type 0} {ends : A → List (Event T) → Type 0} {a : ℕ}
    {old now new : Machine T} {answer : Option A} {of : Type 0} → a < length old.rounds
    → (far : RoundSoFar in_round a old now)
    → RoundGoes in_round ends (round_of now a) (next_move now a) far.events of (next_move now a).event answer
    → new ≡ stepped now a → GoesOn now (entries_of_step now a) new → NextStep in_round ends a old now new answer
next_step {T} {A} {in_round} {a} {old} {now} {new} lt far step e goes =
    let made = made_step a old lt far.events now new far.made e goes in
    let es = far.events ++ event_of (next_move now a).event in
    let old_rounds : length now.rounds ≡ length old.rounds =
    ap length far.made.rounds ∙ length-set old.rounds a (round_of now a) in
    let in_now : a < length now.rounds = omega (arith, lt, old_rounds) in
    let here : round_of new a ≡ (next_move now a).round =
    round_set new now.rounds a (next_move now a).round in_now (ap (λ (m : Machine T). m.rounds) e) in
    let move = (next_move now a).event in
    let stays = stays_current now.places now.queue a (round_of now a) far.current in
    let unbeaten = each_append IsUnbeaten far.events (event_of move) far.unbeaten stays.0 in
    let current : IsCurrent new.queue (round_of new a) =
    subst (λ (q : Queue T). IsCurrent q (round_of new a)) (sym (ap (λ (m : Machine T). m.queue) e))
    (subst (λ (r : Round T). IsCurrent (after_event now.queue a move) r) (sym here) stays.1) in
    record {
      goes = λ none.
          let on = step.goes none in (
            record {
              events = es;
              made = made;
              unbeaten = unbeaten;
              current = current;
              stage = subst (λ (r : Round T). in_round r es) (sym here) on.0;
            },
            subst (λ (r : Round T). steps_left r < steps_left (round_of now a)) (sym here) on.1,
          );
      stops = λ b some before.
          let stop = step.stops b some in
          (es, stop.1, made_round a old lt es new made (here ∙ stop.0) before, unbeaten);
    }

module _ {T : Type 0} (a : ℕ) (old now new : Machine T) (lt : a < length old.rounds) (cell : HasItsCell now a)
    (e : new ≡ stepped now a) (goes : GoesOn now (entries_of_step now a) new) where
  pub push_of : (x : T) (s : Said T) → RoundSoFar (InPush x) a old now → s ≡ told now a → IsOfPush s
  push_of x s far says =
      subst (λ (t : Said T). IsOfPush t) (sym says)
      (push_goes x (round_of now a) (next_move now a) far.events (kind_here now a cell) far.stage).told

  pub push_next : (x : T) (s : Said T) (answer : Option (Result ℕ (PushError T))) → RoundSoFar (InPush x) a old now
      → s ≡ told now a → answer ≡ push_answer s → NextStep (InPush x) (PushEnds x) a old now new answer
  push_next x s answer far says is =
      let same = is ∙ ap (λ (t : Said T). push_answer t) says in
      subst (λ (o : Option (Result ℕ (PushError T))). NextStep (InPush x) (PushEnds x) a old now new o) (sym same)
      (next_step lt far (push_goes x (round_of now a) (next_move now a) far.events (kind_here now a cell) far.stage) e goes)

  pub pop_of : (s : Said T) → RoundSoFar InPop a old now → s ≡ told now a → IsOfPop s
  pop_of s far says =
      subst (λ (t : Said T). IsOfPop t) (sym says)
      (pop_goes (round_of now a) (next_move now a) far.events (kind_here now a cell) far.stage).told

  pub pop_next : (s : Said T) (answer : Option (Result (ℕ × T) PopError)) → RoundSoFar InPop a old now → s ≡ told now a
      → answer ≡ pop_answer s → NextStep InPop PopEnds a old now new answer
  pop_next s answer far says is =
      let same = is ∙ ap (λ (t : Said T). pop_answer t) says in
      subst (λ (o : Option (Result (ℕ × T) PopError)). NextStep InPop PopEnds a old now new o) (sym same)
      (next_step lt far (pop_goes (round_of now a) (next_move now a) far.events (kind_here now a cell) far.stage) e goes)

-- what a round that stopped is, by its answer
made_as : {T : Type 0} (a : ℕ) (old new : Machine T) (es fs : List (Event T)) → es ≡ fs → Makes a old es new
    → Makes a old fs new
made_as {T} a old new es fs e made = subst (λ (gs : List (Event T)). Makes a old gs new) e made

pub push_result : {T : Type 0} {a : ℕ} {old new : Machine T} (x : T) (b : Result ℕ (PushError T)) {es : List (Event T)}
    → PushEnds x b es → Makes a old es new → AllByRecursion IsUnbeaten es
    → IfOk b (λ t. Makes a old (Claim t x ∷ Write t ∷ []) new) × IfErr b (λ e. PushRoundRefused a old x e new)
push_result {a} {old} {new} x (Ok t) {es} e made un = (made_as a old new es (Claim t x ∷ Write t ∷ []) e made, tt)
push_result {a} {old} {new} x (Err (push.Full back next)) {es} e made un =
    (tt, (e.0, made_as a old new es (Full next ∷ []) e.1 made))
push_result {T} x (Err (push.Busy back seen)) e made un =
    (tt, (subst (λ (gs : List (Event T)). AllByRecursion IsUnbeaten gs) e.1 un).0)
push_result {a} {old} {new} x (Err (push.Spent back)) {es} e made un = (tt, (e.0, made_as a old new es (Spent ∷ []) e.1 made))

pub pop_result : {T : Type 0} (a : ℕ) (old new : Machine T) (b : Result (ℕ × T) PopError) (es : List (Event T))
    → PopEnds b es → Makes a old es new → AllByRecursion IsUnbeaten es
    → IfOk b (λ r. Makes a old (Grab r.0 ∷ Take r.0 r.1 ∷ []) new) × IfErr b (λ e. PopRoundRefused a old e new)
pop_result a old new (Ok r) es e made un = (made_as a old new es (Grab r.0 ∷ Take r.0 r.1 ∷ []) e made, tt)
pop_result a old new (Err (pop.Empty next)) es e made un =
    (tt, made_as a old new es (Front next ∷ Empty next ∷ []) e made)
pop_result a old new (Err (pop.Idle next)) es e made un = (tt, made_as a old new es (Front next ∷ Idle next ∷ []) e made)
pop_result {T} a old new (Err (pop.Busy seen)) es e made un =
    (tt, (subst (λ (gs : List (Event T)). AllByRecursion IsUnbeaten gs) e un).0)

-- a round that begins
pub round_begins_push : {T : Type 0} (old : Machine T) (a : ℕ) → a < length old.rounds → (x : T) (new : Machine T)
    → new ≡ began old a (round.Push x) → GoesOn {N = Unit {0}} old [] new → RoundSoFar (InPush x) a old new
round_begins_push {T} old a lt x new e goes =
    let here : round_of new a ≡ round.Push x =
    round_set new old.rounds a (round.Push x) lt (ap (λ (m : Machine T). m.rounds) e) in
    record {
      events = [];
      made = made_nothing a old lt new (round.Push x) e goes;
      unbeaten = tt;
      current = subst (λ (r : Round T). IsCurrent new.queue r) (sym here) tt;
      stage = subst (λ (r : Round T). InPush x r []) (sym here) (refl, refl);
    }

pub round_begins_pop : {T : Type 0} (old : Machine T) (a : ℕ) → a < length old.rounds → (new : Machine T)
    → new ≡ began old a round.Pop → GoesOn {N = Unit {0}} old [] new → RoundSoFar InPop a old new
round_begins_pop {T} old a lt new e goes =
    let here : round_of new a ≡ round.Pop = round_set new old.rounds a round.Pop lt (ap (λ (m : Machine T). m.rounds) e) in
    record {
      events = [];
      made = made_nothing a old lt new round.Pop e goes;
      unbeaten = tt;
      current = subst (λ (r : Round T). IsCurrent new.queue r) (sym here) tt;
      stage = subst (λ (r : Round T). InPop r []) (sym here) refl;
    }
