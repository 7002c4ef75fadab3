-- What the steps of a run answered.
use Rattle.std.proofs.Common.{◌≡◌, ◌⊎◌, ℕ, ◌<◌, zero, suc, Bool, true, false, Option, None, Some, Result, Ok, Err, List, [], ◌∷◌, ◌++◌, length, map, refl, sym, ap, subst, ◌∙◌, inl, inr}
use Rattle.std.proofs.Common.{append-nil}
use Rattle.std.specs.Prelude.{slice_get, slice_set}
use Rattle.alog_core.specs.Queue.{Event, Claim, Write, Grab, Take, Full, Front, Empty, Idle, PushBusy, PopBusy, Spent}
use Rattle.alog_core.specs.World.{is_size, is_idle, next_move, said_of, brought, round_of}
use Rattle.alog_core.specs.declared.TheConstants.{ACTORS}
use Rattle.alog_core.specs.declared.said.Said.{Said}
use Rattle.alog_core.specs.declared.said.Said.TheVariants as said
use Rattle.alog_msg.specs.declared.item.Item.{Item}
use Rattle.alog_msg.specs.declared.item.Item.TheVariants as item
use Rattle.alog_msg.specs.declared.level.Level.{Level}
use Rattle.alog_msg.specs.declared.message.Message.{Message}
use Rattle.alog_policy.specs.Desk.{desk_told, post_of, answer_of, said_in_post}
use Rattle.alog_policy.specs.Runs.{Call, StepMade, step_of, overruns_in, calls_made}
use Rattle.alog_policy.specs.declared.post.Post.{Post}
use Rattle.alog_policy.specs.declared.post.Stepped.{Stepped as DeskStepped}
use Rattle.alog_registry.specs.declared.logger.Logger.{Logger}
use Rattle.alog_registry.specs.declared.work.SinkDeed.{SinkDeed}
use Rattle.alog_registry.specs.declared.work.SinkDeed.TheVariants as sink_deed
use Rattle.alog_registry.specs.declared.work.SinkTurn.{SinkTurn}
use Rattle.alog_sink.specs.Files.{Files}
use Rattle.alog_sink.specs.Lines.{admits}
use Rattle.alog_sink.specs.Sinks.{SinkTakes, SinkFlushes}
use Rattle.alog_sink.specs.Turn.{Answer, first_fault}
use Rattle.alog_sink.specs.declared.face.Face.{Face}
use Rattle.alog_sink.specs.declared.leaf.SinkError.{SinkError}
use Rattle.alog_sink.specs.declared.leaf.Taken.TheVariants.{Below as WasBelow, Written}
use Rattle.alog_sink.specs.declared.sink.Sink.{Sink}
use Rattle.alog_sink.specs.declared.sink.Sink.TheVariants.{Leaf, Fan}
use Rattle.alog_system.specs.Acts.{Did, InQueue, OnSink, Keeping, Emptying, Act, BeginsDeed, MakesStep, SetsLevel, steps_in, queue_steps}
use Rattle.alog_system.specs.Asked.{posts_in}
use Rattle.alog_system.specs.Outputs.{OutputsView, DoesTurn, told_of_text, told_of_flush}
use Rattle.alog_system.specs.Roster.{emptied, policy_at}
use Rattle.alog_system.specs.Runs.{Leads, starts, begins, steps, sets, made_by, did_by, EachStep, IsMade, Tells, HasPosted, SaysOf, IsOverrun, IsToldOf, IsToldOfText, IsToldOfFlush, own_level}
use Rattle.alog_system.specs.Step.{told_in_round, told_of_work, dumped_by}
use Rattle.alog_system.specs.System.{SystemView, fresh_system, duty_of, with_roster}
use Rattle.alog_system.specs.declared.duty.Duty.{Duty}
use Rattle.alog_system.specs.declared.duty.Duty.TheVariants.{Free, Keeps, Dumps, Posts, Works, Serves}
use Rattle.alog_system.specs.declared.stepped.Stepped.{Stepped}
use Rattle.alog_system.specs.declared.stepped.Stepped.TheVariants as stepped
use Rattle.alog_system.specs.declared.stepped.Turn.{Turn}
use Rattle.alog_system.specs.declared.stepped.Turn.TheVariants.{Dumped}
use Rattle.alog_system.proofs.RunCases.{Case, queued, kept, dumped, served, case_of}
use Rattle.alog_system.proofs.RunGoes.{IsBeside, Stance}
use Rattle.alog_system.proofs.RunKept.{IsKept, is_kept, kept_messages}
use Rattle.alog_system.proofs.RunKnown.{Known, known, idle_calls}
use Rattle.alog_system.proofs.RunLists.{each_last}
use Rattle.alog_system.proofs.RunPosts.{ahead_of, none_where_idle}
use Rattle.alog_system.proofs.RunSame.{begun_outputs, after_round_same, posting_same}

-- what is said of an event
says_of : (x : Option Item) (e : Option (Event Item)) → SaysOf (said_of x e) e
says_of x None = refl
says_of x (Some (Claim t y)) = (y, refl)
says_of x (Some (Write t)) = refl
says_of x (Some (Grab t)) = refl
says_of x (Some (Take t y)) = refl
says_of x (Some (Full t)) = refl
says_of x (Some (Front t)) = refl
says_of x (Some (Empty t)) = refl
says_of x (Some (Idle t)) = refl
says_of x (Some (PushBusy t)) = inl refl
says_of x (Some (PopBusy t)) = inr refl
says_of x (Some Spent) = refl

in_post : (s : Said Item) (e : Option (Event Item)) → SaysOf s e → SaysOf (said_in_post s) e
in_post said.Nothing e h = h
in_post (said.Claim t) e h = h
in_post (said.Write t) e h = h
in_post (said.Full t x) e h = h
in_post (said.Grab t) e h = h
in_post (said.Take t x) e h = h
in_post (said.Front t) e h = h
in_post (said.Empty t) e h = h
in_post (said.Idle t) e h = h
in_post (said.Busy t x) e h = h
in_post (said.Spent x) e h = h

-- a take in a post overruns
post_overruns : (p : Post Item) (e : Option (Event Item)) → IsOverrun e (overruns_in (Some p) e)
post_overruns p None = tt
post_overruns p (Some (Claim t y)) = tt
post_overruns p (Some (Write t)) = tt
post_overruns p (Some (Grab t)) = tt
post_overruns p (Some (Take t y)) = refl
post_overruns p (Some (Full t)) = tt
post_overruns p (Some (Front t)) = tt
post_overruns p (Some (Empty t)) = tt
post_overruns p (Some (Idle t)) = tt
post_overruns p (Some (PushBusy t)) = tt
post_overruns p (Some (PopBusy t)) = tt
post_overruns p (Some Spent) = tt

module _ {S : Type 0} (ls : List Logger) (first : List (Sink S)) (before : List Act) (o : StepMade Item) where
  round_tells : (s : DeskStepped Item) (e : Option (Event Item)) → o.event ≡ e → SaysOf s.said e → s.outcome ≡ o.outcome
      → IsOverrun e o.overran → Tells ls first before (stepped.Round s) (InQueue o)
  round_tells s e is says ends over =
      (subst (λ (f : Option (Event Item)). SaysOf s.said f) (sym is) says, ends, subst (λ (f : Option (Event Item)). IsOverrun f o.overran) (sym is) over)

  -- a step of a work's pop, which says this of its event
  work_tells : (s : DeskStepped Item) (x : Option Item) (e : Option (Event Item)) → o.event ≡ e → SaysOf s.said e → s.outcome ≡ o.outcome
      → o.overran ≡ 0 → Tells ls first before (told_of_work s (said_of x e)) (InQueue o)
  work_tells s x None is says ends none = round_tells s None is says ends tt
  work_tells s x (Some (Claim t y)) is says ends none = round_tells s (Some (Claim t y)) is says ends tt
  work_tells s x (Some (Write t)) is says ends none = round_tells s (Some (Write t)) is says ends tt
  work_tells s x (Some (Grab t)) is says ends none = round_tells s (Some (Grab t)) is says ends tt
  work_tells s x (Some (Take t y)) is says ends none = (y, is, none)
  work_tells s x (Some (Full t)) is says ends none = round_tells s (Some (Full t)) is says ends tt
  work_tells s x (Some (Front t)) is says ends none = round_tells s (Some (Front t)) is says ends tt
  work_tells s x (Some (Empty t)) is says ends none = round_tells s (Some (Empty t)) is says ends tt
  work_tells s x (Some (Idle t)) is says ends none = round_tells s (Some (Idle t)) is says ends tt
  work_tells s x (Some (PushBusy t)) is says ends none = round_tells s (Some (PushBusy t)) is says ends tt
  work_tells s x (Some (PopBusy t)) is says ends none = round_tells s (Some (PopBusy t)) is says ends tt
  work_tells s x (Some Spent) is says ends none = round_tells s (Some Spent) is says ends tt

-- beside a post a step is told as one of the queue
told_beside : (d : Duty) (s : DeskStepped Item) → IsBeside d → told_in_round d s ≡ stepped.Round s
told_beside Free s h = refl
told_beside (Keeps m) s h = refl
told_beside (Dumps d) s h = absurd h
told_beside (Posts p ms) s h = refl
told_beside Works s h = absurd h
told_beside (Serves t i done) s h = absurd h

not_both : (b : Bool) → b ≡ true → b ≡ false → ⊥
not_both true e f = cc
not_both false e f = cc

-- a turn on a sink tells what it did
abbrev WroteOrFailed : Answer → Type 0
WroteOrFailed a = (a ≡ Ok Written) ⊎ ((e : SinkError) × (a ≡ Err e))

text_told : (own : Bool) (t : SinkTurn) (a : Answer) (x : Turn) → (own ≡ false → a ≡ Ok WasBelow) → (own ≡ true → WroteOrFailed a)
    → x ≡ told_of_text t a → IsToldOfText own t x
text_told false t a x below admitted is = is ∙ ap (told_of_text t) (below refl)
text_told true t a x below admitted is =
    elim (admitted refl) [
      | inl wrote ↦ inl (is ∙ ap (told_of_text t) wrote)
      | inr failed ↦ inr (is ∙ ap (told_of_text t) failed.1)
    ]

flush_told : (t : SinkTurn) (a : Result Unit SinkError) (x : Turn) → x ≡ told_of_flush t a → IsToldOfFlush t x
flush_told t (Ok u) x is = inl is
flush_told t (Err e) x is = inr is

leaf_admitted : (own : Bool) (a : Answer) → own ≡ true → (a ≡ Ok WasBelow → own ≡ false) → WroteOrFailed a
leaf_admitted own (Ok Written) on below = inl refl
leaf_admitted own (Ok WasBelow) on below = absurd (not_both own on (below refl))
leaf_admitted own (Err e) on below = inr (e, refl)

fan_admitted : (answers : List Answer) → WroteOrFailed (first_fault Written answers)
fan_admitted [] = inl refl
fan_admitted (Err e ∷ answers) = inr (e, refl)
fan_admitted (Ok a ∷ answers) = fan_admitted answers

-- what is at a place of a list that was mapped
get_map : {X Y : Type 0} (f : X → Y) (xs : List X) (k : ℕ) (x : X) → slice_get xs k ≡ Some x → slice_get (map f xs) k ≡ Some (f x)
get_map f [] k x e = absurd (cc)
get_map f (y ∷ xs) zero x e = (let same : y ≡ x = cc in ap (λ z. Some (f z)) same)
get_map f (y ∷ xs) (suc k) x e = get_map f xs k x e

map_get : {X Y : Type 0} (f : X → Y) (xs : List X) (k : ℕ) (y : Y) → slice_get (map f xs) k ≡ Some y → (x : X) × (slice_get xs k ≡ Some x) × (f x ≡ y)
map_get f [] k y e = absurd (cc)
map_get f (x ∷ xs) zero y e = (x, refl, (let same : f x ≡ y = cc in same))
map_get f (x ∷ xs) (suc k) y e = map_get f xs k y e

map_set_same : {X Y : Type 0} (f : X → Y) (xs : List X) (k : ℕ) (x y : X) → slice_get xs k ≡ Some x → f y ≡ f x → map f (slice_set xs k y) ≡ map f xs
map_set_same f [] k x y e same = refl
map_set_same {Y = Y} f (z ∷ xs) zero x y e same =
    (let is : z ≡ x = cc in ap (λ (w : Y). w ∷ map f xs) (same ∙ sym (ap f is)))
map_set_same {Y = Y} f (z ∷ xs) (suc k) x y e same = ap (λ (ws : List Y). f z ∷ ws) (map_set_same f xs k x y e same)

module _ {S : Type 0} (tells : Bool) (files : S → Files) (failures : S → ℕ) where
  takes_told : (t : SinkTurn) (m : Message) (o n : Sink S) (a : Answer) (x : Turn) → SinkTakes tells files failures o m a n
      → x ≡ told_of_text t a → IsToldOfText (admits (own_level o) m.level) t x × (own_level n ≡ own_level o)
  takes_told t m (Leaf o) (Leaf n) a x h is = (
    text_told (admits o.face.level m.level) t a x h.below.1 (λ on. leaf_admitted (admits o.face.level m.level) a on h.below.0) is,
    ap (λ (f : Face). f.level) h.face,
  )
  takes_told t m (Fan o) (Fan n) a x h is = (
    text_told (admits o.level m.level) t a x (λ off. (h.below off).0)
        (λ on. subst WroteOrFailed (sym (h.given on).2) (fan_admitted (h.given on).0)) is,
    h.level,
  )
  takes_told t m (Leaf o) (Fan n) a x h is = absurd h
  takes_told t m (Fan o) (Leaf n) a x h is = absurd h

  flushed_level : (o n : Sink S) (a : Result Unit SinkError) → SinkFlushes tells files failures o a n → own_level n ≡ own_level o
  flushed_level (Leaf o) (Leaf n) a h = ap (λ (f : Face). f.level) h.face
  flushed_level (Fan o) (Fan n) a h = h.level
  flushed_level (Leaf o) (Fan n) a h = absurd h
  flushed_level (Fan o) (Leaf n) a h = absurd h

  turn_told : (t : SinkTurn) (d : SinkDeed) (i : Item) (o n : Sink S) (x : Turn) → DoesTurn tells files failures t d i o x n
      → IsToldOf (own_level o) t d i x × (own_level n ≡ own_level o)
  turn_told t sink_deed.Take (item.Text m) o n x h = takes_told t m o n h.0 x h.1 h.2
  turn_told t sink_deed.Take (item.Flush k) o n x h = (flush_told t h.0 x h.2, flushed_level o n h.0 h.1)
  turn_told t sink_deed.Take item.Stop o n x h = (flush_told t h.0 x h.2, flushed_level o n h.0 h.1)
  turn_told t sink_deed.Flush i o n x h = (flush_told t h.0 x h.2, flushed_level o n h.0 h.1)

  -- the sinks' levels stay
  abbrev SameLevels : List (Sink S) → List (Sink S) → Type 0
  SameLevels now first = map (λ (s : Sink S). own_level s) now ≡ map (λ (s : Sink S). own_level s) first

  levels_case : (w u : SystemView S) (a : ℕ) (x : Stepped) (did : Did) → Case tells files failures w a x u did → SameLevels u.outputs.sinks w.outputs.sinks
  levels_case w u a x did (queued busy same after) =
      ap (λ (o : OutputsView S). map (λ (s : Sink S). own_level s) o.sinks) (ap (λ (v : SystemView S). v.outputs) after ∙ (after_round_same w a).outputs)
  levels_case w u a x did (kept m idle was same after) = ap (λ (v : SystemView S). map (λ (s : Sink S). own_level s) v.outputs.sinks) after
  levels_case w u a x did (dumped d idle was same after) =
      ap (λ (o : OutputsView S). map (λ (s : Sink S). own_level s) o.sinks)
      (ap (λ (v : SystemView S). v.outputs) after
      ∙ (posting_same (with_roster w (emptied w.roster d.logger)) a (policy_at w.roster d.logger) (dumped_by w d)).outputs)
  levels_case w u a x did (served turn i h) =
      let makes = h.makes in
      ap (λ (v : SystemView S). map (λ (s : Sink S). own_level s) v.outputs.sinks) h.after
      ∙ (ap (λ (o : OutputsView S). map (λ (s : Sink S). own_level s) o.sinks) makes.others
      ∙ map_set_same (λ (s : Sink S). own_level s) w.outputs.sinks turn.sink makes.before makes.after makes.there
      (turn_told turn turn.deed i makes.before makes.after h.said makes.turn).1)

  levels_stay : (n limit : ℕ) (ls : List Logger) (first : List (Sink S)) (run : List Act) (v : SystemView S)
      → Leads tells files failures (fresh_system n limit ls first) run v → SameLevels v.outputs.sinks first
  levels_stay n limit ls first run v starts = refl
  levels_stay n limit ls first run v (begins {run = xs} {w = w} a d leads may) =
      ap (λ (o : OutputsView S). map (λ (s : Sink S). own_level s) o.sinks) (begun_outputs w a d) ∙ levels_stay n limit ls first xs w leads
  levels_stay n limit ls first run v (steps {run = xs} {w = w} {u = u} a x leads lt h) =
      levels_case w u a x (did_by w a) (case_of tells files failures w a x u h) ∙ levels_stay n limit ls first xs w leads
  levels_stay n limit ls first run v (sets {run = xs} {w = w} k level leads) = levels_stay n limit ls first xs w leads

  module _ (n : ℕ) (size : is_size n ≡ true) (ls : List Logger) (first : List (Sink S)) (run : List Act) (w : SystemView S)
      (h : Known n size ls run w) (kept_so : IsKept ls run w) (levels : SameLevels w.outputs.sinks first) (a : ℕ) (lt : a < ACTORS) where
    -- a step of a round, by whether the actor is in a post
    queued_tells : (o : Option (Post Item)) → post_of w.desk a ≡ o → Stance o (round_of w.desk.world a) (duty_of w a)
        → is_idle (round_of w.desk.world a) ≡ false
        → Tells ls first run (told_in_round (duty_of w a) (desk_told w.desk a)) (InQueue (step_of w.desk a))
    queued_tells None is stance busy =
        let e = (next_move w.desk.world a).event in
        let x = brought (round_of w.desk.world a) in
        let s = desk_told w.desk a in
        let says : s.said ≡ said_of x e = ap (λ (o : Option (Post Item)). (answer_of w.desk a o).said) is in
        let none : (step_of w.desk a).overran ≡ 0 = ap (λ (o : Option (Post Item)). overruns_in o e) is in
        subst (λ (d : Duty). Tells ls first run (told_in_round d s) (InQueue (step_of w.desk a))) (sym (stance.pops busy).0)
        (subst (λ (y : Said Item). Tells ls first run (told_of_work s y) (InQueue (step_of w.desk a))) (sym says)
        (work_tells ls first run (step_of w.desk a) s x e refl (subst (λ (y : Said Item). SaysOf y e) (sym says) (says_of x e)) refl none))
    queued_tells (Some p) is stance busy =
        let e = (next_move w.desk.world a).event in
        let x = brought (round_of w.desk.world a) in
        let s = desk_told w.desk a in
        let says : s.said ≡ said_in_post (said_of x e) = ap (λ (o : Option (Post Item)). (answer_of w.desk a o).said) is in
        subst (λ (y : Stepped). Tells ls first run y (InQueue (step_of w.desk a))) (sym (told_beside (duty_of w a) s stance))
        (round_tells ls first run (step_of w.desk a) s e refl (subst (λ (y : Said Item). SaysOf y e) (sym says) (in_post (said_of x e) e (says_of x e))) refl
        (subst (λ (o : Option (Post Item)). IsOverrun e (overruns_in o e)) (sym is) (post_overruns p e)))

    -- an actor in no round has ended its posts
    has_posted : is_idle (round_of w.desk.world a) ≡ true → HasPosted ls run a
    has_posted idle =
        let ss = queue_steps (steps_in run) in
        let none = none_where_idle n size h.calls ss w.desk h.plays a lt idle in
        sym (ap posts_in (h.asked a lt ∙ (ap (λ (cs : List (Call Item)). calls_made a h.calls ++ cs) (idle_calls n size ls run w h a lt idle) ∙ append-nil (calls_made a h.calls)))
        ∙ ahead_of n size h.calls ss w.desk h.plays a lt None none)

    is_made : (u : SystemView S) (x : Stepped) (did : Did) → Case tells files failures w a x u did
        → IsMade ls first run (record { actor = a; did = did; told = x })
    is_made u x did (queued busy same after) = record {
      tells = subst (λ (y : Stepped). Tells ls first run y (InQueue (step_of w.desk a))) (sym same)
          (queued_tells (post_of w.desk a) refl (h.stands a lt) busy);
      place = refl;
    }
    is_made u x did (kept m idle was same after) = record {
      tells = subst (λ (y : Stepped). Tells ls first run y (Keeping m)) (sym same) refl;
      place = has_posted idle;
    }
    is_made u x did (dumped d idle was same after) = record {
      tells = subst (λ (y : Stepped). Tells ls first run y (Emptying d.logger d.time d.thread)) (sym same)
          (ap (λ (ms : List Message). Dumped (length ms)) (kept_messages ls run w kept_so d.logger));
      place = has_posted idle;
    }
    is_made u x did (served turn i serving) =
        let makes = serving.makes in
        let told = turn_told turn turn.deed i makes.before makes.after serving.said makes.turn in
        let at : slice_get (map (λ (s : Sink S). own_level s) first) turn.sink ≡ Some (own_level makes.before) =
        ap (λ (l : List Level). slice_get l turn.sink) (sym levels)
        ∙ get_map (λ (s : Sink S). own_level s) w.outputs.sinks turn.sink makes.before makes.there in
        let found = map_get (λ (s : Sink S). own_level s) first turn.sink (own_level makes.before) at in
        record {
          tells = subst (λ (y : Stepped). Tells ls first run y (OnSink turn i)) (sym serving.same)
              (found.0, found.1, subst (λ (l : Level). IsToldOf l turn turn.deed i serving.said) (sym found.2) told.0);
          place = has_posted serving.idle;
        }

  -- each step answered what it was
  pub answers_tell : (n limit : ℕ) (size : is_size n ≡ true) (ls : List Logger) (first : List (Sink S)) (run : List Act) (v : SystemView S)
      → Leads tells files failures (fresh_system n limit ls first) run v → EachStep (IsMade ls first) [] run
  answers_tell n limit size ls first run v starts = tt
  answers_tell n limit size ls first run v (begins {run = xs} {w = w} a d leads may) =
      each_last (IsMade ls first) [] xs (BeginsDeed a d) (answers_tell n limit size ls first xs w leads) tt
  answers_tell n limit size ls first run v (steps {run = xs} {w = w} {u = u} a x leads lt h) =
      each_last (IsMade ls first) [] xs (MakesStep (made_by w a x)) (answers_tell n limit size ls first xs w leads)
      (is_made n size ls first xs w (known n size ls tells files failures limit first xs w leads) (is_kept tells files failures n limit ls first xs w leads)
      (levels_stay n limit ls first xs w leads) a lt u x (did_by w a) (case_of tells files failures w a x u h))
  answers_tell n limit size ls first run v (sets {run = xs} {w = w} k level leads) =
      each_last (IsMade ls first) [] xs (SetsLevel k level) (answers_tell n limit size ls first xs w leads) tt
