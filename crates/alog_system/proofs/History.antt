-- What a step of a system adds to the history of its queue.
use Rattle.std.proofs.Common.{◌≡◌, ℕ, ◌<◌, true, false, cond, Option, None, Some, Ok, Err, List, [], ◌∷◌, length, refl, sym, subst, ◌∙◌}
use Rattle.std.proofs.Common.{append-nil, length-set, Bool}
use Rattle.alog_core.specs.History.{Entry}
use Rattle.alog_core.specs.Run.{GoesOn, entries_of_step}
use Rattle.alog_core.specs.Staged.{IsReached}
use Rattle.alog_core.specs.World.{Machine, is_idle, next_move, round_of, stepped, told}
use Rattle.alog_core.specs.declared.TheConstants.{ACTORS}
use Rattle.alog_core.specs.declared.round.Round.TheVariants as round
use Rattle.alog_core.proofs.SharedFronts.{goes_same, goes_began, goes_step, goes_further}
use Rattle.alog_msg.specs.declared.item.Item.{Item}
use Rattle.alog_msg.specs.declared.item.Item.TheVariants as item
use Rattle.alog_msg.specs.declared.message.Message.{Message}
use Rattle.alog_policy.specs.Desk.{DeskView, Follows, Stays, Ends, Leads, after_step, call_of, desk_stepped, desk_told}
use Rattle.alog_policy.specs.Desk.{follows as follows_in, post_of, turn_to, value_in, with_said}
use Rattle.alog_policy.specs.declared.counts.Counts.{Counts}
use Rattle.alog_policy.specs.declared.policy.Policy.{Policy}
use Rattle.alog_policy.specs.declared.policy.Outcome.{Outcome}
use Rattle.alog_policy.specs.declared.post.Post.{Post}
use Rattle.alog_policy.specs.declared.post.Stepped.{Stepped as DeskStepped}
use Rattle.alog_policy.proofs.SharedDeskSteps.{turn_goes}
use Rattle.alog_sink.specs.Files.{Files}
use Rattle.alog_system.specs.Begin.{is_below, logging, posting_unless}
use Rattle.alog_system.specs.Roster.{emptied, level_at, policy_at}
use Rattle.alog_system.specs.Step.{RoundSteps, TurnSteps, after_round, dumped_by, entries_by, follows, posting, posting_on}
use Rattle.alog_system.specs.System.{SystemView, duty_of, with_desk, with_roster}
use Rattle.alog_system.specs.declared.duty.Duty.{Duty}
use Rattle.alog_system.specs.declared.duty.Duty.TheVariants.{Free, Keeps, Dumps, Posts, Works, Serves}
use Rattle.alog_system.specs.declared.stepped.Stepped.{Stepped}
use Rattle.alog_system.specs.declared.stepped.Turn.{Turn}

-- entries, and then none
then_none : {T : Type 0} (m k l : Machine T) (h : List (Entry T (Unit {0}))) → GoesOn m h k → GoesOn {N = Unit {0}} k [] l → GoesOn m h l
then_none {T} m k l h first then =
    subst (λ (g : List (Entry T (Unit {0}))). GoesOn m g l) (append-nil h) (goes_further m k l h [] first then)

-- a step of a desk is one of its machine, after which the next call of a post may begin
desk_goes : {T : Type 0} (d : DeskView T) (a : ℕ) (o : Option (Post T)) → IsReached d.world → a < ACTORS
    → GoesOn d.world (entries_of_step d.world a) (after_step d a o).world
desk_goes d a None reached lt = goes_step d.world a reached lt
desk_goes d a (Some p) reached lt =
    let w = stepped d.world a in
    let all : length w.rounds ≡ ACTORS = length-set d.world.rounds a (next_move d.world a).round ∙ reached.actors in
    then_none d.world w (after_step d a (Some p)).world (entries_of_step d.world a) (goes_step d.world a reached lt)
    (turn_goes w a p (with_said d.counts (told d.world a)) (value_in p.hand (told d.world a)) (follows_in p.progress (told d.world a)) all lt)

turn_actors : {T : Type 0} (w : Machine T) (a : ℕ) (p : Post T) (c : Counts) (v : Option T) (f : Follows)
    → length (turn_to w a p c v f).world.rounds ≡ length w.rounds
turn_actors w a p c v Stays = refl
turn_actors w a p c v (Ends t) = refl
turn_actors w a p c v (Leads (Ok g)) = length-set w.rounds a (call_of g.side v)
turn_actors w a p c v (Leads (Err l)) = refl

stepped_actors : {T : Type 0} (d : DeskView T) (a : ℕ) (o : Option (Post T)) → length d.world.rounds ≡ ACTORS
    → length (after_step d a o).world.rounds ≡ ACTORS
stepped_actors d a None all = length-set d.world.rounds a (next_move d.world a).round ∙ all
stepped_actors d a (Some p) all =
    let w = stepped d.world a in
    turn_actors w a p (with_said d.counts (told d.world a)) (value_in p.hand (told d.world a)) (follows_in p.progress (told d.world a))
    ∙ length-set d.world.rounds a (next_move d.world a).round ∙ all

module _ {S : Type 0} where
  -- a post that begins adds nothing
  pub posting_goes : (v : SystemView S) (a : ℕ) (p : Policy) (ms : List Message) → length v.desk.world.rounds ≡ ACTORS → a < ACTORS
      → GoesOn {N = Unit {0}} v.desk.world [] (posting v a p ms).desk.world
  posting_goes v a p [] all lt = goes_same v.desk.world
  posting_goes v a p (m ∷ ms) all lt = goes_began v.desk.world a (round.Push (item.Text m)) all lt (λ t is. cc)

  on_goes : (v : SystemView S) (a : ℕ) (p : Policy) (ms : List Message) (o : Option (Outcome Item)) → length v.desk.world.rounds ≡ ACTORS
      → a < ACTORS → GoesOn {N = Unit {0}} v.desk.world [] (posting_on v a p ms o).desk.world
  on_goes v a p ms None all lt = goes_same v.desk.world
  on_goes v a p ms (Some o) all lt = posting_goes v a p ms all lt

  follows_goes : (v : SystemView S) (a : ℕ) (d : Duty) (s : DeskStepped Item) → length v.desk.world.rounds ≡ ACTORS → a < ACTORS
      → GoesOn {N = Unit {0}} v.desk.world [] (follows v a d s).desk.world
  follows_goes v a Free s all lt = goes_same v.desk.world
  follows_goes v a (Keeps m) s all lt = goes_same v.desk.world
  follows_goes v a (Dumps d) s all lt = goes_same v.desk.world
  follows_goes v a (Posts p ms) s all lt = on_goes v a p ms s.outcome all lt
  follows_goes v a Works s all lt = goes_same v.desk.world
  follows_goes v a (Serves t i done) s all lt = goes_same v.desk.world

  round_goes : (v : SystemView S) (a : ℕ) → IsReached v.desk.world → a < ACTORS
      → GoesOn v.desk.world (entries_of_step v.desk.world a) (after_round v a).desk.world
  round_goes v a reached lt =
      let d = desk_stepped v.desk a in
      then_none v.desk.world d.world (after_round v a).desk.world (entries_of_step v.desk.world a) (desk_goes v.desk a (post_of v.desk a) reached lt)
      (follows_goes (with_desk v d) a (duty_of v a) (desk_told v.desk a) (stepped_actors v.desk a (post_of v.desk a) reached.actors) lt)

  -- each history that leads to the queue and its rounds goes on with the step of a round
  pub round_goes_on : (v : SystemView S) (a : ℕ) (said : Stepped) (u : SystemView S) → IsReached v.desk.world → a < ACTORS
      → is_idle (round_of v.desk.world a) ≡ false → RoundSteps v a said u
      → GoesOn v.desk.world (entries_by v a) u.desk.world
  round_goes_on v a said u reached lt busy h =
      subst (λ b. GoesOn v.desk.world (cond b [] (entries_of_step v.desk.world a)) u.desk.world) (sym busy)
      (subst (λ (w : SystemView S). GoesOn v.desk.world (entries_of_step v.desk.world a) w.desk.world) (sym h.1) (round_goes v a reached lt))

  logged_goes : (b : Bool) (v : SystemView S) (a : ℕ) (m : Message) → length v.desk.world.rounds ≡ ACTORS → a < ACTORS
      → GoesOn {N = Unit {0}} v.desk.world [] (posting_unless b v a m).desk.world
  logged_goes true v a m all lt = goes_same v.desk.world
  logged_goes false v a m all lt = goes_began v.desk.world a (round.Push (item.Text m)) all lt (λ t is. cc)

  -- and with a log that begins, which adds nothing
  pub log_goes : (v : SystemView S) (a : ℕ) (m : Message) → length v.desk.world.rounds ≡ ACTORS → a < ACTORS
      → GoesOn {N = Unit {0}} v.desk.world [] (logging v a m).desk.world
  log_goes v a m all lt = logged_goes (is_below m.level (level_at v.roster m.logger)) v a m all lt

  module _ (tells : Bool) (files : S → Files) (failures : S → ℕ) where
    -- and with a turn, which adds nothing
    turn_by : (v : SystemView S) (a : ℕ) (d : Duty) (said : Turn) (u : SystemView S) → length v.desk.world.rounds ≡ ACTORS → a < ACTORS
        → TurnSteps tells files failures v a d said u → GoesOn {N = Unit {0}} v.desk.world [] u.desk.world
    turn_by v a Free said u all lt h = absurd h
    turn_by v a (Keeps m) said u all lt h =
        subst (λ (w : SystemView S). GoesOn {N = Unit {0}} v.desk.world [] w.desk.world) (sym h.1) (goes_same v.desk.world)
    turn_by v a (Dumps d) said u all lt h =
        subst (λ (w : SystemView S). GoesOn {N = Unit {0}} v.desk.world [] w.desk.world) (sym h.1)
        (posting_goes (with_roster v (emptied v.roster d.logger)) a (policy_at v.roster d.logger) (dumped_by v d) all lt)
    turn_by v a (Posts p ms) said u all lt h = absurd h
    turn_by v a Works said u all lt h = absurd h
    turn_by v a (Serves t i done) said u all lt h =
        subst (λ (w : SystemView S). GoesOn {N = Unit {0}} v.desk.world [] w.desk.world) (sym h.after) (goes_same v.desk.world)

    pub turn_goes_on : (v : SystemView S) (a : ℕ) (said : Turn) (u : SystemView S) → IsReached v.desk.world → a < ACTORS
        → is_idle (round_of v.desk.world a) ≡ true → TurnSteps tells files failures v a (duty_of v a) said u
        → GoesOn v.desk.world (entries_by v a) u.desk.world
    turn_goes_on v a said u reached lt idle h =
        subst (λ b. GoesOn v.desk.world (cond b [] (entries_of_step v.desk.world a)) u.desk.world) (sym idle)
        (turn_by v a (duty_of v a) said u reached.actors lt h)
