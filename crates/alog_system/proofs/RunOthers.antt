-- What an act of one actor leaves of the others.
use Rattle.std.proofs.Common.{◌≡◌, ◌≢◌, ℕ, ◌+◌, ◌<◌, Bool, true, false, Option, None, Some, Ok, Err, List, [], ◌∷◌, length, refl, sym, subst, ◌∙◌}
use Rattle.std.proofs.Common.{get_or-set_same, get_or-set_other, length-set}
use Rattle.alog_core.specs.World.{Machine, round_of}
use Rattle.alog_core.specs.declared.round.Round.TheVariants as round
use Rattle.alog_msg.specs.declared.item.Item.{Item}
use Rattle.alog_msg.specs.declared.item.Item.TheVariants.{Text, Flush}
use Rattle.alog_msg.specs.declared.message.Message.{Message}
use Rattle.alog_policy.specs.Desk.{DeskView, desk_told, desk_stepped, after_step, post_of, call_began, post_began, Follows, Stays, Ends, Leads as GoesTo, turn_to}
use Rattle.alog_policy.specs.declared.counts.Counts.{Counts}
use Rattle.alog_policy.specs.declared.policy.Policy.{Policy}
use Rattle.alog_policy.specs.declared.policy.Outcome.{Outcome}
use Rattle.alog_policy.specs.declared.post.Post.{Post}
use Rattle.alog_policy.specs.declared.post.Stepped.{Stepped as DeskStepped}
use Rattle.alog_sink.specs.Files.{Files}
use Rattle.alog_system.specs.Acts.{Did, is_below}
use Rattle.alog_system.specs.Asked.{message_by}
use Rattle.alog_system.specs.Begin.{begun, kept_after, posting_unless}
use Rattle.alog_system.specs.Roster.{level_at, backtrace_at, emptied, keeping, policy_at}
use Rattle.alog_system.specs.Step.{after_round, follows, posting, posting_on, dumped_by, work_after}
use Rattle.alog_system.specs.System.{SystemView, duty_of, with_desk, with_duty, with_roster}
use Rattle.alog_system.specs.declared.deed.Deed.{Deed}
use Rattle.alog_system.specs.declared.deed.Deed.TheVariants as deed
use Rattle.alog_system.specs.declared.duty.Duty.{Duty}
use Rattle.alog_system.specs.declared.duty.Duty.TheVariants.{Free, Keeps, Dumps, Posts, Works, Serves}
use Rattle.alog_system.specs.declared.stepped.Stepped.{Stepped}
use Rattle.alog_system.proofs.RunCases.{Case, queued, kept, dumped, served}

-- a step of a desk leaves the posts and the rounds of others
turn_rounds : {T : Type 0} (m : Machine T) (a b : ℕ) (p : Post T) (c : Counts) (v : Option T) (f : Follows) → b ≢ a
    → round_of (turn_to m a p c v f).world b ≡ round_of m b
turn_rounds m a b p c v Stays other = refl
turn_rounds m a b p c v (Ends t) other = refl
turn_rounds m a b p c v (GoesTo (Ok g)) other = get_or-set_other m.rounds a b _ round.Idle other
turn_rounds m a b p c v (GoesTo (Err l)) other = refl

step_rounds : {T : Type 0} (d : DeskView T) (a b : ℕ) (o : Option (Post T)) → b ≢ a
    → round_of (after_step d a o).world b ≡ round_of d.world b
step_rounds d a b None other = get_or-set_other d.world.rounds a b _ round.Idle other
step_rounds d a b (Some p) other = turn_rounds _ a b p _ _ _ other ∙ get_or-set_other d.world.rounds a b _ round.Idle other

step_posts : {T : Type 0} (d : DeskView T) (a b : ℕ) (o : Option (Post T)) → b ≢ a → post_of (after_step d a o) b ≡ post_of d b
step_posts d a b None other = refl
step_posts d a b (Some p) other = get_or-set_other d.posts a b _ None other

module _ {S : Type 0} where
  pub set_duty : (v : SystemView S) (a : ℕ) (d : Duty) → a < length v.duties → duty_of (with_duty v a d) a ≡ d
  set_duty v a d lt = get_or-set_same v.duties a d Free lt

  -- the number of duties stays, and so does all that other actors do
  pub record IsMine (a : ℕ) (v w : SystemView S) : Type 0 where
    pub many : length v.duties ≡ length w.duties
    pub duties : (b : ℕ) → b ≢ a → duty_of v b ≡ duty_of w b
    pub posts : (b : ℕ) → b ≢ a → post_of v.desk b ≡ post_of w.desk b
    pub rounds : (b : ℕ) → b ≢ a → round_of v.desk.world b ≡ round_of w.desk.world b

  mine_same : (a : ℕ) (v : SystemView S) → IsMine a v v
  mine_same a v = record { many = refl; duties = λ b other. refl; posts = λ b other. refl; rounds = λ b other. refl }

  mine_then : (a : ℕ) (u v w : SystemView S) → IsMine a u v → IsMine a v w → IsMine a u w
  mine_then a u v w h k = record {
    many = h.many ∙ k.many;
    duties = λ b other. h.duties b other ∙ k.duties b other;
    posts = λ b other. h.posts b other ∙ k.posts b other;
    rounds = λ b other. h.rounds b other ∙ k.rounds b other;
  }

  mine_duty : (a : ℕ) (v : SystemView S) (d : Duty) → IsMine a (with_duty v a d) v
  mine_duty a v d = record {
    many = length-set v.duties a d;
    duties = λ b other. get_or-set_other v.duties a b d Free other;
    posts = λ b other. refl;
    rounds = λ b other. refl;
  }

  mine_post : (a : ℕ) (v : SystemView S) (p : Policy) (i : Item) → IsMine a (with_desk v (post_began v.desk a p i)) v
  mine_post a v p i = record {
    many = refl;
    duties = λ b other. refl;
    posts = λ b other. get_or-set_other v.desk.posts a b _ None other;
    rounds = λ b other. get_or-set_other v.desk.world.rounds a b _ round.Idle other;
  }

  mine_pop : (a : ℕ) (v : SystemView S) → IsMine a (with_desk v (call_began v.desk a round.Pop)) v
  mine_pop a v = record {
    many = refl;
    duties = λ b other. refl;
    posts = λ b other. refl;
    rounds = λ b other. get_or-set_other v.desk.world.rounds a b _ round.Idle other;
  }

  mine_step : (a : ℕ) (v : SystemView S) → IsMine a (with_desk v (desk_stepped v.desk a)) v
  mine_step a v = record {
    many = refl;
    duties = λ b other. refl;
    posts = λ b other. step_posts v.desk a b (post_of v.desk a) other;
    rounds = λ b other. step_rounds v.desk a b (post_of v.desk a) other;
  }

  mine_posting : (a : ℕ) (v : SystemView S) (p : Policy) (ms : List Message) → IsMine a (posting v a p ms) v
  mine_posting a v p [] = mine_duty a v Free
  mine_posting a v p (m ∷ ms) =
      let w : SystemView S = with_desk v (post_began v.desk a p (Text m)) in
      mine_then a (with_duty w a (Posts p ms)) w v (mine_duty a w (Posts p ms)) (mine_post a v p (Text m))

  mine_on : (a : ℕ) (v : SystemView S) (p : Policy) (ms : List Message) (o : Option (Outcome Item)) → IsMine a (posting_on v a p ms o) v
  mine_on a v p ms None = mine_same a v
  mine_on a v p ms (Some o) = mine_posting a v p ms

  mine_follows : (a : ℕ) (v : SystemView S) (d : Duty) (s : DeskStepped Item) → IsMine a (follows v a d s) v
  mine_follows a v Free s = mine_same a v
  mine_follows a v (Keeps m) s = mine_same a v
  mine_follows a v (Dumps d) s = mine_same a v
  mine_follows a v (Posts p ms) s = mine_on a v p ms s.outcome
  mine_follows a v Works s = mine_duty a v (work_after s.said)
  mine_follows a v (Serves t i done) s = mine_same a v

  mine_unless : (below : Bool) (a : ℕ) (v : SystemView S) (m : Message) (d : Duty) → IsMine a (with_duty (posting_unless below v a m) a d) v
  mine_unless true a v m d = mine_duty a v d
  mine_unless false a v m d =
      let w : SystemView S = posting_unless false v a m in
      mine_then a (with_duty w a d) w v (mine_duty a w d) (mine_post a v (policy_at v.roster m.logger) (Text m))

  pub mine_begun : (a : ℕ) (v : SystemView S) (d : Deed) → IsMine a (begun v a d) v
  mine_begun a v (deed.Log time n level text) =
      let m = message_by a time n level text.now in
      mine_unless (is_below level (level_at v.roster n)) a v m (kept_after v.roster m)
  mine_begun a v (deed.Flush n) =
      let w : SystemView S = with_desk v (post_began v.desk a (policy_at v.roster n) (Flush n)) in
      mine_then a (with_duty w a Free) w v (mine_duty a w Free) (mine_post a v (policy_at v.roster n) (Flush n))
  mine_begun a v (deed.Dump time n) = mine_duty a v (Dumps (record { logger = n; time = time; thread = a; most = backtrace_at v.roster n }))
  mine_begun a v deed.Work =
      let w : SystemView S = with_desk v (call_began v.desk a round.Pop) in
      mine_then a (with_duty w a Works) w v (mine_duty a w Works) (mine_pop a v)

  pub mine_case : {tells : Bool} {files : S → Files} {failures : S → ℕ} {w u : SystemView S} {a : ℕ} {said : Stepped} {did : Did}
      → Case tells files failures w a said u did → IsMine a u w
  mine_case {w} {a} (queued busy same after) =
      let v : SystemView S = with_desk w (desk_stepped w.desk a) in
      subst (λ (x : SystemView S). IsMine a x w) (sym after)
      (mine_then a (after_round w a) v w (mine_follows a v (duty_of w a) (desk_told w.desk a)) (mine_step a w))
  mine_case {w} {a} (kept m idle was same after) =
      let h = mine_duty a (with_roster w (keeping w.roster m)) Free in
      subst (λ (x : SystemView S). IsMine a x w) (sym after) (record { many = h.many; duties = h.duties; posts = h.posts; rounds = h.rounds })
  mine_case {w} {a} (dumped d idle was same after) =
      let h = mine_posting a (with_roster w (emptied w.roster d.logger)) (policy_at w.roster d.logger) (dumped_by w d) in
      subst (λ (x : SystemView S). IsMine a x w) (sym after) (record { many = h.many; duties = h.duties; posts = h.posts; rounds = h.rounds })
  mine_case {w} {a} (served turn i s) =
      let h = mine_duty a w (Serves s.ticket i (s.done + 1)) in
      subst (λ (x : SystemView S). IsMine a x w) (sym s.after) (record { many = h.many; duties = h.duties; posts = h.posts; rounds = h.rounds })
