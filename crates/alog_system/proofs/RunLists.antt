-- Lists of acts, of calls and of steps, with one more.
use Rattle.std.proofs.Common.{◌≡◌, ◌≢◌, ℕ, List, [], ◌∷◌, ◌++◌, refl, sym, ap, subst, ◌∙◌}
use Rattle.std.proofs.Common.{append_assoc, append-nil}
use Rattle.std.proofs.lemmas.List.Concat.{flat_map-append}
use Rattle.std.specs.List.{flat_map}
use Rattle.alog_msg.specs.declared.item.Item.{Item}
use Rattle.alog_msg.specs.declared.level.Level.{Level}
use Rattle.alog_policy.specs.Runs.{Call, CallMade, calls_made, StepMade, outcome_in, outcomes_made}
use Rattle.alog_policy.specs.declared.policy.Outcome.{Outcome}
use Rattle.alog_policy.proofs.SharedRunning.{calls_made-last, outcomes_made-last, mine_is, not_mine}
use Rattle.alog_system.specs.Acts.{Made, Act, BeginsDeed, MakesStep, SetsLevel, step_in, steps_in, along, in_queue, queue_steps, levels_set}
use Rattle.alog_system.specs.Runs.{StepIs, EachStep}
use Rattle.alog_system.specs.declared.deed.Deed.{Deed}

pub flat_map_last : {X A : Type 0} (f : X → List A) (xs : List X) (x : X) → flat_map f (xs ++ x ∷ []) ≡ flat_map f xs ++ f x
flat_map_last {A = A} f xs x = flat_map-append f xs (x ∷ []) ∙ ap (λ (ys : List A). flat_map f xs ++ ys) (append-nil (f x))

pub along_last : {X : Type 0} (f : List Act → Act → List X) (before xs : List Act) (x : Act)
    → along f before (xs ++ x ∷ []) ≡ along f before xs ++ f (before ++ xs) x
along_last f before [] x = append-nil (f before x) ∙ ap (λ (b : List Act). f b x) (sym (append-nil before))
along_last {X = X} f before (y ∷ xs) x =
    let rest : List X = along f (before ++ y ∷ []) xs in
    ap (λ (r : List X). f before y ++ r) (along_last f (before ++ y ∷ []) xs x)
    ∙ (sym (append_assoc (f before y) rest (f ((before ++ y ∷ []) ++ xs) x))
    ∙ ap (λ (b : List Act). (f before y ++ rest) ++ f b x) (append_assoc before (y ∷ []) xs))

pub each_last : (P : List Act → Made → Type 0) (before xs : List Act) (x : Act) → EachStep P before xs → StepIs (P (before ++ xs)) x
    → EachStep P before (xs ++ x ∷ [])
each_last P before [] x all h = (subst (λ (b : List Act). StepIs (P b) x) (append-nil before) h, tt)
each_last P before (y ∷ xs) x all h =
    (all.0, each_last P (before ++ y ∷ []) xs x all.1 (subst (λ (b : List Act). StepIs (P b) x) (sym (append_assoc before (y ∷ []) xs)) h))

pub steps_last : (run : List Act) (x : Act) → steps_in (run ++ x ∷ []) ≡ steps_in run ++ step_in x
steps_last run x = flat_map_last step_in run x

pub steps_begun : (run : List Act) (a : ℕ) (d : Deed) → steps_in (run ++ BeginsDeed a d ∷ []) ≡ steps_in run
steps_begun run a d = steps_last run (BeginsDeed a d) ∙ append-nil (steps_in run)

pub steps_made : (run : List Act) (m : Made) → steps_in (run ++ MakesStep m ∷ []) ≡ steps_in run ++ m ∷ []
steps_made run m = steps_last run (MakesStep m)

pub steps_set : (run : List Act) (n : ℕ) (level : Level) → steps_in (run ++ SetsLevel n level ∷ []) ≡ steps_in run
steps_set run n level = steps_last run (SetsLevel n level) ∙ append-nil (steps_in run)

pub queue_last : (m : Made) (ms : List Made) → queue_steps (ms ++ m ∷ []) ≡ queue_steps ms ++ in_queue m.did
queue_last m [] = append-nil (in_queue m.did)
queue_last m (n ∷ ms) =
    ap (λ (h : List (StepMade Item)). in_queue n.did ++ h) (queue_last m ms)
    ∙ sym (append_assoc (in_queue n.did) (queue_steps ms) (in_queue m.did))

pub levels_last : (levels : List Level) (run : List Act) (x : Act) → levels_set levels (run ++ x ∷ []) ≡ levels_set (levels_set levels run) (x ∷ [])
levels_last levels [] x = refl
levels_last levels (BeginsDeed a d ∷ run) x = levels_last levels run x
levels_last levels (MakesStep m ∷ run) x = levels_last levels run x
levels_last levels (SetsLevel n level ∷ run) x = levels_last _ run x

-- one more call, and one more step
module _ {T : Type 0} where
  pub my_call : (a : ℕ) (c : CallMade T) (cs : List (CallMade T)) → c.actor ≡ a → calls_made a (cs ++ c ∷ []) ≡ calls_made a cs ++ c.call ∷ []
  my_call a c cs same = calls_made-last c a cs ∙ ap (λ (h : List (Call T)). calls_made a cs ++ h) (mine_is c.actor a (c.call ∷ []) (sym same))

  pub others_call : (b : ℕ) (c : CallMade T) (cs : List (CallMade T)) → b ≢ c.actor → calls_made b (cs ++ c ∷ []) ≡ calls_made b cs
  others_call b c cs other =
      calls_made-last c b cs
      ∙ (ap (λ (h : List (Call T)). calls_made b cs ++ h) (not_mine c.actor b (c.call ∷ []) other) ∙ append-nil (calls_made b cs))

  pub my_outcome : (a : ℕ) (s : StepMade T) (ss : List (StepMade T)) → s.actor ≡ a
      → outcomes_made a (ss ++ s ∷ []) ≡ outcomes_made a ss ++ outcome_in s.outcome
  my_outcome a s ss same =
      outcomes_made-last s a ss
      ∙ ap (λ (h : List (Outcome T)). outcomes_made a ss ++ h) (mine_is s.actor a (outcome_in s.outcome) (sym same))

-- what was asked is what was made and what is left, and stays so
pub stays_even : {X : Type 0} (asked made left more now rest : List X) → asked ≡ made ++ left → left ++ more ≡ now ++ rest
    → asked ++ more ≡ (made ++ now) ++ rest
stays_even {X = X} asked made left more now rest h even =
    ap (λ (xs : List X). xs ++ more) h
    ∙ (append_assoc made left more ∙ (ap (λ (xs : List X). made ++ xs) even ∙ sym (append_assoc made now rest)))
