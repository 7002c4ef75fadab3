-- One step of an actor, by what it does beside its round.
use Rattle.std.proofs.Common.{◌≡◌, ℕ, ◌+◌, Bool, true, false, Option, None, Some, List, [], ◌∷◌, length, refl, sym, ap, subst, ◌∙◌}
use Rattle.std.specs.Prelude.{is_some}
use Rattle.std.proofs.lemmas.List.{set-set, set-get_or}
use Rattle.alog_msg.specs.declared.item.Item.{Item}
use Rattle.alog_msg.specs.declared.item.Item.TheVariants.{Text}
use Rattle.alog_msg.specs.declared.message.Message.{Message}
use Rattle.alog_policy.specs.Desk.{desk_told, desk_stepped, post_began}
use Rattle.alog_policy.specs.declared.policy.Policy.{Policy}
use Rattle.alog_policy.specs.declared.policy.Outcome.{Outcome}
use Rattle.alog_policy.specs.declared.post.Stepped.{Stepped as DeskStepped}
use Rattle.alog_sink.specs.Files.{Files}
use Rattle.alog_system.specs.Dump.{DumpView}
use Rattle.alog_system.specs.Roster.{emptied, kept_at, policy_at}
use Rattle.alog_system.specs.Step.{RoundSteps, TurnSteps, ServesOn, posting, posting_on, follows, told_in_round, told_of_work, work_after, dumped_by}
use Rattle.alog_system.specs.System.{SystemView, duty_of, with_desk, with_duty, with_roster}
use Rattle.alog_system.specs.declared.duty.Duty.{Duty}
use Rattle.alog_system.specs.declared.duty.Duty.TheVariants.{Free, Keeps, Dumps, Posts, Works, Serves}
use Rattle.alog_system.specs.declared.stepped.Stepped.{Stepped}
use Rattle.alog_system.specs.declared.stepped.Stepped.TheVariants.{Round}
use Rattle.alog_system.specs.declared.stepped.Turn.{Turn}
use Rattle.alog_system.specs.declared.stepped.Turn.TheVariants.{Dumped}

module _ {S : Type 0} where
  -- the last thing that an actor is set to do counts
  pub twice : (v : SystemView S) (a : ℕ) (c d : Duty) → with_duty (with_duty v a c) a d ≡ with_duty v a d
  twice v a c d =
      ap (λ ds. let r : SystemView S = record { desk = v.desk; duties = ds; roster = v.roster; outputs = v.outputs } in r) (set-set v.duties a c d)

  -- it does again what it did
  pub again : (v : SystemView S) (a : ℕ) (d : Duty) → d ≡ duty_of v a → with_duty (with_duty v a Free) a d ≡ v
  again v a d e =
      twice v a Free d ∙ (ap (with_duty v a) e
      ∙ ap (λ ds. let r : SystemView S = record { desk = v.desk; duties = ds; roster = v.roster; outputs = v.outputs } in r) (set-get_or v.duties a Free))

  -- the posts of a dump, whatever the actor was set to do before
  pub posting_over : (v : SystemView S) (a : ℕ) (d : Duty) (p : Policy) (ms : List Message) → posting (with_duty v a d) a p ms ≡ posting v a p ms
  posting_over v a d p [] = twice v a d Free
  posting_over v a d p (m ∷ ms) = twice (with_desk v (post_began v.desk a p (Text m))) a d (Posts p ms)

  -- the desk made a step, and then the actor was set free
  pub record Moved (v mid taken : SystemView S) (a : ℕ) (s : DeskStepped Item) (duty : Duty) : Type 0 where
    pub told : s ≡ desk_told v.desk a
    pub moved : mid ≡ with_desk v (desk_stepped v.desk a)
    pub was : duty ≡ duty_of mid a
    pub free : taken ≡ with_duty mid a Free

  abbrev RoundBy : SystemView S → ℕ → Duty → DeskStepped Item → Stepped → SystemView S → Type 0
  RoundBy v a duty s told new =
      (told ≡ told_in_round duty s) × (new ≡ follows (with_desk v (desk_stepped v.desk a)) a duty s)

  round_by : {v mid taken : SystemView S} {a : ℕ} {s : DeskStepped Item} {duty : Duty} {told : Stepped} {new : SystemView S}
      → Moved v mid taken a s duty → RoundBy v a duty s told new → RoundSteps v a told new
  round_by {v} {a} {duty} {told} {new} m h =
      let was : duty ≡ duty_of v a = m.was ∙ ap (λ (w : SystemView S). duty_of w a) m.moved in
      subst (λ (d : Duty). RoundBy v a d (desk_told v.desk a) told new) was (subst (λ (t : DeskStepped Item). RoundBy v a duty t told new) m.told h)

  freed : (v mid taken : SystemView S) (a : ℕ) (s : DeskStepped Item) (duty : Duty) → Moved v mid taken a s duty
      → taken ≡ with_duty (with_desk v (desk_stepped v.desk a)) a Free
  freed v mid taken a s duty m = m.free ∙ ap (λ (w : SystemView S). with_duty w a Free) m.moved

  -- a worker's pop
  pub works_round : {v mid taken new : SystemView S} {a : ℕ} {s : DeskStepped Item} {told : Stepped} {d : Duty} → Moved v mid taken a s Works
      → told ≡ told_of_work s s.said → d ≡ work_after s.said → new ≡ with_duty taken a d → RoundSteps v a told new
  works_round {v} {mid} {taken} {new} {a} {s} {told} {d} m t e n =
      let moved = with_desk v (desk_stepped v.desk a) in
      round_by {told = told} {new = new} m
      (t, n ∙ (ap (λ (w : SystemView S). with_duty w a d) (freed v mid taken a s Works m) ∙ (twice moved a Free d ∙ ap (with_duty moved a) e)))

  stays : (v : SystemView S) (a : ℕ) (s : DeskStepped Item) (duty : Duty) → (duty ≡ Works → ⊥)
      → ((p : Policy) (ms : List Message) → duty ≡ Posts p ms → ⊥)
      → RoundBy v a duty s (Round s) (with_desk v (desk_stepped v.desk a))
  stays v a s Free n k = (refl, refl)
  stays v a s (Keeps m) n k = (refl, refl)
  stays v a s (Dumps d) n k = (refl, refl)
  stays v a s (Posts p ms) n k = absurd (k p ms refl)
  stays v a s Works n k = absurd (n refl)
  stays v a s (Serves t i done) n k = (refl, refl)

  back : {v mid taken new : SystemView S} {a : ℕ} {s : DeskStepped Item} {duty : Duty} → Moved v mid taken a s duty
      → new ≡ with_duty taken a duty
      → new ≡ with_desk v (desk_stepped v.desk a)
  back {v} {mid} {taken} {a} {s} {duty} m n =
      let moved = with_desk v (desk_stepped v.desk a) in
      n ∙ (ap (λ (w : SystemView S). with_duty w a duty) (freed v mid taken a s duty m)
      ∙ again moved a duty (m.was ∙ ap (λ (w : SystemView S). duty_of w a) m.moved))

  -- a round of an actor that goes on with what it does
  pub same_round : {v mid taken new : SystemView S} {a : ℕ} {s : DeskStepped Item} {duty : Duty} → Moved v mid taken a s duty
      → (duty ≡ Works → ⊥) → ((p : Policy) (ms : List Message) → duty ≡ Posts p ms → ⊥) → new ≡ with_duty taken a duty
      → RoundSteps v a (Round s) new
  same_round {v} {mid} {taken} {new} {a} {s} {duty} m n k e =
      let h = stays v a s duty n k in
      round_by {told = Round s} {new = new} m (h.0, back m e ∙ h.1)

  ended_posts : (v : SystemView S) (a : ℕ) (p : Policy) (ms : List Message) (o : Option (Outcome Item)) → is_some o ≡ true
      → posting_on v a p ms o ≡ posting v a p ms
  ended_posts v a p ms None e = absurd (cc)
  ended_posts v a p ms (Some x) e = refl

  going_posts : (v : SystemView S) (a : ℕ) (p : Policy) (ms : List Message) (o : Option (Outcome Item)) → is_some o ≡ false
      → posting_on v a p ms o ≡ v
  going_posts v a p ms None e = refl
  going_posts v a p ms (Some x) e = absurd (cc)

  -- a post of a dump that ends, and one that goes on
  pub next_round : {v mid taken new : SystemView S} {a : ℕ} {s : DeskStepped Item} {p : Policy} {ms : List Message}
      → Moved v mid taken a s (Posts p ms) → is_some s.outcome ≡ true → new ≡ posting taken a p ms → RoundSteps v a (Round s) new
  next_round {v} {mid} {taken} {new} {a} {s} {p} {ms} m e n =
      let moved = with_desk v (desk_stepped v.desk a) in
      round_by {told = Round s} {new = new} m (
        refl,
        n ∙ (ap (λ (w : SystemView S). posting w a p ms) (freed v mid taken a s (Posts p ms) m)
            ∙ (posting_over moved a Free p ms ∙ sym (ended_posts moved a p ms s.outcome e))),
      )

  pub going_round : {v mid taken new : SystemView S} {a : ℕ} {s : DeskStepped Item} {p : Policy} {ms : List Message}
      → Moved v mid taken a s (Posts p ms) → is_some s.outcome ≡ false → new ≡ with_duty taken a (Posts p ms) → RoundSteps v a (Round s) new
  going_round {v} {mid} {taken} {new} {a} {s} {p} {ms} m e n =
      let moved = with_desk v (desk_stepped v.desk a) in
      round_by {told = Round s} {new = new} m (refl, back m n ∙ sym (going_posts moved a p ms s.outcome e))

  module _ (tells : Bool) (files : S → Files) (failures : S → ℕ) where
    -- the turn of a dump
    pub dump_turn : (v : SystemView S) {taken new : SystemView S} (a : ℕ) {d : DumpView} {told : Turn} → Dumps d ≡ duty_of v a
        → taken ≡ with_duty v a Free
        → told ≡ Dumped (length (kept_at taken.roster d.logger).messages)
        → new ≡ posting (with_roster taken (emptied taken.roster d.logger)) a (policy_at taken.roster d.logger) (dumped_by taken d)
        → TurnSteps tells files failures v a (duty_of v a) told new
    dump_turn v {new} a {d} {told} was free t n =
        let room = with_roster v (emptied v.roster d.logger) in
        let there : new ≡ posting (with_duty room a Free) a (policy_at v.roster d.logger) (dumped_by v d) =
        subst (λ (w : SystemView S). new ≡ posting (with_roster w (emptied w.roster d.logger)) a (policy_at w.roster d.logger) (dumped_by w d)) free n in
        let says : told ≡ Dumped (length (kept_at v.roster d.logger).messages) =
        subst (λ (w : SystemView S). told ≡ Dumped (length (kept_at w.roster d.logger).messages)) free t in
        subst (λ (e : Duty). TurnSteps tells files failures v a e told new) was
        (says, there ∙ posting_over room a Free (policy_at v.roster d.logger) (dumped_by v d))

    serves_over : (v new : SystemView S) (a t : ℕ) (i : Item) (done : ℕ) (told : Turn)
        → ServesOn tells files failures (with_duty v a Free) a t i done told new → ServesOn tells files failures v a t i done told new
    serves_over v new a t i done told h = record {
      turn = h.turn;
      next = h.next;
      outputs = h.outputs;
      makes = h.makes;
      after = h.after ∙ twice (record { desk = v.desk; duties = v.duties; roster = v.roster; outputs = h.outputs }) a Free (Serves t i (done + 1));
    }

    -- a worker's turn
    pub serve_turn : (v : SystemView S) {taken new : SystemView S} {a t : ℕ} {i : Item} {done : ℕ} {told : Turn}
        → Serves t i done ≡ duty_of v a
        → taken ≡ with_duty v a Free → ServesOn tells files failures taken a t i done told new
        → TurnSteps tells files failures v a (duty_of v a) told new
    serve_turn v {new} {a} {t} {i} {done} {told} was free h =
        subst (λ (e : Duty). TurnSteps tells files failures v a e told new) was
        (serves_over v new a t i done told (subst (λ (w : SystemView S). ServesOn tells files failures w a t i done told new) free h))
