-- What the calls of a system leave as it was.
use Rattle.std.proofs.Common.{◌≡◌, ℕ, Bool, true, false, Option, None, Some, List, [], ◌∷◌, refl}
use Rattle.alog_msg.specs.declared.item.Item.{Item}
use Rattle.alog_msg.specs.declared.message.Message.{Message}
use Rattle.alog_policy.specs.Desk.{desk_told, desk_stepped}
use Rattle.alog_policy.specs.declared.policy.Policy.{Policy}
use Rattle.alog_policy.specs.declared.policy.Outcome.{Outcome}
use Rattle.alog_policy.specs.declared.post.Stepped.{Stepped as DeskStepped}
use Rattle.alog_system.specs.Begin.{begun, is_below, message_by, posting_unless}
use Rattle.alog_system.specs.Roster.{level_at}
use Rattle.alog_system.specs.Step.{after_round, follows, posting, posting_on}
use Rattle.alog_system.specs.System.{SystemView, duty_of, with_desk}
use Rattle.alog_system.specs.declared.deed.Deed.{Deed}
use Rattle.alog_system.specs.declared.deed.Deed.TheVariants as deed
use Rattle.alog_system.specs.declared.duty.Duty.{Duty}
use Rattle.alog_system.specs.declared.duty.Duty.TheVariants.{Free, Keeps, Dumps, Posts, Works, Serves}

module _ {S : Type 0} where
  -- these systems have the same loggers and sinks
  pub record IsSame (v w : SystemView S) : Type 0 where
    pub roster : v.roster ≡ w.roster
    pub outputs : v.outputs ≡ w.outputs

  pub posting_same : (v : SystemView S) (a : ℕ) (p : Policy) (ms : List Message) → IsSame (posting v a p ms) v
  posting_same v a p [] = record { roster = refl; outputs = refl }
  posting_same v a p (m ∷ ms) = record { roster = refl; outputs = refl }

  posting_on_same : (v : SystemView S) (a : ℕ) (p : Policy) (ms : List Message) (o : Option (Outcome Item)) → IsSame (posting_on v a p ms o) v
  posting_on_same v a p ms None = record { roster = refl; outputs = refl }
  posting_on_same v a p ms (Some o) = posting_same v a p ms

  follows_same : (v : SystemView S) (a : ℕ) (d : Duty) (s : DeskStepped Item) → IsSame (follows v a d s) v
  follows_same v a Free s = record { roster = refl; outputs = refl }
  follows_same v a (Keeps m) s = record { roster = refl; outputs = refl }
  follows_same v a (Dumps d) s = record { roster = refl; outputs = refl }
  follows_same v a (Posts p ms) s = posting_on_same v a p ms s.outcome
  follows_same v a Works s = record { roster = refl; outputs = refl }
  follows_same v a (Serves t i done) s = record { roster = refl; outputs = refl }

  pub after_round_same : (v : SystemView S) (a : ℕ) → IsSame (after_round v a) v
  after_round_same v a =
      let h = follows_same (with_desk v (desk_stepped v.desk a)) a (duty_of v a) (desk_told v.desk a) in
      record { roster = h.roster; outputs = h.outputs }

  unless_same : (below : Bool) (v : SystemView S) (a : ℕ) (m : Message) → IsSame (posting_unless below v a m) v
  unless_same true v a m = record { roster = refl; outputs = refl }
  unless_same false v a m = record { roster = refl; outputs = refl }

  pub begun_same : (v : SystemView S) (a : ℕ) (d : Deed) → IsSame (begun v a d) v
  begun_same v a (deed.Log time n level text) =
      let h = unless_same (is_below level (level_at v.roster n)) v a (message_by a time n level text.now) in
      record { roster = h.roster; outputs = h.outputs }
  begun_same v a (deed.Flush n) = record { roster = refl; outputs = refl }
  begun_same v a (deed.Dump time n) = record { roster = refl; outputs = refl }
  begun_same v a deed.Work = record { roster = refl; outputs = refl }

  pub begun_outputs : (v : SystemView S) (a : ℕ) (d : Deed) → (begun v a d).outputs ≡ v.outputs
  begun_outputs v a d = (begun_same v a d).outputs
