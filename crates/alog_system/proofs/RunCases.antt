-- What one step of a system was.
use Rattle.std.proofs.Common.{◌≡◌, ℕ, ◌+◌, Bool, true, false, cond, Option, Some, length, refl, sym, ap, subst, ◌∙◌}
use Rattle.std.specs.Prelude.{MatchBool, slice_get}
use Rattle.alog_core.specs.World.{is_idle, round_of}
use Rattle.alog_msg.specs.declared.item.Item.{Item}
use Rattle.alog_msg.specs.declared.message.Message.{Message}
use Rattle.alog_policy.specs.Desk.{desk_told}
use Rattle.alog_policy.specs.Runs.{step_of}
use Rattle.alog_registry.specs.declared.work.SinkTurn.{SinkTurn}
use Rattle.alog_sink.specs.Files.{Files}
use Rattle.alog_system.specs.Dump.{DumpView}
use Rattle.alog_system.specs.Outputs.{OutputsView, Turns}
use Rattle.alog_system.specs.Roster.{keeping, emptied, kept_at, policy_at, turns_for}
use Rattle.alog_system.specs.Acts.{Did, InQueue, OnSink, Keeping, Emptying}
use Rattle.alog_system.specs.Runs.{on_sink, turn_of, did_by}
use Rattle.alog_system.specs.Step.{SystemSteps, TurnTold, TurnSteps, RoundSteps, after_round, dumped_by, posting, told_in_round}
use Rattle.alog_system.specs.System.{SystemView, duty_of, with_duty, with_outputs, with_roster}
use Rattle.alog_system.specs.declared.duty.Duty.{Duty}
use Rattle.alog_system.specs.declared.duty.Duty.TheVariants.{Free, Keeps, Dumps, Posts, Works, Serves}
use Rattle.alog_system.specs.declared.stepped.Stepped.{Stepped}
use Rattle.alog_system.specs.declared.stepped.Stepped.TheVariants.{Turned}
use Rattle.alog_system.specs.declared.stepped.Turn.{Turn}
use Rattle.alog_system.specs.declared.stepped.Turn.TheVariants.{Kept, Dumped}

module _ {S : Type 0} (tells : Bool) (files : S → Files) (failures : S → ℕ) where
  -- What an actor that serves was at, and which turn on a sink it made.
  pub record Serving (w : SystemView S) (a : ℕ) (told : Stepped) (u : SystemView S) (turn : SinkTurn) (i : Item) : Type 0 where
    pub ticket : ℕ
    pub done : ℕ
    pub outputs : OutputsView S
    pub said : Turn
    pub idle : is_idle (round_of w.desk.world a) ≡ true
    pub was : duty_of w a ≡ Serves ticket i done
    pub next : slice_get (turns_for w.roster ticket i) done ≡ Some turn
    pub makes : Turns tells files failures w.outputs turn i said outputs
    pub same : told ≡ Turned said
    pub after : u ≡ with_duty (with_outputs w outputs) a (Serves ticket i (done + 1))

  -- A step of the queue, a message that is kept, what was kept that is taken, or a turn on a sink.
  pub data Case (w : SystemView S) (a : ℕ) (told : Stepped) (u : SystemView S) : Did → Type 0 where
    queued : is_idle (round_of w.desk.world a) ≡ false → told ≡ told_in_round (duty_of w a) (desk_told w.desk a) → u ≡ after_round w a
        → Case w a told u (InQueue (step_of w.desk a))
    kept : (m : Message) → is_idle (round_of w.desk.world a) ≡ true → duty_of w a ≡ Keeps m → told ≡ Turned Kept
        → u ≡ with_duty (with_roster w (keeping w.roster m)) a Free → Case w a told u (Keeping m)
    dumped : (d : DumpView) → is_idle (round_of w.desk.world a) ≡ true → duty_of w a ≡ Dumps d
        → told ≡ Turned (Dumped (length (kept_at w.roster d.logger).messages))
        → u ≡ posting (with_roster w (emptied w.roster d.logger)) a (policy_at w.roster d.logger) (dumped_by w d)
        → Case w a told u (Emptying d.logger d.time d.thread)
    served : (turn : SinkTurn) (i : Item) → Serving w a told u turn i → Case w a told u (OnSink turn i)

  turn_case : {w : SystemView S} {a : ℕ} {told : Stepped} {u : SystemView S} {said : Turn} {d : Duty} → d ≡ duty_of w a
      → is_idle (round_of w.desk.world a) ≡ true → told ≡ Turned said → TurnSteps tells files failures w a d said u
      → Case w a told u (turn_of w.roster d)
  turn_case {d = Free} is idle same h = absurd h
  turn_case {d = Keeps m} is idle same h = kept m idle (sym is) (same ∙ ap Turned h.0) h.1
  turn_case {d = Dumps d} is idle same h = dumped d idle (sym is) (same ∙ ap Turned h.0) h.1
  turn_case {d = Posts p ms} is idle same h = absurd h
  turn_case {d = Works} is idle same h = absurd h
  turn_case {w} {a} {told} {u} {said} {d = Serves t i done} is idle same h =
      subst (λ (o : Option SinkTurn). Case w a told u (on_sink o i)) (sym h.next)
      (served h.turn i (record {
        ticket = t;
        done = done;
        outputs = h.outputs;
        said = said;
        idle = idle;
        was = sym is;
        next = h.next;
        makes = h.makes;
        same = same;
        after = h.after;
      }))

  step_case : (w : SystemView S) (a : ℕ) (told : Stepped) (u : SystemView S) (b : Bool) → is_idle (round_of w.desk.world a) ≡ b
      → MatchBool b (TurnTold tells files failures w a told u) (RoundSteps w a told u)
      → Case w a told u (cond b (turn_of w.roster (duty_of w a)) (InQueue (step_of w.desk a)))
  step_case w a told u true idle h = turn_case {w = w} {a = a} {u = u} {d = duty_of w a} refl idle h.1 h.2
  step_case w a told u false busy h = queued busy h.0 h.1

  pub case_of : (w : SystemView S) (a : ℕ) (told : Stepped) (u : SystemView S) → SystemSteps tells files failures w a told u
      → Case w a told u (did_by w a)
  case_of w a told u h = step_case w a told u (is_idle (round_of w.desk.world a)) refl h
