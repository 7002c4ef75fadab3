-- Which fault has which status.
use Rattle.std.proofs.Common.{◌≡◌, ◌⊎◌, ℕ, Bool, true, Option, Some, None, List, inr, refl, ◌∙◌, sym, arith}
use Rattle.std.specs.Prelude.{IfSome}
use Rattle.std.specs.Io.KnownBytes.{Keeps}
use Rattle.alog_program.specs.Status.{status_of}
use Rattle.alog_program.specs.Replays.{Replays, ReplaysOn}
use Rattle.alog_config.specs.declared.config.Config.{Config}
use Rattle.alog_replay.specs.Configured.{configured}
use Rattle.alog_replay.specs.OfConfig.{OnStage}
use Rattle.alog_replay.specs.Plain.{plain}
use Rattle.alog_replay.specs.Script.{RefusedAt, WritesText, WritesFront, WasRead}
use Rattle.alog_replay.specs.declared.error.ReplayError.{ReplayError}
use Rattle.alog_replay.specs.declared.error.ReplayError.TheVariants.{LineRefused, ReadFault, WriteFault, OutOfMemory}
use Rattle.alog_replay.specs.Rows.{row_of}
use Rattle.alog_sink.specs.Files.{Files}
use Rattle.alog_sink.specs.declared.mem_store.MemStore.{MemStore}

-- the status of refused input is that of a refused line alone
pub refused_line : (fault : ReplayError) (status : ℕ) → status ≡ status_of fault → status ≡ 2 → (line : ℕ) × (fault ≡ LineRefused line)
refused_line (LineRefused line) status e h = (line, refl)
refused_line ReadFault status e h = absurd (omega arith)
refused_line WriteFault status e h = absurd (omega arith)
refused_line OutOfMemory status e h = absurd (omega arith)

-- what holds of a value, weakened
pub if_some_weaker : {T : Type 0} (o : Option T) (P Q : T → Type 0) → ((x : T) → P x → Q x) → IfSome o P → IfSome o Q
if_some_weaker None P Q f h = tt
if_some_weaker (Some x) P Q f h = f x h

not_zero : (fault : ReplayError) → status_of fault ≡ 0 → ⊥
not_zero (LineRefused line) h = absurd (omega arith)
not_zero ReadFault h = absurd (omega arith)
not_zero WriteFault h = absurd (omega arith)
not_zero OutOfMemory h = absurd (omega arith)

not_one : (fault : ReplayError) → status_of fault ≡ 1 → ⊥
not_one (LineRefused line) h = absurd (omega arith)
not_one ReadFault h = absurd (omega arith)
not_one WriteFault h = absurd (omega arith)
not_one OutOfMemory h = absurd (omega arith)

-- what a replay that ended by a fault leaves is what its status says
pub replays_fault : {fault : ReplayError} {status : ℕ} {remaining left old new : Option (List ℕ)} → status ≡ status_of fault
    → ((line : ℕ) → fault ≡ LineRefused line → IfSome remaining (λ script. WritesText (plain true) None script (RefusedAt line) old new))
    → WasRead remaining left (λ read. WritesFront (plain true) None read old new) → Replays status remaining left old new
replays_fault {fault} {status} {remaining} {old} {new} e refused front =
    record {
      understood = λ h. not_one fault (sym e ∙ h);
      whole = λ h. absurd (not_zero fault (sym e ∙ h));
      refused = λ h.
          let at = refused_line fault status e h in
          if_some_weaker remaining (λ script. WritesText (plain true) None script (RefusedAt at.0) old new) (λ script. (line : ℕ)
          × WritesText (plain true) None script (RefusedAt line) old new) (λ script w. (at.0, w)) (refused at.0 at.1);
      front = λ h. inr front;
    }

-- the same on a stage of a configuration
pub replays_on_fault : {tells : Bool} {files : MemStore → Files} {failures : MemStore → ℕ} {c : Config} {fault : ReplayError} {status : ℕ}
    {remaining left old new : Option (List ℕ)} → status ≡ status_of fault
    → ((line : ℕ) → fault ≡ LineRefused line → IfSome remaining (λ script. OnStage tells files failures c (λ s. WritesText
    (configured tells files failures row_of) s script (RefusedAt line) old new)))
    → Keeps old new ⊎ OnStage tells files failures c (λ s. WasRead remaining left (λ read. WritesFront
    (configured tells files failures row_of) s read old new))
    → ReplaysOn tells files failures c status remaining left old new
replays_on_fault {tells} {files} {failures} {c} {fault} {status} {remaining} {old} {new} e refused front =
    record {
      understood = λ h. not_one fault (sym e ∙ h);
      whole = λ h. absurd (not_zero fault (sym e ∙ h));
      refused = λ h.
          let at = refused_line fault status e h in
          if_some_weaker remaining (λ script. OnStage tells files failures c (λ s. WritesText (configured tells files failures row_of) s script
          (RefusedAt at.0) old new)) (λ script. (line : ℕ) × OnStage tells files failures c (λ s. WritesText
          (configured tells files failures row_of) s script (RefusedAt line) old new)) (λ script w. (at.0, w)) (refused at.0 at.1);
      front = λ h. front;
    }
