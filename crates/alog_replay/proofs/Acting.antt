-- Acts and steps on the scene of a script with a configuration.
use Rattle.std.proofs.Common.{◌≡◌, ℕ, ℤ, Bool, List, [], ◌++◌, Result, Ok, Err, inl, refl, sym, ap, subst, ◌∙◌}
use Rattle.std.specs.Prelude.{OnOk}
use Rattle.std.proofs.lemmas.List.{append-nil}
use Rattle.alog_msg.specs.declared.level.Level.{Level as LogLevel}
use Rattle.alog_sink.specs.Files.{Files}
use Rattle.alog_system.specs.Step.{SystemSteps}
use Rattle.alog_system.specs.System.{SystemView, duty_of, item_of}
use Rattle.alog_system.specs.declared.stepped.Stepped.{Stepped}
use Rattle.alog_replay.specs.Configured.{Stage, StepsIn, after_act, told_text}
use Rattle.alog_replay.specs.Scene.{Prints}
use Rattle.alog_replay.specs.declared.command.Act.{Act}
use Rattle.alog_replay.specs.declared.command.Act.TheVariants.{Dump, Log}
use Rattle.alog_replay.specs.declared.places.Place.{Place}

-- an act that prints nothing
pub quietly : {S T E : Type 0} (r : Result T E) (text : List ℕ) (s t : S) → OnOk r (s ≡ t)
    → OnOk r ((x : List ℕ) × ((x ≡ []) × (s ≡ t)) × (text ≡ text ++ x))
quietly (Ok y) text s t h = ([], (refl, h), sym (append-nil text))
quietly (Err e) text s t h = tt

-- a log of a time, a logger and a text that were read
pub same_log : (a : ℕ) {heard time : ℤ} (level : LogLevel) {from to read text : List ℕ} → heard ≡ time → from ≡ to → read ≡ text
    → Log a heard from level read ≡ Log a time to level text
same_log a {time} level {from} {to} {read} o n m =
    ap (λ (z : ℤ). Log a z from level read) o
    ∙ (ap (λ (l : List ℕ). Log a time l level read) n ∙ ap (λ (x : List ℕ). Log a time to level x) m)

-- an act that prints, of what was read
pub printed : {S T E : Type 0} (r : Result T E) (before after : List ℕ) (s next : Stage S) {heard act : Act} → heard ≡ act
    → OnOk r (after ≡ before ++ (after_act s heard).0) → OnOk r (next ≡ (after_act s heard).1)
    → OnOk r (Prints before after (λ x. (x ≡ (after_act s act).0) × (next ≡ (after_act s act).1)))
printed (Err e) before after s next same h k = tt
printed (Ok y) before after s next {act} same h k = (
  (after_act s act).0,
  (refl, k ∙ ap (λ (x : Act). (after_act s x).1) same),
  h ∙ ap (λ (x : Act). before ++ (after_act s x).0) same,
)

-- a dump, of a time and a logger that were read
pub dumped : {S T E : Type 0} (r : Result T E) (s next : Stage S) (a : ℕ) {heard time : ℤ} {from to : List ℕ} → heard ≡ time → from ≡ to
    → OnOk r (next ≡ (after_act s (Dump a heard from)).1) → OnOk r (next ≡ (after_act s (Dump a time to)).1)
dumped (Err e) s next a o n k = tt
dumped (Ok y) s next a {time} {from} o n k =
    k ∙ (ap (λ (z : ℤ). (after_act s (Dump a z from)).1) o ∙ ap (λ (l : List ℕ). (after_act s (Dump a time l)).1) n)

module _ {S : Type 0} (tells : Bool) (files : S → Files) (failures : S → ℕ) where
  -- a step of the system, printed
  pub told_step : {v : SystemView S} {names : List (List ℕ)} {places : List Place} {s : Stage S} (a : ℕ) (told : Stepped)
      (next : SystemView S) (old : List ℕ) {new : List ℕ}
      → record { system = v; names = names; places = places } ≡ s → SystemSteps tells files failures v a told next
      → new ≡ old ++ told_text names a (item_of (duty_of next a)) told
      → Prints old new (λ text. StepsIn tells files failures s a text (record { system = next; names = names; places = places }))
  told_step {v} {names} {places} a told next old is steps p =
      let text = told_text names a (item_of (duty_of next a)) told in
      let after : Stage S = record { system = next; names = names; places = places } in
      let before : Stage S = record { system = v; names = names; places = places } in
      let here : StepsIn tells files failures before a text after = inl (record { told = told; steps = steps; printed = refl; rest = refl }) in
      (text, subst (λ (t : Stage S). StepsIn tells files failures t a text after) is here, p)
