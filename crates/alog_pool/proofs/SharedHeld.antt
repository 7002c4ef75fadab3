-- What a sink holds after turns that met no fault.
use Rattle.std.proofs.Common.{◌≡◌, ℕ, ◌-◌, ◌^◌, Bool, true, is_ok, min, List, [], ◌∷◌, Ok, Err, inl, inr, refl, sym, ap, subst, ◌∙◌, arith}
use Rattle.std.specs.List.{AllByRecursion}
use Rattle.std.proofs.lemmas.List.Elements.{All-from_recursion}
use Rattle.alog_format.specs.Buffer.{Buffer}
use Rattle.alog_lane.specs.Seats.{Entry}
use Rattle.alog_lane.specs.Turns.{Turned, Leads}
use Rattle.alog_msg.specs.declared.item.Item.{Item}
use Rattle.alog_msg.specs.declared.item.Item.TheVariants.{Text, Flush, Stop}
use Rattle.alog_msg.specs.declared.message.Message.{Message}
use Rattle.alog_pool.specs.SinkSeat.{Answer, fault_in}
use Rattle.alog_pool.specs.Deeds.{HasDone, faults_in}
use Rattle.alog_pool.specs.OneWorker.{HoldsMore, texts_in}
use Rattle.alog_sink.proofs.SharedLaneRuns.{fan_writes, leaf_writes}
use Rattle.alog_sink.specs.Files.{Files}
use Rattle.alog_sink.specs.LaneRuns.{AreServed, texts_of, with_text}
use Rattle.alog_sink.specs.Sinks.{Turns}
use Rattle.alog_sink.specs.Turn.{FanView, LeafView}
use Rattle.alog_sink.specs.declared.sink.Sink.{Sink}
use Rattle.alog_sink.specs.declared.sink.Sink.TheVariants.{Fan, Leaf}

abbrev pub Turn : Type 0
Turn = Entry (Turned Item Buffer Answer)

-- the texts of a history are those of the turns that were due: an own flush has none
texts_done : (h : List Turn) (turns : List (ℕ × Item)) → HasDone h turns → texts_of h ≡ texts_in turns
texts_done [] turns done = ap (λ (ts : List (ℕ × Item)). texts_in ts) (sym done)
texts_done (x ∷ h) turns (inl own) = ap (λ (i : Item). with_text i (texts_of h)) own.0.1 ∙ texts_done h turns own.1
texts_done (x ∷ h) turns (inr due) = ap (λ (ms : List Message). with_text x.deed.item ms) (texts_done h due.0 due.2)
    ∙ ap (λ (ts : List (ℕ × Item)). texts_in ts) (sym due.1)

no_fault : (a : Answer) → fault_in a ≡ 0 → is_ok a ≡ true
no_fault (Ok served) none = refl
no_fault (Err e) none = absurd (omega (arith, none))

each_served : (h : List Turn) → faults_in h ≡ 0 → AllByRecursion (λ (x : Turn). is_ok x.deed.reply ≡ true) h
each_served [] none = tt
each_served (x ∷ h) none =
    let first : fault_in x.deed.reply ≡ 0 = omega (arith, none) in
    let rest : faults_in h ≡ 0 = omega (arith, none) in
    (no_fault x.deed.reply first, each_served h rest)

-- turns of which none is told to have met a fault met none
are_served : (h : List Turn) (f : ℕ) → f ≡ min (faults_in h) (2 ^ 64 - 1) → f ≡ 0 → AreServed h
are_served h f counted none =
    let zero : faults_in h ≡ 0 = omega (arith, counted, none) in
    All-from_recursion (λ (x : Turn). is_ok x.deed.reply ≡ true) h (each_served h zero)

module _ {S : Type 0} (tells : Bool) (files : S → Files) (failures : S → ℕ) where
  abbrev Given : Sink S → Buffer → Item → Answer → Sink S → Buffer → Type 0
  Given = Turns tells files failures

  -- a turn leaves a sink of its kind
  no_fan : {A : Type 0} (o : LeafView S) (n : FanView S) (line after : Buffer) (i : Item) (r : Answer) → Given (Leaf o) line i r (Fan n) after → A
  no_fan o n line after (Text m) r turn = absurd turn.1
  no_fan o n line after (Flush logger) r turn = absurd turn.1
  no_fan o n line after Stop r turn = absurd turn

  no_leaf : {A : Type 0} (o : FanView S) (n : LeafView S) (line after : Buffer) (i : Item) (r : Answer) → Given (Fan o) line i r (Leaf n) after → A
  no_leaf o n line after (Text m) r turn = absurd turn.1
  no_leaf o n line after (Flush logger) r turn = absurd turn.1
  no_leaf o n line after Stop r turn = absurd turn

  leaf_stays : {A : Type 0} (o : LeafView S) (n : FanView S) (h : List Turn) → Leads Given (Leaf o) h (Fan n) → A
  leaf_stays o n [] leads = absurd (cc leads)
  leaf_stays {A} o n (x ∷ h) leads = at (λ p rest. leaf_stays p n h rest) leads.0 leads.1 leads.2
    where
      at : ((p : LeafView S) → Leads Given (Leaf p) h (Fan n) → A) → (u : Sink S)
          → Given (Leaf o) x.deed.before x.deed.item x.deed.reply u x.deed.after → Leads Given u h (Fan n) → A
      at then (Leaf p) turn rest = then p rest
      at then (Fan p) turn rest = no_fan o p x.deed.before x.deed.after x.deed.item x.deed.reply turn

  fan_stays : {A : Type 0} (o : FanView S) (n : LeafView S) (h : List Turn) → Leads Given (Fan o) h (Leaf n) → A
  fan_stays o n [] leads = absurd (cc leads)
  fan_stays {A} o n (x ∷ h) leads = at (λ p rest. fan_stays p n h rest) leads.0 leads.1 leads.2
    where
      at : ((p : FanView S) → Leads Given (Fan p) h (Leaf n) → A) → (u : Sink S)
          → Given (Fan o) x.deed.before x.deed.item x.deed.reply u x.deed.after → Leads Given u h (Leaf n) → A
      at then (Fan p) turn rest = then p rest
      at then (Leaf p) turn rest = no_leaf o p x.deed.before x.deed.after x.deed.item x.deed.reply turn

  more_held : tells ≡ true → (first last : Sink S) (h : List Turn) → Leads Given first h last → AreServed h
      → HoldsMore files first last (texts_of h)
  more_held tell (Leaf o) (Leaf n) h leads served = λ opening before stood.
      leaf_writes tells files failures tell o n h opening before leads served stood
  more_held tell (Fan o) (Fan n) h leads served = λ stood all. fan_writes tells files failures tell o n h stood leads served all
  more_held tell (Leaf o) (Fan n) h leads served = leaf_stays o n h leads
  more_held tell (Fan o) (Leaf n) h leads served = fan_stays o n h leads

  pub texts_held : (first last : Sink S) (h : List Turn) (turns : List (ℕ × Item)) {f : ℕ} → HasDone h turns → Leads Given first h last
      → f ≡ min (faults_in h) (2 ^ 64 - 1) → tells ≡ true → f ≡ 0 → HoldsMore files first last (texts_in turns)
  texts_held first last h turns {f} done leads counted tell none =
      subst (λ (ms : List Message). HoldsMore files first last ms) (texts_done h turns done)
      (more_held tell first last h leads (are_served h f counted none))
