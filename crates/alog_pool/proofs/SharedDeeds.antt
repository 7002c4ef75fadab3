-- Turns that were made, over several calls.
use Rattle.std.proofs.Common.{◌≡◌, ◌≢◌, ℕ, zero, suc, ◌+◌, ◌-◌, ◌^◌, ◌<◌, ◌≤◌, cond, min, inl, inr, Some, None, Option, List, [], ◌∷◌, ◌++◌, map, take, set, length, refl, sym, ap, subst, ◌∙◌, arith, append_assoc, append-nil}
use Rattle.std.specs.Option.{option_map}
use Rattle.std.specs.Prelude.{slice_index_or, slice_get}
use Rattle.std.proofs.lemmas.Option.{slice_get-map}
use Rattle.alog_core.proofs.SharedCells.{on_test, at_same, at_other}
use Rattle.alog_format.specs.Buffer.{Buffer}
use Rattle.alog_lane.specs.Seats.{Entry}
use Rattle.alog_lane.specs.Turns.{Turned}
use Rattle.alog_core.specs.Accounts.{takes}
use Rattle.alog_core.specs.Queue.{last}
use Rattle.alog_msg.specs.declared.item.Item.{Item}
use Rattle.alog_msg.specs.declared.item.Item.TheVariants.{Flush}
use Rattle.alog_pool.specs.Accounts.{Moved}
use Rattle.alog_pool.specs.SinkSeat.{Answer, SinkSeatView, Serves, fault_in}
use Rattle.alog_pool.specs.Deeds.{Due, due_by, dues_by, dues_of, all_dues, dues_on, faults_in, HasDone, HasMade, HaveMade}
use Rattle.alog_pool.proofs.SharedWorked.{moved_gots}
use Rattle.alog_registry.specs.Work.{turns_of}
use Rattle.alog_registry.specs.declared.logger.Logger.{Logger}
use Rattle.alog_registry.specs.declared.logger.Spec.{Spec}
use Rattle.alog_registry.specs.declared.work.SinkTurn.{SinkTurn}
use Rattle.alog_ring.specs.Known.{Known}
use Rattle.alog_registry.specs.BlockPort.{block_note}
use Rattle.alog_sink.specs.Files.{Files}

abbrev Deed : Type 0
Deed = Entry (Turned Item Buffer Answer)

pub faults_in-append : (h g : List Deed) → faults_in (h ++ g) ≡ faults_in h + faults_in g
faults_in-append [] g = omega arith
faults_in-append (x ∷ h) g = let e = faults_in-append h g in omega (arith, e)

pub dues_on-append : (s : ℕ) (ds es : List Due) → dues_on s (ds ++ es) ≡ dues_on s ds ++ dues_on s es
dues_on-append s [] es = refl
dues_on-append s (d ∷ ds) es =
    on_test (λ b. cond b ((d.tag, d.item) ∷ dues_on s (ds ++ es)) (dues_on s (ds ++ es))
    ≡ cond b ((d.tag, d.item) ∷ dues_on s ds) (dues_on s ds) ++ dues_on s es) d.sink s
    (λ _. ap (λ (r : List (ℕ × Item)). (d.tag, d.item) ∷ r) (dues_on-append s ds es)) (λ _. dues_on-append s ds es)

pub all_dues-append : (loggers : List Logger) (ps qs : List (ℕ × Item)) → all_dues loggers (ps ++ qs)
    ≡ all_dues loggers ps ++ all_dues loggers qs
all_dues-append loggers [] qs = refl
all_dues-append loggers (p ∷ ps) qs = ap (λ (l : List Due). dues_of loggers p.0 p.1 ++ l) (all_dues-append loggers ps qs)
    ∙ sym (append_assoc (dues_of loggers p.0 p.1) (all_dues loggers ps) (all_dues loggers qs))

-- the beginning of a list that is longer by one, and the whole of it
take_more : {X : Type 0} (xs : List X) (k : ℕ) (x : X) → slice_get xs k ≡ Some x → take (suc k) xs ≡ take k xs ++ x ∷ []
take_more [] k x e = absurd (cc)
take_more (y ∷ ys) zero x e = let same : y ≡ x = cc in ap (λ z. z ∷ []) same
take_more {X} (y ∷ ys) (suc k) x e = ap (λ (l : List X). y ∷ l) (take_more ys k x e)

take_whole : {X : Type 0} (xs : List X) (k : ℕ) → slice_get xs k ≡ None → take k xs ≡ xs
take_whole [] zero e = refl
take_whole [] (suc k) e = refl
take_whole (y ∷ ys) zero e = absurd (cc)
take_whole {X} (y ∷ ys) (suc k) e = ap (λ (l : List X). y ∷ l) (take_whole ys k e)

-- the turns of a work up to a place, and all of them
pub dues_next : {o : Option Spec} {spec : Spec} (logger ticket : ℕ) (x : Item) (k : ℕ) {turn : SinkTurn} → Some spec ≡ o
    → slice_get (turns_of spec ticket x) k ≡ Some turn
    → take (k + 1) (dues_by o logger ticket x) ≡ take k (dues_by o logger ticket x) ++ due_by logger x turn ∷ []
dues_next {spec} logger ticket x k {turn} is at =
    let f : SinkTurn → Due = λ t. due_by logger x t in
    let found : slice_get (map f (turns_of spec ticket x)) k ≡ Some (f turn) =
    slice_get-map f (turns_of spec ticket x) k ∙ ap (λ (z : Option SinkTurn). option_map f z) at in
    let next : suc k ≡ k + 1 = omega arith in
    subst (λ (z : Option Spec). take (k + 1) (dues_by z logger ticket x) ≡ take k (dues_by z logger ticket x) ++ due_by logger x turn ∷ []) is
    (subst (λ n. take n (dues_by (Some spec) logger ticket x) ≡ take k (dues_by (Some spec) logger ticket x) ++ due_by logger x turn ∷ [])
    next (take_more (map f (turns_of spec ticket x)) k (f turn) found))

pub dues_whole : (o : Option Spec) (spec : Spec) (logger ticket : ℕ) (x : Item) (k : ℕ) → Some spec ≡ o
    → slice_get (turns_of spec ticket x) k ≡ None → take k (dues_by o logger ticket x) ≡ dues_by o logger ticket x
dues_whole o spec logger ticket x k is at =
    let f : SinkTurn → Due = λ t. due_by logger x t in
    let none : slice_get (map f (turns_of spec ticket x)) k ≡ None =
    slice_get-map f (turns_of spec ticket x) k ∙ ap (λ (z : Option SinkTurn). option_map f z) at in
    subst (λ (z : Option Spec). take k (dues_by z logger ticket x) ≡ dues_by z logger ticket x) is
    (take_whole (map f (turns_of spec ticket x)) k none)

-- turns behind others
pub done_then : (h g : List Deed) (first second : List (ℕ × Item)) → HasDone h first → HasDone g second → HasDone (h ++ g) (first ++ second)
done_then [] g first second one two = subst (λ (l : List (ℕ × Item)). HasDone g (l ++ second)) (sym one) two
done_then (x ∷ h) g first second (inl own) two = inl (own.0, done_then h g first second own.1 two)
done_then (x ∷ h) g first second (inr due) two =
    inr (due.0 ++ second, ap (λ (l : List (ℕ × Item)). l ++ second) due.1, done_then h g due.0 second due.2 two)

module _ {S : Type 0} where
  pub none_made : (b : SinkSeatView S) → HasMade b b []
  none_made b = record { number = refl; entries = []; own = sym (append-nil b.seat.known.own); done = refl; counted = λ is. is }

  made_then : (a b c : SinkSeatView S) (first second : List (ℕ × Item)) → HasMade a b first → HasMade b c second → HasMade a c (first ++ second)
  made_then a b c first second one two = record {
    number = two.number ∙ one.number;
    entries = one.entries ++ two.entries;
    own = two.own ∙ ap (λ (l : List Deed). l ++ two.entries) one.own ∙ append_assoc a.seat.known.own one.entries two.entries;
    done = done_then one.entries two.entries first second one.done two.done;
    counted = λ is. two.counted (one.counted is);
  }

  module _ (tells : _) (files : S → Files) (failures : S → ℕ) (old new : SinkSeatView S) where
    -- one turn, whichever it is
    made_turn : (tag : ℕ) (item : Item) (turns : List (ℕ × Item)) (s : Serves tells files failures old tag item new)
        → HasDone (record { seat = old.seat.known.seat; deed = s.deed } ∷ []) turns → HasMade old new turns
    made_turn tag item turns s done =
        let entry : Deed = record { seat = old.seat.known.seat; deed = s.deed } in
        let own : new.seat.known.own ≡ old.seat.known.own ++ entry ∷ [] = s.turn.made.own in
        let more : faults_in new.seat.known.own ≡ faults_in old.seat.known.own + fault_in s.deed.reply =
        ap (λ (l : List Deed). faults_in l) own ∙ faults_in-append old.seat.known.own (entry ∷ [])
        ∙ (let e : fault_in s.deed.reply + 0 ≡ fault_in s.deed.reply = omega arith in ap (λ n. faults_in old.seat.known.own + n) e) in
        let capped : min (min (faults_in old.seat.known.own) (2 ^ 64 - 1) + fault_in s.deed.reply) (2 ^ 64 - 1)
        ≡ min (faults_in old.seat.known.own + fault_in s.deed.reply) (2 ^ 64 - 1) = omega arith in
        record {
          number = s.turn.made.seat;
          entries = entry ∷ [];
          own = own;
          done = done;
          counted = λ is. s.faults ∙ ap (λ n. min (n + fault_in s.deed.reply) (2 ^ 64 - 1)) is ∙ capped
              ∙ ap (λ n. min n (2 ^ 64 - 1)) (sym more);
        }

    -- one that is due
    pub made_one : (tag : ℕ) (item : Item) → Serves tells files failures old tag item new → HasMade old new ((tag, item) ∷ [])
    made_one tag item s = made_turn tag item ((tag, item) ∷ []) s (inr ([], (λ i. (sym s.tag_is i, sym s.item_is i) ∷ []), refl))

    -- an own flush
    pub made_own : Serves tells files failures old last (Flush 0) new → HasMade old new []
    made_own s = made_turn last (Flush 0) [] s (inl ((s.tag_is, s.item_is), refl))

  pub have_none : (s : ℕ) (bs : List (SinkSeatView S)) → HaveMade s bs bs []
  have_none s [] = tt
  have_none s (b ∷ bs) = (none_made b, have_none (s + 1) bs)

  pub have_then : (s : ℕ) (os bs cs : List (SinkSeatView S)) (first second : List Due) → HaveMade s os bs first → HaveMade s bs cs second
      → HaveMade s os cs (first ++ second)
  have_then s [] [] [] first second one two = tt
  have_then s [] [] (c ∷ cs) first second one two = absurd two
  have_then s [] (b ∷ bs) cs first second one two = absurd one
  have_then s (o ∷ os) [] cs first second one two = absurd one
  have_then s (o ∷ os) (b ∷ bs) [] first second one two = absurd two
  have_then s (o ∷ os) (b ∷ bs) (c ∷ cs) first second one two = (
    subst (λ (l : List (ℕ × Item)). HasMade o c l) (sym (dues_on-append s first second))
        (made_then o b c (dues_on s first) (dues_on s second) one.0 two.0),
    have_then (s + 1) os bs cs first second one.1 two.1,
  )

  -- own flushes behind other turns
  pub have_own : (os bs cs : List (SinkSeatView S)) (dues : List Due) → HaveMade 0 os bs dues → HaveMade 0 bs cs [] → HaveMade 0 os cs dues
  have_own os bs cs dues made own =
      subst (λ (l : List Due). HaveMade 0 os cs l) (append-nil dues) (have_then 0 os bs cs dues [] made own)

  own_at : (s i : ℕ) (bs : List (SinkSeatView S)) {c : SinkSeatView S} (d : SinkSeatView S) → i < length bs
      → HasMade (slice_index_or bs i d) c [] → HaveMade s bs (set bs i c) []
  own_at s i [] d low made = absurd (omega (arith, low))
  own_at s zero (b ∷ bs) d low made = (made, have_none (s + 1) bs)
  own_at s (suc i) (b ∷ bs) d low made = (none_made b, own_at (s + 1) i bs d (omega (arith, low)) made)

  -- those at one more of the places
  pub own_more : (os bs : List (SinkSeatView S)) (i : ℕ) {c : SinkSeatView S} (d : SinkSeatView S) → HaveMade 0 os bs [] → i < length bs
      → HasMade (slice_index_or bs i d) c [] → HaveMade 0 os (set bs i c) []
  own_more os bs i {c} d made low own = have_own os bs (set bs i c) [] made (own_at 0 i bs d low own)

  -- a turn on a sink that is none of these
  made_elsewhere : (s : ℕ) (b : SinkSeatView S) (due : Due) → due.sink ≢ s → HasMade b b (dues_on s (due ∷ []))
  made_elsewhere s b due apart =
      subst (λ (l : List (ℕ × Item)). HasMade b b l) (sym (at_other due.sink s ((due.tag, due.item) ∷ []) [] apart)) (none_made b)

  below : (s : ℕ) (bs : List (SinkSeatView S)) (due : Due) → due.sink < s → HaveMade s bs bs (due ∷ [])
  below s [] due low = tt
  below s (b ∷ bs) due low = (made_elsewhere s b due (λ e. omega (arith, e, low)), below (s + 1) bs due (omega (arith, low)))

  past : (s : ℕ) (bs : List (SinkSeatView S)) (due : Due) → s + length bs ≤ due.sink → HaveMade s bs bs (due ∷ [])
  past s [] due high = tt
  past s (b ∷ bs) due high = (made_elsewhere s b due (λ e. omega (arith, e, high)), past (s + 1) bs due (omega (arith, high)))

  -- a turn on the sink of one of these places
  one_at : (s i : ℕ) (bs : List (SinkSeatView S)) {c : SinkSeatView S} (d : SinkSeatView S) (due : Due) → due.sink ≡ s + i → i < length bs
      → HasMade (slice_index_or bs i d) c ((due.tag, due.item) ∷ []) → HaveMade s bs (set bs i c) (due ∷ [])
  one_at s i [] d due is low made = absurd (omega (arith, low))
  one_at s zero (b ∷ bs) {c} d due is low made = (
    subst (λ (l : List (ℕ × Item)). HasMade b c l) (sym (at_same due.sink s ((due.tag, due.item) ∷ []) [] (omega (arith, is)))) made,
    below (s + 1) bs due (omega (arith, is)),
  )
  one_at s (suc i) (b ∷ bs) {c} d due is low made = (
    made_elsewhere s b due (λ e. omega (arith, e, is)),
    one_at (s + 1) i bs d due (omega (arith, is)) (omega (arith, low)) made,
  )

  pub have_one : (bs : List (SinkSeatView S)) (i tag : ℕ) (item : Item) (c d : SinkSeatView S) → i < length bs
      → HasMade (slice_index_or bs i d) c ((tag, item) ∷ []) → HaveMade 0 bs (set bs i c) (record { sink = i; tag = tag; item = item } ∷ [])
  have_one bs i tag item c d low made = one_at 0 i bs d (record { sink = i; tag = tag; item = item }) (omega arith) low made

  pub have_past : (bs : List (SinkSeatView S)) (i tag : ℕ) (item : Item) → length bs ≤ i
      → HaveMade 0 bs bs (record { sink = i; tag = tag; item = item } ∷ [])
  have_past bs i tag item high = past 0 bs (record { sink = i; tag = tag; item = item }) (omega (arith, high))

-- the items of a worker's takes since it began
pub took_more : (k l m : Known Item block_note) (gots g : List (ℕ × Item)) → takes l.own ≡ takes k.own ++ gots → Moved l m [] g
    → takes m.own ≡ takes k.own ++ (gots ++ g)
took_more k l m gots g took moved = moved_gots l m [] g moved ∙ ap (λ (q : List (ℕ × Item)). q ++ g) took
    ∙ append_assoc (takes k.own) gots g

pub took_no_more : (k l m : Known Item block_note) (gots : List (ℕ × Item)) → takes l.own ≡ takes k.own ++ gots → Moved l m [] []
    → takes m.own ≡ takes k.own ++ gots
took_no_more k l m gots took moved = moved_gots l m [] [] moved ∙ append-nil (takes l.own) ∙ took
