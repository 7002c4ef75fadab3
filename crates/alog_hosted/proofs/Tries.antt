-- Turns that are made one after another, as far as locks are free.
use Rattle.std.proofs.Common.{◌≡◌, ℕ, zero, suc, ◌+◌, ◌-◌, ◌^◌, ◌≤◌, ◌<◌, ◌≢◌, Bool, true, false, cond, Some, None, Option, Result, Ok, Err, List, [], ◌∷◌, ◌++◌, map, set, length, length-append, refl, sym, ap, subst, ◌∙◌, append_assoc, arith}
use Rattle.std.specs.Option.{option_map}
use Rattle.std.specs.Prelude.{drop, slice_get, slice_index_or, OnOk, OnErr}
use Rattle.std.proofs.lemmas.List.{length-map}
use Rattle.std.proofs.lemmas.Option.{slice_get-map}
use Rattle.alog_core.specs.Queue.{last}
use Rattle.alog_hosted.specs.Owed.{AreAlone, MakesPart}
use Rattle.alog_lane.specs.Calls.{LaneId}
use Rattle.alog_msg.specs.declared.item.Item.{Item}
use Rattle.alog_msg.specs.declared.item.Item.TheVariants.{Text, Flush, Stop}
use Rattle.alog_pool.specs.Deeds.{Due, HasMade, HaveMade, due_by, dues_by}
use Rattle.alog_pool.specs.SinkSeat.{AreFlushed, SinkSeatView, Serves, is_unflushed, place_of, places_of}
use Rattle.alog_pool.specs.Pool.{lanes_of}
use Rattle.alog_pool.proofs.SharedDeeds.{have_none, have_then, made_own, none_made}
use Rattle.alog_pool.proofs.SharedFlushed.{own_flushed}
use Rattle.alog_pool.proofs.SharedRows.{place_lanes}
use Rattle.alog_pool.proofs.SharedTurning.{place_same}
use Rattle.alog_registry.specs.Work.{is_flush_due, turns_of}
use Rattle.alog_registry.specs.declared.logger.Spec.{Spec}
use Rattle.alog_registry.specs.declared.work.SinkDeed.TheVariants as deed
use Rattle.alog_registry.specs.declared.work.SinkTurn.{SinkTurn}
use Rattle.alog_sink.specs.Files.{Files}
use Rattle.alog_sink.specs.declared.sink.Sink.{Sink}

-- where a call came to its end, what follows from it
pub ok_then : {X E P Q : Type 0} (r : Result X E) → (P → Q) → OnOk r P → OnOk r Q
ok_then (Ok x) more is = more is
ok_then (Err e) more is = is

module _ {S : Type 0} (tells : Bool) (files : S → Files) (failures : S → ℕ) {E : Type 0} where
  -- a try leaves the place's lane, limit and parts
  pub place_after : (r : Result (Unit {0}) E) (old new : SinkSeatView S) (tag : ℕ) (item : Item)
      → OnOk r (Serves tells files failures old tag item new) → OnErr r (new ≡ old) → place_of new ≡ place_of old
  place_after (Ok u) old new tag item served same = place_same tells files failures old new tag item served
  place_after (Err e) old new tag item served same = ap (λ (b : SinkSeatView S). place_of b) same

  -- a try of an own flush
  pub own_after : (r : Result (Unit {0}) E) (old new : SinkSeatView S) → OnOk r (Serves tells files failures old last (Flush 0) new)
      → OnErr r (new ≡ old) → HasMade old new []
  own_after (Ok u) old new served same = made_own tells files failures old new served
  own_after (Err e) old new served same = subst (λ (b : SinkSeatView S). HasMade old b []) (sym same) (none_made old)

  pub flushed_after : (r : Result (Unit {0}) E) (old new : SinkSeatView S) → OnOk r (Serves tells files failures old last (Flush 0) new)
      → OnOk r (is_unflushed new ≡ false)
  flushed_after (Ok u) old new served = own_flushed tells files failures old new last 0 served
  flushed_after (Err e) old new served = served

module _ {X : Type 0} where
  drop_next : (xs : List X) (k : ℕ) {x : X} → slice_get xs k ≡ Some x → drop k xs ≡ x ∷ drop (suc k) xs
  drop_next [] k e = absurd (cc)
  drop_next (y ∷ ys) zero {x} e = let same : y ≡ x = cc in ap (λ (z : X). z ∷ ys) same
  drop_next (y ∷ ys) (suc k) e = drop_next ys k e

  drop_past : (xs : List X) (k : ℕ) → slice_get xs k ≡ None → drop k xs ≡ []
  drop_past [] zero e = refl
  drop_past [] (suc k) e = refl
  drop_past (y ∷ ys) zero e = absurd (cc)
  drop_past (y ∷ ys) (suc k) e = drop_past ys k e

  drop_long : (xs : List X) (k : ℕ) → length xs ≤ k → drop k xs ≡ []
  drop_long [] zero long = refl
  drop_long [] (suc k) long = refl
  drop_long (y ∷ ys) zero long = absurd (omega (arith, long))
  drop_long (y ∷ ys) (suc k) long = drop_long ys k (omega (arith, long))

  pub drop_nothing : (k : ℕ) → drop {A = X} k [] ≡ []
  drop_nothing zero = refl
  drop_nothing (suc k) = refl

if_long : {X : Type 0} (b : Bool) (xs : List X) → length (cond b xs []) ≤ length xs
if_long true xs = omega arith
if_long false xs = omega arith

-- a work has at most two turns on each sink of its logger
few_turns : (spec : Spec) (ticket : ℕ) (x : Item) → length (turns_of spec ticket x) ≤ length spec.sinks.items + length spec.sinks.items
few_turns spec ticket (Text m) =
    let take : ℕ → SinkTurn = λ s. record { sink = s; tag = ticket; deed = deed.Take } in
    let flush : ℕ → SinkTurn = λ s. record { sink = s; tag = ticket; deed = deed.Flush } in
    let one = length-map spec.sinks.items take in
    let two = length-map spec.sinks.items flush in
    let both = length-append (map take spec.sinks.items) (cond (is_flush_due spec m.level) (map flush spec.sinks.items) []) in
    let least = if_long (is_flush_due spec m.level) (map flush spec.sinks.items) in
    omega (arith, one, two, both, least)
few_turns spec ticket (Flush n) =
    let one = length-map spec.sinks.items (λ (s : ℕ). let t : SinkTurn = record { sink = s; tag = ticket; deed = deed.Flush } in t) in omega (arith, one)
few_turns spec ticket Stop = omega arith

-- a place past all of them
pub dues_past : (o : Option Spec) (spec : Spec) (logger ticket : ℕ) (x : Item) (k : ℕ) → Some spec ≡ o → 2 ^ 64 - 1 ≤ k
    → drop k (dues_by o logger ticket x) ≡ []
dues_past o spec logger ticket x k is high =
    let f : SinkTurn → Due = λ t. due_by logger x t in
    let few = few_turns spec ticket x in
    let same = length-map (turns_of spec ticket x) f in
    let ok = spec.sinks.ok in
    let small = spec.sinks.small in
    subst (λ (z : Option Spec). drop k (dues_by z logger ticket x) ≡ []) is
    (drop_long (map f (turns_of spec ticket x)) k (omega (arith, few, same, ok.0, ok.1, small, high)))

-- the turns of a work from a place on
pub dues_rest : {o : Option Spec} {spec : Spec} (logger ticket : ℕ) (x : Item) (k : ℕ) {turn : SinkTurn} → Some spec ≡ o
    → slice_get (turns_of spec ticket x) k ≡ Some turn
    → drop k (dues_by o logger ticket x) ≡ due_by logger x turn ∷ drop (k + 1) (dues_by o logger ticket x)
dues_rest {spec} logger ticket x k {turn} is at =
    let f : SinkTurn → Due = λ t. due_by logger x t in
    let found : slice_get (map f (turns_of spec ticket x)) k ≡ Some (f turn) =
    slice_get-map f (turns_of spec ticket x) k ∙ ap (λ (z : Option SinkTurn). option_map f z) at in
    let next : suc k ≡ k + 1 = omega arith in
    subst (λ (z : Option Spec). drop k (dues_by z logger ticket x) ≡ due_by logger x turn ∷ drop (k + 1) (dues_by z logger ticket x)) is
    (subst (λ n. drop k (dues_by (Some spec) logger ticket x) ≡ due_by logger x turn ∷ drop n (dues_by (Some spec) logger ticket x))
    next (drop_next (map f (turns_of spec ticket x)) k found))

pub dues_end : (o : Option Spec) (spec : Spec) (logger ticket : ℕ) (x : Item) (k : ℕ) → Some spec ≡ o
    → slice_get (turns_of spec ticket x) k ≡ None → drop k (dues_by o logger ticket x) ≡ []
dues_end o spec logger ticket x k is at =
    let f : SinkTurn → Due = λ t. due_by logger x t in
    let none : slice_get (map f (turns_of spec ticket x)) k ≡ None =
    slice_get-map f (turns_of spec ticket x) k ∙ ap (λ (z : Option SinkTurn). option_map f z) at in
    subst (λ (z : Option Spec). drop k (dues_by z logger ticket x) ≡ []) is (drop_past (map f (turns_of spec ticket x)) k none)

module _ {S : Type 0} where
  -- nothing was made yet
  pub part_none : (bs : List (SinkSeatView S)) (dues : List Due) → MakesPart bs bs dues dues
  part_none bs dues = record { made = []; split = refl; turns = have_none 0 bs }

  -- one more was
  pub part_more : {old mid new : List (SinkSeatView S)} {dues rest : List Due} (due : Due) → MakesPart old mid dues (due ∷ rest)
      → HaveMade 0 mid new (due ∷ []) → MakesPart old new dues rest
  part_more {old} {mid} {new} {dues} {rest} due part one = record {
    made = part.made ++ due ∷ [];
    split = part.split ∙ sym (append_assoc part.made (due ∷ []) rest);
    turns = have_then 0 old mid new part.made (due ∷ []) part.turns one;
  }

  -- places that stay keep their parts
  pub still_alone : (bs cs : List (SinkSeatView S)) → places_of cs ≡ places_of bs → AreAlone bs → AreAlone cs
  still_alone [] [] same all = tt
  still_alone [] (c ∷ cs) same all = absurd (cc same)
  still_alone (b ∷ bs) [] same all = absurd (cc same)
  still_alone (b ∷ bs) (c ∷ cs) same all =
      let one : place_of c ≡ place_of b = cc same in
      let rest : places_of cs ≡ places_of bs = cc same in
      (ap (λ p. p.parts) one ∙ all.0, still_alone bs cs rest all.1)

  -- where the turns on all places are made, none is left
  pub part_all : {old new : List (SinkSeatView S)} {dues rest : List Due} → rest ≡ [] → MakesPart old new dues rest → MakesPart old new dues []
  part_all {old} {new} {dues} none part = subst (λ (r : List Due). MakesPart old new dues r) none part

  -- a try that was refused left the places as they were
  pub part_held : {old mid new : List (SinkSeatView S)} {dues rest : List Due} → new ≡ mid → MakesPart old mid dues rest → MakesPart old new dues rest
  part_held {old} {dues} {rest} same part = subst (λ (bs : List (SinkSeatView S)). MakesPart old bs dues rest) (sym same) part

  at_both : (bs : List (SinkSeatView S)) (ls : List (LaneId (Sink S))) (i : ℕ) {l : LaneId (Sink S)} {b : SinkSeatView S}
      → lanes_of bs ≡ ls → i < length bs → l ≡ slice_index_or ls i l → b ≡ slice_index_or bs i b → l ≡ b.lane
  at_both [] ls i same low at is = absurd (omega (arith, low))
  at_both (b ∷ bs) [] i same low at is = absurd (cc same)
  at_both (b ∷ bs) (l ∷ ls) zero same low at is =
      let one : b.lane ≡ l = cc same in at ∙ sym one ∙ sym (ap (λ (v : SinkSeatView S). v.lane) is)
  at_both (b ∷ bs) (l ∷ ls) (suc i) same low at is =
      let rest : lanes_of bs ≡ ls = cc same in at_both bs ls i rest (omega (arith, low)) at is

  -- the lane of a place stands at its number
  pub lane_at : (firsts bs : List (SinkSeatView S)) (ls : List (LaneId (Sink S))) (i : ℕ) {l : LaneId (Sink S)} {b : SinkSeatView S}
      → places_of bs ≡ places_of firsts → lanes_of firsts ≡ ls → i < length bs → l ≡ slice_index_or ls i l → b ≡ slice_index_or bs i b
      → l ≡ b.lane
  lane_at firsts bs ls i {l} {b} same lanes low at is = at_both bs ls i (place_lanes firsts bs same ∙ lanes) low at is

  -- of places of which one is not flushed not all are
  pub not_flushed : (bs : List (SinkSeatView S)) (n : ℕ) (c : SinkSeatView S) → n < length bs → is_unflushed c ≢ false → ¬ AreFlushed (set bs n c)
  not_flushed [] n c low is all = absurd (omega (arith, low))
  not_flushed (b ∷ bs) zero c low is all = is all.0
  not_flushed (b ∷ bs) (suc n) c low is all = not_flushed bs n c (omega (arith, low)) is all.1
