-- What the leaves of a sink stand for after a step, where its store may have failed.
use Rattle.std.proofs.Common.{◌≡◌, ◌⊎◌, inl, inr, ℕ, Bool, true, false, cond, Result, Ok, Err, List, [], ◌∷◌, ◌++◌, refl, sym, ap, subst, ◌∙◌}
use Rattle.std.proofs.Common.{append_assoc, append-nil}
use Rattle.alog_msg.specs.declared.level.Level.{Level}
use Rattle.alog_msg.specs.declared.message.Message.{Message}
use Rattle.alog_sink.specs.Files.{Files}
use Rattle.alog_sink.specs.LaneRuns.{Stood}
use Rattle.alog_sink.specs.Lines.{admits, admitted}
use Rattle.alog_sink.specs.Turn.{Answer, LeafView, StandsFor, EachDoes, Takes, Flushes, first_fault}
use Rattle.alog_sink.specs.declared.leaf.SinkError.{SinkError}
use Rattle.alog_sink.specs.declared.leaf.SinkError.TheVariants as errors
use Rattle.alog_sink.specs.declared.sink.Sink.{Sink}
use Rattle.alog_sink.specs.declared.sink.Sink.TheVariants.{Leaf, Fan}
use Rattle.alog_system.specs.Acts.{Made, given_in, given_to}
use Rattle.alog_system.specs.Faults.{IsFaultOn, AreFine, handed, MeetsNone, HasFront, StandsWhole, BrokeOff, EachStands}

not_both : (b : Bool) → b ≡ true → b ≡ false → ⊥
not_both true e f = cc
not_both false e f = cc

pub fine_more : (k : ℕ) (xs : List Made) (x : Made) → AreFine k xs → (IsFaultOn k x.told → ⊥) → AreFine k (xs ++ x ∷ [])
fine_more k [] x h p = (p, tt)
fine_more k (y ∷ xs) x h p = (h.0, fine_more k xs x h.1 p)

-- a fault among some steps
pub fine_not : (k : ℕ) (before : List Made) (x : Made) (later : List Made) → IsFaultOn k x.told → AreFine k (before ++ x ∷ later) → ⊥
fine_not k [] x later fault h = h.0 fault
fine_not k (y ∷ before) x later fault h = fine_not k before x later fault h.1

-- what was given, with one step more
given_last : (k : ℕ) (m : Made) (ms : List Made) → given_to k (ms ++ m ∷ []) ≡ given_to k ms ++ given_in k m.did
given_last k m [] = append-nil (given_in k m.did)
given_last k m (n ∷ ms) =
    ap (λ (h : List Message). given_in k n.did ++ h) (given_last k m ms) ∙ sym (append_assoc (given_in k n.did) (given_to k ms) (given_in k m.did))

admitted_append : (level : Level) (xs ys : List Message) → admitted level (xs ++ ys) ≡ admitted level xs ++ admitted level ys
admitted_append level [] ys = refl
admitted_append level (m ∷ xs) ys = at (admits level m.level) (admitted_append level xs ys)
  where
    at : (b : Bool) → admitted level (xs ++ ys) ≡ admitted level xs ++ admitted level ys
        → cond b (m ∷ admitted level (xs ++ ys)) (admitted level (xs ++ ys)) ≡ cond b (m ∷ admitted level xs) (admitted level xs) ++ admitted level ys
    at true e = ap (λ (h : List Message). m ∷ h) e
    at false e = e

handed_append : {S : Type 0} (s : Sink S) (xs ys : List Message) → handed s (xs ++ ys) ≡ handed s xs ++ handed s ys
handed_append (Leaf l) xs ys = refl
handed_append (Fan f) xs ys = admitted_append f.level xs ys

pub handed_none : {S : Type 0} (s : Sink S) → handed s [] ≡ []
handed_none (Leaf l) = refl
handed_none (Fan f) = refl

-- one of some answers is a fault
abbrev pub HasFailed : {A : Type 0} → List (Result A SinkError) → Type 0
HasFailed [] = ⊥
HasFailed (Err e ∷ answers) = Unit {0}
HasFailed (Ok a ∷ answers) = HasFailed answers

abbrev pub IsFailed : {A : Type 0} → Result A SinkError → Type 0
IsFailed (Ok a) = ⊥
IsFailed (Err e) = Unit {0}

pub failed_first : {A : Type 0} (done : A) (answers : List (Result A SinkError)) → HasFailed answers → IsFailed (first_fault done answers)
failed_first done [] h = absurd h
failed_first done (Err e ∷ answers) h = tt
failed_first done (Ok a ∷ answers) h = failed_first done answers h

failed_head : {A : Type 0} (a : Result A SinkError) (answers : List (Result A SinkError)) → IsFailed a → HasFailed (a ∷ answers)
failed_head (Ok a) answers h = absurd h
failed_head (Err e) answers h = tt

failed_tail : {A : Type 0} (a : Result A SinkError) (answers : List (Result A SinkError)) → HasFailed answers → HasFailed (a ∷ answers)
failed_tail (Ok a) answers h = h
failed_tail (Err e) answers h = tt

module _ {S : Type 0} (tells : Bool) (files : S → Files) (failures : S → ℕ) (told : tells ≡ true) (sink : Sink S) (k : ℕ) (made : List Made) (x : Made) where
  abbrev pub more : List Made
  more = made ++ x ∷ []

  abbrev pub Has : List Made → Stood → LeafView S → Type 0
  Has ms s l = StandsWhole files sink k ms s l ⊎ BrokeOff files sink k ms s l

  stood_more : (s : Stood) → s.1 ++ handed sink (given_to k more) ≡ (s.1 ++ handed sink (given_to k made)) ++ handed sink (given_in k x.did)
  stood_more s =
      ap (λ (g : List Message). s.1 ++ handed sink g) (given_last k x made)
      ∙ (ap (λ (g : List Message). s.1 ++ g) (handed_append sink (given_to k made) (given_in k x.did))
      ∙ sym (append_assoc s.1 (handed sink (given_to k made)) (handed sink (given_in k x.did))))

  -- a leaf that broke off stays as it is
  still_broken : (s : Stood) (l n : LeafView S) → BrokeOff files sink k made s l → n ≡ l → BrokeOff files sink k more s n
  still_broken s l n b same = record {
    before = b.before;
    turn = b.turn;
    later = b.later ++ x ∷ [];
    cut = ap (λ (ms : List Made). ms ++ x ∷ []) b.cut ∙ append_assoc b.before (b.turn ∷ b.later) (x ∷ []);
    told = b.told;
    first = b.first;
    whole = b.whole;
    stood_for = b.stood_for;
    front = subst (λ (y : LeafView S). HasFront files b.whole (handed sink (given_in k b.turn.did)) (files y.store)) (sym same) b.front;
    broken = ap (λ (y : LeafView S). y.broken) same ∙ b.broken;
  }

  -- a step that gives it nothing
  stays_has : (s : Stood) (l : LeafView S) → handed sink (given_in k x.did) ≡ [] → (MeetsNone sink k made → MeetsNone sink k more) → Has made s l → Has more s l
  stays_has s l none fine (inl h) =
      inl (record {
        stands = subst (λ (ms : List Message). StandsFor files l s.0 ms)
            (sym (stood_more s
            ∙ (ap (λ (ms : List Message). (s.1 ++ handed sink (given_to k made)) ++ ms) none ∙ append-nil (s.1 ++ handed sink (given_to k made))))) h.stands;
        fine = fine h.fine;
      })
  stays_has s l none fine (inr b) = inr (still_broken s l l b refl)

  -- a text that is given to it
  pub takes_has : {s : Stood} {m : Message} {o n : LeafView S} {a : Answer} → handed sink (given_in k x.did) ≡ m ∷ [] →
      (IsFailed a → IsFaultOn k x.told)
      → ((IsFailed a → ⊥) → MeetsNone sink k made → MeetsNone sink k more) → Takes tells files failures o m a n → Has made s o → Has more s n
  takes_has {s} {n} {a = Ok t} given fault fine takes (inl h) =
      inl (record {
        stands = subst (λ (ms : List Message). StandsFor files n s.0 ms)
            (sym (stood_more s ∙ ap (λ (ms : List Message). (s.1 ++ handed sink (given_to k made)) ++ ms) given))
            (takes.stands told s.0 (s.1 ++ handed sink (given_to k made)) h.stands);
        fine = fine (λ f. f) h.fine;
      })
  takes_has {o} {n} {a = Err errors.Store} given fault fine takes (inl h) =
      let b = takes.breaks told refl in
      inr (record {
        before = made;
        turn = x;
        later = [];
        cut = refl;
        told = fault tt;
        first = h.fine;
        whole = o;
        stood_for = h.stands;
        front = subst (λ (ms : List Message). HasFront files o ms (files n.store)) (sym given) (b.0, b.1, b.2);
        broken = takes.failed refl;
      })
  takes_has {o} {a = Err errors.Broken} given fault fine takes (inl h) = absurd (not_both o.broken (takes.broken.0 refl).1 h.stands.whole)
  takes_has {s} {m} {o} {n} given fault fine takes (inr b) = inr (still_broken s o n b (same (admits o.face.level m.level) refl))
    where
      same : (v : Bool) → admits o.face.level m.level ≡ v → n ≡ o
      same true e = takes.nothing (inr (takes.broken.1 (e, b.broken)))
      same false e = takes.nothing (inl (takes.below.1 e))

  -- a flush
  pub flushes_has : {s : Stood} {o n : LeafView S} {a : Result Unit SinkError} → handed sink (given_in k x.did) ≡ [] →
      (IsFailed a → IsFaultOn k x.told)
      → ((IsFailed a → ⊥) → MeetsNone sink k made → MeetsNone sink k more) → Flushes tells files failures o a n → Has made s o → Has more s n
  flushes_has {s} {n} {a = Ok u} none fault fine does (inl h) =
      inl (record {
        stands = subst (λ (ms : List Message). StandsFor files n s.0 ms)
            (sym (stood_more s
            ∙ (ap (λ (ms : List Message). (s.1 ++ handed sink (given_to k made)) ++ ms) none ∙ append-nil (s.1 ++ handed sink (given_to k made)))))
            (does.stands told s.0 (s.1 ++ handed sink (given_to k made)) h.stands);
        fine = fine (λ f. f) h.fine;
      })
  flushes_has {o} {n} {a = Err errors.Store} none fault fine does (inl h) =
      inr (record {
        before = made;
        turn = x;
        later = [];
        cut = refl;
        told = fault tt;
        first = h.fine;
        whole = o;
        stood_for = h.stands;
        front = subst (λ (ms : List Message). HasFront files o ms (files n.store)) (sym none) (does.same told);
        broken = does.failed refl;
      })
  flushes_has {o} {a = Err errors.Broken} none fault fine does (inl h) = absurd (not_both o.broken (does.broken.0 refl) h.stands.whole)
  flushes_has {s} {o} {n} none fault fine does (inr b) = inr (still_broken s o n b (does.nothing (does.broken.1 b.broken)))

  abbrev pub Each : List Made → List Stood → List (LeafView S) → Type 0
  Each ms stood ls = EachStands files sink k ms stood ls

  pub each_stays : (stood : List Stood) (ls : List (LeafView S)) → handed sink (given_in k x.did) ≡ [] → (MeetsNone sink k made → MeetsNone sink k more)
      → Each made stood ls → Each more stood ls
  each_stays [] [] none fine all = tt
  each_stays (s ∷ stood) (l ∷ ls) none fine all = (stays_has s l none fine all.0, each_stays stood ls none fine all.1)
  each_stays [] (l ∷ ls) none fine all = absurd all
  each_stays (s ∷ stood) [] none fine all = absurd all

  -- each leaf has its turn, where a fault of one is told
  pub each_has : {A : Type 0} {Does : LeafView S → Result A SinkError → LeafView S → Type 0}
      → ((s : Stood) (o n : LeafView S) (a : Result A SinkError) → (IsFailed a → IsFaultOn k x.told) → Does o a n → Has made s o → Has more s n)
      → (olds : List (LeafView S)) (answers : List (Result A SinkError)) (news : List (LeafView S)) (stood : List Stood)
      → EachDoes Does olds answers news → (HasFailed answers → IsFaultOn k x.told) → Each made stood olds → Each more stood news
  each_has one [] [] [] [] each fault all = tt
  each_has {Does} one (o ∷ os) (a ∷ answers) (n ∷ ns) (s ∷ stood) each fault all = (
    one s o n a (λ f. fault (failed_head a answers f)) each.0 all.0,
    each_has {Does = Does} one os answers ns stood each.1 (λ f. fault (failed_tail a answers f)) all.1,
  )
  each_has one (o ∷ os) (a ∷ answers) (n ∷ ns) [] each fault all = absurd all
  each_has one [] [] [] (s ∷ stood) each fault all = absurd all
  each_has one [] (a ∷ answers) ns stood each fault all = absurd each
  each_has one [] [] (n ∷ ns) stood each fault all = absurd each
  each_has one (o ∷ os) [] ns stood each fault all = absurd each
  each_has one (o ∷ os) (a ∷ answers) [] stood each fault all = absurd each
