-- Stores that are handed out, and what is made of all parts.
use Rattle.std.proofs.Common.{◌≡◌, ◌+◌, ◌<◌, ℕ, zero, suc, Bool, true, false, cond, List, [], ◌∷◌, ◌++◌, length, take, drop, map, slice_get}
use Rattle.std.proofs.Common.{Result, Ok, Err, IfErr, IfOk, Option, Some, count_by, refl, sym, ap, subst, ◌∙◌, arith, length-drop}
use Rattle.std.proofs.Math.Seq.{take-length}
use Rattle.std.proofs.lemmas.List.{length-map}
use Rattle.std.proofs.lemmas.List.Sums.{sum_by-append}
use Rattle.std.specs.declared.io.Error.{Error}
use Rattle.alog_config.specs.declared.building.BuildError.{BuildError}
use Rattle.alog_config.specs.declared.building.BuildError.TheVariants as faults
use Rattle.alog_config.specs.declared.config.Config.{Config}
use Rattle.alog_config.specs.declared.config.SinkConfig.{SinkConfig}
use Rattle.alog_config.specs.declared.config.SinkKind.{SinkKind}
use Rattle.alog_config.specs.declared.config.SinkKind.TheVariants as kinds
use Rattle.alog_config.specs.declared.parts.Part.{Part}
use Rattle.alog_config.specs.Built.{ArePicked, Built, EachIs, IsFaultOf, IsFaultOfNext, IsFaultOver, IsLoggerOf, IsStoreFault, TellsFault}
use Rattle.alog_config.specs.Parts.{AreBuilt, Makes, MayLog, MayMake}
use Rattle.alog_config.specs.Sinks.{AnyMember, AnyUnknown, IsMember, Rotates, is_leaf, is_lines}
use Rattle.alog_config.specs.Sound.{IsSound, IsSoundKind}
use Rattle.alog_config.proofs.Parting.{IsNext, all_known, config_of, logger_sound_at, name_of, next_fan, next_leaf, no_built_fan, sound_at}
use Rattle.alog_config.proofs.SharedPicking.{picked_short, split_at, take_one_more}
use Rattle.alog_registry.specs.declared.logger.Logger.{Logger}
use Rattle.alog_sink.specs.Files.{Files}
use Rattle.alog_sink.specs.Refused.{FailsAs}
use Rattle.alog_sink.specs.declared.open.OpenError.{OpenError}
use Rattle.alog_sink.specs.declared.open.OpenError.TheVariants as openings
use Rattle.alog_sink.specs.declared.sink.Sink.{Sink}

-- how many stores the sinks up to one need
count_one : (s : SinkConfig) (b : Bool) → is_leaf s ≡ b → count_by is_leaf (s ∷ []) ≡ cond b 1 0
count_one s b e = ap (λ x. 0 + cond x 1 0) e ∙ omega arith

pub count_more : (xs : List SinkConfig) (i : ℕ) (s : SinkConfig) (b : Bool) → slice_get xs i ≡ Some s → is_leaf s ≡ b
    → count_by is_leaf (take (i + 1) xs) ≡ count_by is_leaf (take i xs) + cond b 1 0
count_more xs i s b e leaf =
    ap (λ (ys : List SinkConfig). count_by is_leaf ys) (take_one_more xs i s e)
    ∙ (sum_by-append (λ (x : SinkConfig). cond (is_leaf x) 1 0) (take i xs) (s ∷ [])
    ∙ ap (λ n. count_by is_leaf (take i xs) + n) (count_one s b leaf))

pub count_before : (xs : List SinkConfig) (i : ℕ) (s : SinkConfig) → slice_get xs i ≡ Some s → is_leaf s ≡ true
    → count_by is_leaf (take i xs) < count_by is_leaf xs
count_before xs i s e leaf =
    let r = split_at xs i s e in
    let f : SinkConfig → ℕ = λ x. cond (is_leaf x) 1 0 in
    let whole = ap (λ (ys : List SinkConfig). count_by is_leaf ys) r.1 ∙ sum_by-append f (take i xs) (s ∷ r.0) in
    let back = sum_by-append f (s ∷ []) r.0 in
    let one = count_one s true leaf in
    omega (arith, whole, back, one)

-- the next store of a list
pub next_store : {S : Type 0} (stores : List S) (k : ℕ) (store : S) (rest : List S) → drop k stores ≡ store ∷ rest
    → (slice_get stores k ≡ Some store) × (drop (k + 1) stores ≡ rest)
next_store [] zero store rest e = absurd (cc e)
next_store [] (suc k) store rest e = absurd (cc e)
next_store (s ∷ ss) zero store rest e =
    let same : s ≡ store = cc in let tail : ss ≡ rest = cc in (ap (λ x. Some x) same, tail)
next_store {S} (s ∷ ss) (suc k) store rest e =
    let r = next_store ss k store rest e in
    let next : suc k + 1 ≡ suc (k + 1) = omega arith in
    (r.0, ap (λ n. drop n (s ∷ ss)) next ∙ r.1)

-- a fault over a store is that of a refused opening that left it so
pub over_store : {S : Type 0} (failures : S → ℕ) (why : S → Option Error) (number : ℕ) (store after : S) (error : OpenError) (b : BuildError)
    → FailsAs (failures store) (failures after) error → (IsStoreFault b → error ≡ openings.Store) → TellsFault number (why after) b
    → IsFaultOver failures why number store b
over_store failures why number store after error faults.OutOfMemory counted store_told told = tt
over_store failures why number store after error (faults.Store sink reason) counted store_told told =
    (told.0, (after, subst (λ (e : OpenError). FailsAs (failures store) (failures after) e) (store_told tt) counted, told.1))

-- a fault over the first of these stores
pub of_next : {S T : Type 0} (failures : S → ℕ) (why : S → Option Error) (number : ℕ) (store : S) (stores rest : List S)
    (r : Result T BuildError)
    → stores ≡ store ∷ rest → IfErr r (IsFaultOver failures why number store) → IfErr r (IsFaultOfNext failures why number stores)
of_next failures why number store stores rest (Ok t) first is = tt
of_next failures why number store stores rest (Err faults.OutOfMemory) first is = tt
of_next failures why number store stores rest (Err (faults.Store sink reason)) first is = (is.0, store, rest, first, is.1)

-- the fault of the next sink is told of the one that was to have the store
pub fault_of : {S : Type 0} (failures : S → ℕ) (why : S → Option Error) (sinks : List SinkConfig) (stores here : List S) (number : ℕ)
    (s : SinkConfig) (b : BuildError)
    → slice_get sinks number ≡ Some s → here ≡ drop (count_by is_leaf (take number sinks)) stores
    → IsFaultOfNext failures why number here b → (IsStoreFault b → Rotates s) → IsFaultOf failures why sinks stores b
fault_of failures why sinks stores here number s faults.OutOfMemory at e is rotates = tt
fault_of failures why sinks stores here number s (faults.Store sink reason) at e is rotates =
    let found = next_store stores (count_by is_leaf (take number sinks)) is.1 is.2 (sym e ∙ is.3) in
    record {
      sink = s;
      at = rw is.0 at;
      rotates = rotates tt;
      store = is.1;
      own = rw is.0 found.0;
      failed = is.4;
    }

-- what is known of a value in two ways
pub if_ok_both : {T E : Type 0} (r : Result T E) (P Q R : T → Type 0) → ((t : T) → P t → Q t → R t) → IfOk r P → IfOk r Q → IfOk r R
if_ok_both (Ok t) P Q R f p q = f t p q
if_ok_both (Err e) P Q R f p q = tt

module _ {S : Type 0} (tells : Bool) (files : S → Files) (failures : S → ℕ) where
  -- the loggers may be made
  pub may_log : (c : Config) (stores : List S) (left : List (Part S)) → IsSound c.text c.zone c.sinks.items c.loggers.items
      → AreBuilt tells files failures c stores (length c.sinks.items) left → MayLog left c.loggers.items
  may_log c stores left sound b =
      let all = c.sinks.items in
      let whole : take (length all) all ≡ all = take-length all in
      let short = picked_short (λ (a : Part S). ¬ IsMember (take (length all) all) (name_of a)) b.parts left b.picked in
      let mapped = length-map b.parts config_of in
      let parts = ap (λ (xs : List SinkConfig). length xs) (b.of ∙ whole) in
      record {
        few_parts = let few = sound.few_sinks in omega (arith, short, mapped, parts, few);
        few = sound.few_loggers;
        each = λ i l e.
            let s = logger_sound_at all [] c.loggers.items i l sound.each_logger e in
            record {
              short = s.short;
              free = s.free;
              known = all_known tells files failures c stores (length all) left l.sinks b
                  (subst (λ (xs : List SinkConfig). ¬ AnyUnknown xs l.sinks) (sym whole) s.known)
                  (subst (λ (xs : List SinkConfig). ¬ AnyMember xs l.sinks) (sym whole) s.apart);
              few = s.few;
            };
      }

  -- what is built of all
  pub all_built : (c : Config) (stores : List S) (left : List (Part S)) (loggers : List Logger) (sinks : List (Sink S))
      → AreBuilt tells files failures c stores (length c.sinks.items) left → sinks ≡ map (λ (p : Part S). p.sink) left
      → EachIs (IsLoggerOf left) c.loggers.items loggers → Built tells files failures c stores loggers sinks
  all_built c stores left loggers sinks b same each =
      let all = c.sinks.items in
      let whole : take (length all) all ≡ all = take-length all in
      record {
        parts = b.parts;
        of = b.of ∙ whole;
        each = b.each;
        tops = left;
        picked = subst (λ (xs : List SinkConfig). ArePicked (λ (a : Part S). ¬ IsMember xs (name_of a)) b.parts left) whole b.picked;
        sinks = same;
        loggers = each;
      }

  -- the next sink may be made
  may_make_kind : {c : Config} {stores here : List S} {i : ℕ} {left : List (Part S)} {s : SinkConfig} {k : SinkKind}
      → IsNext tells files failures c stores i left s → s.kind ≡ k
      → IsSoundKind c.text (take i c.sinks.items) k → length stores ≡ count_by is_leaf c.sinks.items
      → here ≡ drop (count_by is_leaf (take i c.sinks.items)) stores → MayMake c.text k here left
  may_make_kind {c} {stores} {i} {s} {k = kinds.Lines file pattern upkeep} next kind sound long e =
      let leaf : is_leaf s ≡ true = ap is_lines kind in
      let more = count_before c.sinks.items i s next.at leaf in
      let rest = ap (λ (xs : List S). length xs) e ∙ length-drop (count_by is_leaf (take i c.sinks.items)) stores in
      (sound.0, sound.2, sound.3, omega (arith, more, rest, long))
  may_make_kind {c} {stores} {i} {left} {k = kinds.Fan of} next kind sound long e = (
    all_known tells files failures c stores i left of next.built sound.1 sound.3,
    sound.0,
    no_built_fan tells files failures c stores i left of next.built sound.2,
  )

  pub may_make : {c : Config} {stores here : List S} {i : ℕ} {left : List (Part S)} {s : SinkConfig}
      → IsNext tells files failures c stores i left s
      → length stores ≡ count_by is_leaf c.sinks.items → here ≡ drop (count_by is_leaf (take i c.sinks.items)) stores
      → MayMake c.text s.kind here left
  may_make {c} {i} {s} next long e =
      may_make_kind {k = s.kind} next refl (sound_at c.text c.sinks.items i s next.sound next.at).kind long e

  -- the next sink was made
  pub next_left : {c : Config} {stores here rest : List S} {i : ℕ} {left : List (Part S)} (after : List (Part S)) {s : SinkConfig} (sink : Sink S)
      {k : SinkKind}
      → IsNext tells files failures c stores i left s → s.kind ≡ k → here ≡ drop (count_by is_leaf (take i c.sinks.items)) stores
      → Makes tells files failures c s.level k here left sink rest after
      → rest ≡ drop (count_by is_leaf (take (i + 1) c.sinks.items)) stores
  next_left {c} {stores} {rest} {i} after {s} sink {k = kinds.Lines file pattern upkeep} next kind e made =
      let store = next_store stores (count_by is_leaf (take i c.sinks.items)) made.0 rest (sym e ∙ made.1) in
      let count = count_more c.sinks.items i s true next.at (ap is_lines kind) in
      sym store.1 ∙ ap (λ n. drop n stores) (sym count)
  next_left {c} {stores} {i} after {s} sink {k = kinds.Fan of} next kind e made =
      let before = count_by is_leaf (take i c.sinks.items) in
      let count = count_more c.sinks.items i s false next.at (ap is_lines kind) in
      let none : before + 0 ≡ before = omega arith in
      made.0 ∙ (e ∙ ap (λ n. drop n stores) (sym (count ∙ none)))

  next_kind : {c : Config} {stores here : List S} (rest : List S) {i : ℕ} {left : List (Part S)} (after : List (Part S)) {s : SinkConfig}
      (p : Part S) {k : SinkKind}
      → IsNext tells files failures c stores i left s → config_of p ≡ s → s.kind ≡ k → here ≡ drop (count_by is_leaf (take i c.sinks.items)) stores
      → Makes tells files failures c s.level k here left p.sink rest after → AreBuilt tells files failures c stores (i + 1) (after ++ p ∷ [])
  next_kind {c} {stores} rest {i} after p {k = kinds.Lines file pattern upkeep} next same kind e made =
      let store = next_store stores (count_by is_leaf (take i c.sinks.items)) made.0 rest (sym e ∙ made.1) in
      subst (λ (ps : List (Part S)). AreBuilt tells files failures c stores (i + 1) (ps ++ p ∷ [])) (sym made.2)
      (next_leaf tells files failures p next same kind store.0 made.3)
  next_kind rest after p {k = kinds.Fan of} next same kind e made = next_fan tells files failures after p next same kind made.1

  pub next_made : {c : Config} {stores here : List S} (rest : List S) {i : ℕ} {left : List (Part S)} (after : List (Part S))
      {s : SinkConfig} (p : Part S)
      → IsNext tells files failures c stores i left s → config_of p ≡ s → here ≡ drop (count_by is_leaf (take i c.sinks.items)) stores
      → Makes tells files failures c s.level s.kind here left p.sink rest after
      → AreBuilt tells files failures c stores (i + 1) (after ++ p ∷ [])
  next_made rest after {s} p next same e made = next_kind rest after p {k = s.kind} next same refl e made
