-- What is told of the sinks of a configuration.
use Rattle.std.proofs.Common.{◌≡◌, ◌⊎◌, ◌<◌, ◌≤◌, ◌+◌, length-append, inl, inr, ℕ, zero, suc, take, arith, List, [], ◌∷◌, ◌++◌, Bool, Some, length, map, slice_get}
use Rattle.std.proofs.Common.{append_assoc, refl, sym, ap, subst, ◌∙◌}
use Rattle.std.specs.Prelude.{slice_index_or}
use Rattle.std.proofs.lemmas.List.{length-map}
use Rattle.alog_config.proofs.SharedPicking.{each_is_long, each_is_more, has_any, has_at, has_left, picked_more}
use Rattle.alog_config.specs.Built.{ArePicked, Built, EachIs}
use Rattle.alog_config.specs.Sinks.{IsFan, IsFanKind, IsFanName, IsMember, IsSinkName}
use Rattle.alog_config.specs.Sound.{AreSoundSinks, IsSoundKind}
use Rattle.alog_config.specs.declared.config.Config.{Config}
use Rattle.alog_config.specs.declared.config.SinkConfig.{SinkConfig}
use Rattle.alog_config.specs.declared.config.SinkKind.{SinkKind}
use Rattle.alog_config.specs.declared.config.SinkKind.TheVariants.{Lines, Fan}
use Rattle.alog_lane.specs.Calls.{LaneId}
use Rattle.alog_pool.specs.Pool.{PoolView, Starts, lanes_of}
use Rattle.alog_pool.specs.Report.{AreClosed}
use Rattle.alog_pool.specs.Rows.{tails}
use Rattle.alog_pool.specs.Producer.{ProducerView}
use Rattle.alog_pool.specs.SinkSeat.{SinkSeatView}
use Rattle.alog_pool.specs.declared.setup.Setup.{Setup}
use Rattle.alog_registry.specs.declared.logger.Logger.{Logger}
use Rattle.alog_sink.specs.Files.{Files}
use Rattle.alog_sink.specs.declared.sink.Sink.{Sink}
use Rattle.alog_server.specs.Making.{MakesAll}
use Rattle.alog_server.specs.SinkEnds.{HasLines, IsEndOf, LacksLines, TellsEach, TellsNext, TellsSinks}
use Rattle.alog_server.specs.declared.sink_end.SinkEnd.{SinkEnd}

fan_or_lines : (k : SinkKind) → IsFanKind k ⊎ (¬ IsFanKind k)
fan_or_lines (Lines file pattern upkeep) = inr (λ f. f)
fan_or_lines (Fan of) = inl tt

-- a name of sinks, none of which writes lines, is that of a fan
named_fan : (earlier rest : List SinkConfig) (name : List ℕ) → ¬ HasLines (earlier ++ rest) name → IsSinkName earlier name
    → IsFanName earlier name
named_fan earlier rest name none known =
    let P : SinkConfig → Type 0 = λ s. (s.name ≡ name) × (¬ IsFan s) in
    elim (fan_or_lines known.1.kind) [
      | inl fan ↦ (known.0, known.1, known.2, known.3, (fan, known.4))
      | inr lines ↦ absurd (none (has_any P (earlier ++ rest)
          (has_left P earlier rest (has_at P earlier known.0 known.1 known.2 known.3 (known.4, lines)))))
    ]

-- each member of a fan that keeps the rules writes lines
members_write : (limit : ℕ) (earlier rest : List SinkConfig) (k : SinkKind) → IsSoundKind limit earlier k
    → ¬ LacksLines (earlier ++ rest) k
members_write limit earlier rest (Lines file pattern upkeep) sound lacks = lacks
members_write limit earlier rest (Fan of) sound lacks =
    sound.1 (
      lacks.0,
      lacks.1,
      lacks.2,
      lacks.3,
      λ known. sound.2 (lacks.0, lacks.1, lacks.2, lacks.3, named_fan earlier rest lacks.1 lacks.4 known),
    )

pub each_writes : (limit : ℕ) (earlier ss : List SinkConfig) (n : ℕ) (s : SinkConfig) → AreSoundSinks limit earlier ss
    → slice_get ss n ≡ Some s → ¬ LacksLines (earlier ++ ss) s.kind
each_writes limit earlier [] n s sound there = absurd (cc there)
each_writes limit earlier (x ∷ ss) zero s sound there =
    let same : x ≡ s = cc in
    subst (λ (y : SinkConfig). ¬ LacksLines (earlier ++ x ∷ ss) y.kind) same (members_write limit earlier (x ∷ ss) x.kind sound.0.kind)
each_writes limit earlier (x ∷ ss) (suc n) s sound there =
    subst (λ (all : List SinkConfig). ¬ LacksLines all s.kind) (append_assoc earlier (x ∷ []) ss)
    (each_writes limit (earlier ++ x ∷ []) ss n s sound.1 there)

-- one item more that is not such
pub picked_not : {A : Type 0} (P : A → Type 0) (all picked : List A) (a : A) → ArePicked P all picked → ¬ P a
    → ArePicked P (all ++ a ∷ []) picked
picked_not P [] picked a h not = inr (not, h)
picked_not P (x ∷ all) picked a (inl h) not = inl (h.0, h.1, h.2, picked_not P all h.0 a h.3 not)
picked_not P (x ∷ all) picked a (inr h) not = inr (h.0, picked_not P all picked a h.1 not)

-- one sink more is told
pub told_more : (sinks done : List SinkConfig) (s : SinkConfig) (old new : List SinkEnd) → TellsEach sinks done old
    → TellsNext sinks s old new → TellsEach sinks (done ++ s ∷ []) new
told_more sinks done s old new told (inl h) =
    let IsTop : SinkConfig → Type 0 = λ t. ¬ IsMember sinks t.name in (
      told.0,
      picked_not IsTop done told.0 s told.1 (λ no. no h.0),
      subst (λ (es : List SinkEnd). EachIs (IsEndOf sinks) told.0 es) (sym h.1) told.2,
    )
told_more sinks done s old new told (inr h) =
    let IsTop : SinkConfig → Type 0 = λ t. ¬ IsMember sinks t.name in (
      told.0 ++ s ∷ [],
      picked_more IsTop done told.0 s told.1 h.0,
      subst (λ (es : List SinkEnd). EachIs (IsEndOf sinks) (told.0 ++ s ∷ []) es) (sym h.3)
          (each_is_more (IsEndOf sinks) told.0 old s h.1 told.2 h.2),
    )

pub next_few : (sinks : List SinkConfig) (s : SinkConfig) (old new : List SinkEnd) → TellsNext sinks s old new
    → length new ≤ length old + 1
next_few sinks s old new (inl h) = let same = ap length h.1 in omega (arith, same)
next_few sinks s old new (inr h) = let more = ap length h.3 ∙ length-append old (h.1 ∷ []) in omega (arith, more)

-- a list is as many of its items as there are, or more
pub take_past : {A : Type 0} (xs : List A) (i : ℕ) → ¬ (i < length xs) → take i xs ≡ xs
take_past [] zero past = refl
take_past [] (suc i) past = refl
take_past (x ∷ xs) zero past = absurd (past (omega arith))
take_past {A} (x ∷ xs) (suc i) past = ap (λ (l : List A). x ∷ l) (take_past xs i (λ low. past (omega (arith, low))))

-- as many are picked of a list as of what its items are of
picked_count : {A B : Type 0} (f : A → B) (P : B → Type 0) (all xs : List A) (ys : List B) → ArePicked (λ a. P (f a)) all xs
    → ArePicked P (map f all) ys → length xs ≡ length ys
picked_count f P [] xs ys h k = ap length h ∙ sym (ap length k)
picked_count f P (a ∷ all) xs ys (inl h) (inl k) =
    ap length h.2 ∙ ap suc (picked_count f P all h.0 k.0 h.3 k.3) ∙ sym (ap length k.2)
picked_count f P (a ∷ all) xs ys (inl h) (inr k) = absurd (k.0 h.1)
picked_count f P (a ∷ all) xs ys (inr h) (inl k) = absurd (h.0 k.1)
picked_count f P (a ∷ all) xs ys (inr h) (inr k) = picked_count f P all xs ys h.1 k.1

-- one item more
pub take_next : (xs : List ℕ) (i d : ℕ) → i < length xs → take (i + 1) xs ≡ take i xs ++ slice_index_or xs i d ∷ []
take_next [] i d low = absurd (omega (arith, low))
take_next (x ∷ xs) zero d low = refl
take_next (x ∷ xs) (suc i) d low =
    let next : suc i + 1 ≡ suc (i + 1) = omega arith in
    ap (λ n. take n (x ∷ xs)) next ∙ ap (λ (l : List ℕ). x ∷ l) (take_next xs i d (omega (arith, low)))

module _ {S : Type 0} (tells : Bool) (files : S → Files) (failures : S → ℕ) where
  -- as many sinks are told as were built
  pub told_count : (c : Config) (stores : List S) (loggers : List Logger) (sinks : List (Sink S)) (ends : List SinkEnd)
      → Built tells files failures c stores loggers sinks → TellsSinks c ends → length ends ≡ length sinks
  told_count c stores loggers sinks ends b told =
      let IsTop : SinkConfig → Type 0 = λ s. ¬ IsMember c.sinks.items s.name in
      let tops = subst (λ (l : List SinkConfig). ArePicked IsTop l told.0) (sym b.of) told.1 in
      each_is_long (IsEndOf c.sinks.items) told.0 ends told.2
      ∙ sym (picked_count _ IsTop b.parts b.tops told.0 b.picked tops) ∙ sym (ap length b.sinks ∙ length-map b.tops _)

  -- a report has a number of faults for each sink
  pub closed_count : (lanes : List (LaneId (Sink S))) (rows : List (List (SinkSeatView S))) (sinks : List (Sink S)) (faults : List ℕ)
      → AreClosed tells files failures lanes rows sinks faults → length faults ≡ length lanes
  closed_count [] rows [] [] h = refl
  closed_count [] rows [] (f ∷ fs) h = absurd h
  closed_count [] rows (s ∷ ss) faults h = absurd h
  closed_count (l ∷ ls) rows [] faults h = absurd h
  closed_count (l ∷ ls) rows (s ∷ ss) [] h = absurd h
  closed_count (l ∷ ls) rows (s ∷ ss) (f ∷ fs) h = ap suc (closed_count ls (tails rows) ss fs h.1)

module _ {S : Type 0} where
  lanes_count : (bs : List (SinkSeatView S)) → length (lanes_of bs) ≡ length bs
  lanes_count bs = length-map bs (λ (b : SinkSeatView S). b.lane)

  -- a pool that started has a place at each sink
  pub started_count : (setup : Setup S) (p : PoolView S) → Starts setup p → length setup.sinks.items ≡ length p.sink_seats
  started_count setup p starts =
      ap length (sym starts.sinks) ∙ length-map (lanes_of p.sink_seats) (λ (l : LaneId (Sink S)). l.first) ∙ lanes_count p.sink_seats

  makes_lanes : (old new : PoolView S) (ps : List ProducerView) → MakesAll old ps new → lanes_of new.sink_seats ≡ lanes_of old.sink_seats
  makes_lanes old new [] all = ap (λ (p : PoolView S). lanes_of p.sink_seats) all
  makes_lanes old new (p ∷ ps) all = makes_lanes all.0 new ps all.2 ∙ all.1.lanes

  -- and keeps it, whatever producers it makes
  pub made_count : (old new : PoolView S) (ps : List ProducerView) → MakesAll old ps new
      → length (lanes_of new.sink_seats) ≡ length old.sink_seats
  made_count old new ps all = ap length (makes_lanes old new ps all) ∙ lanes_count old.sink_seats
