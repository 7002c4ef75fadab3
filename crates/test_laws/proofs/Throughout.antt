-- What each log of a pipe keeps is so behind all that it logs.
use Rattle.std.proofs.Common.{◌≡◌, ◌≢◌, ◌⊎◌, ℕ, zero, suc, ℤ, Some, List, [], ◌∷◌, sym, ap, subst, ◌∙◌, inl, inr}
use Rattle.alog_lines.specs.Pieces.{Piece}
use Rattle.alog_msg.specs.declared.level.Level.{Level}
use Rattle.alog_msg.specs.declared.level.Level.TheVariants.{Warning}
use Rattle.alog_pipe.specs.InTurn.{InTurn}
use Rattle.alog_pipe.specs.Logged.{HasNoRoom, KeepsCopies, LogsPieceAt, LogsText, LosesPiece}
use Rattle.alog_pipe.specs.Piped.{Finishes, LogsAll, LogsNext, Naps, Rests, TriesToTell}
use Rattle.alog_policy.specs.declared.policy.Outcome.TheVariants.{Posted, Discarded}
use Rattle.alog_pool.specs.Gaps.{gap_text}
use Rattle.alog_pool.specs.Producer.{ProducerView}
use Rattle.alog_pool.specs.declared.shared.Shared.{Shared}
use Rattle.alog_registry.specs.Listed.{spec_at}
use Rattle.alog_registry.specs.declared.logger.Spec.{Spec}
use Rattle.alog_registry.specs.declared.logging.LogReply.{LogReply}
use Rattle.alog_registry.specs.declared.logging.LogReply.TheVariants as reply
use Rattle.test_laws.proofs.PieceLogs.{LacksMemory, LacksRoom, PieceLog, TellsAll}

-- the post of a text that was answered so was discarded
abbrev pub IsDiscarded : LogReply → Type 0
IsDiscarded (reply.Filtered own kept) = ⊥
IsDiscarded (reply.Logged (Posted t k) kept) = ⊥
IsDiscarded (reply.Logged (Discarded v why k) kept) = Unit {0}

-- A text was logged. No more is missing by it, or its post was discarded.
pub record LogsOne (old new : PieceLog) : Type 0 where
  pub level : Level
  pub time : ℤ
  pub text : List ℕ
  pub answer : LogReply
  pub logged : LogsText old.logger level time text answer old.producer new.producer
  pub missing : (new.missing ≡ old.missing) ⊎ IsDiscarded answer
  pub logger : new.logger ≡ old.logger

-- nothing was logged, since there was no memory for a copy
record LogsNone (old new : PieceLog) : Type 0 where
  pub keeps : KeepsCopies old.logger old.producer
  pub producer : new.producer ≡ old.producer
  pub logger : new.logger ≡ old.logger

-- a text was logged, and its post was discarded
record Discards (log : PieceLog) (p : ProducerView) : Type 0 where
  pub level : Level
  pub time : ℤ
  pub text : List ℕ
  pub answer : LogReply
  pub logged : LogsText log.logger level time text answer log.producer p
  pub discarded : IsDiscarded answer

no_room_discards : (time : ℤ) (log : PieceLog) (p : ProducerView) → HasNoRoom time log p → Discards log p
no_room_discards time log p (reply.Filtered own kept, logged, is) = absurd (cc is)
no_room_discards time log p (reply.Logged (Posted t k) kept, logged, is) = absurd (cc is)
no_room_discards time log p (reply.Logged (Discarded v why k) kept, logged, is) = record {
  level = Warning;
  time = time;
  text = gap_text log.hole;
  answer = reply.Logged (Discarded v why k) kept;
  logged = logged;
  discarded = tt;
}

lost_discards : (time : ℤ) (text : List ℕ) (log : PieceLog) (p : ProducerView) → LosesPiece time text log p
    → Discards log p ⊎ ((p ≡ log.producer) × KeepsCopies log.logger log.producer)
lost_discards time text log p (inl (reply.Filtered own kept, logged, is)) = absurd (cc is)
lost_discards time text log p (inl (reply.Logged (Posted t k) kept, logged, is)) = absurd (cc is)
lost_discards time text log p (inl (reply.Logged (Discarded v why k) kept, logged, is)) = inl (record {
  level = log.level;
  time = time;
  text = text;
  answer = reply.Logged (Discarded v why k) kept;
  logged = logged;
  discarded = tt;
})
lost_discards time text log p (inr none) = inr none

-- the logger is this one
abbrev pub IsWith : Spec → PieceLog → Type 0
IsWith spec log = spec_at log.producer.shared.loggers log.logger ≡ Some spec

-- What is so of a pipe that logs to this logger: each text that is logged keeps it, and so does a lack of memory for a copy.
module _ (spec : Spec) (P : PieceLog → Type 0)
    (one : (old new : PieceLog) (l : LogsOne old new) → l.logged.spec ≡ spec → P old → P new)
    (none : (old new : PieceLog) → spec.backtrace ≢ 0 → new.producer ≡ old.producer → P old → P new) where
  abbrev Stays : PieceLog → Type 0
  Stays log = IsWith spec log × P log

  same_spec : (log : PieceLog) (s : Spec) → spec_at log.producer.shared.loggers log.logger ≡ Some s → IsWith spec log → s ≡ spec
  same_spec log s found is = cc

  stays_with : (old new : PieceLog) → new.producer.shared ≡ old.producer.shared → new.logger ≡ old.logger → IsWith spec old
      → IsWith spec new
  stays_with old new shared logger is =
      subst (λ (v : Shared × ℕ). spec_at v.0.loggers v.1 ≡ Some spec) (λ i. (sym shared i, sym logger i)) is

  equal_keeps : (old new : PieceLog) → new ≡ old → Stays old → Stays new
  equal_keeps old new same is = subst (λ (l : PieceLog). Stays l) (sym same) is

  one_keeps : (old new : PieceLog) → LogsOne old new → Stays old → Stays new
  one_keeps old new l is = (
    stays_with old new l.logged.same.shared l.logger is.0,
    one old new l (same_spec old l.logged.spec l.logged.found is.0) is.1,
  )

  none_keeps : (old new : PieceLog) → LogsNone old new → Stays old → Stays new
  none_keeps old new l is =
      let here : l.keeps.0 ≡ spec = same_spec old l.keeps.0 l.keeps.1 is.0 in (
        stays_with old new (ap (λ (p : ProducerView). p.shared) l.producer) l.logger is.0,
        none old new (subst (λ (s : Spec). s.backtrace ≢ 0) here l.keeps.2) l.producer is.1,
      )

  -- a text by which no more is missing, and one that was discarded
  text_keeps : (old new : PieceLog) (level : Level) (time : ℤ) (text : List ℕ) (answer : LogReply)
      → LogsText old.logger level time text answer old.producer new.producer → new.missing ≡ old.missing → new.logger ≡ old.logger
      → Stays old → Stays new
  text_keeps old new level time text answer logged missing logger = one_keeps old new (record {
    level = level;
    time = time;
    text = text;
    answer = answer;
    logged = logged;
    missing = inl missing;
    logger = logger;
  })

  discard_keeps : (old new : PieceLog) → Discards old new.producer → new.logger ≡ old.logger → Stays old → Stays new
  discard_keeps old new d logger = one_keeps old new (record {
    level = d.level;
    time = d.time;
    text = d.text;
    answer = d.answer;
    logged = d.logged;
    missing = inr d.discarded;
    logger = logger;
  })

  -- the line that says how many are missing
  told_keeps : (time : ℤ) (old new : PieceLog) → TellsAll time old new → Stays old → Stays new
  told_keeps time old new (inl h) = equal_keeps old new h.1
  told_keeps time old new (inr (some, inl posted, is)) =
      text_keeps old new _ time _ posted.0 posted.1 (ap (λ (l : PieceLog). l.missing) is) (ap (λ (l : PieceLog). l.logger) is)
  told_keeps time old new (inr (some, inr hidden, is)) =
      text_keeps old new _ time _ hidden.0 hidden.1 (ap (λ (l : PieceLog). l.missing) is) (ap (λ (l : PieceLog). l.logger) is)

  no_room_keeps : (time : ℤ) (old new : PieceLog) → LacksRoom time old new → Stays old → Stays new
  no_room_keeps time old new h =
      discard_keeps old new (no_room_discards time old new.producer h.1) (ap (λ (l : PieceLog). l.logger) h.2)

  untold_keeps : (time : ℤ) (old new : PieceLog) → LacksRoom time old new ⊎ LacksMemory old new → Stays old → Stays new
  untold_keeps time old new (inl h) = no_room_keeps time old new h
  untold_keeps time old new (inr h) = equal_keeps old new h.2

  -- a piece of which nothing was logged, since that line is not kept
  missed_keeps : (time : ℤ) (old mid new : PieceLog) → LacksRoom time old mid ⊎ LacksMemory old mid → new.producer ≡ mid.producer
      → new.logger ≡ mid.logger → Stays old → Stays new
  missed_keeps time old mid new (inl h) producer logger =
      discard_keeps old new (subst (λ (p : ProducerView). Discards old p) (sym producer) (no_room_discards time old mid.producer h.1))
      (logger ∙ ap (λ (l : PieceLog). l.logger) h.2)
  missed_keeps time old mid new (inr h) producer logger =
      none_keeps old new (record {
        keeps = h.1;
        producer = producer ∙ ap (λ (l : PieceLog). l.producer) h.2;
        logger = logger ∙ ap (λ (l : PieceLog). l.logger) h.2;
      })

  -- a piece that is missing
  lost_keeps : (old new : PieceLog) → Discards old new.producer ⊎ ((new.producer ≡ old.producer) × KeepsCopies old.logger old.producer)
      → new.logger ≡ old.logger → Stays old → Stays new
  lost_keeps old new (inl d) logger = discard_keeps old new d logger
  lost_keeps old new (inr n) logger = none_keeps old new (record { keeps = n.1; producer = n.0; logger = logger })

  -- a piece
  piece_keeps : (time : ℤ) (text : List ℕ) (old mid new : PieceLog) → LogsPieceAt time text old mid new → Stays old → Stays new
  piece_keeps time text old mid new (inl (tells, inl (posted, is))) before =
      text_keeps mid new _ time text posted.0 posted.1 (ap (λ (l : PieceLog). l.missing) is) (ap (λ (l : PieceLog). l.logger) is)
      (told_keeps time old mid tells before)
  piece_keeps time text old mid new (inl (tells, inr (inl (hidden, is)))) before =
      text_keeps mid new _ time text hidden.0 hidden.1 (ap (λ (l : PieceLog). l.missing) is) (ap (λ (l : PieceLog). l.logger) is)
      (told_keeps time old mid tells before)
  piece_keeps time text old mid new (inl (tells, inr (inr (lost, is)))) before =
      lost_keeps mid new (lost_discards time text mid new.producer lost) (ap (λ (l : PieceLog). l.logger) is)
      (told_keeps time old mid tells before)
  piece_keeps time text old mid new (inr (untold, is)) before =
      missed_keeps time old mid new untold (ap (λ (l : PieceLog). l.producer) is) (ap (λ (l : PieceLog). l.logger) is) before

  -- while nothing came
  tries_keep : (time : ℤ) (old new : PieceLog) → TriesToTell time old new → Stays old → Stays new
  tries_keep time old new (inl all) = told_keeps time old new all
  tries_keep time old new (inr none) = untold_keeps time old new none

  rests_keep : (n : ℕ) (old new : PieceLog) → Rests n old new → Stays old → Stays new
  rests_keep zero old new same before = equal_keeps old new same before
  rests_keep (suc n) old new all before = tries_keep all.2.0 all.0 new all.2.1 (rests_keep n old all.0 all.1 before)

  next_keep : (ps : List Piece) (old new : PieceLog) → InTurn LogsNext ps old new → Stays old → Stays new
  next_keep [] old new same before = equal_keeps old new same before
  next_keep (p ∷ ps) old new all before =
      let next = all.1 in
      next_keep ps all.0 new all.2
      (piece_keeps next.2.0 p.text next.0 next.2.1.mid all.0 next.2.1.logged (rests_keep next.1.0 old next.0 next.1.1 before))

  pub pieces_keep : (ps : List Piece) (old new : PieceLog) → LogsAll ps old new → IsWith spec old × P old → IsWith spec new × P new
  pieces_keep ps old new l before = rests_keep l.rests l.mid new l.rested (next_keep ps old l.mid l.pieces before)

  -- the end
  naps_keep : (n : ℕ) (time : ℤ) (old new : PieceLog) → Naps n time old new → Stays old → Stays new
  naps_keep zero time old new same before = equal_keeps old new same before
  naps_keep (suc n) time old new all before = no_room_keeps time all.0 new all.2 (naps_keep n time old all.0 all.1 before)

  ends_keep : (time : ℤ) (mid new : PieceLog) → TellsAll time mid new ⊎ LacksMemory mid new → Stays mid → Stays new
  ends_keep time mid new (inl h) = told_keeps time mid new h
  ends_keep time mid new (inr h) = equal_keeps mid new h.2

  pub finish_keeps : {time : ℤ} {old new : PieceLog} → Finishes time old new → IsWith spec old × P old → IsWith spec new × P new
  finish_keeps {time} {old} {new} f before = ends_keep time f.mid new f.last (naps_keep f.tries time old f.mid f.naps before)
