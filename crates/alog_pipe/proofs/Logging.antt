-- What becomes of one piece, and of the line that says that some are missing.
use Rattle.std.proofs.Common.{◌≡◌, ◌⊎◌, ◌≤◌, ℕ, ℤ, List, length, None, refl, sym, ap, subst, ◌∙◌, arith, inl, inr}
use Rattle.alog_msg.specs.declared.message.MessageError.{MessageError}
use Rattle.alog_msg.specs.declared.message.MessageError.TheVariants as message
use Rattle.alog_pipe.specs.Logged.{HidesPiece, IsReady, LogsFound, LogsPiece, LogsPieceAt, LogsText, LosesPiece, PostsPiece, Tells}
use Rattle.alog_pipe.specs.Logged.{below_by, by, fate_of, missed_by}
use Rattle.alog_pipe.specs.Piped.{TriesToTell}
use Rattle.alog_pipe.specs.declared.piece_log.Fate.{Fate}
use Rattle.alog_pipe.specs.declared.piece_log.Fate.TheVariants as fate
use Rattle.alog_pipe.specs.declared.piece_log.PieceLog.{PieceLog}
use Rattle.alog_pipe.specs.declared.piece_log.Told.{Told}
use Rattle.alog_pipe.specs.declared.piece_log.Told.TheVariants as told
use Rattle.alog_pool.specs.Producer.{ProducerView, IsSame}
use Rattle.alog_pool.specs.declared.shared.Shared.{Shared}
use Rattle.alog_registry.specs.Given.{IsReason}
use Rattle.alog_registry.specs.declared.logging.LogReply.{LogReply}

-- a text that is short enough, and has no source, is refused for want of memory alone
pub wants_memory : (limit : ℕ) (text : List ℕ) (e : MessageError) → length text ≤ limit → IsReason limit text None e → e ≡ message.OutOfMemory
wants_memory limit text message.TextTooLong short is = absurd (omega (arith, short, is))
wants_memory limit text message.FieldTooLong short is = absurd is.1
wants_memory limit text message.OutOfMemory short is = refl

pub same_on : {a b c : ProducerView} → IsSame a b → IsSame b c → IsSame a c
same_on s t = record { shared = t.shared ∙ s.shared; number = t.number ∙ s.number; limit = t.limit ∙ s.limit }

pub same_as : (a : ProducerView) → IsSame a a
same_as a = record { shared = refl; number = refl; limit = refl }

-- it stays ready
pub ready_on : {limit : ℕ} (old new : PieceLog) → IsReady limit old → new.logger ≡ old.logger → IsSame old.producer new.producer → IsReady limit new
ready_on {limit} old new h logger same =
    let loggers : length new.producer.shared.loggers ≡ length old.producer.shared.loggers =
    ap (λ (s : Shared). length s.loggers) same.shared in
    let most = same.limit in
    ((omega (arith, h.0.0, logger, loggers), omega (arith, h.0.1, most)), omega (arith, h.1, most))

-- a piece that was answered
pub found_of : (time : ℤ) (text : List ℕ) (log : PieceLog) (p : ProducerView) (answer : LogReply) (f : Fate) → f ≡ fate_of answer
    → LogsText log.logger log.level time text answer log.producer p → LogsFound time text f log (by p log)
found_of time text log p answer fate.Posted is t = ((answer, t, sym is), refl)
found_of time text log p answer fate.Below is t = ((answer, t, sym is), refl)
found_of time text log p answer fate.Missing is t = (inl (answer, t, sym is), refl)

module _ {time : ℤ} {text : List ℕ} {old mid found : PieceLog} (tells : Tells time told.All old mid) (before : IsSame old.producer mid.producer)
    (after : IsSame mid.producer found.producer) where
  pub posted_piece : LogsFound time text fate.Posted mid found → LogsPiece time text old found
  posted_piece h = record { mid = mid; logged = inl (tells, inl h); same = same_on before after }

  pub hidden_piece : {new : PieceLog} → LogsFound time text fate.Below mid found → new ≡ below_by found.producer found → LogsPiece time text old new
  hidden_piece h is =
      subst (LogsPiece time text old) (sym (is ∙ ap (below_by found.producer) h.1))
      (record { mid = mid; logged = inl (tells, inr (inl (h.0, refl))); same = same_on before after })

  pub lost_piece : {new : PieceLog} → LogsFound time text fate.Missing mid found → new ≡ missed_by found.producer found → LogsPiece time text old new
  lost_piece h is =
      subst (LogsPiece time text old) (sym (is ∙ ap (missed_by found.producer) h.1))
      (record { mid = mid; logged = inl (tells, inr (inr (h.0, refl))); same = same_on before after })

-- the same logger
pub told_logger : {time : ℤ} {old mid : PieceLog} → Tells time told.All old mid → mid.logger ≡ old.logger
told_logger (inl h) = ap (λ (l : PieceLog). l.logger) h.1
told_logger (inr h) = ap (λ (l : PieceLog). l.logger) h.2

found_logger : {time : ℤ} {text : List ℕ} {mid new : PieceLog}
    → ((PostsPiece time text mid new.producer × (new ≡ by new.producer mid)) ⊎ (HidesPiece time text mid new.producer × (new ≡ below_by new.producer mid))
    ⊎ (LosesPiece time text mid new.producer × (new ≡ missed_by new.producer mid))) → new.logger ≡ mid.logger
found_logger (inl h) = ap (λ (l : PieceLog). l.logger) h.1
found_logger (inr (inl h)) = ap (λ (l : PieceLog). l.logger) h.1
found_logger (inr (inr h)) = ap (λ (l : PieceLog). l.logger) h.1

untold_logger : {time : ℤ} {old mid : PieceLog} → (Tells time told.NoRoom old mid ⊎ Tells time told.NoMemory old mid) → mid.logger ≡ old.logger
untold_logger (inl h) = ap (λ (l : PieceLog). l.logger) h.2
untold_logger (inr h) = ap (λ (l : PieceLog). l.logger) h.2

-- whatever was answered, it was tried to tell
pub tried : (told : Told) {time : ℤ} {old new : PieceLog} → Tells time told old new → TriesToTell time old new
tried told.All tells = inl tells
tried told.NoRoom tells = inr (inl tells)
tried told.NoMemory tells = inr (inr tells)

pub tries_logger : {time : ℤ} {old new : PieceLog} → TriesToTell time old new → new.logger ≡ old.logger
tries_logger (inl h) = told_logger h
tries_logger (inr h) = untold_logger h

pub piece_logger : {time : ℤ} {text : List ℕ} {old mid new : PieceLog} → LogsPieceAt time text old mid new → new.logger ≡ old.logger
piece_logger (inl h) = found_logger h.1 ∙ told_logger h.0
piece_logger (inr h) = ap (λ (l : PieceLog). l.logger) h.1 ∙ untold_logger h.0
