-- What was answered of a text that a pipe logged, and what its producer put in.
use Rattle.std.proofs.Common.{◌≡◌, ◌⊎◌, ℕ, ℤ, Bool, None, List, [], ◌∷◌, ◌++◌, sym, ap, ◌∙◌, append-nil, inl, inr}
use Rattle.alog_core.specs.Accounts.{claims}
use Rattle.alog_msg.specs.declared.item.Item.TheVariants.{Text}
use Rattle.alog_msg.specs.declared.level.Level.{Level}
use Rattle.alog_msg.specs.declared.level.Level.TheVariants.{Warning}
use Rattle.alog_pipe.specs.Logged.{HasNoRoom, HidesPiece, LogsText, LosesPiece, PostsPiece, TellsHole}
use Rattle.alog_policy.specs.declared.policy.Outcome.{Outcome}
use Rattle.alog_policy.specs.declared.policy.Outcome.TheVariants.{Posted, Discarded}
use Rattle.alog_pool.specs.Gaps.{gap_text}
use Rattle.alog_pool.specs.Producer.{ProducerView, IsSame}
use Rattle.alog_registry.specs.BlockPort.{BlockPort, block_note}
use Rattle.alog_registry.specs.Given.{message_with}
use Rattle.alog_registry.specs.Logging.{IsBelow}
use Rattle.alog_registry.specs.declared.logging.LogReply.TheVariants as reply
use Rattle.alog_ring.specs.Known.{PassView}
use Rattle.alog_msg.specs.declared.item.Item.{Item}
use Rattle.test_laws.proofs.Claims.{Given}
use Rattle.test_laws.proofs.PieceLogs.{PieceLog}
use Rattle.test_laws.proofs.Posts.{post_claims, put_of}

-- what a producer put in so far
abbrev pub puts_of : ProducerView → List Given
puts_of p = claims p.pass.known.own

-- a text that was posted under some ticket; one that was not put in
pub record Puts (logger : ℕ) (level : Level) (time : ℤ) (text : List ℕ) (old new : ProducerView) : Type 0 where
  pub ticket : ℕ
  pub puts : puts_of new ≡ puts_of old ++ (ticket, Text (message_with logger level time old.number text None)) ∷ []
  pub same : IsSame old new

-- one that was filtered, since it is below the level that the logger had
pub record Hides (level : Level) (old new : ProducerView) : Type 0 where
  pub own : Level
  pub below : IsBelow level own
  pub puts : puts_of new ≡ puts_of old
  pub same : IsSame old new

pub record PutsNothing (old new : ProducerView) : Type 0 where
  pub puts : puts_of new ≡ puts_of old
  pub same : IsSame old new

logged_puts : {logger : ℕ} {level : Level} {time : ℤ} {text : List ℕ} {o : Outcome (Unit {0})} {kept : Bool} {old new : ProducerView}
    → LogsText logger level time text (reply.Logged o kept) old new
    → puts_of new ≡ puts_of old ++ put_of (Text (message_with logger level time old.number text None)) o
logged_puts l = post_claims l.log.lent l.log.left l.log.kept.called.0

posted_puts : {logger : ℕ} {level : Level} {time : ℤ} {text : List ℕ} {t k : ℕ} {kept : Bool} {old new : ProducerView}
    → LogsText logger level time text (reply.Logged (Posted t k) kept) old new → Puts logger level time text old new
posted_puts {t = t} l = record { ticket = t; puts = logged_puts l; same = l.same }

filtered_puts : {logger : ℕ} {level own : Level} {time : ℤ} {text : List ℕ} {kept : Bool} {old new : ProducerView}
    → LogsText logger level time text (reply.Filtered own kept) old new → Hides level old new
filtered_puts {own = own} l =
    let still : l.log.after ≡ l.log.port = l.log.kept.called.1 in
    record {
      own = own;
      below = l.log.kept.called.0;
      puts = ap (λ (u : PassView Item block_note). claims u.known.own)
          (sym l.log.left.pass ∙ ap (λ (q : BlockPort). q.pass.now) still ∙ l.log.lent.pass);
      same = l.same;
    }

pub same_puts : (old new : ProducerView) → new ≡ old → PutsNothing old new
same_puts old new is = record {
  puts = ap (λ (p : ProducerView). puts_of p) is;
  same = record {
    shared = ap (λ (p : ProducerView). p.shared) is;
    number = ap (λ (p : ProducerView). p.number) is;
    limit = ap (λ (p : ProducerView). p.limit) is;
  };
}

pub posted_piece : (time : ℤ) (text : List ℕ) (log : PieceLog) (p : ProducerView) → PostsPiece time text log p
    → Puts log.logger log.level time text log.producer p
posted_piece time text log p (reply.Filtered own kept, logged, is) = absurd (cc is)
posted_piece time text log p (reply.Logged (Posted t k) kept, logged, is) = posted_puts logged
posted_piece time text log p (reply.Logged (Discarded v why k) kept, logged, is) = absurd (cc is)

pub hidden_piece : (time : ℤ) (text : List ℕ) (log : PieceLog) (p : ProducerView) → HidesPiece time text log p → Hides log.level log.producer p
hidden_piece time text log p (reply.Filtered own kept, logged, is) = filtered_puts logged
hidden_piece time text log p (reply.Logged (Posted t k) kept, logged, is) = absurd (cc is)
hidden_piece time text log p (reply.Logged (Discarded v why k) kept, logged, is) = absurd (cc is)

pub lost_piece : (time : ℤ) (text : List ℕ) (log : PieceLog) (p : ProducerView) → LosesPiece time text log p → PutsNothing log.producer p
lost_piece time text log p (inl (reply.Filtered own kept, logged, is)) = absurd (cc is)
lost_piece time text log p (inl (reply.Logged (Posted t k) kept, logged, is)) = absurd (cc is)
lost_piece time text log p (inl (reply.Logged (Discarded v why k) kept, logged, is)) =
    record { puts = logged_puts logged ∙ append-nil (puts_of log.producer); same = logged.same }
lost_piece time text log p (inr none) = same_puts log.producer p none.0

-- the line that says how many are missing: it was posted, or it is below the level; there was no room for it
pub told_hole : (time : ℤ) (log : PieceLog) (p : ProducerView) → TellsHole time log p
    → Puts log.logger Warning time (gap_text log.hole) log.producer p ⊎ Hides Warning log.producer p
told_hole time log p (inl (reply.Filtered own kept, logged, is)) = absurd (cc is)
told_hole time log p (inl (reply.Logged (Posted t k) kept, logged, is)) = inl (posted_puts logged)
told_hole time log p (inl (reply.Logged (Discarded v why k) kept, logged, is)) = absurd (cc is)
told_hole time log p (inr (reply.Filtered own kept, logged, is)) = inr (filtered_puts logged)
told_hole time log p (inr (reply.Logged (Posted t k) kept, logged, is)) = absurd (cc is)
told_hole time log p (inr (reply.Logged (Discarded v why k) kept, logged, is)) = absurd (cc is)

pub lost_hole : (time : ℤ) (log : PieceLog) (p : ProducerView) → HasNoRoom time log p → PutsNothing log.producer p
lost_hole time log p (reply.Filtered own kept, logged, is) = absurd (cc is)
lost_hole time log p (reply.Logged (Posted t k) kept, logged, is) = absurd (cc is)
lost_hole time log p (reply.Logged (Discarded v why k) kept, logged, is) =
    record { puts = logged_puts logged ∙ append-nil (puts_of log.producer); same = logged.same }
