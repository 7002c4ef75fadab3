-- What a pipe takes out of the queue: nothing, where the policy of its logger does not overrun the oldest.
use Rattle.std.proofs.Common.{◌≡◌, ◌≢◌, ◌⊎◌, ℕ, ℤ, List, [], ◌∷◌, ◌++◌, refl, sym, ap, subst, ◌∙◌, append_assoc, append-nil, inl, inr}
use Rattle.std.specs.List.{AllByRecursion}
use Rattle.alog_core.specs.Accounts.{got_by, takes}
use Rattle.alog_core.specs.History.{Entry}
use Rattle.alog_core.specs.Queue.{Event}
use Rattle.alog_lines.specs.Pieces.{Piece}
use Rattle.alog_msg.specs.declared.item.Item.{Item}
use Rattle.alog_msg.specs.declared.level.Level.{Level}
use Rattle.alog_pipe.specs.Logged.{LogsText}
use Rattle.alog_pipe.specs.Piped.{Finishes, LogsAll}
use Rattle.alog_policy.specs.Post.{Round, PushBeaten, Overran, PopBeaten, Waited, IsRoundUnder, events_of_round, events_of_rounds}
use Rattle.alog_policy.specs.Post.{End, Wrote, OutOfTickets, NoRoom, NothingToTake, AllGrabbed, OutOfRounds, events_of_end, IsPost}
use Rattle.alog_policy.specs.SwapPort.{AreBy, SwapMade, SwapDid}
use Rattle.alog_policy.specs.declared.policy.Outcome.{Outcome}
use Rattle.alog_policy.specs.declared.policy.Policy.{Policy}
use Rattle.alog_policy.specs.declared.policy.Policy.TheVariants.{OverrunOldest}
use Rattle.alog_pool.specs.Producer.{ProducerView, IsPortOf}
use Rattle.alog_registry.specs.BlockPort.{BlockPort, block_note}
use Rattle.alog_registry.specs.ItemOutlet.{PostsItem}
use Rattle.alog_registry.specs.declared.logger.Spec.{Spec}
use Rattle.alog_registry.specs.declared.logging.LogReply.{LogReply}
use Rattle.alog_registry.specs.declared.logging.LogReply.TheVariants as reply
use Rattle.alog_ring.specs.Known.{PassView}
use Rattle.test_laws.proofs.Claims.{Given}
use Rattle.test_laws.proofs.PieceLogs.{PieceLog}
use Rattle.test_laws.proofs.Throughout.{IsWith, LogsOne, finish_keeps, pieces_keep}

abbrev Deed : Type 0
Deed = Entry Item block_note

abbrev Pass : Type 0
Pass = PassView Item block_note

-- what events take out
abbrev got_in : List (Event Item) → List Given
got_in [] = []
got_in (e ∷ es) = got_by e ++ got_in es

takes_by : (a : ℕ) (es : List (Event Item)) (xs : List Deed) → AreBy a es xs → takes xs ≡ got_in es
takes_by a [] [] by = refl
takes_by a [] (x ∷ xs) by = absurd by
takes_by a (e ∷ es) [] by = absurd by
takes_by a (e ∷ es) (x ∷ xs) by = λ i. got_by (by.1 i) ++ takes_by a es xs by.2 i

takes_more : (h g : List Deed) → takes (h ++ g) ≡ takes h ++ takes g
takes_more [] g = refl
takes_more (x ∷ h) g =
    ap (λ (ps : List Given). got_by x.event ++ ps) (takes_more h g) ∙ sym (append_assoc (got_by x.event) (takes h) (takes g))

-- what a pass took out that made these events, or none
pass_takes : (a b : Pass) (es : List (Event Item)) → ((es ≡ []) × (b ≡ a)) ⊎ SwapMade a es b
    → takes b.known.own ≡ takes a.known.own ++ got_in es
pass_takes a b es (inl same) =
    ap (λ (u : Pass). takes u.known.own) same.1 ∙ sym (append-nil (takes a.known.own))
    ∙ ap (λ (fs : List (Event Item)). takes a.known.own ++ got_in fs) (sym same.0)
pass_takes a b es (inr did) =
    ap (λ (h : List Deed). takes h) did.made.own ∙ takes_more a.known.own did.entries
    ∙ ap (λ (ps : List Given). takes a.known.own ++ ps) (takes_by a.known.actor es did.entries did.by)

module _ {q : Policy} (never : q ≢ OverrunOldest) where
  round_gets : (r : Round Item) (es : List (Event Item)) → IsRoundUnder q r → got_in (events_of_round r ++ es) ≡ got_in es
  round_gets (PushBeaten t) es under = refl
  round_gets (Overran f t y) es under = absurd (never under)
  round_gets (PopBeaten f t) es under = refl
  round_gets (Waited f) es under = refl

  rounds_get : (rs : List (Round Item)) (es : List (Event Item)) → AllByRecursion (IsRoundUnder q) rs
      → got_in (events_of_rounds rs ++ es) ≡ got_in es
  rounds_get [] es under = refl
  rounds_get (r ∷ rs) es under =
      ap (λ (fs : List (Event Item)). got_in fs) (append_assoc (events_of_round r) (events_of_rounds rs) es)
      ∙ round_gets r (events_of_rounds rs ++ es) under.0 ∙ rounds_get rs es under.1

  end_gets : (x : Item) (e : End) → got_in (events_of_end x e) ≡ []
  end_gets x (Wrote t) = refl
  end_gets x OutOfTickets = refl
  end_gets x (NoRoom f) = refl
  end_gets x (NothingToTake f t) = refl
  end_gets x (AllGrabbed f t) = refl
  end_gets x OutOfRounds = refl

  post_gets : {x : Item} {v : Unit {0}} {es : List (Event Item)} {o : Outcome (Unit {0})} → IsPost q x v es o → got_in es ≡ []
  post_gets {x} post =
      ap (λ (fs : List (Event Item)). got_in fs) post.events_are ∙ rounds_get post.rounds (events_of_end x post.end) post.go_on
      ∙ end_gets x post.end

  -- a post on a port that a producer lends takes nothing out
  post_takes : {x : Item} {o : Outcome (Unit {0})} {old new : ProducerView} {a b : BlockPort} → IsPortOf old a → IsPortOf new b
      → PostsItem SwapDid q x a b o → takes new.pass.known.own ≡ takes old.pass.known.own
  post_takes {x} {o} {old} {new} {a} {b} lent left posts =
      ap (λ (u : Pass). takes u.known.own) (sym left.pass) ∙ pass_takes a.pass.now b.pass.now posts.events posts.done.pass
      ∙ ap (λ (ps : List Given). takes a.pass.now.known.own ++ ps) (post_gets posts.post) ∙ append-nil (takes a.pass.now.known.own)
      ∙ ap (λ (u : Pass). takes u.known.own) lent.pass

-- what the producer took out so far
abbrev pub takes_by_now : PieceLog → List Given
takes_by_now log = takes log.producer.pass.known.own

-- a text
text_takes : (logger : ℕ) (level : Level) (time : ℤ) (text : List ℕ) (answer : LogReply) (old new : ProducerView)
    → (l : LogsText logger level time text answer old new) → l.spec.policy ≢ OverrunOldest → takes new.pass.known.own ≡ takes old.pass.known.own
text_takes logger level time text (reply.Filtered own kept) old new l other =
    let still : l.log.after ≡ l.log.port = l.log.kept.called.1 in
    ap (λ (u : Pass). takes u.known.own) (sym l.log.left.pass ∙ ap (λ (q : BlockPort). q.pass.now) still ∙ l.log.lent.pass)
text_takes logger level time text (reply.Logged outcome kept) old new l other = post_takes other l.log.lent l.log.left l.log.kept.called.0

module _ (spec : Spec) (never : spec.policy ≢ OverrunOldest) (so_far : List Given) where
  -- that and no more was taken out
  abbrev pub Took : PieceLog → Type 0
  Took log = takes_by_now log ≡ so_far

  one_took : (old new : PieceLog) (l : LogsOne old new) → l.logged.spec ≡ spec → Took old → Took new
  one_took old new l here took =
      text_takes old.logger l.level l.time l.text l.answer old.producer new.producer l.logged
      (subst (λ (s : Spec). s.policy ≢ OverrunOldest) (sym here) never) ∙ took

  none_took : (old new : PieceLog) → spec.backtrace ≢ 0 → new.producer ≡ old.producer → Took old → Took new
  none_took old new some producer took = ap (λ (p : ProducerView). takes p.pass.known.own) producer ∙ took

  pub pieces_spare : (ps : List Piece) (old new : PieceLog) → LogsAll ps old new → IsWith spec old × Took old → IsWith spec new × Took new
  pieces_spare ps old new l before = pieces_keep spec Took one_took none_took ps old new l before

  pub finish_spares : {time : ℤ} {old new : PieceLog} → Finishes time old new → IsWith spec old × Took old → IsWith spec new × Took new
  finish_spares f before = finish_keeps spec Took one_took none_took f before
