-- Where a pipe waits for room and keeps no copies, and a piece is missing, its producer saw that no ticket is left.
use Rattle.std.proofs.Common.{◌≡◌, ◌≢◌, ◌⊎◌, ℕ, ℤ, List, [], ◌∷◌, ◌++◌, refl, sym, ap, subst, ◌∙◌, inl, inr}
use Rattle.alog_core.specs.History.{Entry}
use Rattle.alog_core.specs.Queue as queue
use Rattle.alog_core.specs.Queue.{Event}
use Rattle.alog_lines.specs.Pieces.{Piece}
use Rattle.alog_msg.specs.declared.item.Item.{Item}
use Rattle.alog_msg.specs.declared.level.Level.{Level}
use Rattle.alog_pipe.specs.Logged.{LogsText}
use Rattle.alog_pipe.specs.Piped.{Finishes, LogsAll}
use Rattle.alog_policy.specs.Outlet.{IsPostedOrSpent}
use Rattle.alog_policy.specs.Post.{End, Wrote, OutOfTickets, NoRoom, NothingToTake, AllGrabbed, OutOfRounds}
use Rattle.alog_policy.specs.Post.{events_of_end, events_of_rounds, outcome_of, takes_in, IsPost}
use Rattle.alog_policy.specs.SwapPort.{AreBy, SwapMade}
use Rattle.alog_policy.specs.declared.policy.Outcome.{Outcome}
use Rattle.alog_policy.specs.declared.policy.Outcome.TheVariants.{Posted, Discarded}
use Rattle.alog_policy.specs.declared.policy.Policy.{Policy}
use Rattle.alog_policy.specs.declared.policy.Policy.TheVariants.{Block}
use Rattle.alog_pool.specs.Producer.{ProducerView}
use Rattle.alog_pool.specs.Stops.{SawSpent}
use Rattle.alog_registry.specs.BlockPort.{BlockPort, block_note}
use Rattle.alog_registry.specs.Logging.{IsLoggedOrSpent}
use Rattle.alog_registry.specs.declared.logger.Spec.{Spec}
use Rattle.alog_registry.specs.declared.logging.LogReply.{LogReply}
use Rattle.alog_registry.specs.declared.logging.LogReply.TheVariants as reply
use Rattle.alog_ring.specs.Known.{PassView}
use Rattle.test_laws.proofs.PieceLogs.{PieceLog}
use Rattle.test_laws.proofs.Throughout.{IsDiscarded, IsWith, LogsOne, finish_keeps, pieces_keep}

abbrev Deed : Type 0
Deed = Entry Item block_note

abbrev Pass : Type 0
Pass = PassView Item block_note

abbrev Told : Type 0
Told = Outcome (Unit {0})

-- among entries one behind the other
saw_first : (h g : List Deed) → SawSpent h → SawSpent (h ++ g)
saw_first [] g saw = absurd saw
saw_first (x ∷ h) g (inl is) = inl is
saw_first (x ∷ h) g (inr later) = inr (saw_first h g later)

saw_behind : (h g : List Deed) → SawSpent g → SawSpent (h ++ g)
saw_behind [] g saw = saw
saw_behind (x ∷ h) g saw = inr (saw_behind h g saw)

-- among events is the answer that no ticket is left
abbrev SpentIn : List (Event Item) → Type 0
SpentIn [] = ⊥
SpentIn (e ∷ es) = (e ≡ queue.Spent) ⊎ SpentIn es

spent_behind : (ds es : List (Event Item)) → SpentIn es → SpentIn (ds ++ es)
spent_behind [] es spent = spent
spent_behind (d ∷ ds) es spent = inr (spent_behind ds es spent)

saw_by : (a : ℕ) (es : List (Event Item)) (xs : List Deed) → AreBy a es xs → SpentIn es → SawSpent xs
saw_by a [] xs by spent = absurd spent
saw_by a (e ∷ es) [] by spent = absurd by
saw_by a (e ∷ es) (x ∷ xs) by (inl is) = inl (by.1 ∙ is)
saw_by a (e ∷ es) (x ∷ xs) by (inr later) = inr (saw_by a es xs by.2 later)

-- a post was discarded, and since it waits no ticket was left
abbrev IsOut : Told → Type 0
IsOut (Posted t k) = ⊥
IsOut (Discarded v why k) = IsPostedOrSpent (Discarded v why k)

end_spent : (x : Item) (v : Unit {0}) (k : ℕ) (e : End) → IsOut (outcome_of v k e) → SpentIn (events_of_end x e)
end_spent x v k (Wrote t) out = absurd out
end_spent x v k OutOfTickets out = inl refl
end_spent x v k (NoRoom f) out = absurd (cc out)
end_spent x v k (NothingToTake f t) out = absurd (cc out)
end_spent x v k (AllGrabbed f t) out = absurd (cc out)
end_spent x v k OutOfRounds out = absurd (cc out)

post_spent : {q : Policy} {x : Item} {v : Unit {0}} {es : List (Event Item)} {o : Told} → IsPost q x v es o → IsOut o → SpentIn es
post_spent {q} {x} {v} {es} {o} post out =
    subst (λ (fs : List (Event Item)). SpentIn fs) (sym post.events_are)
    (spent_behind (events_of_rounds post.rounds) (events_of_end x post.end)
    (end_spent x v (takes_in es) post.end (subst (λ (u : Told). IsOut u) post.outcome_is out)))

-- what a pass saw before it made these events, and what it saw by them
pass_still : (a b : Pass) (es : List (Event Item)) → ((es ≡ []) × (b ≡ a)) ⊎ SwapMade a es b → SawSpent a.known.own → SawSpent b.known.own
pass_still a b es (inl same) saw = subst (λ (u : Pass). SawSpent u.known.own) (sym same.1) saw
pass_still a b es (inr did) saw =
    subst (λ (h : List Deed). SawSpent h) (sym did.made.own) (saw_first a.known.own did.entries saw)

pass_saw : (a b : Pass) (es : List (Event Item)) → ((es ≡ []) × (b ≡ a)) ⊎ SwapMade a es b → SpentIn es → SawSpent b.known.own
pass_saw a b es (inl same) spent = absurd (subst (λ (fs : List (Event Item)). SpentIn fs) same.0 spent)
pass_saw a b es (inr did) spent =
    subst (λ (h : List Deed). SawSpent h) (sym did.made.own)
    (saw_behind a.known.own did.entries (saw_by a.known.actor es did.entries did.by spent))

-- the same of a producer that logged a text
abbrev pub HasSeen : ProducerView → Type 0
HasSeen p = SawSpent p.pass.known.own

text_still : (logger : ℕ) (level : Level) (time : ℤ) (text : List ℕ) (answer : LogReply) (old new : ProducerView)
    → LogsText logger level time text answer old new → HasSeen old → HasSeen new
text_still logger level time text (reply.Filtered own kept) old new l saw =
    let still : l.log.after ≡ l.log.port = l.log.kept.called.1 in
    let same : new.pass ≡ old.pass = sym l.log.left.pass ∙ ap (λ (q : BlockPort). q.pass.now) still ∙ l.log.lent.pass in
    subst (λ (u : Pass). SawSpent u.known.own) (sym same) saw
text_still logger level time text (reply.Logged outcome kept) old new l saw =
    let posts = l.log.kept.called.0 in
    subst (λ (u : Pass). SawSpent u.known.own) l.log.left.pass
    (pass_still l.log.port.pass.now l.log.after.pass.now posts.events posts.done.pass
    (subst (λ (u : Pass). SawSpent u.known.own) (sym l.log.lent.pass) saw))

text_saw : (logger : ℕ) (level : Level) (time : ℤ) (text : List ℕ) (answer : LogReply) (old new : ProducerView)
    → LogsText logger level time text answer old new → IsLoggedOrSpent answer → IsDiscarded answer → HasSeen new
text_saw logger level time text (reply.Filtered own kept) old new l waits lost = absurd lost
text_saw logger level time text (reply.Logged (Posted t k) kept) old new l waits lost = absurd lost
text_saw logger level time text (reply.Logged (Discarded v why k) kept) old new l waits lost =
    let posts = l.log.kept.called.0 in
    subst (λ (u : Pass). SawSpent u.known.own) l.log.left.pass
    (pass_saw l.log.port.pass.now l.log.after.pass.now posts.events posts.done.pass (post_spent posts.post waits))

module _ (spec : Spec) (waits : spec.policy ≡ Block) (none : spec.backtrace ≡ 0) where
  -- none is missing, or the producer saw that no ticket is left
  abbrev pub LosesWhenSpent : PieceLog → Type 0
  LosesWhenSpent log = (log.missing ≡ 0) ⊎ HasSeen log.producer

  still_seen : (old new : PieceLog) (l : LogsOne old new) → new.missing ≡ old.missing → LosesWhenSpent old → LosesWhenSpent new
  still_seen old new l same (inl is) = inl (same ∙ is)
  still_seen old new l same (inr saw) =
      inr (text_still old.logger l.level l.time l.text l.answer old.producer new.producer l.logged saw)

  one_seen : (old new : PieceLog) (l : LogsOne old new) → l.logged.spec ≡ spec → LosesWhenSpent old → LosesWhenSpent new
  one_seen old new l here before =
      elim l.missing [
        | inl same ↦ still_seen old new l same before
        | inr lost ↦
            inr (text_saw old.logger l.level l.time l.text l.answer old.producer new.producer l.logged
            (l.logged.waits (ap (λ (s : Spec). s.policy) here ∙ waits)) lost)
      ]

  none_seen : (old new : PieceLog) → spec.backtrace ≢ 0 → new.producer ≡ old.producer → LosesWhenSpent old → LosesWhenSpent new
  none_seen old new some producer before = absurd (some none)

  pub pieces_seen : (ps : List Piece) (old new : PieceLog) → LogsAll ps old new → IsWith spec old × LosesWhenSpent old
      → IsWith spec new × LosesWhenSpent new
  pieces_seen ps old new l before = pieces_keep spec LosesWhenSpent one_seen none_seen ps old new l before

  pub finish_seen : {time : ℤ} {old new : PieceLog} → Finishes time old new → IsWith spec old × LosesWhenSpent old
      → IsWith spec new × LosesWhenSpent new
  finish_seen f before = finish_keeps spec LosesWhenSpent one_seen none_seen f before
