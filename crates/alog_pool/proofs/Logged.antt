-- What a log that was posted added to its producer's own entries.
use Rattle.std.proofs.Common.{◌≡◌, ◌≢◌, ◌⊎◌, ℕ, List, [], ◌∷◌, ◌++◌, refl, sym, ap, subst, ◌∙◌, append_assoc, append-nil, inl, inr}
use Rattle.std.specs.List.{AllByRecursion}
use Rattle.alog_core.specs.Accounts.{claims, takes}
use Rattle.alog_core.specs.History.{Entry}
use Rattle.alog_core.specs.Queue.{Event}
use Rattle.alog_msg.specs.declared.item.Item.{Item}
use Rattle.alog_msg.specs.declared.item.Item.TheVariants.{Text}
use Rattle.alog_msg.specs.declared.message.Message.{Message}
use Rattle.alog_policy.specs.SwapPort.{AreBy, SwapMade, SwapDid}
use Rattle.alog_policy.specs.Post.{Round, PushBeaten, Overran, PopBeaten, Waited, events_of_round, events_of_rounds, IsRoundUnder}
use Rattle.alog_policy.specs.Post.{End, Wrote, OutOfTickets, NoRoom, NothingToTake, AllGrabbed, OutOfRounds, events_of_end, outcome_of, IsPost, takes_in}
use Rattle.alog_policy.specs.Rounds.{entries_by}
use Rattle.alog_policy.specs.declared.policy.Outcome.{Outcome}
use Rattle.alog_policy.specs.declared.policy.Outcome.TheVariants.{Posted}
use Rattle.alog_policy.specs.declared.policy.Policy.{Policy}
use Rattle.alog_policy.specs.declared.policy.Policy.TheVariants.{OverrunOldest}
use Rattle.alog_pool.specs.Posted.{PostedLogsPutTheirTextIn, PutsTextIn}
use Rattle.alog_pool.specs.Producer.{ProducerView, IsPortOf}
use Rattle.alog_pool.proofs.SharedMoves.{claims-append, takes-append}
use Rattle.alog_pool.proofs.SharedPosting.{rounds_claim, claims_by, takes_by}
use Rattle.alog_registry.specs.ItemOutlet.{PostsItem}
use Rattle.alog_registry.specs.BlockPort.{BlockPort, block_note}
use Rattle.alog_ring.specs.Known.{PassView}

abbrev Deed : Type 0
Deed = Entry Item block_note

abbrev Told : Type 0
Told = Outcome (Unit {0})

module _ (p : Policy) (a : ℕ) (x : Item) (never : p ≢ OverrunOldest) where
  round_takes : (r : Round Item) (es : List (Event Item)) → IsRoundUnder p r
      → takes (entries_by a (events_of_round r ++ es)) ≡ takes (entries_by a es)
  round_takes (PushBeaten t) es under = refl
  round_takes (Overran f t y) es under = absurd (never under)
  round_takes (PopBeaten f t) es under = refl
  round_takes (Waited f) es under = refl

  rounds_take : (rs : List (Round Item)) (es : List (Event Item)) → AllByRecursion (IsRoundUnder p) rs
      → takes (entries_by a (events_of_rounds rs ++ es)) ≡ takes (entries_by a es)
  rounds_take [] es under = refl
  rounds_take (r ∷ rs) es under =
      ap (λ (fs : List (Event Item)). takes (entries_by a fs)) (append_assoc (events_of_round r) (events_of_rounds rs) es)
      ∙ round_takes r (events_of_rounds rs ++ es) under.0 ∙ rounds_take rs es under.1

  end_takes : (e : End) → takes (entries_by a (events_of_end x e)) ≡ []
  end_takes (Wrote t) = refl
  end_takes OutOfTickets = refl
  end_takes (NoRoom f) = refl
  end_takes (NothingToTake f t) = refl
  end_takes (AllGrabbed f t) = refl
  end_takes OutOfRounds = refl

  post_took : (es : List (Event Item)) (v : Unit {0}) (o : Told) → IsPost p x v es o → takes (entries_by a es) ≡ []
  post_took es v o post =
      ap (λ (fs : List (Event Item)). takes (entries_by a fs)) post.events_are
      ∙ rounds_take post.rounds (events_of_end x post.end) post.go_on ∙ end_takes post.end

abbrev posted_at : ℕ → ℕ → Told
posted_at t k = Posted t k

-- a post that was posted ends with the claim of its ticket
end_puts : (a t k j : ℕ) (x : Item) (v : Unit {0}) (e : End) → posted_at t k ≡ outcome_of v j e → claims (entries_by a (events_of_end x e)) ≡ (t, x) ∷ []
end_puts a t k j x v (Wrote u) same = let is : u ≡ t = cc same in ap (λ v. let p : ℕ × Item = (v, x) in p ∷ []) is
end_puts a t k j x v OutOfTickets same = absurd (cc same)
end_puts a t k j x v (NoRoom f) same = absurd (cc same)
end_puts a t k j x v (NothingToTake f u) same = absurd (cc same)
end_puts a t k j x v (AllGrabbed f u) same = absurd (cc same)
end_puts a t k j x v OutOfRounds same = absurd (cc same)

post_put : (p : Policy) (a t k : ℕ) (x : Item) (v : Unit {0}) (es : List (Event Item)) → IsPost p x v es (Posted t k)
    → claims (entries_by a es) ≡ (t, x) ∷ []
post_put p a t k x v es post =
    ap (λ (fs : List (Event Item)). claims (entries_by a fs)) post.events_are
    ∙ rounds_claim a post.rounds (events_of_end x post.end) ∙ end_puts a t k (takes_in es) x v post.end post.outcome_is

-- what a pass made that made these events, or none
own_now : (u v : PassView Item block_note) (es : List (Event Item)) → ((es ≡ []) × (v ≡ u)) ⊎ SwapMade u es v
    → (made : List Deed) × AreBy u.known.actor es made × (v.known.own ≡ u.known.own ++ made)
own_now u v es (inl same) =
    let none : List Deed = [] in (
      none,
      subst (λ (fs : List (Event Item)). AreBy u.known.actor fs none) (sym same.0) tt,
      ap (λ (w : PassView Item block_note). w.known.own) same.1 ∙ sym (append-nil u.known.own),
    )
own_now u v es (inr did) = (did.entries, did.by, did.made.own)

posted_text : {p : Policy} {m : Message} {t k : ℕ} {u v : PassView Item block_note} {w : Unit {0}} {es : List (Event Item)}
    → IsPost p (Text m) w es (Posted t k) → ((es ≡ []) × (v ≡ u)) ⊎ SwapMade u es v
    → (claims v.known.own ≡ claims u.known.own ++ (t, Text m) ∷ []) × (p ≢ OverrunOldest → takes v.known.own ≡ takes u.known.own)
posted_text {p} {m} {t} {k} {u} {v} {w} {es} post did =
    let all = own_now u v es did in
    let made : List Deed = all.0 in
    let a : ℕ = u.known.actor in (
      ap (λ (h : List Deed). claims h) all.2 ∙ claims-append u.known.own made
          ∙ ap (λ (ps : List (ℕ × Item)). claims u.known.own ++ ps)
          (claims_by a es made all.1 ∙ post_put p a t k (Text m) w es post),
      λ never. ap (λ (h : List Deed). takes h) all.2 ∙ takes-append u.known.own made
          ∙ ap (λ (ps : List (ℕ × Item)). takes u.known.own ++ ps)
          (takes_by a es made all.1 ∙ post_took p a (Text m) never es w (Posted t k) post)
          ∙ append-nil (takes u.known.own),
    )

of_posts : {old new : ProducerView} {p : Policy} {m : Message} {t k : ℕ} {a b : BlockPort} → IsPortOf old a → IsPortOf new b
    → PostsItem SwapDid p (Text m) a b (Posted t k) → PutsTextIn p old t m new
of_posts {old} {p} {m} {t} {k} {a} {b} lent left posts =
    let did = posted_text posts.post posts.done.pass in
    subst (λ (w : PassView Item block_note). (claims w.known.own ≡ claims old.pass.known.own ++ (t, Text m) ∷ [])
    × (p ≢ OverrunOldest → takes w.known.own ≡ takes old.pass.known.own)) left.pass
    (subst (λ (w : PassView Item block_note). (claims b.pass.now.known.own ≡ claims w.known.own ++ (t, Text m) ∷ [])
    × (p ≢ OverrunOldest → takes b.pass.now.known.own ≡ takes w.known.own)) lent.pass did)

pub posted_logs_put_their_text_in : PostedLogsPutTheirTextIn
posted_logs_put_their_text_in old new number p s m t k kept (inl is) =
    of_posts is.lent is.left is.kept.called.0
posted_logs_put_their_text_in old new number p s m t k kept (inr is) =
    of_posts is.lent is.left is.kept.called.0
