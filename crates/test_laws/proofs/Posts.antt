-- What a post puts in, whatever its policy.
use Rattle.std.proofs.Common.{◌≡◌, ◌⊎◌, ℕ, List, [], ◌∷◌, ◌++◌, refl, sym, ap, ◌∙◌, append_assoc, append-nil, inl, inr}
use Rattle.alog_core.specs.Accounts.{put_by, claims}
use Rattle.alog_core.specs.History.{Entry}
use Rattle.alog_core.specs.Queue.{Event}
use Rattle.alog_msg.specs.declared.item.Item.{Item}
use Rattle.alog_policy.specs.Post.{Round, PushBeaten, Overran, PopBeaten, Waited, events_of_round, events_of_rounds}
use Rattle.alog_policy.specs.Post.{End, Wrote, OutOfTickets, NoRoom, NothingToTake, AllGrabbed, OutOfRounds, events_of_end, outcome_of, takes_in, IsPost}
use Rattle.alog_policy.specs.SwapPort.{AreBy, SwapMade, SwapDid}
use Rattle.alog_policy.specs.declared.policy.Outcome.{Outcome}
use Rattle.alog_policy.specs.declared.policy.Outcome.TheVariants.{Posted, Discarded}
use Rattle.alog_policy.specs.declared.policy.Policy.{Policy}
use Rattle.alog_pool.specs.Producer.{ProducerView, IsPortOf}
use Rattle.alog_registry.specs.BlockPort.{BlockPort, block_note}
use Rattle.alog_registry.specs.ItemOutlet.{PostsItem}
use Rattle.alog_ring.specs.Known.{PassView}
use Rattle.test_laws.proofs.Claims.{Given}

abbrev Deed : Type 0
Deed = Entry Item block_note

abbrev Told : Type 0
Told = Outcome (Unit {0})

abbrev Pass : Type 0
Pass = PassView Item block_note

-- what a post of this item put in that ended so
abbrev pub put_of : Item → Told → List Given
put_of x (Posted t k) = (t, x) ∷ []
put_of x (Discarded v why k) = []

-- what events put in
abbrev puts_in : List (Event Item) → List Given
puts_in [] = []
puts_in (e ∷ es) = put_by e ++ puts_in es

claims_by : (a : ℕ) (es : List (Event Item)) (xs : List Deed) → AreBy a es xs → claims xs ≡ puts_in es
claims_by a [] [] by = refl
claims_by a [] (x ∷ xs) by = absurd by
claims_by a (e ∷ es) [] by = absurd by
claims_by a (e ∷ es) (x ∷ xs) by = λ i. put_by (by.1 i) ++ claims_by a es xs by.2 i

round_puts : (r : Round Item) (es : List (Event Item)) → puts_in (events_of_round r ++ es) ≡ puts_in es
round_puts (PushBeaten t) es = refl
round_puts (Overran f t y) es = refl
round_puts (PopBeaten f t) es = refl
round_puts (Waited f) es = refl

rounds_put : (rs : List (Round Item)) (es : List (Event Item)) → puts_in (events_of_rounds rs ++ es) ≡ puts_in es
rounds_put [] es = refl
rounds_put (r ∷ rs) es =
    ap (λ (fs : List (Event Item)). puts_in fs) (append_assoc (events_of_round r) (events_of_rounds rs) es)
    ∙ round_puts r (events_of_rounds rs ++ es) ∙ rounds_put rs es

end_puts : (x : Item) (v : Unit {0}) (k : ℕ) (e : End) → puts_in (events_of_end x e) ≡ put_of x (outcome_of v k e)
end_puts x v k (Wrote t) = refl
end_puts x v k OutOfTickets = refl
end_puts x v k (NoRoom f) = refl
end_puts x v k (NothingToTake f t) = refl
end_puts x v k (AllGrabbed f t) = refl
end_puts x v k OutOfRounds = refl

post_puts : {p : Policy} {x : Item} {v : Unit {0}} {es : List (Event Item)} {o : Told} → IsPost p x v es o → puts_in es ≡ put_of x o
post_puts {p} {x} {v} {es} {o} post =
    ap (λ (fs : List (Event Item)). puts_in fs) post.events_are ∙ rounds_put post.rounds (events_of_end x post.end)
    ∙ end_puts x v (takes_in es) post.end ∙ ap (λ (u : Told). put_of x u) (sym post.outcome_is)

claims_more : (h g : List Deed) → claims (h ++ g) ≡ claims h ++ claims g
claims_more [] g = refl
claims_more (x ∷ h) g =
    ap (λ (ps : List Given). put_by x.event ++ ps) (claims_more h g) ∙ sym (append_assoc (put_by x.event) (claims h) (claims g))

-- what a pass put in that made these events, or none
pass_puts : (a b : Pass) (es : List (Event Item)) → ((es ≡ []) × (b ≡ a)) ⊎ SwapMade a es b
    → claims b.known.own ≡ claims a.known.own ++ puts_in es
pass_puts a b es (inl same) =
    ap (λ (u : Pass). claims u.known.own) same.1 ∙ sym (append-nil (claims a.known.own))
    ∙ ap (λ (fs : List (Event Item)). claims a.known.own ++ puts_in fs) (sym same.0)
pass_puts a b es (inr did) =
    ap (λ (h : List Deed). claims h) did.made.own ∙ claims_more a.known.own did.entries
    ∙ ap (λ (ps : List Given). claims a.known.own ++ ps) (claims_by a.known.actor es did.entries did.by)

-- a post on a port that a producer lends
pub post_claims : {p : Policy} {x : Item} {o : Told} {old new : ProducerView} {a b : BlockPort} → IsPortOf old a → IsPortOf new b
    → PostsItem SwapDid p x a b o → claims new.pass.known.own ≡ claims old.pass.known.own ++ put_of x o
post_claims {p} {x} {o} {old} {new} {a} {b} lent left posts =
    ap (λ (u : Pass). claims u.known.own) (sym left.pass) ∙ pass_puts a.pass.now b.pass.now posts.events posts.done.pass
    ∙ (λ i. claims (lent.pass i).known.own ++ post_puts posts.post i)
