-- A post whose value was made before.
use Rattle.std.proofs.Common.{◌≡◌, ℕ, ◌+◌, Bool, List, [], ◌++◌, Option, None, Some, refl, subst, zero-add}
use Rattle.std.specs.Prelude.{IsSome, IfSome}
use Rattle.alog_core.specs.Queue.{Event}
use Rattle.alog_msg.specs.declared.item.Item.{Item}
use Rattle.alog_policy.specs.Outlet.{Doing}
use Rattle.alog_policy.specs.Post.{overran_in, discards_in}
use Rattle.alog_policy.specs.declared.policy.Policy.{Policy}
use Rattle.alog_policy.specs.declared.policy.Outcome.{Outcome}
use Rattle.alog_registry.specs.ItemOutlet.{PostsItem}
use Rattle.alog_msg.specs.declared.level.Level.{Level}
use Rattle.alog_msg.specs.declared.message.Message.{Message}
use Rattle.alog_registry.specs.Logging.{IsBrought, IsMade}
use Rattle.alog_registry.specs.declared.logger.Spec.{Spec}
use Rattle.alog_registry.specs.declared.logging.LogReply.TheVariants.{Logged}

module _ {S : Type 0} (did : Doing S Item)
    (together : (a b c : S) (es fs : List (Event Item)) (k l m n : ℕ) → did a es k l b → did b fs m n c
    → did a (es ++ fs) (k + m) (l + n) c) where
  -- the value was made without an event, and then posted
  pub made_and_posted : (p : Policy) (x : Item) (a b c : S) (o : Outcome (Unit {0})) → did a [] 0 0 b
      → PostsItem did p x b c o → PostsItem did p x a c o
  made_and_posted p x a b c o idle q = record {
    events = q.events;
    post = q.post;
    done = subst (λ n. did a q.events n (discards_in o) c) (zero-add (overran_in o))
        (subst (λ n. did a q.events (0 + overran_in o) n c) (zero-add (discards_in o))
        (together a b c [] q.events 0 0 (overran_in o) (discards_in o) idle q.done));
  }

  -- the same, under the policy of the spec that was found, as it is read, and of the item that the value shows
  pub posted_by : (read : Policy → Policy) {found spec : Spec} {shown x : Item} {a b c : S} {o : Outcome (Unit {0})}
      → found ≡ spec → shown ≡ x → did a [] 0 0 b
      → PostsItem did (read found.policy) shown b c o → PostsItem did (read spec.policy) x a c o
  posted_by read {found} {shown} {x} {a} {b} {c} {o} same shows idle q =
      let P : Policy → Item → Type 0 = λ p y. PostsItem did p y a c o in
      subst (λ s. P (read s.policy) x) same (subst (P (read found.policy)) shows (made_and_posted (read found.policy) shown a b c o idle q))

  -- the same of a value that was made by the level that was read, under a policy
  pub brought_by : {V : Type 0} (fit : S → V → Type 0) (shows : S → V → Item) {p : Policy} (told : Bool) (own : Level) (m : Message)
      (a : S) {b c : S} {v : V} {o : Outcome (Unit {0})} → IsMade did fit shows own m a (Some v) b → PostsItem did p (shows b v) b c o
      → IsBrought did own p told m a (Logged o told) c
  brought_by fit shows {p} told own m a {b} {c} {v} {o} made q =
      (refl, made.0, subst (λ x. PostsItem did p x a c o) made.1 (made_and_posted p (shows b v) a b c o made.3 q))

  -- A value was made into a hand, and posted from there.
  pub record FromHand {V : Type 0} (fit : S → V → Type 0) (shows : S → V → Item) (own : Level) (p : Policy) (m : Message) (a c : S)
      (o : Outcome (Unit {0})) : Type 0 where
    pub between : S
    pub hand : Option V
    pub there : IsSome hand
    pub made : IsMade did fit shows own m a hand between
    pub posted : IfSome hand (λ v. PostsItem did p (shows between v) between c o)

  -- so a message was brought
  pub brought_from : {V : Type 0} {fit : S → V → Type 0} {shows : S → V → Item} {own : Level} {p : Policy} (told : Bool) {m : Message} {a c : S}
      {o : Outcome (Unit {0})} → FromHand fit shows own p m a c o → IsBrought did own p told m a (Logged o told) c
  brought_from {V} {fit} {shows} {own} {p} told {m} {a} {c} {o} h = by_hand h.hand h.there h.made h.posted
    where
      by_hand : (hand : Option V) → IsSome hand → IsMade did fit shows own m a hand h.between
          → IfSome hand (λ v. PostsItem did p (shows h.between v) h.between c o) → IsBrought did own p told m a (Logged o told) c
      by_hand None there made q = absurd (cc)
      by_hand (Some v) there made q = brought_by fit shows told own m a made q
