-- A post of the block in the hand of a port.
use Rattle.std.proofs.Common.{◌≡◌, ℕ, ◌≤◌, pos, sym, ap, subst, List, Option, length}
use Rattle.std.proofs.Math.Nat.{le_refl}
use Rattle.std.proofs.lemmas.List.{length-replicate}
use Rattle.std.specs.Prelude.{IfSome, replicate}
use Rattle.alog_msg.specs.Block.{BlockFields}
use Rattle.alog_msg.specs.declared.item.Item.{Item}
use Rattle.alog_msg.specs.declared.message.Message.{Message}
use Rattle.alog_policy.specs.Outlet.{Posts}
use Rattle.alog_policy.specs.SwapPort.{HandLeft, IsThere, SwapDid}
use Rattle.alog_policy.specs.declared.policy.Policy.{Policy}
use Rattle.alog_policy.specs.declared.policy.Outcome.{Outcome}
use Rattle.alog_policy.specs.declared.policy.Outcome.TheVariants.{Posted, Discarded}
use Rattle.alog_policy.specs.declared.swap_port.SwapPort.{SwapPort}
use Rattle.alog_ring.proofs.SharedCalling.{value_there, of_value}
use Rattle.alog_registry.specs.BlockPort.{item_in}
use Rattle.alog_registry.specs.Dumping.{marker}
use Rattle.alog_registry.specs.ItemOutlet.{PostsItem}
use Rattle.alog_registry.specs.Limit.{IsShort, HoldsTo}
use Rattle.alog_registry.specs.declared.limit.TextLimit.{TextLimit}

-- what admits each text of so many bytes has no smaller limit
pub limit_above : (most n : ℕ) → ((m : Message) → IsShort n m → IsShort most m) → n ≤ most
limit_above most n admits =
    let text : List ℕ = replicate n 0 in
    let long : length text ≡ n = length-replicate n 0 in
    subst (λ k. k ≤ most) long (admits (marker 0 (pos 0) 0 text) (subst (λ k. k ≤ n) (sym long) (le_refl n)))

-- what is left is something
left_there : (P : BlockFields → Type 0) (old new : Option BlockFields) (o : Outcome (Unit {0})) → IsThere P old
    → HandLeft P old o new → IsThere P new
left_there P old new (Posted t k) there left = left
left_there P old new (Discarded u w k) there left = subst (λ h. IsThere P h) (sym left) there

module _ {W : Type 0} (p : Policy) (a b : SwapPort BlockFields Item W TextLimit) (o : Outcome (Unit {0}))
    (there : IsThere (HoldsTo a.ring.now.ring.limit) a.hand.now)
    (post : IfSome a.hand.now (λ y. Posts SwapDid p y.item (tt {0}) a b o)) where
  -- what was posted is the item of the block in the hand
  pub posts_held : PostsItem SwapDid p (item_in a.hand.now) a b o
  posts_held =
      let block = value_there a.hand.now there.0 in
      let P : BlockFields → Type 0 = λ y. Posts SwapDid p y.item (tt {0}) a b o in
      let Q : Item → Type 0 = λ x. PostsItem SwapDid p x a b o in
      subst Q (sym (ap item_in block.1)) (of_value P a.hand.now block.0 block.1 post)

  -- and something is left there
  pub stays_there : HandLeft (HoldsTo a.ring.now.ring.limit) a.hand.now o b.hand.now → IsThere (HoldsTo b.ring.now.ring.limit) b.hand.now
  stays_there left =
      subst (λ r. IsThere (HoldsTo r.now.ring.limit) b.hand.now) (sym posts_held.done.ring)
      (left_there (HoldsTo a.ring.now.ring.limit) a.hand.now b.hand.now o there left)
