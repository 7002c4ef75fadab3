-- Outlets that carry items: what is left of a post's outcome, and what a post of an item is.
use Rattle.alog_msg.specs.declared.item.Item.{Item}
use Rattle.alog_policy.specs.Outlet.{Doing, Posts, PostsNow}
use Rattle.alog_policy.specs.declared.policy.Policy.{Policy}
use Rattle.alog_policy.specs.declared.policy.Outcome.{Outcome}
use Rattle.alog_policy.specs.declared.policy.Outcome.TheVariants.{Posted, Discarded}

-- the outcome without the value that a discarded post hands back
abbrev pub without_value : {V : Type 0} → Outcome V → Outcome (Unit {0})
without_value (Posted t k) = Posted t k
without_value (Discarded v w k) = Discarded tt w k

-- A post of this item, under this policy, of which nothing is handed back; one that never waits.
abbrev pub PostsItem : {S : Type 0} → Doing S Item → Policy → Item → S → S → Outcome (Unit {0}) → Type 0
PostsItem did p x old new outcome = Posts did p x tt old new outcome

abbrev pub PostsItemNow : {S : Type 0} → Doing S Item → Policy → Item → S → S → Outcome (Unit {0}) → Type 0
PostsItemNow did p x old new outcome = PostsNow did p x tt old new outcome
