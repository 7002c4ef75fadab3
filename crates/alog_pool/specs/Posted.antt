-- What the producers of a pool posted, item by item: what they put in, and did not take out again.
use Rattle.std.specs.Prelude.{◌≡◌, ◌≢◌, ◌⊎◌, ◌↔◌, ◌≤◌, ◌<◌, ℕ, Bool, List, [], ◌∷◌, ◌++◌, map}
use Rattle.std.specs.List.{AllByRecursion, AllPairs, Contains}
use Rattle.alog_core.specs.Accounts.{claims, issued, takes}
use Rattle.alog_core.specs.Queue.{last}
use Rattle.alog_msg.specs.declared.item.Item.{Item}
use Rattle.alog_msg.specs.declared.item.Item.TheVariants.{Flush, Stop, Text}
use Rattle.alog_msg.specs.declared.message.Message.{Message}
use Rattle.alog_policy.specs.SwapPort.{SwapDid}
use Rattle.alog_policy.specs.declared.policy.Outcome.TheVariants.{Posted}
use Rattle.alog_policy.specs.declared.policy.Policy.{Policy}
use Rattle.alog_policy.specs.declared.policy.Policy.TheVariants.{OverrunOldest}
use Rattle.alog_pool.specs.Producer.{ProducerView, Lent}
use Rattle.alog_pool.specs.Report.{IsRising}
use Rattle.alog_registry.specs.LaneKeeper.{KeepsByTurn, NeverPasses, Passes}
use Rattle.alog_registry.specs.Logging.{Logs}
use Rattle.alog_registry.specs.declared.logger.Spec.{Spec}
use Rattle.alog_registry.specs.declared.logging.LogReply.TheVariants.{Logged}

-- the tickets of these
abbrev pub tickets_of : List (ℕ × Item) → List ℕ
tickets_of items = map (λ (p : ℕ × Item). p.0) items

-- the texts and flushes among these
abbrev pub works_in : List (ℕ × Item) → List (ℕ × Item)
works_in [] = []
works_in ((u, Text m) ∷ ps) = (u, Text m) ∷ works_in ps
works_in ((u, Flush n) ∷ ps) = (u, Flush n) ∷ works_in ps
works_in ((u, Stop) ∷ ps) = works_in ps

-- one of these producers put exactly this item in under exactly this ticket: the claim is one of its own events
abbrev pub IsPutIn : List ProducerView → ℕ × Item → Type 0
IsPutIn producers i = (p : ProducerView) × Contains producers p × Contains (claims p.pass.known.own) i

-- one of them overran it: it took it out again
abbrev pub IsOverrun : List ProducerView → ℕ × Item → Type 0
IsOverrun producers i = (p : ProducerView) × Contains producers p × Contains (takes p.pass.known.own) i

-- These are exactly the texts and flushes, by their tickets, that the producers put in and that none of them overran. Each stands here
-- once. Of each producer the tickets rise in the order of its calls.
pub record ArePosted (producers : List ProducerView) (items : List (ℕ × Item)) : Type 0 where
  pub each : (i : ℕ × Item) → Contains items i ↔ ((i.1 ≢ Stop) × IsPutIn producers i × ¬ IsOverrun producers i)
  pub once : AllPairs (λ t u. t ≢ u) (tickets_of items)
  pub in_order : AllByRecursion (λ (p : ProducerView). IsRising (issued p.pass.known.own)) producers

-- The texts and flushes that these producers put in have all tickets from the first one on up to an end, and no other.
pub record AreInARow (first : ℕ) (producers : List ProducerView) : Type 0 where
  pub end : ℕ
  pub few : first < end → end ≤ last
  pub tickets : (t : ℕ) → ((x : Item) × (x ≢ Stop) × IsPutIn producers (t, x)) ↔ ((first ≤ t) × (t < end))

-- The producer put this text in under this ticket, as the last of its own so far. It took nothing out, unless its policy is to overrun.
abbrev pub PutsTextIn : Policy → ProducerView → ℕ → Message → ProducerView → Type 0
PutsTextIn p old t m new = (claims new.pass.known.own ≡ claims old.pass.known.own ++ (t, Text m) ∷ [])
    × (p ≢ OverrunOldest → takes new.pass.known.own ≡ takes old.pass.known.own)

-- A log, with waiting or without, that answered that its message was posted under a ticket put exactly this text in, under that ticket.
abbrev pub PostedLogsPutTheirTextIn : Type 0
PostedLogsPutTheirTextIn = (old new : ProducerView) (number : ℕ) (p : Policy) (s : Spec) (m : Message) (t k : ℕ) (kept : Bool)
    → Lent old new number (λ a y b z. Logs SwapDid KeepsByTurn NeverPasses p s m a y (Logged (Posted t k) kept) b z)
    ⊎ Lent old new number (λ a y b z. Logs SwapDid KeepsByTurn Passes p s m a y (Logged (Posted t k) kept) b z)
    → PutsTextIn p old t m new
