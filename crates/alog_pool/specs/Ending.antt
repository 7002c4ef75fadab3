-- The end of a pool: what is true where workers have ended, and a pass has seen everything.
use Rattle.std.specs.Prelude.{◌≡◌, ◌⊎◌, ◌≤◌, ℕ, List, [], ◌∷◌, ◌++◌}
use Rattle.alog_core.specs.Accounts.{claimed}
use Rattle.alog_core.specs.History.{Entry}
use Rattle.alog_msg.specs.declared.item.Item.{Item}
use Rattle.alog_msg.specs.declared.item.Item.TheVariants.{Stop}
use Rattle.alog_pool.specs.Accounts.{of_work, of_stops}
use Rattle.alog_pool.specs.Whole.{claimed_by, taken_by}
use Rattle.alog_pool.specs.Working.{HasEnded}
use Rattle.alog_registry.specs.BlockPort.{block_note}
use Rattle.alog_ring.specs.Known.{Known, Member, members_of}
use Rattle.alog_ring.specs.Share.{IsWhole}

-- one of these members ended as a worker does
abbrev pub HasEndedAmong : List (Member Item block_note) → Type 0
HasEndedAmong [] = ⊥
HasEndedAmong (m ∷ ms) = HasEnded m.own ⊎ HasEndedAmong ms

-- The pass has seen everything, and a worker is among its members. No stop was put in before a moment, and nothing but stops after
-- it: the moment at which all producers had come back.
pub record IsEnd (k : Known Item block_note) : Type 0 where
  pub whole : IsWhole k
  pub some : 1 ≤ k.places
  pub before : List (Entry Item block_note)
  pub later : List (Entry Item block_note)
  pub seen : k.seen ≡ before ++ later
  pub no_stop : claimed of_stops before ≡ 0
  pub only_stops : claimed of_work later ≡ 0
  pub ended : HasEndedAmong (members_of k)

-- By whatever weight that gives nothing to stops: what the members put in, they took out. So each text and each flush that was
-- posted was handled by a worker, or overrun.
abbrev pub NoWorkIsLeft : Type 0
NoWorkIsLeft = (k : Known Item block_note) (w : ℕ → Item → ℕ) → IsEnd k → ((t : ℕ) → w t Stop ≡ 0) → claimed_by w k ≡ taken_by w k
