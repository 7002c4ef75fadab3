-- What a pass put into the queue and took out of it, and how that is counted.
use Rattle.std.specs.Prelude.{◌≡◌, ◌⊎◌, ℕ, ◌==◌, if◌then◌else◌, List, [], ◌∷◌, map}
use Rattle.alog_core.specs.Queue.{Idle, last}
use Rattle.alog_core.specs.History.{Entry}
use Rattle.alog_core.specs.Accounts.{claims, takes, grabbed}
use Rattle.alog_msg.specs.declared.item.Item.{Item}
use Rattle.alog_msg.specs.declared.item.Item.TheVariants.{Text, Flush, Stop}
use Rattle.alog_ring.specs.Known.{Known}
use Rattle.alog_registry.specs.BlockPort.{block_note}
use Rattle.alog_ring.specs.Made.{Made}

-- Weights of tickets and items: each counts one, each text and flush does, each stop does.
abbrev pub of_all : ℕ → Item → ℕ
of_all t x = 1

abbrev pub work : Item → ℕ
work (Text m) = 1
work (Flush n) = 1
work Stop = 0

abbrev pub of_work : ℕ → Item → ℕ
of_work t x = work x

abbrev pub stop : Item → ℕ
stop (Text m) = 0
stop (Flush n) = 0
stop Stop = 1

abbrev pub of_stops : ℕ → Item → ℕ
of_stops t x = stop x

-- the tickets of the texts and flushes among these
abbrev pub work_tickets : List (ℕ × Item) → List ℕ
work_tickets [] = []
work_tickets (p ∷ ps) = if work p.1 == 1 then p.0 ∷ work_tickets ps else work_tickets ps

-- The pass made entries, by which it put in exactly these tickets and items, and took out exactly these, each of which it took
-- before it grabbed the next.
pub record Moved (old new : Known Item block_note) (puts gots : List (ℕ × Item)) : Type 0 where
  pub entries : List (Entry Item block_note)
  pub made : Made old new entries
  pub puts_are : claims entries ≡ puts
  pub gots_are : takes entries ≡ gots
  pub grabs_are : grabbed entries ≡ map (λ p. p.0) gots

-- among these entries is an answer that no ticket is left
abbrev pub SawEnd : List (Entry Item block_note) → Type 0
SawEnd [] = ⊥
SawEnd (x ∷ h) = (x.event ≡ Idle last) ⊎ SawEnd h
