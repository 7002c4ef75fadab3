-- The words and the places of a ring, and what is left in the places at its end.
use Rattle.std.specs.Prelude.{◌≡◌, ℕ, zero, suc, ◌+◌, ◌%◌, ◌<◌, ◌≤◌, [], ◌∷◌, List, length, slice_index, Option, Some, None}
use Rattle.std.specs.Prelude.{bit_and}
use mathlib.Core.Option as maybe
use mathlib.Core.List.{IsPrefix}
use lib.ListN.{get_elem?}
use Rattle.atomic_table.specs.Table.{Me}
use Rattle.alog_core.specs.Queue.{Cell, last, start}
use Rattle.alog_core.specs.History.{Entry, left_by}
use Rattle.alog_ring.specs.declared.words.TheConstants.{NEXT, FRONT}
use Rattle.alog_ring.specs.Known.{Known}
use Rattle.alog_ring.specs.Calls.{PushedAs, PoppedAs}
use Rattle.alog_ring.specs.Share.{having_seen, IsWhole}
use Rattle.alog_ring.specs.Sight.{Sight, Idle}
use Rattle.alog_ring.specs.Rule.{seq_of, word_count}
use Rattle.alog_ring.specs.Kinds.{PlaceKind}

-- The words of an empty ring: both positions, and the sequence of each place, which is the least ticket of the place.
pub record AreFirstWords (n f : ℕ) (words : List ℕ) : Type 0 where
  pub count : length words ≡ word_count n
  pub next : slice_index words NEXT ≡ f
  pub front : slice_index words FRONT ≡ f
  pub sequences : (t : ℕ) → f ≤ t → t < f + n → slice_index words (seq_of n t) ≡ t

-- what a mask keeps of a number is its remainder
abbrev pub Masks : ℕ → Type 0
Masks mask = (t : ℕ) → bit_and t mask ≡ t % (mask + 1)

module _ {S T N : Type 0} (kind : PlaceKind S T N) where
  -- The pass claimed and wrote the ticket, with the item of what it brought, and has what lay in the ticket's place, which is
  -- the spare for it.
  pub record SwapsIn (firsts : List S) (old new : Known T N) (t : ℕ) (brought back : S) : Type 0 where
    pub item : T
    pub has : kind.has brought item
    pub pushed : PushedAs kind.blank old new t item
    pub spare : kind.spare firsts new.places new.seen t back

  -- The pass grabbed the ticket and took its item, with a note of what it brought, and has what lay in the ticket's place,
  -- which has that item.
  pub record SwapsOut (old new : Known T N) (t : ℕ) (brought got : S) : Type 0 where
    pub item : T
    pub has : kind.has got item
    pub note : N
    pub brings : kind.brings note brought
    pub popped : PoppedAs kind.blank note old new t item

  -- the same of a seat, whose round is over then
  abbrev pub Fills : List S → Me S (Sight T N) → Me S (Sight T N) → ℕ → S → S → Type 0
  Fills firsts m m' t brought back = SwapsIn firsts m.0.known m'.0.known t brought back × (m'.0.stage ≡ Idle) × (m'.1 ≡ m.1)

  abbrev pub Empties : Me S (Sight T N) → Me S (Sight T N) → ℕ → S → S → Type 0
  Empties m m' t brought got = SwapsOut m.0.known m'.0.known t brought got × (m'.0.stage ≡ Idle) × (m'.1 ≡ m.1)

-- cells of all tickets from this one on
abbrev pub AreInRow : {T : Type 0} → ℕ → List (Cell T) → Type 0
AreInRow t [] = Unit {0}
AreInRow t (c ∷ cs) = (c.ticket ≡ t) × AreInRow (t + 1) cs

module _ {S T N : Type 0} (kind : PlaceKind S T N) (firsts : List S) (admits : S → Type 0) where
  -- this is so of what lies in the place of the ticket, which is admitted
  abbrev pub LiesAt : List S → ℕ → ℕ → (S → Type 0) → Type 0
  LiesAt places n t P = (y : S) × (get_elem? places (t % n) ≡ maybe.some y) × admits y × P y

  -- The cells are those of the tickets from the front one on, their items lie in their places, and in the other places lie
  -- the spares for the tickets to come.
  pub record LieIn (h : List (Entry T N)) (places : List S) (front n : ℕ) (cells : List (Cell T)) : Type 0 where
    pub in_row : AreInRow front cells
    pub few : length cells ≤ n
    pub items : (i : ℕ) (c : Cell T) → get_elem? cells i ≡ maybe.some c
        → LiesAt places n (front + i) (λ y. kind.has y c.item)
    pub spares : (i : ℕ) → length cells ≤ i → i < n
        → LiesAt places n (front + i) (λ y. kind.spare firsts n h (front + i) y)

  -- What a history leaves, as it lies in the places at the end: so many cells as there are tickets from the front one to the
  -- next, and the spares.
  pub record LeftBy (k : Known T N) (h : List (Entry T N)) (n : ℕ) (places : List S) (front next : ℕ) : Type 0 where
    pub front_is : front ≡ (left_by (start k.first) h).front
    pub next_is : next ≡ (left_by (start k.first) h).next
    pub bounded : next ≤ last
    pub count : front + length (left_by (start k.first) h).cells ≡ next
    pub lie : LieIn h places front n (left_by (start k.first) h).cells

  -- The table's history at its end: the pass that has all parts is whole in it, and what it leaves lies in the places.
  pub record Leaves (k : Known T N) (n : ℕ) (places : List S) (front next : ℕ) : Type 0 where
    pub history : List (Entry T N)
    pub seen : IsPrefix k.seen history
    pub whole : IsWhole (having_seen k history)
    pub left : LeftBy k history n places front next

module _ {T : Type 0} where
  -- the value of the i-th cell
  abbrev pub value_at : List (Cell T) → ℕ → Option T
  value_at [] i = None
  value_at (c ∷ cs) zero = Some c.item
  value_at (c ∷ cs) (suc i) = value_at cs i

  -- The cells lie in n places from that of their first ticket on, and the further places are empty.
  pub record AreValues (places : List (Option T)) (first n : ℕ) (cells : List (Cell T)) : Type 0 where
    pub in_row : AreInRow first cells
    pub few : length cells ≤ n
    pub values : (i : ℕ) → i < n → get_elem? places ((first + i) % n) ≡ maybe.some (value_at cells i)
