-- What lies in the places of a ring.
use Rattle.std.specs.Prelude.{◌≡◌, ◌≢◌, ℕ, ◌+◌, List, [], ◌∷◌, ◌++◌, Option, Some, None, refl}
use Rattle.std.proofs.Common.{sym, ◌∙◌}
use Rattle.alog_core.specs.Queue.{Take}
use Rattle.alog_core.specs.History.{Entry}
use Rattle.alog_ring.specs.Spares.{IsSpare}
use Rattle.alog_ring.specs.Noting.{spare_stays, spare_comes}

-- A kind of place: what lies in a place `has` an item where a cell is written there, the note of a Take tells what it `brings`
-- to the place, and all other events have the `blank` note. What lies in a free place is the `spare` for its ticket, after a
-- history and with what lay in the places at first. Only the Take of the ticket a lap before changes that.
pub record PlaceKind (S T N : Type 0) : Type 1 where
  pub has : S → T → Type 0
  pub brings : N → S → Type 0
  pub once : (a b : N) (y : S) → brings a y → brings b y → a ≡ b
  pub blank : N
  pub spare : List S → ℕ → List (Entry T N) → ℕ → S → Type 0
  pub stays : (firsts : List S) (n : ℕ) (h : List (Entry T N)) (x : Entry T N) (t : ℕ)
      → ((u : ℕ) (y : T) → x.event ≡ Take u y → u + n ≢ t) → (z : S) → spare firsts n h t z → spare firsts n (h ++ x ∷ []) t z
  pub comes : (firsts : List S) (n : ℕ) (h : List (Entry T N)) (x : Entry T N) (u : ℕ) (y : T) → x.event ≡ Take u y
      → (z : S) → brings x.note z → spare firsts n (h ++ x ∷ []) (u + n) z

-- The places of a `Ring`: a value, or nothing. Its entries have no notes.
abbrev pub no_note : Type 0
no_note = Unit {0}

abbrev pub plain_kind : (T : Type 0) → PlaceKind (Option T) T no_note
plain_kind T = record {
  has = λ y x. y ≡ Some x;
  brings = λ _ y. y ≡ None;
  once = λ a b y _ _. refl;
  blank = tt;
  spare = λ firsts n h t y. y ≡ None;
  stays = λ firsts n h x t _ z is. is;
  comes = λ firsts n h x u y _ z is. is;
}

-- The places of a `SwapRing`: always a value, which shows its item. The note of a Take is what it brought.
abbrev pub swap_kind : {B T : Type 0} → (B → T) → PlaceKind B T (Option B)
swap_kind shows = record {
  has = λ y x. shows y ≡ x;
  brings = λ note y. note ≡ Some y;
  once = λ a b y one other. one ∙ sym other;
  blank = None;
  spare = IsSpare;
  stays = λ firsts n h x t apart z is. spare_stays firsts n h x t apart z is;
  comes = λ firsts n h x u y is z brought. spare_comes firsts n h x u y is z brought;
}
