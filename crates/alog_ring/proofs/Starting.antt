-- An empty ring keeps the rule.
use Rattle.std.proofs.Common.{◌≡◌, ◌≢◌, ℕ, zero, suc, ◌+◌, ◌-◌, ◌%◌, ◌^◌, ◌<◌, ◌≤◌, Option, None, List, [], ◌∷◌, set, length}
use Rattle.std.proofs.Common.{get_or, map, replicate, bit_and, refl, sym, ap, subst, ◌∙◌, inl, inr, arith, get_or-set_other}
use Rattle.std.proofs.Common.{get_or-set_same, mod-lt}
use Rattle.std.proofs.lemmas.Nat.{and_mask}
use Rattle.std.specs.Int.{IsPowerOfTwo}
use mathlib.Core.Option as maybe
use lib.ListN.{get_elem?, length-map}
use Rattle.atomic_table.specs.Table.{opening}
use Rattle.alog_core.specs.Queue.{last, start}
use Rattle.alog_core.proofs.SharedHistories.{stands_start}
use Rattle.alog_ring.specs.Known.{AreDistinct}
use Rattle.alog_ring.specs.Kinds.{PlaceKind, plain_kind, swap_kind}
use Rattle.alog_ring.specs.Sight.{Sight, first_sight}
use Rattle.alog_ring.specs.Rule.{seq_of, word_count, Knows, HasEntries, Ruled}
use Rattle.alog_ring.specs.Board.{AreFirstWords, Masks}
use Rattle.alog_ring.proofs.SharedLists.{at_or_past, prefix_same}
use Rattle.alog_core.proofs.SharedLaps.{near_apart, same_or_not}

-- what the mask of a power of two keeps is the remainder
pub masks : (n mask : ℕ) → IsPowerOfTwo n → mask ≡ n - 1 → n ≡ mask + 1 → Masks mask
masks n mask power is up t =
    let P : ℕ → ℕ → Type 0 = λ m k. bit_and t m ≡ t % k
    in let at_power : P (2 ^ power.0 - 1) (2 ^ power.0) = and_mask t power.0
    in let Q : ℕ → Type 0 = λ k. P (k - 1) k
    in let at_n : P (n - 1) n = subst Q (sym power.1) at_power
    in let R : ℕ → Type 0 = λ m. P m n
    in let S : ℕ → Type 0 = λ k. P mask k
    in subst S up (subst R (sym is) at_n)

-- from f up to t each ticket stands in its word
abbrev pub Sequenced : (n f t : ℕ) → List ℕ → Type 0
Sequenced n f t row = (u : ℕ) → f ≤ u → u < t → get_or row (seq_of n u) 0 ≡ u

-- a sequence is written: the others stay
pub words_more : {n f t : ℕ} (row : List ℕ) → 2 ≤ n → f ≤ t → t < f + n → length row ≡ word_count n → Sequenced n f t row
    → Sequenced n f (t + 1) (set row (seq_of n t) t)
words_more {n} {f} {t} row two low high wide before = λ u from to.
    let some : 0 < n = omega arith
    in let place : t % n < n = mod-lt t some
    in elim (same_or_not t u) [
      | inl same ↦ let P : ℕ → Type 0 = λ z. get_or (set row (seq_of n t) t) (seq_of n z) 0 ≡ z in
          subst P same (get_or-set_same row (seq_of n t) t 0 (omega arith))
      | inr other ↦
          let apart : u % n ≢ t % n = near_apart n t u other (omega arith) (omega arith)
          in get_or-set_other row (seq_of n t) (seq_of n u) t 0 (λ e. apart (omega arith)) ∙ before u from (omega arith)
    ]

same_place : {A : Type 0} (x : A) (n i : ℕ) → i < n → get_elem? (replicate n x) i ≡ maybe.some x
same_place x zero i low = absurd (omega arith)
same_place x (suc n) zero low = refl
same_place x (suc n) (suc i) low = same_place x n i (omega arith)

-- each place is at home
at_home : {A : Type 0} (xs : List A) (i : ℕ) (y : A) → get_elem? xs i ≡ maybe.some y
    → get_elem? (map maybe.some xs) i ≡ maybe.some (maybe.some y)
at_home {A} [] i y is = absurd (maybe.some-ne-none y (sym is))
at_home {A} (x ∷ xs) zero y is = ap (λ (z : A). maybe.some (maybe.some z)) (maybe.some-injective x y is)
at_home {A} (x ∷ xs) (suc i) y is = at_home xs i y is

-- what lies in the places at first is the spare for each of the first tickets
abbrev pub AreFirst : {S T N : Type 0} → PlaceKind S T N → List S → List S → ℕ → ℕ → Type 0
AreFirst kind firsts places n f = (t : ℕ) → f ≤ t → t < f + n
    → (y : _) × (get_elem? places (t % n) ≡ maybe.some y) × kind.spare firsts n [] t y

pub none_first : {T : Type 0} (firsts : List (Option T)) (n f : ℕ) → 1 ≤ n
    → AreFirst (plain_kind T) firsts (replicate n None) n f
none_first firsts n f some t from to = (None, same_place None n (t % n) (mod-lt t some), refl)

pub spares_first : {B T : Type 0} (shows : B → T) (spares : List B) (n f : ℕ) → 1 ≤ n → length spares ≡ n
    → AreFirst (swap_kind shows) spares spares n f
spares_first shows spares n f some all t from to =
    let place : t % n < n = mod-lt t some
    in elim (at_or_past spares (t % n)) [
      | inl at ↦ (at.0, at.1, inr ((λ u e. refl), at.1))
      | inr past ↦ absurd (omega arith)
    ]

pub starts : {S T N : Type 0} (kind : PlaceKind S T N) (firsts places : List S) {n f : ℕ} {words : List ℕ} → 2 ≤ n → f < last
    → AreFirstWords n f words → length places ≡ n → AreFirst kind firsts places n f
    → Ruled kind.has (kind.spare firsts) n f (opening words places (first_sight n f))
starts {S} {T} {N} kind firsts places {n} {f} two low are all lie =
    let one : (a : ℕ) (v : Sight T N) → get_elem? (first_sight {T = T} {N = N} n f ∷ []) a ≡ maybe.some v
    → (a ≡ 0) × (first_sight n f ≡ v) = only
    in record {
      history = [];
      queue = start f;
      two = two;
      stands = stands_start n f;
      told = record {
        places = λ a v e _. ap (λ (x : Sight T N). x.known.places) (sym (one a v e).1);
        first = λ a v e _. ap (λ (x : Sight T N). x.known.first) (sym (one a v e).1);
        seen = λ a v e. let P : Sight T N → Type 0 = λ x. mathlib.Core.List.IsPrefix x.known.seen [] in
            subst P (one a v e).1 (prefix_same []);
        entries = λ a v e _. let P : Sight T N → Type 0 = λ x. HasEntries [] (first_sight n f ∷ []) a x.known in
            subst P (one a v e).1 (record { own = refl; joined = tt; retired = tt });
        without = λ a v e _. inl refl;
        distinct = λ a v e _. let P : Sight T N → Type 0 = λ x. AreDistinct x.known.joined in
            subst P (one a v e).1 tt;
        once = λ a v e _ b w g _ apart c _ _. apart ((one b w g).0 ∙ sym (one a v e).0);
        unborn = λ a _. refl;
        whole = refl;
      };
      staged = record {
        knows =
            λ a v e.
            let P : Sight T N → Type 0 = λ x. Knows n [] (start f) a x.known x.stage
            in subst P (one a v e).1 (sym (one a v e).0, omega arith);
        writers = λ t x a has. absurd (cc);
        readers = λ t x a has. absurd (cc);
      };
      shown = record {
        wide = are.count;
        places = length-map places maybe.some ∙ all;
        next = are.next;
        front = are.front;
        bounded = omega arith;
        cells = λ t c has. absurd (cc);
        free = λ t from to _.
            (are.sequences t from to, ((lie t from to).0, at_home places (t % n) (lie t from to).0 (lie t from to).1, (lie t from to).2));
      };
    }
  where
    only : (a : ℕ) (v : Sight T N) → get_elem? (first_sight {T = T} {N = N} n f ∷ []) a ≡ maybe.some v
        → (a ≡ 0) × (first_sight n f ≡ v)
    only zero v e = (refl, maybe.some-injective (first_sight n f) v e)
    only (suc a) v e = absurd (maybe.some-ne-none v (sym e))
