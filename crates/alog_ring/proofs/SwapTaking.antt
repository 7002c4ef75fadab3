-- How what lies in the places of a closed swap ring is taken out.
use Rattle.std.proofs.Common.{◌≡◌, ◌≢◌, ℕ, zero, suc, ◌+◌, ◌*◌, ◌-◌, ◌/◌, ◌%◌, ◌<◌, ◌≤◌, Bool, true, false, List, [], ◌∷◌, ◌++◌}
use Rattle.std.proofs.Common.{map, set, length, get_or, refl, sym, ap, subst, ◌∙◌, inl, inr, arith, length-set, get_or-set_other}
use Rattle.std.proofs.Common.{get_or-set_same, mod-lt}
use Rattle.std.specs.List.{AllByRecursion}
use Rattle.std.proofs.lemmas.Bool.Decides.{leb_tells}
use Rattle.std.proofs.lemmas.Nat.{mod-mul-add}
use Rattle.std.proofs.Math.Nat.{add-mod_right, mod-add-div'}
use mathlib.Core.Option as maybe
use mathlib.Core.Option.{some-injective}
use lib.ListN.{get_elem?}
use native.Mathlib.Nat.{mod-eq_of_lt}
use Rattle.alog_core.specs.Queue.{Cell}
use Rattle.alog_ring.specs.Share.{ticket_and_item}
use Rattle.alog_ring.specs.Board.{AreInRow}
use Rattle.alog_ring.specs.Swaps.{ComesAt, AreSpares}
use Rattle.alog_ring.specs.Taken.{LiesFor, AreOf}
use Rattle.alog_ring.proofs.SharedLists.{each_append}
use Rattle.alog_core.proofs.SharedLaps.{near_apart, same_or_not}

-- Which places were emptied when the tickets below this one were taken out.
pub record Emptied (n front at : ℕ) (filled : List Bool) : Type 0 where
  pub count : length filled ≡ n
  pub taken : (t : ℕ) → front ≤ t → t < at → get_or filled (t % n) false ≡ false
  pub full : (t : ℕ) → at ≤ t → t < front + n → get_or filled (t % n) false ≡ true

pub none_emptied : (n front : ℕ) (filled : List Bool) → 1 ≤ n → length filled ≡ n
    → ((k : ℕ) → k < n → get_or filled k false ≡ true) → Emptied n front front filled
none_emptied n front filled some count all = record {
  count = count;
  taken = λ t low high. absurd (omega arith);
  full = λ t _ _. all (t % n) (mod-lt t some);
}

pub one_emptied : (n front at : ℕ) (filled : List Bool) → 1 ≤ n → front ≤ at → at < front + n → Emptied n front at filled
    → Emptied n front (at + 1) (set filled (at % n) false)
one_emptied n front at filled some low high was = record {
  count = length-set filled (at % n) false ∙ was.count;
  taken =
      λ t from below.
      elim (same_or_not at t) [
        | inl e ↦
            let place : at % n < length filled = let p : at % n < n = mod-lt at some in omega (arith, was.count)
            in ap (λ (z : ℕ). get_or (set filled (at % n) false) (z % n) false) (sym e)
            ∙ get_or-set_same filled (at % n) false false place
        | inr other ↦
            let apart : t % n ≢ at % n = near_apart n at t other (omega arith) (omega arith)
            in get_or-set_other filled (at % n) (t % n) false false apart ∙ was.taken t from (omega arith)
      ];
  full =
      λ t above below.
      let apart : t % n ≢ at % n = near_apart n at t (λ e. omega arith) (omega arith) (omega arith)
      in get_or-set_other filled (at % n) (t % n) false false apart ∙ was.full t (omega arith) below;
}

-- the place's ticket, of those from the front one on
pub place_ticket : (n front place : ℕ) → place < n → ComesAt front n place (front + (place + n - front % n) % n)
place_ticket n front place low =
    let some : 1 ≤ n = omega arith
    in let r : ℕ = front % n
    in let q : ℕ = front / n
    in let small : r < n = mod-lt front some
    in let is : r + q * n ≡ front = mod-add-div' front n
    in let ahead : (place + n - r) % n < n = mod-lt (place + n - r) some
    in (
      omega arith,
      omega arith,
      elim (leb_tells r place) [
        | inl le ↦
            let up : r ≤ place = le.1
            in let e : place + n - r ≡ place - r + n = omega arith
            in let step : (place + n - r) % n ≡ place - r =
            ap (λ (z : ℕ). z % n) e ∙ add-mod_right (place - r) n ∙ mod-eq_of_lt (let l : place - r < n = omega arith in l)
            in let sum : front + (place + n - r) % n ≡ q * n + place = omega (arith, step, is)
            in ap (λ (z : ℕ). z % n) sum ∙ mod-mul-add q n place low
        | inr lt ↦
            let down : place < r = lt.1
            in let step : (place + n - r) % n ≡ place + n - r = mod-eq_of_lt (let l : place + n - r < n = omega arith in l)
            in let sum : front + (place + n - r) % n ≡ q * n + place + n = omega (arith, step, is)
            in ap (λ (z : ℕ). z % n) sum ∙ add-mod_right (q * n + place) n ∙ mod-mul-add q n place low
      ],
    )

module _ {B : Type 0} (places : List B) (n : ℕ) where
  -- one more is taken out behind the others
  pub one_more_of : (t : ℕ) (ps : List (ℕ × B)) (u : ℕ) (y : B) → AreOf places n t ps → t + length ps ≡ u → LiesFor places n u y
      → AreOf places n t (ps ++ (u, y) ∷ [])
  one_more_of t [] u y are at lies =
      let e : u ≡ t = omega arith in (e, subst (λ (z : ℕ). LiesFor places n z y) e lies, tt)
  one_more_of t (p ∷ ps) u y are at lies = (are.0, are.1, one_more_of (t + 1) ps u y are.2 (omega (arith, at)) lies)

  -- what was taken out of the places of the cells
  module _ {T : Type 0} (shows : B → T) (admits : B → Type 0) where
    abbrev ShowsEach : ℕ → List (Cell T) → Type 0
    ShowsEach t cs = (i : ℕ) (c : Cell T) → get_elem? cs i ≡ maybe.some c
        → (y : B) × (get_elem? places ((t + i) % n) ≡ maybe.some y) × admits y × (shows y ≡ c.item)

    pub cells_shown : (t : ℕ) (ps : List (ℕ × B)) (cs : List (Cell T)) → AreOf places n t ps → AreInRow t cs
        → length ps ≡ length cs → ShowsEach t cs
        → (map (λ (p : ℕ × B). (p.0, shows p.1)) ps ≡ map ticket_and_item cs)
        × AllByRecursion (λ (p : ℕ × B). admits p.1) ps
    cells_shown t [] [] are row same each = (refl, tt)
    cells_shown t [] (c ∷ cs) are row same each = absurd (omega arith)
    cells_shown t (p ∷ ps) [] are row same each = absurd (omega arith)
    cells_shown t (p ∷ ps) (c ∷ cs) are row same each =
        let here = each 0 c refl
        in let e : t + 0 ≡ t = omega arith
        in let lies : get_elem? places (t % n) ≡ maybe.some here.0 =
        subst (λ (z : ℕ). get_elem? places (z % n) ≡ maybe.some here.0) e here.1
        in let value : here.0 ≡ p.1 = some-injective here.0 p.1 (sym lies ∙ are.1)
        in let item : shows p.1 ≡ c.item = ap shows (sym value) ∙ here.3
        in let ticket : p.0 ≡ c.ticket = are.0 ∙ sym row.0
        in let rest = cells_shown (t + 1) ps cs are.2 row.1 (omega arith)
        (λ i d at.
        let next = each (suc i) d at
        in let e : t + suc i ≡ t + 1 + i = omega arith
        in (
          next.0,
          subst (λ (z : ℕ). get_elem? places (z % n) ≡ maybe.some next.0) e next.1,
          next.2,
          next.3,
        ))
        in ((λ i. (ticket i, item i) ∷ rest.0 i), (subst admits value here.2, rest.1))

  -- The places below this one were emptied, and their spares taken out.
  pub record Spared (front next place : ℕ) (filled : List Bool) (ys : List B) : Type 0 where
    pub count : length filled ≡ n
    pub spares : AreSpares front next n (LiesFor places n) place ys
    pub few : length ys ≤ place
    pub emptied : (k : ℕ) → k < place → get_or filled k false ≡ false
    pub cells : (t : ℕ) → front ≤ t → t < next → get_or filled (t % n) false ≡ false
    pub full : (t : ℕ) → next ≤ t → t < front + n → place ≤ t % n → get_or filled (t % n) false ≡ true

  pub none_spared : (front next : ℕ) (filled : List Bool) (ys : List B) → length filled ≡ n → ys ≡ []
      → ((t : ℕ) → front ≤ t → t < next → get_or filled (t % n) false ≡ false)
      → ((t : ℕ) → next ≤ t → t < front + n → get_or filled (t % n) false ≡ true) → Spared front next 0 filled ys
  none_spared front next filled ys count none taken full = record {
    count = count;
    spares = subst (λ (l : List B). AreSpares front next n (LiesFor places n) 0 l) (sym none) AreSpares.none;
    few = omega (arith, ap length none);
    emptied = λ k low. absurd (omega arith);
    cells = taken;
    full = λ t above below _. full t above below;
  }

  module _ (front next place : ℕ) (filled : List Bool) (ys : List B) (was : Spared front next place filled ys) (t : ℕ)
      (comes : ComesAt front n place t) where
    pub cell_spared : t < next → Spared front next (place + 1) filled ys
    cell_spared low = record {
      count = was.count;
      spares = subst (λ (z : ℕ). AreSpares front next n (LiesFor places n) z ys) (let e : suc place ≡ place + 1 = omega arith in e)
          (AreSpares.cell t comes low was.spares);
      few = omega (arith, was.few);
      emptied =
          λ k below.
          elim (same_or_not k place) [
            | inl e ↦ ap (λ (z : ℕ). get_or filled z false) (e ∙ sym comes.2) ∙ was.cells t comes.0 low
            | inr other ↦ was.emptied k (omega arith)
          ];
      cells = was.cells;
      full = λ u above below from. was.full u above below (omega arith);
    }

    pub spare_spared : (y : B) → place < n → next ≤ t → LiesFor places n t y
        → Spared front next (place + 1) (set filled place false) (ys ++ y ∷ [])
    spare_spared y low above lies =
        let within : place < length filled = omega (arith, was.count)
        in record {
          count = length-set filled place false ∙ was.count;
          spares = subst (λ (z : ℕ). AreSpares front next n (LiesFor places n) z (ys ++ y ∷ []))
              (let e : suc place ≡ place + 1 = omega arith in e) (AreSpares.spare t y comes above lies was.spares);
          few = omega (arith, Rattle.std.proofs.lemmas.List.length-append ys (y ∷ []), was.few);
          emptied =
              λ k below.
              elim (same_or_not k place) [
                | inl e ↦ ap (λ (z : ℕ). get_or (set filled place false) z false) e
                    ∙ get_or-set_same filled place false false within
                | inr other ↦ get_or-set_other filled place k false false other ∙ was.emptied k (omega arith)
              ];
          cells =
              λ u from below.
              elim (same_or_not (u % n) place) [
                | inl e ↦ ap (λ (z : ℕ). get_or (set filled place false) z false) e
                    ∙ get_or-set_same filled place false false within
                | inr other ↦ get_or-set_other filled place (u % n) false false other ∙ was.cells u from below
              ];
          full =
              λ u from below past.
              let other : u % n ≢ place = omega arith
              in get_or-set_other filled place (u % n) false false other ∙ was.full u from below (omega arith);
        }

module _ {B : Type 0} (front next n : ℕ) (P Q : ℕ → B → Type 0) where
  -- what is so of each spare's ticket
  pub spares_as : (place : ℕ) (ys : List B) → ((t : ℕ) (y : B) → next ≤ t → t < front + n → P t y → Q t y)
      → AreSpares front next n P place ys → AreSpares front next n Q place ys
  spares_as zero [] each AreSpares.none = AreSpares.none
  spares_as _ ys each (AreSpares.cell t comes low more) = AreSpares.cell t comes low (spares_as _ ys each more)
  spares_as _ _ each (AreSpares.spare t y comes above is more) =
      AreSpares.spare t y comes above (each t y above comes.1 is) (spares_as _ _ each more)

  pub each_spare : (A : B → Type 0) (place : ℕ) (ys : List B) → ((t : ℕ) (y : B) → next ≤ t → t < front + n → P t y → A y)
      → AreSpares front next n P place ys → AllByRecursion A ys
  each_spare A zero [] each AreSpares.none = tt
  each_spare A _ ys each (AreSpares.cell t comes low more) = each_spare A _ ys each more
  each_spare A _ _ each (AreSpares.spare t y comes above is more) =
      each_append A _ (y ∷ []) (each_spare A _ _ each more) (each t y above comes.1 is, tt)
