-- How what lies in the places of a closed `Ring` is taken out.
use Rattle.std.proofs.Common.{◌≡◌, ◌≢◌, ℕ, zero, suc, ◌+◌, ◌-◌, ◌%◌, ◌<◌, ◌≤◌, Bool, true, false, Option, Some, None, List}
use Rattle.std.proofs.Common.{[], ◌∷◌, ◌++◌, map, set, length, get_or, refl, sym, ap, subst, ◌∙◌, inl, inr, arith, add-one}
use Rattle.std.proofs.Common.{length-set, get_or-set_other, get_or-set_same, mod-lt}
use Rattle.std.specs.Prelude.{IfSome}
use Rattle.std.specs.List.{AllByRecursion}
use mathlib.Core.Option as maybe
use lib.ListN.{get_elem?}
use native.Mathlib.Nat.{add-mod_right}
use Rattle.std.proofs.lemmas.Bool.Decides.{leb_tells}
use Rattle.alog_core.specs.Queue.{Cell}
use Rattle.alog_core.specs.History.{Entry}
use Rattle.alog_ring.specs.Kinds.{no_note, plain_kind}
use Rattle.alog_ring.specs.Share.{ticket_and_item}
use Rattle.alog_ring.specs.Board.{AreInRow, value_at, AreValues, LieIn}
use Rattle.alog_ring.proofs.SharedLists.{at_or_past}
use Rattle.alog_core.proofs.SharedLaps.{near_apart, lap, same_or_not}

module _ {T : Type 0} where
  -- the first i cells, as tickets and items
  pub firsts : List (Cell T) → ℕ → List (ℕ × T)
  firsts [] i = []
  firsts (c ∷ cs) zero = []
  firsts (c ∷ cs) (suc i) = ticket_and_item c ∷ firsts cs i

  firsts_none : (cs : List (Cell T)) → firsts cs 0 ≡ []
  unfolding firsts
  firsts_none [] = refl
  firsts_none (c ∷ cs) = refl

  firsts_all : (cs : List (Cell T)) (i : ℕ) → length cs ≤ i → firsts cs i ≡ map ticket_and_item cs
  unfolding firsts
  firsts_all [] i le = refl
  firsts_all (c ∷ cs) zero le = absurd (omega arith)
  firsts_all (c ∷ cs) (suc i) le = ap (λ (l : List (ℕ × T)). ticket_and_item c ∷ l) (firsts_all cs i (omega arith))

  firsts_some : (f : ℕ) (cs : List (Cell T)) (i : ℕ) (x : T) → AreInRow f cs → value_at cs i ≡ Some x
      → firsts cs (suc i) ≡ firsts cs i ++ (f + i, x) ∷ []
  unfolding firsts
  firsts_some f [] i x row is = cc
  firsts_some f (c ∷ cs) zero x row is =
      let item : c.item ≡ x = cc
      in let ticket : c.ticket ≡ f + 0 = omega (arith, row.0)
      in (λ i. (ticket i, item i) ∷ firsts_none cs i)
  firsts_some f (c ∷ cs) (suc i) x row is =
      let more : firsts cs (suc i) ≡ firsts cs i ++ (f + 1 + i, x) ∷ [] = firsts_some (f + 1) cs i x row.1 is
      in let same : f + 1 + i ≡ f + suc i = omega arith
      in ap (λ (l : List (ℕ × T)). ticket_and_item c ∷ l) (more ∙ ap (λ (z : ℕ). firsts cs i ++ (z, x) ∷ []) same)

  firsts_more : (cs : List (Cell T)) (i : ℕ) → value_at cs i ≡ None → firsts cs (suc i) ≡ firsts cs i
  unfolding firsts
  firsts_more [] i is = refl
  firsts_more (c ∷ cs) zero is = cc
  firsts_more (c ∷ cs) (suc i) is = ap (λ (l : List (ℕ × T)). ticket_and_item c ∷ l) (firsts_more cs i is)

  -- The values of the first i places were taken out.
  pub record HasTaken (n first i : ℕ) (before now : List (Option T)) (filled : List Bool)
      (left : List (ℕ × T)) : Type 0 where
    pub same : now ≡ before
    pub count : length filled ≡ n
    pub taken : (j : ℕ) → j < i → get_or filled ((first + j) % n) false ≡ false
    pub full : (j : ℕ) → i ≤ j → j < n → get_or filled ((first + j) % n) false ≡ true
    pub few : length left ≤ i
    pub cells : (cs : List (Cell T)) → AreValues before first n cs → left ≡ firsts cs i

  pub taken_none : {n first : ℕ} {items : List (Option T)} {filled : List Bool} {left : List (ℕ × T)} → 1 ≤ n
      → length filled ≡ n → ((k : ℕ) → k < n → get_or filled k false ≡ true) → left ≡ []
      → HasTaken n first 0 items items filled left
  taken_none {n} {first} some count full none = record {
    same = refl;
    count = count;
    taken = λ j low. absurd (omega arith);
    full = λ j _ low. full ((first + j) % n) (mod-lt (first + j) some);
    few = omega (arith, ap length none);
    cells = λ cs _. none ∙ sym (firsts_none cs);
  }

  module _ (n first i : ℕ) (before now : List (Option T)) (filled : List Bool) (left : List (ℕ × T))
      (has : HasTaken n first i before now filled left) (some : 1 ≤ n) (low : i < n) where
    marks_taken : (j : ℕ) → j < i + 1 → get_or (set filled ((first + i) % n) false) ((first + j) % n) false ≡ false
    marks_taken j lt =
        elim (same_or_not i j) [
          | inl e ↦
              let place : (first + i) % n < length filled = let p : (first + i) % n < n = mod-lt (first + i) some in
              omega (arith, has.count)
              in ap (λ (z : ℕ). get_or (set filled ((first + i) % n) false) ((first + z) % n) false) (sym e)
              ∙ get_or-set_same filled ((first + i) % n) false false place
          | inr other ↦
              let apart : (first + j) % n ≢ (first + i) % n =
              near_apart n (first + i) (first + j) (λ e. other (omega arith)) (omega arith) (omega arith)
              in get_or-set_other filled ((first + i) % n) ((first + j) % n) false false apart ∙ has.taken j (omega arith)
        ]

    still_full : (j : ℕ) → i + 1 ≤ j → j < n → get_or (set filled ((first + i) % n) false) ((first + j) % n) false ≡ true
    still_full j above below =
        let apart : (first + j) % n ≢ (first + i) % n =
        near_apart n (first + i) (first + j) (λ e. omega arith) (omega arith) (omega arith)
        in get_or-set_other filled ((first + i) % n) ((first + j) % n) false false apart ∙ has.full j (omega arith) below

    here_is : (cs : List (Cell T)) (o : Option T) → get_elem? now ((first + i) % n) ≡ maybe.some o
        → AreValues before first n cs → value_at cs i ≡ o
    here_is cs o is lie =
        let P : List (Option T) → Type 0 = λ l. get_elem? l ((first + i) % n) ≡ maybe.some o
        in maybe.some-injective (value_at cs i) o (sym (lie.values i low) ∙ subst P has.same is)

    pub takes_value : (x : T) → get_elem? now ((first + i) % n) ≡ maybe.some (Some x)
        → HasTaken n first (i + 1) before now (set filled ((first + i) % n) false) (left ++ (first + i, x) ∷ [])
    takes_value x is = record {
      same = has.same;
      count = length-set filled ((first + i) % n) false ∙ has.count;
      taken = marks_taken;
      full = still_full;
      few = omega (arith, Rattle.std.proofs.lemmas.List.length-append left ((first + i, x) ∷ []), has.few);
      cells =
          λ cs lie.
          let P : ℕ → Type 0 = λ z. left ++ (first + i, x) ∷ [] ≡ firsts cs z
          in subst P (sym (add-one i))
          (ap (λ (l : List (ℕ × T)). l ++ (first + i, x) ∷ []) (has.cells cs lie)
          ∙ sym (firsts_some first cs i x lie.in_row (here_is cs (Some x) is lie)));
    }

    pub takes_nothing : get_elem? now ((first + i) % n) ≡ maybe.some None
        → HasTaken n first (i + 1) before now (set filled ((first + i) % n) false) left
    takes_nothing is = record {
      same = has.same;
      count = length-set filled ((first + i) % n) false ∙ has.count;
      taken = marks_taken;
      full = still_full;
      few = omega (arith, has.few);
      cells =
          λ cs lie.
          let P : ℕ → Type 0 = λ z. left ≡ firsts cs z
          in subst P (sym (add-one i)) (has.cells cs lie ∙ sym (firsts_more cs i (here_is cs None is lie)));
    }

  pub all_taken : {n first : ℕ} {before now : List (Option T)} {filled : List Bool} {left : List (ℕ × T)}
      → HasTaken n first n before now filled left → {cs : List (Cell T)} → AreValues before first n cs
      → left ≡ map ticket_and_item cs
  all_taken {n} has {cs} lie = has.cells cs lie ∙ firsts_all cs n lie.few

  pub none_filled : {n first : ℕ} {before now : List (Option T)} {filled : List Bool} {left : List (ℕ × T)} → 1 ≤ n
      → HasTaken n first n before now filled left → (k : ℕ) → k < n → get_or filled k false ≡ false
  none_filled {n} {first} {filled} some has k low =
      let small : k % n ≡ k = native.Mathlib.Nat.mod-eq_of_lt low
      in let at : (t : ℕ) → first ≤ t → t < first + n → t % n ≡ k → get_or filled k false ≡ false =
      λ t from to place.
      let back : first + (t - first) ≡ t = omega arith
      in ap (λ (z : ℕ). get_or filled z false) (sym (ap (λ (z : ℕ). z % n) back ∙ place))
      ∙ has.taken (t - first) (omega arith)
      in elim (leb_tells first k) [
        | inl le ↦ at k le.1 (omega arith) small
        | inr lt ↦
            let on : (t : ℕ) × (first ≤ t) × (t < first + n) × (t % n ≡ k % n) × (k + n ≤ t) =
            lap first k first n some lt.1 (omega arith)
            in at on.0 on.1 on.2 (on.3 ∙ small)
      ]

module _ {T : Type 0} where
  value_some : (cs : List (Cell T)) (i : ℕ) (c : Cell T) → get_elem? cs i ≡ maybe.some c → value_at cs i ≡ Some c.item
  value_some [] i c is = absurd (maybe.some-ne-none c (sym is))
  value_some (d ∷ cs) zero c is = ap (λ (z : Cell T). Some z.item) (maybe.some-injective d c is)
  value_some (d ∷ cs) (suc i) c is = value_some cs i c is

  value_none : (cs : List (Cell T)) (i : ℕ) → length cs ≤ i → value_at cs i ≡ None
  value_none [] i past = refl
  value_none (d ∷ cs) zero past = absurd (omega arith)
  value_none (d ∷ cs) (suc i) past = value_none cs i (omega arith)

  -- what is so of each cell's item is so of all that are given
  each_item : (P : T → Type 0) (cs : List (Cell T)) → ((i : ℕ) (c : Cell T) → get_elem? cs i ≡ maybe.some c → P c.item)
      → AllByRecursion (λ (p : ℕ × T). P p.1) (map ticket_and_item cs)
  each_item P [] each = tt
  each_item P (c ∷ cs) each = (each 0 c refl, each_item P cs (λ i d is. each (suc i) d is))

  module _ (firsts : List (Option T)) (admits : T → Type 0) (h : List (Entry T no_note)) (places : List (Option T))
      (front n : ℕ) (cs : List (Cell T))
      (lie : LieIn (plain_kind T) firsts (λ place. IfSome place admits) h places front n cs) where
    -- what lies in the places of a ring are values, or nothing
    pub are_values : AreValues places front n cs
    are_values = record {
      in_row = lie.in_row;
      few = lie.few;
      values =
          λ i low.
          elim (at_or_past cs i) [
            | inl here ↦
                let item = lie.items i here.0 here.1
                in item.1 ∙ ap maybe.some (item.3 ∙ sym (value_some cs i here.0 here.1))
            | inr past ↦
                let none = lie.spares i past low
                in none.1 ∙ ap maybe.some (none.3 ∙ sym (value_none cs i past))
          ];
    }

    pub values_admitted : AllByRecursion (λ (p : ℕ × T). admits p.1) (map ticket_and_item cs)
    values_admitted =
        each_item admits cs
        (λ i c at.
        let item = lie.items i c at
        in let I : Option T → Type 0 = λ y. IfSome y admits
        in subst I item.3 item.2)
