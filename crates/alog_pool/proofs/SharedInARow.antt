-- The tickets of what the producers of a pool put in: all from the first one on, since what stops a pool put in come behind them.
use Rattle.std.proofs.Common.{◌≡◌, ◌≢◌, ◌≤◌, ◌<◌, ℕ, zero, suc, ◌+◌, ◌-◌, List, [], ◌++◌, map, Contains, refl, sym, ap, subst, ◌∙◌, inl, inr, arith}
use Rattle.std.specs.List.{AllByRecursion, range_with_len}
use Rattle.std.proofs.lemmas.List.Elements.{Contains-append_left, Contains-append_cases}
use Rattle.alog_core.specs.Accounts.{claimed, claims, issued}
use Rattle.alog_core.specs.History.{Entry, IsLegal, left_by}
use Rattle.alog_core.specs.Queue.{start}
use Rattle.alog_core.proofs.SharedHistories.{legal_before}
use Rattle.alog_core.proofs.SharedTickets.{tickets_are_issued_in_order}
use Rattle.alog_msg.specs.declared.item.Item.{Item}
use Rattle.alog_msg.specs.declared.item.Item.TheVariants.{Text, Flush, Stop}
use Rattle.alog_pool.specs.Accounts.{of_stops, of_work, work}
use Rattle.alog_pool.specs.Back.{pass_member}
use Rattle.alog_pool.specs.Posted.{AreInARow, IsPutIn}
use Rattle.alog_pool.specs.Producer.{ProducerView}
use Rattle.alog_pool.specs.Stops.{AreStops}
use Rattle.alog_pool.proofs.Leaving.{claims_between, none_weighs}
use Rattle.alog_pool.proofs.SharedMoves.{claims-append}
use Rattle.alog_pool.proofs.SharedContained.{later_at, of_map}
use Rattle.alog_pool.proofs.SharedPosted.{One, put_seen, seen_put}
use Rattle.alog_registry.specs.BlockPort.{block_note}
use Rattle.alog_ring.specs.Known.{Known}
use Rattle.alog_ring.specs.Share.{IsWhole}

abbrev Deed : Type 0
Deed = Entry Item block_note

-- the numbers of a row
row_at : (a n k : ℕ) → k < n → Contains (range_with_len a n) (a + k)
row_at a zero k low = absurd (omega (arith, low))
row_at a (suc n) zero low =
    let same : a ≡ a + 0 = omega arith in
    subst (λ (t : ℕ). Contains (range_with_len a (suc n)) t) same (0, omega arith, refl)
row_at a (suc n) (suc k) low =
    let same : a + 1 + k ≡ a + suc k = omega arith in
    subst (λ (t : ℕ). Contains (range_with_len a (suc n)) t) same
    (later_at (a + 1 + k) a (range_with_len (a + 1) n) (row_at (a + 1) n k (omega (arith, low))))

in_range : (t a n : ℕ) → a ≤ t → t < a + n → Contains (range_with_len a n) t
in_range t a n low high =
    let same : a + (t - a) ≡ t = omega (arith, low) in
    subst (λ (u : ℕ). Contains (range_with_len a n) u) same (row_at a n (t - a) (omega (arith, low, high)))

-- what is no stop is work
some_work : (x : Item) → x ≢ Stop → work x ≡ 1
some_work (Text m) other = refl
some_work (Flush n) other = refl
some_work Stop other = absurd (other refl)

no_stop : (x : Item) → of_stops 0 x ≡ 0 → x ≢ Stop
no_stop x none is = let one : of_stops 0 x ≡ 1 = ap (λ (y : Item). of_stops 0 y) is in omega (arith, none, one)

-- The producers of a pool and who took beside them; behind some moment nothing but stops was put in, and before it none.
module _ (producers : List ProducerView) (takers : List One) (end : Known Item block_note) (whole : IsWhole end)
    (members : end.joined ≡ map pass_member producers ++ takers) (stops : AreStops (claims end.own))
    (idle : AllByRecursion (λ (m : One). claims m.own ≡ []) takers) (before later : List Deed) (seen : end.seen ≡ before ++ later)
    (no_stop_before : claimed of_stops before ≡ 0) (only_stops : claimed of_work later ≡ 0) where
  legal : IsLegal end.places end.first before
  legal =
      legal_before end.places end.first before later
      (subst (λ (h : List Deed). IsLegal end.places end.first h) seen whole.faithful.legal)

  all_claims : claims end.seen ≡ claims before ++ claims later
  all_claims = ap (λ (h : List Deed). claims h) seen ∙ claims-append before later

  abbrev next : ℕ
  next = (left_by (start end.first) before).next

  -- what is no stop was put in before
  early : (i : ℕ × Item) → i.1 ≢ Stop → Contains (claims end.seen) i → Contains (claims before) i
  early i other c =
      elim (Contains-append_cases (claims before) (claims later) i (subst (λ (l : List (ℕ × Item)). Contains l i) all_claims c)) [
        | inl first ↦ first
        | inr late ↦
            let none : work i.1 ≡ 0 = none_weighs of_work (claims later) i only_stops late in
            let one = some_work i.1 other in absurd (omega (arith, none, one))
      ]

  bounds : (t : ℕ) → (x : Item) × (x ≢ Stop) × IsPutIn producers (t, x) → (end.first ≤ t) × (t < next)
  bounds t put =
      let put_there = put_seen producers takers end whole members stops idle (t, put.0) put.2 in
      let between = claims_between end.places (start end.first) before (t, put.0) legal.0 (early (t, put.0) put.1 put_there) in
      (between.0, between.1)

  there : (t : ℕ) → (end.first ≤ t) × (t < next) → (x : Item) × (x ≢ Stop) × IsPutIn producers (t, x)
  there t within =
      let order = tickets_are_issued_in_order Item block_note end.places end.first before legal in
      let many : t < end.first + (next - end.first) = let up = order.0 in omega (arith, within.0, within.1, up) in
      let at : Contains (issued before) t =
      subst (λ (ts : List ℕ). Contains ts t) (sym order.1) (in_range t end.first (next - end.first) within.0 many) in
      let i = of_map (λ (p : ℕ × Item). p.0) (claims before) t at in
      let other : i.0.1 ≢ Stop = no_stop i.0.1 (none_weighs of_stops (claims before) i.0 no_stop_before i.1) in
      let claim : Contains (claims end.seen) i.0 =
      subst (λ (l : List (ℕ × Item)). Contains l i.0) (sym all_claims) (Contains-append_left (claims before) (claims later) i.0 i.1) in
      let put = seen_put producers takers end whole members stops idle i.0 other claim in
      (i.0.1, other, subst (λ (u : ℕ). IsPutIn producers (u, i.0.1)) i.2 put)

  pub in_a_row : AreInARow end.first producers
  in_a_row = record {
    end = next;
    few = λ some.
        let put = there (next - 1) (omega (arith, some), omega (arith, some)) in
        let put_there = put_seen producers takers end whole members stops idle (next - 1, put.0) put.2 in
        let all = claims_between end.places (start end.first) end.seen (next - 1, put.0) whole.faithful.legal.0 put_there in
        omega (arith, some, all.2);
    tickets = λ t. (bounds t, there t);
  }
