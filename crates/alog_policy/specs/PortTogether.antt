-- What a port did first, and what it did then.
use Rattle.std.proofs.Common.{append-nil, append_assoc, arith, ◌⊎◌, ◌≡◌, ℕ, ◌+◌, List, [], ◌∷◌, ◌++◌, sym, ap, subst, ◌∙◌, inl, inr}
use Rattle.std.proofs.lemmas.List.Sums.{sum_by-append}
use Rattle.alog_core.specs.Queue.{Event}
use Rattle.alog_core.specs.History.{Entry}
use Rattle.alog_ring.specs.Known.{Known, PassView}
use Rattle.alog_ring.specs.Kinds.{no_note}
use Rattle.alog_ring.specs.Made.{Made}
use Rattle.alog_ring.proofs.SharedCalling.{made_more}
use Rattle.alog_lane.specs.Seats as lane
use Rattle.alog_lane.proofs.SharedKnowing.{made_then}
use Rattle.alog_lane.proofs.SharedLists.{each_append}
use Rattle.alog_policy.specs.BookAdds.{Add, items_of, posts_of}
use Rattle.alog_policy.specs.BookCalls.{SeatView}
use Rattle.alog_policy.specs.Port.{Rounds, PassMade, IsOneLoss, SeatCounted, PortDid}
use Rattle.alog_policy.specs.Rounds.{entries_by}
use Rattle.alog_policy.specs.Together.{entries_by-append}
use Rattle.alog_policy.specs.declared.port.Port.{Port}

-- rounds, and then further ones
pub rounds_then : {T N : Type 0} (a b c : Known T N) (es fs : List (Event T)) → Rounds a es b → Rounds b fs c → Rounds a (es ++ fs) c
rounds_then {T} {N} a b c es fs first Rounds.none =
    subst (λ (l : List (Event T)). Rounds a l b) (sym (append-nil es)) first
rounds_then {T} {N} a b c es fs first (Rounds.one {es = gs} {mid = m} e before read answered) =
    subst (λ (l : List (Event T)). Rounds a l c) (append_assoc es gs (e ∷ []))
    (Rounds.one e (rounds_then a b m es gs first before) read answered)
rounds_then {T} {N} a b c es fs first (Rounds.two {es = gs} {mid = m} d e before read also answered) =
    subst (λ (l : List (Event T)). Rounds a l c) (append_assoc es gs (d ∷ e ∷ []))
    (Rounds.two d e (rounds_then a b m es gs first before) read also answered)

pub pass_together : {T : Type 0} (a b c : PassView T no_note) (es fs : List (Event T)) → PassMade a es b → PassMade b fs c
    → PassMade a (es ++ fs) c
pass_together {T} a b c es fs first then =
    let M : List (Entry T no_note) → Type 0 = λ l. Made a.known c.known l in
    let N : ℕ → Type 0 = λ n. Made b.known c.known (entries_by n fs) in
    record {
      table = then.table ∙ first.table;
      made = subst M (sym (entries_by-append a.known.actor es fs))
          (made_more a.known b.known c.known (entries_by a.known.actor es) (entries_by a.known.actor fs) first.made
          (subst N first.made.actor then.made));
      rounds = rounds_then a.known b.known c.known es fs first.rounds then.rounds;
    }

pub seat_together : (a b c : SeatView) (k l m n : ℕ) → SeatCounted a k l b → SeatCounted b m n c
    → SeatCounted a (k + m) (l + n) c
seat_together a b c k l m n first then =
    record {
      table = then.table ∙ first.table;
      adds = first.adds ++ then.adds;
      made = made_then a.known b.known c.known first.adds then.adds first.made then.made;
      ones = each_append IsOneLoss first.adds then.adds first.ones then.ones;
      item_sum = sum_by-append (λ (x : lane.Entry Add). items_of x.deed) first.adds then.adds
          ∙ (λ i. first.item_sum i + then.item_sum i);
      post_sum = sum_by-append (λ (x : lane.Entry Add). posts_of x.deed) first.adds then.adds
          ∙ (λ i. first.post_sum i + then.post_sum i);
    }

pub pass_after : {T : Type 0} (a b c : PassView T no_note) (es fs : List (Event T))
    → ((es ≡ []) × (b ≡ a)) ⊎ PassMade a es b → ((fs ≡ []) × (c ≡ b)) ⊎ PassMade b fs c
    → ((es ++ fs ≡ []) × (c ≡ a)) ⊎ PassMade a (es ++ fs) c
pass_after {T} a b c es fs (inl f) (inl t) = inl (ap (λ (l : List (Event T)). l ++ fs) f.0 ∙ t.0, t.1 ∙ f.1)
pass_after {T} a b c es fs (inl f) (inr t) =
    inr (subst (λ (l : List (Event T)). PassMade a (l ++ fs) c) (sym f.0)
    (subst (λ (p : PassView T no_note). PassMade p fs c) f.1 t))
pass_after {T} a b c es fs (inr f) (inl t) =
    inr (subst (λ (l : List (Event T)). PassMade a (es ++ l) c) (sym t.0)
    (subst (λ (l : List (Event T)). PassMade a l c) (sym (append-nil es))
    (subst (λ (p : PassView T no_note). PassMade a es p) (sym t.1) f)))
pass_after {T} a b c es fs (inr f) (inr t) = inr (pass_together a b c es fs f t)

pub seat_after : (a b c : SeatView) (k l m n : ℕ) → ((k ≡ 0) × (l ≡ 0) × (b ≡ a)) ⊎ SeatCounted a k l b
    → ((m ≡ 0) × (n ≡ 0) × (c ≡ b)) ⊎ SeatCounted b m n c
    → ((k + m ≡ 0) × (l + n ≡ 0) × (c ≡ a)) ⊎ SeatCounted a (k + m) (l + n) c
seat_after a b c k l m n (inl f) (inl t) = inl ((λ i. f.0 i + t.0 i), (λ i. f.1 i + t.1 i), t.2 ∙ f.2)
seat_after a b c k l m n (inl f) (inr t) =
    let items : m ≡ k + m = omega (arith, f.0) in
    let posts : n ≡ l + n = omega (arith, f.1) in
    inr (subst (λ z. SeatCounted a z (l + n) c) items
    (subst (λ z. SeatCounted a m z c) posts (subst (λ (s : SeatView). SeatCounted s m n c) f.2 t)))
seat_after a b c k l m n (inr f) (inl t) =
    let items : k ≡ k + m = omega (arith, t.0) in
    let posts : l ≡ l + n = omega (arith, t.1) in
    inr (subst (λ z. SeatCounted a z (l + n) c) items
    (subst (λ z. SeatCounted a k z c) posts (subst (λ (s : SeatView). SeatCounted a k l s) (sym t.2) f)))
seat_after a b c k l m n (inr f) (inr t) = inr (seat_together a b c k l m n f t)

pub port_together : {T L : Type 0} (a b c : Port T L) (es fs : List (Event T)) (k l m n : ℕ) → PortDid a es k l b
    → PortDid b fs m n c → PortDid a (es ++ fs) (k + m) (l + n) c
port_together a b c es fs k l m n first then =
    record {
      ring = then.ring ∙ first.ring;
      book = then.book ∙ first.book;
      pass_lent = then.pass_lent ∙ first.pass_lent;
      seat_lent = then.seat_lent ∙ first.seat_lent;
      pass = pass_after a.pass.now b.pass.now c.pass.now es fs first.pass then.pass;
      seat = seat_after a.seat.now b.seat.now c.seat.now k l m n first.seat then.seat;
    }
