-- One push or one pop of a port on a swap ring.
use Rattle.std.proofs.Common.{◌≡◌, ℕ, List, [], ◌∷◌, refl, sym, subst, ◌∙◌, inl, inr, lit<}
use Rattle.std.specs.Prelude.{Option, None}
use Rattle.alog_core.specs.Queue.{Event, Claim, Write, Grab, Take}
use Rattle.alog_core.specs.Queue as queue
use Rattle.alog_core.specs.History.{Entry}
use Rattle.alog_ring.specs.Known.{IsPassOf}
use Rattle.alog_ring.specs.Made.{Made}
use Rattle.alog_ring.specs.Calls.{PushedAs, PoppedAs}
use Rattle.alog_ring.specs.Refused as ring
use Rattle.alog_ring.specs.declared.push.PushError.{PushError}
use Rattle.alog_ring.specs.declared.push.PushError.TheVariants.{Full, Busy, Spent}
use Rattle.alog_ring.specs.declared.pop.PopError.{PopError}
use Rattle.alog_ring.specs.declared.pop.PopError.TheVariants as pop
use Rattle.alog_policy.specs.BookAdds.{Overran}
use Rattle.alog_policy.specs.BookCalls.{IsSeatOf, Adds}
use Rattle.alog_policy.specs.Outlet as outlet
use Rattle.alog_policy.specs.Port.{Rounds}
use Rattle.alog_policy.specs.SwapPort.{AreBy, IsThere, HandDid, IsSwapFit, SwapDid, SwapPortDid}
use Rattle.alog_policy.specs.declared.swap_port.SwapPort.{SwapPort}
use Rattle.alog_policy.proofs.Ports.{counted_overran}

module _ {B T W L : Type 0} (admits : L → B → Type 0) (a b : SwapPort B T W L) (fit : IsSwapFit admits a) where
  -- what belonged belongs still
  pub swap_fit_still : (es : List (Event T)) (k l : ℕ) → SwapDid a es k l b
      → IsThere (admits a.ring.now.ring.limit) b.spare.now → IsSwapFit admits b
  swap_fit_still es k l did there = (pass_fits, seat_fits, subst (λ r. IsThere (admits r.now.ring.limit) b.spare.now) (sym did.ring) there) where
    pass_here : IsPassOf a.ring.now.ring b.pass.now
    pass_here = elim did.pass [
      | inl same ↦ subst (λ p. IsPassOf a.ring.now.ring p) (sym same.1) fit.0
      | inr made ↦ record {
        table = made.table ∙ fit.0.table;
        places = made.made.places ∙ fit.0.places;
        first = made.made.first ∙ fit.0.first;
      }
    ]

    pass_fits : IsPassOf b.ring.now.ring b.pass.now
    pass_fits = subst (λ r. IsPassOf r.now.ring b.pass.now) (sym did.ring) pass_here

    seat_here : IsSeatOf a.book.now b.seat.now
    seat_here = elim did.seat [
      | inl same ↦ subst (λ s. IsSeatOf a.book.now s) (sym same.2) fit.1
      | inr counted ↦ record { table = counted.table ∙ fit.1.table }
    ]

    seat_fits : IsSeatOf b.book.now b.seat.now
    seat_fits = subst (λ r. IsSeatOf r.now b.seat.now) (sym did.book) seat_here

  module _ (ring_is : b.ring ≡ a.ring) (book_is : b.book ≡ a.book) (pass_is : b.pass.ghost_name ≡ a.pass.ghost_name)
      (lent : b.seat.ghost_name ≡ a.seat.ghost_name) (hand_is : b.hand.ghost_name ≡ a.hand.ghost_name)
      (spare_is : b.spare.ghost_name ≡ a.spare.ghost_name) (pace_is : b.pace.ghost_name ≡ a.pace.ghost_name) (new : IsPassOf a.ring.now.ring b.pass.now) where
    module _ (seat_is : b.seat.now ≡ a.seat.now) (es : List (Event T)) (entries : List (Entry T (Option B)))
        (by : AreBy a.pass.now.known.actor es entries) (made : Made a.pass.now.known b.pass.now.known entries)
        (rounds : Rounds a.pass.now.known es b.pass.now.known)
        (hand : HandDid (admits a.ring.now.ring.limit) a.hand.now es b.hand.now) where
      pub swap_did : SwapPortDid admits a es 0 0 b
      swap_did = (
        record {
          ring = ring_is;
          book = book_is;
          pass_lent = pass_is;
          seat_lent = lent;
          hand_lent = hand_is;
          spare_lent = spare_is;
          pace_lent = pace_is;
          pass = inr (record { table = new.table ∙ sym fit.0.table; entries = entries; by = by; made = made; rounds = rounds });
          seat = inl (refl, refl, seat_is);
        },
        hand,
      )

    module _ (seat_is : b.seat.now ≡ a.seat.now) where
      pub swap_pushed : (t : ℕ) (x : T) → PushedAs None a.pass.now.known b.pass.now.known t x
          → IsThere (admits a.ring.now.ring.limit) b.hand.now → SwapPortDid admits a (Claim t x ∷ Write t ∷ []) 0 0 b
      swap_pushed t x pushed there = swap_did seat_is (Claim t x ∷ Write t ∷ []) _ (refl, refl, (refl, refl, tt)) pushed.0
          (Rounds.two (Claim t x) (Write t) Rounds.none tt tt (None, None, pushed)) (inr (lit< tt, there))

      module _ (hand_same : b.hand.now ≡ a.hand.now) (there : IsThere (admits a.ring.now.ring.limit) b.spare.now) where
        pub swap_push_refused : {V : Type 0} (x : V) (e : PushError V)
            → ring.PushRefusedAs None a.pass.now.known b.pass.now.known x e
            → outlet.PushRefused (SwapPortDid admits) (IsSwapFit admits) a x e b
        swap_push_refused x (Full back next) is =
            let d = swap_did seat_is (queue.Full next ∷ []) _ (refl, refl, tt) is.2.0
            (Rounds.one (queue.Full next) Rounds.none is.1 (None, is.2)) (inl (refl, hand_same)) in
            (is.0, (d, swap_fit_still (queue.Full next ∷ []) 0 0 d.0 there))
        swap_push_refused x (Busy back seen) is =
            let d = swap_did seat_is (queue.PushBusy seen ∷ []) _ (refl, refl, tt) is.2.0
            (Rounds.one (queue.PushBusy seen) Rounds.none is.1 (None, is.2)) (inl (refl, hand_same)) in
            (is.0, (d, swap_fit_still (queue.PushBusy seen ∷ []) 0 0 d.0 there))
        swap_push_refused x (Spent back) is =
            let d = swap_did seat_is (queue.Spent ∷ []) _ (refl, refl, tt) is.1.0
            (Rounds.one queue.Spent Rounds.none tt (None, is.1)) (inl (refl, hand_same)) in
            (is.0, (d, swap_fit_still (queue.Spent ∷ []) 0 0 d.0 there))

        pub swap_pop_refused : (e : PopError) → ring.PopRefusedAs None a.pass.now.known b.pass.now.known e
            → outlet.PopRefused (SwapPortDid admits) (IsSwapFit admits) a e b
        swap_pop_refused (pop.Empty next) is =
            let d = swap_did seat_is (queue.Front next ∷ queue.Empty next ∷ []) _ (refl, refl, (refl, refl, tt)) is.1.0
            (Rounds.two (queue.Front next) (queue.Empty next) Rounds.none is.0 is.0 (None, None, is.1)) (inl (refl, hand_same)) in
            (d, swap_fit_still (queue.Front next ∷ queue.Empty next ∷ []) 0 0 d.0 there)
        swap_pop_refused (pop.Idle next) is =
            let d = swap_did seat_is (queue.Front next ∷ queue.Idle next ∷ []) _ (refl, refl, (refl, refl, tt)) is.1.0
            (Rounds.two (queue.Front next) (queue.Idle next) Rounds.none is.0 is.0 (None, None, is.1)) (inl (refl, hand_same)) in
            (d, swap_fit_still (queue.Front next ∷ queue.Idle next ∷ []) 0 0 d.0 there)
        swap_pop_refused (pop.Busy seen) is =
            let d = swap_did seat_is (queue.PopBusy seen ∷ []) _ (refl, refl, tt) is.1.0
            (Rounds.one (queue.PopBusy seen) Rounds.none is.0 (None, is.1)) (inl (refl, hand_same)) in
            (d, swap_fit_still (queue.PopBusy seen ∷ []) 0 0 d.0 there)

    pub swap_overran : (t : ℕ) (x : T) (note : Option B) → PoppedAs None note a.pass.now.known b.pass.now.known t x
        → b.hand.now ≡ a.hand.now → IsThere (admits a.ring.now.ring.limit) b.spare.now → IsSeatOf a.book.now b.seat.now
        → Adds a.seat.now.known b.seat.now.known (Overran 1)
        → outlet.Overran (SwapPortDid admits) (IsSwapFit admits) a t b
    swap_overran t x note popped hand_same there seat adds =
        let d : SwapDid a (Grab t ∷ Take t x ∷ []) 1 0 b = record {
          ring = ring_is;
          book = book_is;
          pass_lent = pass_is;
          seat_lent = lent;
          hand_lent = hand_is;
          spare_lent = spare_is;
          pace_lent = pace_is;
          pass = inr (record {
            table = new.table ∙ sym fit.0.table;
            entries = _;
            by = (refl, refl, (refl, refl, tt));
            made = popped.0;
            rounds = Rounds.two (Grab t) (Take t x) Rounds.none tt tt (None, note, popped);
          });
          seat = inr (counted_overran a.book.now a.seat.now b.seat.now fit.1 seat adds);
        } in ((x, (d, inl (refl, hand_same))), swap_fit_still (Grab t ∷ Take t x ∷ []) 1 0 d there)
