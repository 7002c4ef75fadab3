-- One push or one pop of a port, and one loss that its seat counts.
use Rattle.std.proofs.Common.{◌≡◌, ℕ, Result, Ok, Err, List, [], ◌∷◌, refl, sym, subst, ◌∙◌, inl, inr}
use Rattle.std.specs.Prelude.{Option, None, Some, IsSome, IfSome, IfOk, IfErr, OnOk}
use Rattle.alog_core.specs.Queue.{Event, Claim, Write, Grab, Take}
use Rattle.alog_core.specs.Queue as queue
use Rattle.alog_ring.specs.Known.{IsPassOf}
use Rattle.alog_ring.specs.Made.{Made}
use Rattle.alog_ring.specs.Calls.{Pushed, Popped}
use Rattle.alog_ring.specs.Refused as ring
use Rattle.alog_ring.specs.declared.push.PushError.{PushError}
use Rattle.alog_ring.specs.declared.push.PushError.TheVariants.{Full, Busy, Spent}
use Rattle.alog_ring.specs.declared.pop.PopError.{PopError}
use Rattle.alog_ring.specs.declared.pop.PopError.TheVariants as pop
use Rattle.alog_policy.specs.BookAdds.{Overran, Discarded}
use Rattle.alog_policy.specs.BookCalls.{BookId, IsSeatOf, SeatView, Adds}
use Rattle.alog_policy.specs.Outlet as outlet
use Rattle.alog_policy.specs.Port.{Rounds, PassMade, SeatCounted, IsFit, PortDid}
use Rattle.alog_policy.specs.Rounds.{entries_by}
use Rattle.alog_policy.specs.declared.port.Port.{Port}

pub counted_overran : (b : BookId) (s t : SeatView) → IsSeatOf b s → IsSeatOf b t → Adds s.known t.known (Overran 1)
    → SeatCounted s 1 0 t
counted_overran b s t old new adds = record {
  table = new.table ∙ sym old.table;
  adds = record { seat = s.known.seat; deed = Overran 1 } ∷ [];
  made = adds.made;
  ones = (inl refl, tt);
  item_sum = refl;
  post_sum = refl;
}

pub counted_discarded : (b : BookId) (s t : SeatView) → IsSeatOf b s → IsSeatOf b t → Adds s.known t.known (Discarded 1)
    → SeatCounted s 0 1 t
counted_discarded b s t old new adds = record {
  table = new.table ∙ sym old.table;
  adds = record { seat = s.known.seat; deed = Discarded 1 } ∷ [];
  made = adds.made;
  ones = (inr refl, tt);
  item_sum = refl;
  post_sum = refl;
}

module _ {T L : Type 0} (a b : Port T L) (fit : IsFit a) where
  -- what belonged belongs still
  pub fit_still : (es : List (Event T)) (k l : ℕ) → PortDid a es k l b → IsFit b
  fit_still es k l did = (pass_fits, seat_fits) where
    pass_here : IsPassOf a.ring.now b.pass.now
    pass_here = elim did.pass [
      | inl same ↦ subst (λ p. IsPassOf a.ring.now p) (sym same.1) fit.0
      | inr made ↦ record {
        table = made.table ∙ fit.0.table;
        places = made.made.places ∙ fit.0.places;
        first = made.made.first ∙ fit.0.first;
      }
    ]

    pass_fits : IsPassOf b.ring.now b.pass.now
    pass_fits = subst (λ r. IsPassOf r.now b.pass.now) (sym did.ring) pass_here

    seat_here : IsSeatOf a.book.now b.seat.now
    seat_here = elim did.seat [
      | inl same ↦ subst (λ s. IsSeatOf a.book.now s) (sym same.2) fit.1
      | inr counted ↦ record { table = counted.table ∙ fit.1.table }
    ]

    seat_fits : IsSeatOf b.book.now b.seat.now
    seat_fits = subst (λ r. IsSeatOf r.now b.seat.now) (sym did.book) seat_here

  -- after a push that went at once
  pub push_fits : (hand : Option T) (r : Result ℕ (PushError (Unit {0}))) → IsSome hand
      → IfOk r (λ t. IfSome hand (λ v. PortDid a (Claim t v ∷ Write t ∷ []) 0 0 b)) → OnOk r (IsFit b)
  push_fits None (Ok t) there did = absurd (cc)
  push_fits (Some v) (Ok t) there did = fit_still (Claim t v ∷ Write t ∷ []) 0 0 did
  push_fits hand (Err e) there did = tt

  -- its pass alone did something
  module _ (ring_is : b.ring ≡ a.ring) (book_is : b.book ≡ a.book) (pass_is : b.pass.ghost_name ≡ a.pass.ghost_name)
      (lent : b.seat.ghost_name ≡ a.seat.ghost_name) (new : IsPassOf a.ring.now b.pass.now) where
    pass_made : (es : List (Event T)) → Made a.pass.now.known b.pass.now.known (entries_by a.pass.now.known.actor es)
        → Rounds a.pass.now.known es b.pass.now.known → PassMade a.pass.now es b.pass.now
    pass_made es made rounds = record { table = new.table ∙ sym fit.0.table; made = made; rounds = rounds }

    module _ (seat_is : b.seat.now ≡ a.seat.now) where
      pub did : (es : List (Event T)) → Made a.pass.now.known b.pass.now.known (entries_by a.pass.now.known.actor es)
          → Rounds a.pass.now.known es b.pass.now.known → PortDid a es 0 0 b
      did es made rounds = record {
        ring = ring_is;
        book = book_is;
        pass_lent = pass_is;
        seat_lent = lent;
        pass = inr (pass_made es made rounds);
        seat = inl (refl, refl, seat_is);
      }

      refused : (es : List (Event T)) → Made a.pass.now.known b.pass.now.known (entries_by a.pass.now.known.actor es)
          → Rounds a.pass.now.known es b.pass.now.known → outlet.Refused PortDid IsFit a es b
      refused es made rounds = let d = did es made rounds in (d, fit_still es 0 0 d)

      pub push_done : (hand : Option T) (r : Result ℕ (PushError (Unit {0})))
          → IfOk r (λ t. IfSome hand (Pushed a.pass.now.known b.pass.now.known t))
          → IfOk r (λ t. IfSome hand (λ x. PortDid a (Claim t x ∷ Write t ∷ []) 0 0 b))
      push_done None (Ok t) pushed = tt
      push_done (Some x) (Ok t) pushed = did (Claim t x ∷ Write t ∷ []) pushed.0 (Rounds.two (Claim t x) (Write t) Rounds.none tt tt (tt, tt, pushed))
      push_done hand (Err e) pushed = tt

      pub push_refused : {V : Type 0} (x : V) (r : Result ℕ (PushError V))
          → IfErr r (λ e. ring.PushRefused a.pass.now.known b.pass.now.known x e)
          → IfErr r (λ e. outlet.PushRefused PortDid IsFit a x e b)
      push_refused x (Ok t) is = tt
      push_refused x (Err (Full back next)) is = (is.0, refused (queue.Full next ∷ []) is.2.0 (Rounds.one (queue.Full next) Rounds.none is.1 (tt, is.2)))
      push_refused x (Err (Busy back seen)) is = (is.0, refused (queue.PushBusy seen ∷ []) is.2.0 (Rounds.one (queue.PushBusy seen) Rounds.none is.1 (tt, is.2)))
      push_refused x (Err (Spent back)) is = (is.0, refused (queue.Spent ∷ []) is.1.0 (Rounds.one queue.Spent Rounds.none tt (tt, is.1)))

      pub pop_refused : (e : PopError) → ring.PopRefused a.pass.now.known b.pass.now.known e
          → outlet.PopRefused PortDid IsFit a e b
      pop_refused (pop.Empty next) is =
          refused (queue.Front next ∷ queue.Empty next ∷ []) is.1.0 (Rounds.two (queue.Front next) (queue.Empty next) Rounds.none is.0 is.0 (tt, tt, is.1))
      pop_refused (pop.Idle next) is =
          refused (queue.Front next ∷ queue.Idle next ∷ []) is.1.0 (Rounds.two (queue.Front next) (queue.Idle next) Rounds.none is.0 is.0 (tt, tt, is.1))
      pop_refused (pop.Busy seen) is = refused (queue.PopBusy seen ∷ []) is.1.0 (Rounds.one (queue.PopBusy seen) Rounds.none is.0 (tt, is.1))

    pub overran : (t : ℕ) (y : T) → Popped a.pass.now.known b.pass.now.known t y → IsSeatOf a.book.now b.seat.now
        → Adds a.seat.now.known b.seat.now.known (Overran 1) → outlet.Overran PortDid IsFit a t b
    overran t y popped seat adds =
        let d : PortDid a (Grab t ∷ Take t y ∷ []) 1 0 b = record {
          ring = ring_is;
          book = book_is;
          pass_lent = pass_is;
          seat_lent = lent;
          pass = inr (pass_made (Grab t ∷ Take t y ∷ []) popped.0 (Rounds.two (Grab t) (Take t y) Rounds.none tt tt (tt, tt, popped)));
          seat = inr (counted_overran a.book.now a.seat.now b.seat.now fit.1 seat adds);
        } in ((y, d), fit_still (Grab t ∷ Take t y ∷ []) 1 0 d)
