-- What a port on a swap ring did first, and what it did then.
use Rattle.std.proofs.Common.{append-nil, arith, ◌⊎◌, ◌≡◌, ℕ, ◌+◌, List, [], ◌∷◌, ◌++◌, None, Option, sym, ap, subst, ◌∙◌, inl, inr}
use Rattle.alog_core.specs.Queue.{Event}
use Rattle.alog_core.specs.History.{Entry}
use Rattle.alog_ring.specs.Known.{PassView}
use Rattle.alog_ring.proofs.SharedCalling.{made_more}
use Rattle.alog_policy.specs.Post.{writes_in}
use Rattle.alog_policy.specs.PortTogether.{rounds_then, seat_after}
use Rattle.alog_policy.specs.SwapPort.{AreBy, SwapMade, IsThere, HandDid, SwapDid, SwapPortDid}
use Rattle.alog_policy.specs.declared.swap_port.SwapPort.{SwapPort}

-- entries of an actor, and then further ones
by_both : {T N : Type 0} (a : ℕ) (es fs : List (Event T)) (xs ys : List (Entry T N)) → AreBy a es xs → AreBy a fs ys
    → AreBy a (es ++ fs) (xs ++ ys)
by_both a [] fs [] ys first then = then
by_both a [] fs (x ∷ xs) ys first then = absurd first
by_both a (e ∷ es) fs [] ys first then = absurd first
by_both a (e ∷ es) fs (x ∷ xs) ys first then = (first.0, first.1, by_both a es fs xs ys first.2 then)

made_both : {T N : Type 0} (a b c : PassView T N) (es fs : List (Event T)) → SwapMade a es b → SwapMade b fs c
    → SwapMade a (es ++ fs) c
made_both {T} {N} a b c es fs first then = record {
  table = then.table ∙ first.table;
  entries = first.entries ++ then.entries;
  by = by_both a.known.actor es fs first.entries then.entries first.by
      (subst (λ n. AreBy n fs then.entries) first.made.actor then.by);
  made = made_more a.known b.known c.known first.entries then.entries first.made then.made;
  rounds = rounds_then a.known b.known c.known es fs first.rounds then.rounds;
}

pass_both : {T N : Type 0} (a b c : PassView T N) (es fs : List (Event T))
    → ((es ≡ []) × (b ≡ a)) ⊎ SwapMade a es b → ((fs ≡ []) × (c ≡ b)) ⊎ SwapMade b fs c
    → ((es ++ fs ≡ []) × (c ≡ a)) ⊎ SwapMade a (es ++ fs) c
pass_both {T} {N} a b c es fs (inl f) (inl t) = inl (ap (λ (l : List (Event T)). l ++ fs) f.0 ∙ t.0, t.1 ∙ f.1)
pass_both {T} {N} a b c es fs (inl f) (inr t) =
    inr (subst (λ (l : List (Event T)). SwapMade a (l ++ fs) c) (sym f.0)
    (subst (λ (p : PassView T N). SwapMade p fs c) f.1 t))
pass_both {T} {N} a b c es fs (inr f) (inl t) =
    inr (subst (λ (l : List (Event T)). SwapMade a (es ++ l) c) (sym t.0)
    (subst (λ (l : List (Event T)). SwapMade a l c) (sym (append-nil es))
    (subst (λ (p : PassView T N). SwapMade a es p) (sym t.1) f)))
pass_both {T} {N} a b c es fs (inr f) (inr t) = inr (made_both a b c es fs f t)

writes_both : {T : Type 0} (es fs : List (Event T)) → writes_in (es ++ fs) ≡ writes_in es + writes_in fs
writes_both [] fs = omega arith
writes_both (e ∷ es) fs = let rest = writes_both es fs in omega (arith, rest)

module _ {B : Type 0} (admits : B → Type 0) where
  hand_both : {T : Type 0} (a b c : Option B) (es fs : List (Event T)) → HandDid admits a es b → HandDid admits b fs c
      → HandDid admits a (es ++ fs) c
  hand_both a b c es fs (inl f) (inl t) =
      let count = writes_both es fs in inl (omega (arith, count, f.0, t.0), t.1 ∙ f.1)
  hand_both a b c es fs (inr f) (inl t) =
      let count = writes_both es fs in
      inr (omega (arith, count, f.0), subst (λ h. IsThere admits h) (sym t.1) f.1)
  hand_both a b c es fs first (inr t) = let count = writes_both es fs in inr (omega (arith, count, t.0), t.1)

  hand_stays : {T : Type 0} (a b : Option B) (es : List (Event T)) → writes_in es ≡ 0 → HandDid admits a es b → b ≡ a
  hand_stays a b es none (inl f) = f.1
  hand_stays a b es none (inr f) = absurd (omega (arith, none, f.0))

module _ {B T W L : Type 0} where
  pub did_both : (a b c : SwapPort B T W L) (es fs : List (Event T)) (k l m n : ℕ) → SwapDid a es k l b → SwapDid b fs m n c
      → SwapDid a (es ++ fs) (k + m) (l + n) c
  did_both a b c es fs k l m n first then = record {
    ring = then.ring ∙ first.ring;
    book = then.book ∙ first.book;
    pass_lent = then.pass_lent ∙ first.pass_lent;
    seat_lent = then.seat_lent ∙ first.seat_lent;
    hand_lent = then.hand_lent ∙ first.hand_lent;
    spare_lent = then.spare_lent ∙ first.spare_lent;
    pace_lent = then.pace_lent ∙ first.pace_lent;
    pass = pass_both a.pass.now b.pass.now c.pass.now es fs first.pass then.pass;
    seat = seat_after a.seat.now b.seat.now c.seat.now k l m n first.seat then.seat;
  }

  module _ (admits : L → B → Type 0) where
    pub swap_together : (a b c : SwapPort B T W L) (es fs : List (Event T)) (k l m n : ℕ) → SwapPortDid admits a es k l b
        → SwapPortDid admits b fs m n c → SwapPortDid admits a (es ++ fs) (k + m) (l + n) c
    swap_together a b c es fs k l m n first then = (
      did_both a b c es fs k l m n first.0 then.0,
      hand_both (admits a.ring.now.ring.limit) a.hand.now b.hand.now c.hand.now es fs first.1
          (subst (λ r. HandDid (admits r.now.ring.limit) b.hand.now fs c.hand.now) first.0.ring then.1),
    )

    -- as long as nothing is written the hand stays empty, and the ring's limit is the same
    pub stays_free : (a b : SwapPort B T W L) (y : B) (es : List (Event T)) (k l : ℕ) → writes_in es ≡ 0
        → SwapPortDid admits a es k l b → (a.hand.now ≡ None) × admits a.ring.now.ring.limit y
        → (b.hand.now ≡ None) × admits b.ring.now.ring.limit y
    stays_free a b y es k l none done is = (
      hand_stays (admits a.ring.now.ring.limit) a.hand.now b.hand.now es none done.1 ∙ is.0,
      subst (λ r. admits r.now.ring.limit y) (sym done.0.ring) is.1,
    )
