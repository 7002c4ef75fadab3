-- One turn, put together: the lock was got, the turn was taken, and the lock was given back.
use Rattle.std.proofs.Common.{◌≡◌, ℕ, ◌+◌, ◌%◌, ◌^◌, Option, None, Some, List, [], ◌∷◌, ◌++◌, get_or, sym, ap, subst, ◌∙◌}
use Rattle.std.proofs.lemmas.List.{append-nil}
use mathlib.Core.List.{IsPrefix}
use Rattle.atomic_table.specs.Table.{State, Me, Allows, rest, carried_after}
use Rattle.alog_lane.specs.declared.view.LockedValue.{LockedValue}
use Rattle.alog_lane.specs.declared.view.Done.{Done}
use Rattle.alog_lane.specs.Seats.{Entry, Known, Made, IsFaithful}
use Rattle.alog_lane.specs.Roster.{Working}
use Rattle.alog_lane.specs.Turns.{Turned, Turns, Leads}
use Rattle.alog_lane.specs.Rule.{LaneSight, Keeps, index_after, Ruled}
use Rattle.alog_lane.specs.Plays.{Got, Took, GaveBack, gave_back, last_is}
use Rattle.alog_lane.specs.Calls.{TakesTurn}
use Rattle.alog_lane.proofs.SharedLists.{prefix_longer}
use Rattle.alog_lane.proofs.SharedSteps.{gives_back, index_more, leads_more}

-- one first value
pub same_first : {A : Type 0} (a b : A) → Some a ≡ Some b → a ≡ b
same_first a b e = cc

-- the last turn is one alone
one_last : {T I S R : Type 0} (o : Option (Done T I R S)) (t u : Turned I S R) → last_is o t → last_is o u → t ≡ u
one_last None t u first second = absurd first
one_last (Some d) t u first second = sym first ∙ second

module _ {T I S R : Type 0} (turns : T → S → I → R → T → S → Type 0) (may : T → I → S
    → Type 0) (deed : Turned I S R) (index : ℕ) (m0 m1 m2 : Me (LockedValue T I R S) (LaneSight T I S R)) (got : Got turns may m0 m1)
    (took : Took turns may deed index m1 m2) where
  abbrev Slot : Type 0
  Slot = LockedValue T I R S

  -- the turn was taken at the value that was found
  found : took.old ≡ got.locked
  found = ap (λ (l : List (ℕ × Slot)). (get_or l 0 (0, took.old)).1) (sym took.was ∙ got.taken)

  abbrev entry : Entry (Turned I S R)
  entry = record { seat = m0.0.known.seat; deed = deed }

  same_known : m2.0.known ≡ m1.0.known
  same_known = ap (λ (v : LaneSight T I S R). v.known) took.view

  seat_is : m2.0.known.seat ≡ m0.0.known.seat
  seat_is = ap (λ (k : Known (Turned I S R)). k.seat) same_known ∙ got.looks.seat

  turn_found : Turns turns got.locked.value deed took.new.value
  turn_found = let P : Slot → Type 0 = λ c. Turns turns c.value deed took.new.value in subst P found took.turn

  -- the lock may be given back
  pub may_give_back : (first : T) (slots id : ℕ)
      → Allows (λ (s : State Slot (LaneSight T I S R)). Ruled turns may first s) slots id m2 0 (λ _. 0) (λ _ m. gave_back m2 m)
  may_give_back first slots id s r wide at fits =
      let stage : m2.0.stage ≡ Working got.locked.value = ap (λ (v : LaneSight T I S R). v.stage) took.view ∙ got.stage
      in let K : Slot → Type 0 = λ c. Keeps may c.value took.new.value
      in let seen : m1.0.known.seen ≡ m2.0.known.seen = ap (λ (k : Known (Turned I S R)). k.seen) (sym same_known)
      in let its : Entry (Turned I S R) = record { seat = m2.0.known.seat; deed = deed }
      in let count : took.new.turns ≡ index_after (m2.0.known.seen ++ its ∷ []) =
      took.count ∙ ap (λ (n : ℕ). (n + 1) % 2 ^ 64) (sym took.index_is ∙ ap (λ (c : Slot). c.turns) found ∙ got.count
      ∙ ap (λ (h : List (Entry (Turned I S R))). index_after h) seen) ∙ index_more m2.0.known.seen its
      in let go = gives_back turns may first slots id m2 deed stage took.is turn_found (subst K found took.keeps) count s r wide at fits
      in (
        go.0,
        go.1,
        go.2,
        go.3,
        λ c t is last.
            let same : c ≡ took.new = ap (λ (l : List (ℕ × Slot)). (get_or l 0 (0, c)).1) (sym is ∙ took.is)
            in let L : Slot → Type 0 = λ z. last_is z.last.value t
            in let one : deed ≡ t = one_last took.new.last.value deed t took.last (subst L same last)
            in let G : Turned I S R → Type 0 = λ z. GaveBack z m2 (go.0, carried_after m2.1 go.1)
            in subst G one go.4,
      )

  -- the turn is the next of the history
  pub turn_taken : (m3 : Me Slot (LaneSight T I S R)) → IsFaithful m0.0.known → gave_back m2 m3
      → TakesTurn turns got.first m0.0.known m3.0.known deed index
  turn_taken m3 faithful gave =
      let back : GaveBack deed m2 m3 = gave took.new deed (took.is
      ∙ ap (λ (l : List (ℕ × Slot)). (0, took.new) ∷ rest l) (sym took.is)) took.last
      in let E : ℕ → List (Entry (Turned I S R)) = λ n. record { seat = n; deed = deed } ∷ []
      in let seen : m3.0.known.seen ≡ m1.0.known.seen ++ entry ∷ [] = back.seen ∙ (λ i. (same_known i).seen ++ E (seat_is i))
      in let own : m3.0.known.own ≡ m0.0.known.own ++ entry ∷ [] = back.made.own ∙ (λ i. (same_known i).own ++ E (seat_is i))
      ∙ ap (λ (l : List (Entry (Turned I S R))). l ++ entry ∷ []) (got.looks.own ∙ append-nil m0.0.known.own)
      in let made : Made m0.0.known m3.0.known (entry ∷ []) = record {
        seat = back.made.seat ∙ seat_is;
        parts = back.made.parts ∙ ap (λ (k : Known (Turned I S R)). k.parts) same_known ∙ got.looks.parts;
        joined = back.made.joined ∙ ap (λ (k : Known (Turned I S R)). k.joined) same_known ∙ got.looks.joined;
        seen = (let P : List (Entry (Turned I S R)) → Type 0 = λ h. IsPrefix m0.0.known.seen h
            in subst P (sym seen) (prefix_longer m0.0.known.seen m1.0.known.seen (entry ∷ []) got.looks.seen));
        own = own;
        faithful = back.made.faithful;
      }
      in let L : List (Entry (Turned I S R)) → Type 0 = λ h. Leads turns got.first h took.new.value
      in record {
        made = made;
        before = m1.0.known.seen;
        longer = got.looks.seen;
        alone = λ all. got.alone all faithful;
        ends = seen;
        place = sym took.index_is ∙ ap (λ (c : Slot). c.turns) found ∙ got.count;
        value = took.new.value;
        leads = subst L (sym seen) (leads_more turns got.first m1.0.known.seen got.locked.value entry took.new.value
            got.reaches.leads turn_found);
      }
