-- What the rule of the lane says at its end.
use Rattle.std.proofs.Common.{◌≡◌, ℕ, ◌<◌, List}
use Rattle.std.proofs.Common.{sym, ap, subst, ◌∙◌, inl, inr, arith}
use Rattle.std.specs.List.{AllByRecursion}
use mathlib.Core.Option.{some}
use lib.ListN.{get_elem?}
use Rattle.atomic_table.specs.Table.{State, Final, Seen}
use Rattle.alog_lane.specs.declared.seat.TheConstants.{ALL_PARTS}
use Rattle.alog_lane.specs.declared.view.LockedValue.{LockedValue}
use Rattle.alog_lane.specs.Seats.{Entry, Member, members_of, IsAmong, AreExact, IsFaithful}
use Rattle.alog_lane.specs.Roster.{Stage, Idle, Working, members_by, members_at}
use Rattle.alog_lane.specs.Turns.{Turned, Leads}
use Rattle.alog_lane.specs.Rule.{LaneSight, Ruled}
use Rattle.alog_lane.specs.Calls.{Closes}
use Rattle.alog_lane.proofs.SharedLists.{same_or_not, one_value}
use Rattle.alog_lane.proofs.SharedRosters.{others_have_none, seen_whole, all_members}
use Rattle.alog_lane.proofs.SharedKnowing.{has_parts}

module _ {T I S R : Type 0} (turns : T → S → I → R → T → S → Type 0) (may : T → I → S → Type 0) (first : T) where
  abbrev View : Type 0
  View = LaneSight T I S R

  abbrev Deed : Type 0
  Deed = Turned I S R

  -- the end of a lane: the seat has all parts
  pub closes : (id : ℕ) (v : View) {words : List ℕ} (slots : List (LockedValue T I R S))
      → Final (Seen (λ (s : State (LockedValue T I R S) View). Ruled turns may first s) id v) words slots → v.stage ≡ Idle
      → v.known.parts ≡ ALL_PARTS → IsFaithful v.known
      → {c : LockedValue T I R S} → get_elem? slots 0 ≡ some c → Closes turns first v.known c.value
  closes id v slots final idle all faithful {c} slot =
      let s : State (LockedValue T I R S) View = final.0
      in let r : Ruled turns may first s = final.1.0
      in let at : get_elem? s.views id ≡ some v = final.1.1
      in let mine : members_at id v ≡ members_of v.known = ap (λ (z : Stage Deed T). members_by id v.known z) idle
      in let E : List (Member Deed) → Type 0 = λ l. AreExact l v.known.seen
      in let whole : v.known.seen ≡ r.history = seen_whole first r.history s.views id v r.agrees at all (subst E (sym mine)
      (faithful.own, faithful.joined))
      in let M : List (Member Deed) → Type 0 = λ l. AllByRecursion (λ (x : Entry Deed). IsAmong x.seat l) r.history
      in let H : List (Entry Deed) → Type 0 = λ g. AllByRecursion (λ (x : Entry Deed). IsAmong x.seat (members_of v.known)) g
      in elim r.lock [
        | inl free ↦
            let is : c ≡ free.locked = one_value slots 0 c free.locked slot (final.4 0 free.locked free.home)
            in let value : free.locked.value ≡ c.value = sym (ap (λ (z : LockedValue T I R S). z.value) is)
            in let L : List (Entry Deed) → Type 0 = λ g. Leads turns first g c.value
            in let V : T → Type 0 = λ z. Leads turns first r.history z
            in record {
              faithful = faithful;
              whole = subst H (sym whole) (subst M mine (all_members first r.history s.views id v r.agrees at all));
              leads = subst L (sym whole) (subst V value free.reaches.leads);
            }
        | inr held ↦
            absurd
            (let owner_parts : 0 < held.view.known.parts = has_parts first r.history s.views held.owner held.view r.agrees held.at
            (ap (λ (z : Stage Deed T). members_by held.owner held.view.known z) held.stage)
            in elim (same_or_not held.owner id) [
              | inl same ↦ (let G : ℕ → Type 0 = λ i. get_elem? s.views i ≡ some held.view
                  in let one : held.view ≡ v = one_value s.views id held.view v (subst G same held.at) at
                  in let wrong : ◌≡◌ {A = Stage Deed T} Idle (Working held.value) = sym idle ∙ sym (ap (λ (z : View). z.stage) one)
                  ∙ held.stage in cc)
              | inr other ↦ (let none_there : held.view.known.parts ≡ 0 = others_have_none first r.history s.views id v r.agrees at
                  all held.owner held.view other held.at in absurd (omega arith))
            ])
      ]
