-- Seats split off and joined: what the steps owe, at the views that they find.
use Rattle.std.proofs.Common.{◌≡◌, ℕ, List, refl, sym, ap, subst}
use Rattle.atomic_table.specs.Table.{State, Me, Allows, carried_after}
use Rattle.alog_lane.specs.declared.view.LockedValue.{LockedValue}
use Rattle.alog_lane.specs.Seats.{Entry, IsFaithful}
use Rattle.alog_lane.specs.Roster.{Stage, Joined, taking_in, given_part}
use Rattle.alog_lane.specs.Turns.{Turned}
use Rattle.alog_lane.specs.Rule.{LaneSight, Ruled}
use Rattle.alog_lane.specs.Plays.{was_named, saw_both}
use Rattle.alog_lane.proofs.SharedKnowing.{old_members}
use Rattle.alog_lane.proofs.SharedSteps.{names, sees_both}

module _ {T I S R : Type 0} (turns : T → S → I → R → T → S → Type 0) (may : T → I → S → Type 0) (first : T) (slots id : ℕ) where
  abbrev View : Type 0
  View = LaneSight T I S R

  -- a seat that has just taken in another
  pub see_both_may : (me : Me (LockedValue T I R S) View) (v w : View) (out : List (ℕ × LockedValue T I R S)) → me ≡ (taking_in v w, out)
      → IsFaithful v.known → IsFaithful w.known
      → Allows (λ (s : State (LockedValue T I R S) View). Ruled turns may first s) slots id me 0 (λ n. n) (λ n m.
      (h : List (Entry (Turned I S R))) → me.0.stage ≡ Joined h → saw_both h me m)
  see_both_may me v w out is mine its =
      let M : Me (LockedValue T I R S) View = (taking_in v w, out)
      in let P : Me (LockedValue T I R S) View → Type 0 = λ m0. Allows (λ
      (s : State (LockedValue T I R S) View). Ruled turns may first s) slots id m0 0 (λ n. n) (λ n m. (h : List
      (Entry (Turned I S R))) → m0.0.stage ≡ Joined h → saw_both h m0 m)
      in subst P (sym is)
      (λ s r wide at fits.
      let go = sees_both turns may first slots id M w.known.seen refl (old_members v.known w.known mine its) s r wide at fits
      in (
        go.0,
        go.1,
        go.2,
        go.3,
        λ h stage.
            let both : ◌≡◌ {A = Stage (Turned I S R) T} (Joined w.known.seen) (Joined h) = stage
            in let same : w.known.seen ≡ h = cc
            in let Q : List (Entry (Turned I S R)) → Type 0 = λ z. saw_both z M (go.0, carried_after M.1 go.1)
            in subst Q same go.4,
      ))

  -- a seat that was just split off
  pub name_may : (me : Me (LockedValue T I R S) View) (v : View) (parts : ℕ) (out : List (ℕ × LockedValue T I R S))
      → me ≡ (given_part parts v, out) → Allows (λ (s : State (LockedValue T I R S) View). Ruled turns may first s) slots id me 0
      (λ n. n) (λ n m. was_named me m)
  name_may me v parts out is = names turns may first slots id me (ap (λ m. m.0.stage) is) (ap (λ m. m.0.known.own) is) (ap
      (λ m. m.0.known.joined) is)
