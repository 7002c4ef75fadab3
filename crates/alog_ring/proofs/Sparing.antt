-- The spare for a ticket stays what it is after the ticket's claim.
use Rattle.std.proofs.Common.{◌≡◌, ◌≢◌, ℕ, ◌+◌, ◌<◌, ◌≤◌, None, List, [], ◌∷◌, ◌++◌, inl, inr, sym, ap, subst, ◌∙◌}
use Rattle.std.proofs.Common.{arith, append_assoc}
use Rattle.std.proofs.lemmas.List.{append-nil}
use Rattle.alog_core.specs.Queue as queue
use Rattle.alog_core.specs.Queue.{Queue, Event, Claim, Write, Grab, Take, Full, Front, Empty, PushBusy, PopBusy, Spent, start}
use Rattle.alog_core.specs.Queue.{Allows, after, cell_of}
use Rattle.alog_core.specs.History.{Entry, IsLegal, IsLegalFrom, left_by}
use Rattle.alog_core.proofs.SharedCells.{cell_of-append_other, cell_of-marked_other, cell_of-without_other}
use Rattle.alog_core.proofs.SharedHistories.{left_by-append, legal_second, last_is_allowed}
use Rattle.alog_ring.specs.Kinds.{PlaceKind}
use Rattle.alog_ring.specs.Known.{Known}
use Rattle.alog_ring.specs.Made.{entry}
use Rattle.alog_ring.specs.Board.{SwapsIn}
use Rattle.alog_ring.proofs.SharedCalling.{adds_after, Filled}
use Rattle.alog_core.proofs.SharedLaps.{same_or_not}
use Rattle.alog_ring.proofs.SharedLists.{not_both}

-- a ticket that was claimed before, and has no cell any more
abbrev pub IsGone : {T : Type 0} → ℕ → Queue T → Type 0
IsGone u q = (cell_of u q.cells ≡ None) × (u < q.next)

gone_after : {T : Type 0} (n u a : ℕ) (q : Queue T) (e : Event T) → Allows n q a e → IsGone u q → IsGone u (after q a e)
gone_after n u a q (Claim t x) may gone =
    let apart : t ≢ u = omega (arith, may.0, gone.1)
    in (cell_of-append_other u q.cells _ apart ∙ gone.0, omega (arith, gone.1))
gone_after n u a q (Write t) may gone =
    elim (same_or_not t u) [
      | inl same ↦ not_both (ap (λ (z : ℕ). cell_of z q.cells) same ∙ gone.0) may.1
      | inr other ↦ (cell_of-marked_other u t _ a q.cells other ∙ gone.0, gone.1)
    ]
gone_after n u a q (Grab t) may gone =
    elim (same_or_not t u) [
      | inl same ↦ not_both (ap (λ (z : ℕ). cell_of z q.cells) same ∙ gone.0) may.1.2
      | inr other ↦ (cell_of-marked_other u t _ a q.cells other ∙ gone.0, gone.1)
    ]
gone_after n u a q (Take t x) may gone =
    elim (same_or_not t u) [
      | inl same ↦ not_both (ap (λ (z : ℕ). cell_of z q.cells) same ∙ gone.0) may
      | inr other ↦ (cell_of-without_other u t q.cells other ∙ gone.0, gone.1)
    ]
gone_after n u a q (Full t) may gone = gone
gone_after n u a q (Front t) may gone = gone
gone_after n u a q (Empty t) may gone = gone
gone_after n u a q (queue.Idle t) may gone = gone
gone_after n u a q (PushBusy t) may gone = gone
gone_after n u a q (PopBusy t) may gone = gone
gone_after n u a q Spent may gone = gone

module _ {S T N : Type 0} (kind : PlaceKind S T N) (firsts : List S) where
  -- the spare for a ticket, the one a lap before which is gone, stays
  spare_kept : (n : ℕ) {t : ℕ} (q : Queue T) (h more : List (Entry T N)) (y : S) → IsLegalFrom n q more
      → ((u : ℕ) → u + n ≡ t → IsGone u q) → kind.spare firsts n h t y → kind.spare firsts n (h ++ more) t y
  spare_kept n {t} q h [] y legal gone is =
      subst (λ (l : List (Entry T N)). kind.spare firsts n l t y) (sym (append-nil h)) is
  spare_kept n {t} q h (x ∷ more) y legal gone is =
      let no_take : (u : ℕ) (z : T) → x.event ≡ Take u z → u + n ≢ t =
      λ u z take apart. let may : Allows n q x.actor (Take u z) = subst (Allows n q x.actor) take legal.0 in
      not_both (gone u apart).0 may
      in let now : kind.spare firsts n (h ++ x ∷ []) t y = kind.stays firsts n h x t no_take y is
      in subst (λ (l : List (Entry T N)). kind.spare firsts n l t y) (append_assoc h (x ∷ []) more)
      (spare_kept n {t = t} (after q x.actor x.event) (h ++ x ∷ []) more y legal.1
      (λ u e. gone_after n u x.actor q x.event legal.0 (gone u e)) now)

  -- what was swapped with a place, as the pass knows it
  pub swaps_in : (old new : Known T N) (t : ℕ) (brought back : S) → 1 ≤ old.places
      → Filled kind firsts old new t brought back → SwapsIn kind firsts old new t brought back
  swaps_in old new t brought back some did =
      let k : Known T N = did.claimed
      in let n : ℕ = k.places
      in let some_places : 1 ≤ n = subst (λ (z : ℕ). 1 ≤ z) (sym did.claims.0.places) some
      in let x : Entry T N = entry kind.blank old (Claim t did.item)
      in let before : List (Entry T N) = did.claims.1.0
      in let ends : k.seen ≡ before ++ x ∷ [] = did.claims.1.1
      in let legal : IsLegal n k.first (before ++ x ∷ []) =
      subst (λ (l : List (Entry T N)). IsLegal n k.first l) ends did.claims.0.faithful.legal
      in let q : Queue T = left_by (start k.first) before
      in let may : Allows n q x.actor (Claim t did.item) = last_is_allowed n k.first before x legal
      in let more : List (Entry T N) = did.writes.0.seen.0
      in let is : k.seen ++ more ≡ new.seen = did.writes.0.seen.1
      in let all : IsLegalFrom n (start k.first) (k.seen ++ more) =
      subst (λ (l : List (Entry T N)). IsLegalFrom n (start k.first) l) (sym is)
      (subst (λ (z : ℕ). IsLegalFrom n (start z) new.seen) did.writes.0.first
      (subst (λ (z : ℕ). IsLegalFrom z (start new.first) new.seen) did.writes.0.places did.writes.0.faithful.legal.0))
      in let now : Queue T = left_by (start k.first) k.seen
      in let left : now ≡ after q x.actor x.event =
      ap (λ (l : List (Entry T N)). left_by (start k.first) l) ends ∙ left_by-append (start k.first) before (x ∷ [])
      in let gone : (u : ℕ) → u + n ≡ t → IsGone u now =
      λ u e.
      let apart : t ≢ u = omega (arith, some_places)
      in subst (IsGone u) (sym left)
      (cell_of-append_other u q.cells _ apart ∙ may.2 u e, (let low : u < q.next + 1 = omega (arith, may.0, some_places) in low))
      in let spare : kind.spare firsts n new.seen t back =
      subst (λ (l : List (Entry T N)). kind.spare firsts n l t back) is
      (spare_kept n now k.seen more back (legal_second n (start k.first) k.seen more all) gone did.spare)
      in record {
        item = did.item;
        has = did.has;
        pushed = adds_after kind.blank old k new (x ∷ []) (Write t) did.claims.0 did.writes;
        spare = subst (λ (z : ℕ). kind.spare firsts z new.seen t back) (sym did.writes.0.places) spare;
      }
