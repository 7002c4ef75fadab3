-- Seats split off and joined keep the rule of the lane.
use Rattle.std.proofs.Common.{◌≡◌, ℕ, ◌<◌, [], ◌∷◌, ◌++◌, set}
use Rattle.std.proofs.Common.{sym, ap, subst, ◌∙◌, inl, inr}
use mathlib.Core.Option.{some}
use lib.ListN.{get_elem?}
use Rattle.atomic_table.specs.Table.{State, Splits, Joins}
use Rattle.atomic_table.proofs.Lists.{at_set, set_else, at_longer}
use Rattle.alog_lane.specs.declared.view.LockedValue.{LockedValue}
use Rattle.alog_lane.specs.Roster.{Stage, Idle, Fresh, Joined, Working, Gone, kept_part}
use Rattle.alog_lane.specs.Roster.{given_part, taking_in, gone}
use Rattle.alog_lane.specs.Turns.{Turned}
use Rattle.alog_lane.specs.Rule.{LaneSight, Ruled}
use Rattle.alog_lane.proofs.SharedLists.{same_or_not, one_value, at_end}
use Rattle.alog_lane.proofs.SharedSteps.{lock_stays}
use Rattle.alog_lane.proofs.SharedDividing.{agrees_split}
use Rattle.alog_lane.proofs.SharedJoining.{agrees_join}

module _ {T I S R : Type 0} (turns : T → S → I → R → T → S → Type 0) (may : T → I → S → Type 0) (first : T) where
  abbrev View : Type 0
  View = LaneSight T I S R

  abbrev Deed : Type 0
  Deed = Turned I S R

  -- a seat is cut in two
  pub splits : (id parts : ℕ) (v : View) → v.stage ≡ Idle → parts < v.known.parts → 0 < parts
      → Splits (λ (s : State (LockedValue T I R S) View). Ruled turns may first s) id v (kept_part parts v) (given_part parts v)
  splits id parts v idle fewer some_parts s r at =
      let left : View = kept_part parts v
      in let right : View = given_part parts v
      in record {
        history = r.history;
        agrees = agrees_split first r.history s.views id parts v r.agrees at idle fewer some_parts;
        words = r.words;
        homes = r.homes;
        lock =
            lock_stays turns may first r.history s.words s.homes s.views (set s.views id left ++ right ∷ [])
            (λ b u x e is.
            elim (at_end (set s.views id left) right u b e) [
              | inl old ↦
                  elim (at_set s.views id b left u old) [
                    | inl same ↦ (let wrong : ◌≡◌ {A = Stage Deed T} Idle (Working x) = ap (λ (z : View). z.stage) same.1 ∙ is in cc)
                    | inr other ↦ other.1
                  ]
              | inr last ↦ (let wrong : ◌≡◌ {A = Stage Deed T} Fresh (Working x) = ap (λ (z : View). z.stage) last.1 ∙ is in cc)
            ])
            (λ b u x e is.
            elim (same_or_not b id) [
              | inl same ↦ absurd (let G : ℕ → Type 0 = λ i. get_elem? s.views i ≡ some u
                  in let one : u ≡ v = one_value s.views id u v (subst G same e) at
                  in let wrong : ◌≡◌ {A = Stage Deed T} Idle (Working x) = sym idle ∙ sym (ap (λ (z : View). z.stage) one) ∙ is
                  in cc)
              | inr other ↦ at_longer (set s.views id left) (right ∷ []) b u (set_else s.views id b left other ∙ e)
            ])
            r.lock;
      }

  -- a seat takes another in
  pub joins : (id o : ℕ) (v w : View) → v.stage ≡ Idle → w.stage ≡ Idle → 0 < v.known.parts
      → Joins (λ (s : State (LockedValue T I R S) View). Ruled turns may first s) id v o w (taking_in v w) gone
  joins id o v w idle other_idle some_parts s r at apart e =
      let both : View = taking_in v w
      in let at_other : get_elem? s.views o ≡ some w = sym (set_else s.views id o both apart) ∙ e
      in let calm : (u z : View) (b j : ℕ) (x : T) → z.stage ≡ Idle → get_elem? s.views j ≡ some z → b ≡ j
      → get_elem? s.views b ≡ some u → u.stage ≡ Working x → ⊥ =
      λ u z b j x still there same found is. let G : ℕ → Type 0 = λ i. get_elem? s.views i ≡ some u
      in let one : u ≡ z = one_value s.views j u z (subst G same found) there
      in let wrong : ◌≡◌ {A = Stage Deed T} Idle (Working x) = sym still ∙ sym (ap (λ (y : View). y.stage) one) ∙ is in cc
      in record {
        history = r.history;
        agrees = agrees_join first r.history s.views id o v w r.agrees at at_other apart idle other_idle some_parts;
        words = r.words;
        homes = r.homes;
        lock =
            lock_stays turns may first r.history s.words s.homes s.views (set (set s.views id both) o gone)
            (λ b u x g is.
            elim (at_set (set s.views id both) o b gone u g) [
              | inl same ↦ (let wrong : ◌≡◌ {A = Stage Deed T} Gone (Working x) = ap (λ (z : View). z.stage) same.1 ∙ is in cc)
              | inr other ↦
                  elim (at_set s.views id b both u other.1) [
                    | inl same ↦ (let wrong : ◌≡◌ {A = Stage Deed T} (Joined w.known.seen) (Working x) = ap
                        (λ (z : View). z.stage) same.1 ∙ is in cc)
                    | inr old ↦ old.1
                  ]
            ])
            (λ b u x g is.
            elim (same_or_not b id) [
              | inl same ↦ absurd (calm u v b id x idle at same g is)
              | inr not_id ↦
                  elim (same_or_not b o) [
                    | inl same ↦ absurd (calm u w b o x other_idle at_other same g is)
                    | inr not_o ↦ set_else (set s.views id both) o b gone not_o ∙ set_else s.views id b both not_id ∙ g
                  ]
            ])
            r.lock;
      }
