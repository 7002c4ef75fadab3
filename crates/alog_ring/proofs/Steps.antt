-- Each step of a push and of a pop may be made at the table, and tells what its play says.
use Rattle.std.proofs.Common.{◌≡◌, ℕ, ◌+◌, ◌%◌, ◌<◌, ◌≤◌, eqb, Some, None, List, [], ◌∷◌, ◌++◌, length, get_or, refl, sym, ap, subst}
use Rattle.std.proofs.Common.{◌∙◌, inl, inr, arith}
use mathlib.Core.Option.{Option, some}
use prog.Atomic.{either}
use Rattle.atomic_table.specs.Table.{State, Me, Act, keeps, takes, gives, Valid, stepped, carried_after, step, Allows}
use Rattle.atomic_table.proofs.Lists.{exchanged}
use Rattle.alog_core.specs.declared.mark.Mark.TheVariants.{Claimed, Emptying}
use Rattle.alog_core.specs.Queue as queue
use Rattle.alog_core.specs.Queue.{Queue, Event, Claim, Write, Grab, Take, Full, Front, Empty, PushBusy, PopBusy, Spent, last}
use Rattle.alog_core.specs.Queue.{HasCell, IsRoom, IsWritten}
use Rattle.alog_core.specs.History.{Entry, last_event, latest}
use Rattle.alog_ring.specs.declared.words.TheConstants.{NEXT, FRONT}
use Rattle.alog_ring.specs.Kinds.{PlaceKind}
use Rattle.alog_ring.specs.Known.{Known}
use Rattle.alog_ring.specs.Made.{entry}
use Rattle.alog_ring.specs.Sight.{Stage, Idle, SawNext, SawFree, Writing, SawFront, SawFull, Reading, SawUnwritten, Sight}
use Rattle.alog_ring.specs.Plays.{saw_next, saw_free, claimed, wrote, saw_front, saw_full, saw_end, grabbed, took}
use Rattle.alog_ring.specs.Rule.{IsAtWork, seq_of, Ruled}
use Rattle.alog_core.proofs.SharedLaps.{same_or_not}
use Rattle.alog_ring.proofs.Turning.{IsFree}
use Rattle.alog_ring.proofs.Looking.{push_look, pop_look}
use Rattle.alog_ring.proofs.Telling.{grown}
use Rattle.alog_ring.proofs.SharedStepping.{sound_now, knows_now, seen_behind, looks, latest_now, last_made, tells, refuses}
use Rattle.alog_ring.proofs.Acting.{claim_step, write_step, grab_step, take_step}

-- the stages at which a seat has no cell
module _ {T N : Type 0} where
  free_at : (s z : Stage T N) → s ≡ z → IsFree z → IsFree s
  free_at s z e free = let P : Stage T N → Type 0 = λ y. IsFree y in subst P (sym e) free

  idle_free : IsFree {T = T} {N = N} Idle
  idle_free = (λ p x e. cc, λ p x e. cc)

  saw_next_free : (t : ℕ) → IsFree {T = T} {N = N} (SawNext t)
  saw_next_free t = (λ p x e. cc, λ p x e. cc)

  saw_free_free : (t : ℕ) → IsFree {T = T} {N = N} (SawFree t)
  saw_free_free t = (λ p x e. cc, λ p x e. cc)

  saw_head_free : (t : ℕ) → IsFree {T = T} {N = N} (SawFront t)
  saw_head_free t = (λ p x e. cc, λ p x e. cc)

  saw_full_free : (t : ℕ) → IsFree {T = T} {N = N} (SawFull t)
  saw_full_free t = (λ p x e. cc, λ p x e. cc)

  saw_unwritten_free : (t : ℕ) → IsFree {T = T} {N = N} (SawUnwritten t)
  saw_unwritten_free t = (λ p x e. cc, λ p x e. cc)

module _ {S T N : Type 0} (kind : PlaceKind S T N) (firsts : List S) (n f : ℕ) (slots id : ℕ) (me : Me S (Sight T N)) where
  abbrev Holds : State S (Sight T N) → Type 0
  Holds s = Ruled kind.has (kind.spare firsts) n f s

  -- what a step at the word i has to give: a view and an act that keep the rule, and what the play tells
  abbrev Goes : State S (Sight T N) → ℕ → (Me S (Sight T N) → Type 0) → ℕ → Type 0
  Goes s i told new = (w : Sight T N) × (a : Act S) × Valid s.homes me.1 a
      × Ruled kind.has (kind.spare firsts) n f (stepped s i new id me.1 w a) × told (w, carried_after me.1 a)

  pub sees_next : me.0.stage ≡ Idle → Allows Holds slots id me NEXT (λ y. y) (λ y m. saw_next kind.blank me y m)
  sees_next idle s r wide at _ =
      let y : ℕ = get_or s.words NEXT 0
      in let is : y ≡ r.queue.next = r.shown.next
      in let work : IsAtWork id me.0.known = knows_now kind firsts n f s r id me.0 at Idle idle
      in let free : IsFree me.0.stage = free_at me.0.stage Idle idle idle_free
      in let seen = (seen_behind kind firsts n f s r id me.0 at work.1).0
      in let bounded : r.queue.next ≤ last = r.shown.bounded
      in elim (same_or_not y last) [
        | inl end ↦
            let done = refuses kind firsts n f s r id me.0 at NEXT work free Spent (sym is ∙ end) tt (refl, λ u x e. cc)
            in (
              record { stage = Idle; known = grown me.0.known r.history (entry kind.blank me.0.known Spent ∷ []) },
              keeps,
              tt,
              done.0,
              (omega (arith, is, seen), omega (arith, is), λ _. ((done.1, refl), refl), λ low. absurd (omega arith)),
            )
        | inr more ↦
            let done = looks kind firsts n f s r id me.0 at NEXT work free (SawNext y) (work, omega (arith, is))
            in (
              record { stage = SawNext y; known = grown me.0.known r.history [] },
              keeps,
              tt,
              done.0,
              (omega (arith, is, seen), omega (arith, is), λ end. absurd (more end), λ _. (done.1, refl, refl)),
            )
      ]

  pub sees_free : (t : ℕ) → me.0.stage ≡ SawNext t
      → Allows Holds slots id me (seq_of n t) (λ y. y) (λ y m. saw_free kind.blank t me y m)
  sees_free t stage s r wide at _ =
      let i : ℕ = seq_of n t
      in let y : ℕ = get_or s.words (seq_of n t) 0
      in let knows : IsAtWork id me.0.known × (t ≤ r.queue.next) = knows_now kind firsts n f s r id me.0 at (SawNext t) stage
      in let free : IsFree me.0.stage = free_at me.0.stage (SawNext t) stage (saw_next_free t)
      in elim (push_look kind.has (kind.spare firsts) n r.history r.queue s.words s.homes r.two
      (sound_now kind firsts n f s r id me.0 at) r.shown t knows.1) [
        | inl go ↦
            let e : y ≡ t = go.0
            in let done = looks kind firsts n f s r id me.0 at i knows.0 free (SawFree t) (knows.0, knows.1, go.1)
            in (
              record { stage = SawFree t; known = grown me.0.known r.history [] },
              keeps,
              tt,
              done.0,
              (λ _. (done.1, refl, refl), λ z. absurd (omega arith), λ z. absurd (omega arith)),
            )
        | inr more ↦
            elim more [
              | inl full ↦
                  let low : y < t = full.0
                  in let done = refuses kind firsts n f s r id me.0 at i knows.0 free (Full t) (full.1, full.2) tt (refl, λ u x e. cc)
                  in (
                    record
                        { stage = Idle; known = grown me.0.known r.history (entry kind.blank me.0.known (Full t) ∷ []) },
                    keeps,
                    tt,
                    done.0,
                    (λ z. absurd (omega arith), λ _. ((done.1, refl), refl), λ z. absurd (omega arith)),
                  )
              | inr busy ↦
                  let high : t < y = busy.0
                  in let done = refuses kind firsts n f s r id me.0 at i knows.0 free (PushBusy t) busy.1 tt (refl, λ u x e. cc)
                  in (
                    record {
                      stage = Idle;
                      known = grown me.0.known r.history (entry kind.blank me.0.known (PushBusy t) ∷ []);
                    },
                    keeps,
                    tt,
                    done.0,
                    (λ z. absurd (omega arith), λ z. absurd (omega arith), λ _. ((done.1, refl), refl)),
                  )
            ]
      ]

  pub sees_front : me.0.stage ≡ Idle → Allows Holds slots id me FRONT (λ y. y) (λ y m. saw_front me y m)
  sees_front idle s r wide at _ =
      let y : ℕ = get_or s.words FRONT 0
      in let is : y ≡ r.queue.front = r.shown.front
      in let work : IsAtWork id me.0.known = knows_now kind firsts n f s r id me.0 at Idle idle
      in let free : IsFree me.0.stage = free_at me.0.stage Idle idle idle_free
      in let seen = (seen_behind kind firsts n f s r id me.0 at work.1).1
      in let bounded : r.queue.next ≤ last = r.shown.bounded
      in let ordered : r.queue.front ≤ r.queue.next = (sound_now kind firsts n f s r id me.0 at).ordered
      in let done = looks kind firsts n f s r id me.0 at FRONT work free (SawFront y) (work, omega (arith, is))
      in (
        record { stage = SawFront y; known = grown me.0.known r.history [] },
        keeps,
        tt,
        done.0,
        (omega (arith, is, seen), omega (arith, is), (done.1, refl, refl)),
      )

  pub sees_full : (t : ℕ) → me.0.stage ≡ SawFront t
      → Allows Holds slots id me (seq_of n t) (λ y. y) (λ y m. saw_full kind.blank t me y m)
  sees_full t stage s r wide at _ =
      let i : ℕ = seq_of n t
      in let y : ℕ = get_or s.words (seq_of n t) 0
      in let knows : IsAtWork id me.0.known × (t ≤ r.queue.front) = knows_now kind firsts n f s r id me.0 at (SawFront t) stage
      in let free : IsFree me.0.stage = free_at me.0.stage (SawFront t) stage (saw_head_free t)
      in elim (pop_look kind.has (kind.spare firsts) n r.history r.queue s.words s.homes r.two
      (sound_now kind firsts n f s r id me.0 at) r.shown t knows.1) [
        | inl go ↦
            let e : y ≡ t + 1 = go.0
            in let done = looks kind firsts n f s r id me.0 at i knows.0 free (SawFull t) (knows.0, knows.1, go.1)
            in (
              record { stage = SawFull t; known = grown me.0.known r.history [] },
              keeps,
              tt,
              done.0,
              (λ _. (done.1, refl, refl), λ z. absurd (omega arith), λ z. absurd (omega arith)),
            )
        | inr more ↦
            elim more [
              | inl unwritten ↦
                  let low : y < t + 1 = unwritten.0
                  in let x : Entry T N = entry kind.blank me.0.known (Front t)
                  in let done =
                  tells kind firsts n f s r id me.0 at i knows.0 free (SawUnwritten t) {e = Front t} (unwritten.1, unwritten.2) tt
                  (refl, λ u z e. cc) (knows.0, knows.1, last_made kind firsts n f s r id me.0 at knows.0 kind.blank (Front t))
                  in (
                    record { stage = SawUnwritten t; known = grown me.0.known r.history (x ∷ []) },
                    keeps,
                    tt,
                    done.0,
                    (λ z. absurd (omega arith), λ _. ((done.1, refl), refl), λ z. absurd (omega arith)),
                  )
              | inr busy ↦
                  let high : t + 1 < y = busy.0
                  in let done = refuses kind firsts n f s r id me.0 at i knows.0 free (PopBusy t) busy.1 tt (refl, λ u x e. cc)
                  in (
                    record
                        { stage = Idle; known = grown me.0.known r.history (entry kind.blank me.0.known (PopBusy t) ∷ []) },
                    keeps,
                    tt,
                    done.0,
                    (λ z. absurd (omega arith), λ z. absurd (omega arith), λ _. ((done.1, refl), refl)),
                  )
            ]
      ]

  pub sees_end : (t : ℕ) → me.0.stage ≡ SawUnwritten t
      → Allows Holds slots id me NEXT (λ y. y) (λ y m. saw_end kind.blank t me y m)
  sees_end t stage s r wide at _ =
      let y : ℕ = get_or s.words NEXT 0
      in let is : y ≡ r.queue.next = r.shown.next
      in let knows : IsAtWork id me.0.known × (t ≤ r.queue.front) × (last_event None me.0.known.own ≡ Some (Front t)) =
      knows_now kind firsts n f s r id me.0 at (SawUnwritten t) stage
      in let free : IsFree me.0.stage = free_at me.0.stage (SawUnwritten t) stage (saw_unwritten_free t)
      in let follows : latest id r.history ≡ Some (Front t) =
      latest_now kind firsts n f s r id me.0 at knows.0.1 (Some (Front t)) knows.2
      in let ordered : r.queue.front ≤ r.queue.next = (sound_now kind firsts n f s r id me.0 at).ordered
      in let low : t ≤ y = omega (arith, is, knows.1)
      in elim (same_or_not y t) [
        | inl one ↦
            let ends : (t ≡ r.queue.next) × (t ≡ r.queue.front) = (sym one ∙ is, omega (arith, is, knows.1))
            in let done = refuses kind firsts n f s r id me.0 at NEXT knows.0 free (queue.Idle t) ends follows (refl, λ u x e. cc)
            in (
              record
                  { stage = Idle; known = grown me.0.known r.history (entry kind.blank me.0.known (queue.Idle t) ∷ []) },
              keeps,
              tt,
              done.0,
              (low, λ _. ((done.1, refl), refl), λ past. absurd (omega arith)),
            )
        | inr more ↦
            let past : t < r.queue.next = omega (arith, is)
            in let done = refuses kind firsts n f s r id me.0 at NEXT knows.0 free (Empty t) past follows (refl, λ u x e. cc)
            in (
              record { stage = Idle; known = grown me.0.known r.history (entry kind.blank me.0.known (Empty t) ∷ []) },
              keeps,
              tt,
              done.0,
              (low, λ one. absurd (more one), λ _. ((done.1, refl), refl)),
            )
      ]

  -- the ticket's place by the number of slots
  same_place : (s : State S (Sight T N)) → Holds s → length s.homes ≡ slots → (t : ℕ) → t % n ≡ t % slots
  same_place s r wide t = ap (λ (z : ℕ). t % z) (sym r.shown.places ∙ wide)

  pub claims : (t new : ℕ) (x : T) (place : S) → kind.has place x → me.0.stage ≡ SawFree t → new ≡ t + 1 → t < last
      → Allows Holds slots id me NEXT (λ y. either (eqb y t) new y)
      (λ y m. claimed kind.blank kind.has (kind.spare firsts) (step slots NEXT t new (some place)) me y m)
  claims t new x place lies stage next low s r wide at _ =
      let y : ℕ = get_or s.words NEXT 0
      in let q : Queue T = r.queue
      in let is : y ≡ q.next = r.shown.next
      in let knows : IsAtWork id me.0.known × (t ≤ q.next) × IsRoom n t q.cells =
      knows_now kind firsts n f s r id me.0 at (SawFree t) stage
      in let free : IsFree me.0.stage = free_at me.0.stage (SawFree t) stage (saw_free_free t)
      in let told : Me S (Sight T N) → Type 0 =
      λ m. claimed kind.blank kind.has (kind.spare firsts) (step slots NEXT t new (some place)) me y m
      in exchanged y t new (Goes s NEXT told)
      (λ hit.
      let same : t ≡ q.next = sym hit ∙ is
      in let R : ℕ → Type 0 = λ z. IsRoom n z q.cells
      in let did =
      claim_step kind firsts n f s r id me.0 at knows.0 x (subst R same knows.2) (omega arith)
      (λ p z e. absurd (free.0 p z e)) (λ p z e. absurd (free.1 p z e))
      in let e : Event T = Claim q.next x
      in let k' : Known T N = grown me.0.known r.history (entry kind.blank me.0.known e ∷ [])
      in let w : Sight T N = record { stage = Writing q.next x; known = k' }
      in let y0 : S = did.0.0
      in let H : ℕ → Type 0 = λ z. Ruled kind.has (kind.spare firsts) n f (stepped s NEXT z id me.1 w (takes (q.next % n) y0))
      in let Z : ℕ → Type 0 = λ z. kind.spare firsts z (r.history ++ entry kind.blank me.0.known e ∷ []) q.next y0
      in let was : kind.spare firsts me.0.known.places (r.history ++ entry kind.blank me.0.known e ∷ []) q.next y0 =
      subst Z (sym (r.told.places id me.0 at knows.0.1))
      (kind.stays firsts n r.history (entry kind.blank me.0.known e) q.next (λ u z is. cc) y0 did.0.2)
      in let D : ℕ → Type 0 =
      λ z.
      claimed kind.blank kind.has (kind.spare firsts) (step slots NEXT t new (some place)) me z
      (w, (q.next % n, y0) ∷ me.1)
      in (
        w,
        takes (q.next % n) y0,
        did.0.1,
        subst H (let e2 : q.next + 1 ≡ new = omega arith in e2) did.1.0,
        subst D (sym is) (
          (λ _. (place, x, refl, lies, (did.1.1, refl), (y0, (λ i. (same_place s r wide q.next i, y0) ∷ me.1), was))),
          λ miss. absurd (miss (sym same)),
        ),
      ))
      (λ miss.
      let done =
      refuses kind firsts n f s r id me.0 at NEXT knows.0 free (PushBusy t)
      (let l : t < q.next = omega (arith, knows.1) in l) tt (refl, λ u z e. cc)
      in (
        record { stage = Idle; known = grown me.0.known r.history (entry kind.blank me.0.known (PushBusy t) ∷ []) },
        keeps,
        tt,
        done.0,
        ((λ hit. absurd (miss hit)), λ _. ((done.1, refl), refl)),
      ))

  pub writes : (t : ℕ) (x : T) (y : S) (more : List (ℕ × S)) → kind.has y x → me.0.stage ≡ Writing t x
      → me.1 ≡ (t % n, y) ∷ more
      → Allows Holds slots id me (seq_of n t) (λ _. t + 1) (λ _ m. wrote kind.blank t me m)
  writes t x y more lies stage has s r wide at _ =
      let knows : IsAtWork id me.0.known × HasCell r.queue.cells t Claimed x id =
      knows_now kind firsts n f s r id me.0 at (Writing t x) stage
      in let did = write_step kind firsts n f s r id me.0 at knows.0 t x y lies stage knows.1
      in let w : Sight T N =
      record { stage = Idle; known = grown me.0.known r.history (entry kind.blank me.0.known (Write t) ∷ []) }
      in let H : List (ℕ × S) → Type 0 = λ c. Ruled kind.has (kind.spare firsts) n f (stepped s (seq_of n t) (t + 1) id c w gives)
      in (w, gives, tt, subst H (sym has) did.0, ((did.1, refl), refl))

  pub grabs : (t new : ℕ) (said : Option S) → me.0.stage ≡ SawFull t → new ≡ t + 1
      → Allows Holds slots id me FRONT (λ y. either (eqb y t) new y)
      (λ y m. grabbed kind.blank kind.has (step slots FRONT t new said) me y m)
  grabs t new said stage next s r wide at _ =
      let y : ℕ = get_or s.words FRONT 0
      in let q : Queue T = r.queue
      in let is : y ≡ q.front = r.shown.front
      in let knows : IsAtWork id me.0.known × (t ≤ q.front) × (q.front ≤ t → IsWritten t q.cells) =
      knows_now kind firsts n f s r id me.0 at (SawFull t) stage
      in let free : IsFree me.0.stage = free_at me.0.stage (SawFull t) stage (saw_full_free t)
      in let told : Me S (Sight T N) → Type 0 = λ m. grabbed kind.blank kind.has (step slots FRONT t new said) me y m
      in exchanged y t new (Goes s FRONT told)
      (λ hit.
      let same : t ≡ q.front = sym hit ∙ is
      in let R : ℕ → Type 0 = λ z. IsWritten z q.cells
      in let written : IsWritten q.front q.cells = subst R same (knows.2 (omega arith))
      in let x : T = written.0
      in let did =
      grab_step kind firsts n f s r id me.0 at knows.0 x written.1 written.2 (λ p z e. absurd (free.0 p z e))
      (λ p z e. absurd (free.1 p z e))
      in let e : Event T = Grab q.front
      in let w : Sight T N =
      record { stage = Reading q.front x; known = grown me.0.known r.history (entry kind.blank me.0.known e ∷ []) }
      in let H : ℕ → Type 0 =
      λ z. Ruled kind.has (kind.spare firsts) n f (stepped s FRONT z id me.1 w (takes (q.front % n) did.0.0))
      in let D : ℕ → Type 0 =
      λ z.
      grabbed kind.blank kind.has (step slots FRONT t new said) me z (w, (q.front % n, did.0.0) ∷ me.1)
      in (
        w,
        takes (q.front % n) did.0.0,
        did.0.1,
        subst H (let e2 : q.front + 1 ≡ new = omega arith in e2) did.1.0,
        subst D (sym is) (
          (λ _. (x, (did.1.1, refl), (did.0.0, (λ i. (same_place s r wide q.front i, did.0.0) ∷ me.1), did.0.2))),
          λ miss. absurd (miss (sym same)),
        ),
      ))
      (λ miss.
      let done =
      refuses kind firsts n f s r id me.0 at FRONT knows.0 free (PopBusy t)
      (let l : t < q.front = omega (arith, knows.1) in l) tt (refl, λ u z e. cc)
      in (
        record { stage = Idle; known = grown me.0.known r.history (entry kind.blank me.0.known (PopBusy t) ∷ []) },
        keeps,
        tt,
        done.0,
        ((λ hit. absurd (miss hit)), λ _. ((done.1, refl), refl)),
      ))

  pub takes_out : (note : N) (t : ℕ) (x : T) (y : S) (more : List (ℕ × S)) → kind.brings note y → me.0.stage ≡ Reading t x
      → me.1 ≡ (t % n, y) ∷ more
      → Allows Holds slots id me (seq_of n t) (λ _. t + n) (λ _ m. took note t x me m)
  takes_out note t x y more brought stage has s r wide at _ =
      let knows : IsAtWork id me.0.known × HasCell r.queue.cells t Emptying x id =
      knows_now kind firsts n f s r id me.0 at (Reading t x) stage
      in let did = take_step kind firsts n f s r id me.0 at knows.0 note t x y brought stage knows.1
      in let w : Sight T N =
      record { stage = Idle; known = grown me.0.known r.history (entry note me.0.known (Take t x) ∷ []) }
      in let H : List (ℕ × S) → Type 0 = λ c. Ruled kind.has (kind.spare firsts) n f (stepped s (seq_of n t) (t + n) id c w gives)
      in (w, gives, tt, subst H (sym has) did.0, ((did.1, refl), refl))
