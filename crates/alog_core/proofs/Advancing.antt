-- A step is made: what it leaves in the words and places stands for the queue after its event.
use Rattle.std.proofs.Common.{◌≡◌, ◌≢◌, ℕ, ◌+◌, ◌-◌, ◌%◌, ◌<◌, ◌≤◌, Option, None, Some, List, length, get_or}
use Rattle.std.proofs.Common.{set, refl, sym, ap, subst, ◌∙◌, arith, length-set, get_or-set_other, get_or-set_same, mod-lt, inl, inr}
use Rattle.alog_core.specs.Queue.{Cell, Queue, Event, Claim, Write, Grab, Take, Allows, after, cell_of, HasCell}
use Rattle.alog_core.specs.Queue.{IsSound}
use Rattle.alog_core.specs.Round.{Move, move_of, after_event, ends, taking}
use Rattle.alog_core.specs.Staged.{IsStaged}
use Rattle.alog_core.specs.Words.{sequence_by, AreSequences}
use Rattle.alog_core.specs.World.{brought, said_of}
use Rattle.alog_core.specs.Table.{places_of, queue_in, held, AreHeld, Shows, IsTable, Advances}
use Rattle.alog_core.specs.declared.mark.Mark.TheVariants.{Claimed, Written, Emptying}
use Rattle.alog_core.specs.declared.round.Round.{Round}
use Rattle.alog_core.specs.declared.round.Round.TheVariants as round
use Rattle.alog_core.specs.declared.said.Said.{Said}
use Rattle.alog_core.specs.declared.said.Said.TheVariants as said
use Rattle.alog_core.specs.declared.table.Held.{Held}
use Rattle.alog_core.specs.declared.table.Table.{Table}
use Rattle.alog_core.proofs.SharedCells.{at_same, cell_of-append_same, HasCell-marked}
use Rattle.std.proofs.lemmas.List.{get_or_read}
use Rattle.alog_core.proofs.Looks.{PushLooks, push_looks, PopLooks, pop_looks}
use Rattle.alog_core.proofs.Reading.{settles}
use Rattle.alog_core.proofs.SharedRising.{cell_of-without_same}
use Rattle.alog_core.proofs.SharedSizes.{size_facts}
use Rattle.alog_core.proofs.SharedSound.{next_is_unlisted, sound_after}
use Rattle.alog_core.proofs.Turns.{Turn, turn_claim, turn_mark, turn_take, by_place_turn, turned}

-- a step by what its move is
pub advances : {T : Type 0} {old new : Table T} {a : ℕ} {r : Round T} {answer : Said T × Round T} {m : Move T}
    → move_of (places_of old) (queue_in old) r ≡ m → answer.0 ≡ said_of (brought r) m.event → answer.1 ≡ m.round
    → queue_in new ≡ after_event (queue_in old) a m.event → new.mask ≡ old.mask → Shows new → Advances old new a r answer
advances {T} {old} {a} {r} is said round queue mask shows =
    record {
      said = said ∙ ap (λ (k : Move T). said_of (brought r) k.event) (sym is);
      round = round ∙ ap (λ (k : Move T). k.round) (sym is);
      queue = queue ∙ ap (λ (k : Move T). after_event (queue_in old) a k.event) (sym is);
      mask = mask;
      shows = shows;
    }

module _ {T : Type 0} (old new : Table T) (is : IsTable old) (a : ℕ) (mask : new.mask ≡ old.mask) where
  abbrev n : ℕ
  n = places_of old

  abbrev q : Queue T
  q = queue_in old

  two : 2 ≤ n
  two = (size_facts n is.size).1

  place_within : (t : ℕ) → t % n < n
  place_within t = mod-lt t (let some : 0 < n = omega (arith, two) in some)

  abbrev Leaves : Queue T → Type 0
  Leaves r = AreSequences n r new.sequences.items × AreHeld n r new.slots.items

  sound_next : (e : Event T) → Allows n q a e → IsSound n (after q a e)
  sound_next e may = sound_after n q a e (omega (arith, two)) is.sound may

  moved : (e : Event T) → Allows n q a e → new.next ≡ (after q a e).next → new.front ≡ (after q a e).front
      → Leaves (after q a e) → (queue_in new ≡ after q a e) × Shows new
  moved e may next front leaves =
      let r : Queue T = after q a e
      in let S : ℕ → Type 0 = λ m. IsSound (m + 1) r
      in let A : ℕ → Type 0 = λ m. AreSequences (m + 1) r new.sequences.items
      in let H : ℕ → Type 0 = λ m. AreHeld (m + 1) r new.slots.items
      in settles new r next front (subst S (sym mask) (sound_next e may)) (subst A (sym mask) leaves.0)
      (subst H (sym mask) leaves.1)

  -- the sequences and the places beside the one that is written
  module _ (t : ℕ) where
    sequence_else : (v i : ℕ) → i ≢ t % n → get_or (set old.sequences.items (t % n) v) i 0 ≡ get_or old.sequences.items i 0
    sequence_else v i apart = get_or-set_other old.sequences.items (t % n) i v 0 apart

    sequence_here : (v : ℕ) → get_or (set old.sequences.items (t % n) v) (t % n) 0 ≡ v
    sequence_here v =
        get_or-set_same old.sequences.items (t % n) v 0 (omega (arith, place_within t, is.shows.sequences.count))

    slot_else : (v : Option (Held T)) (i : ℕ) → i ≢ t % n
        → get_or (set old.slots.items (t % n) v) i None ≡ get_or old.slots.items i None
    slot_else v i apart = get_or-set_other old.slots.items (t % n) i v None apart

    slot_here : (v : Option (Held T)) → get_or (set old.slots.items (t % n) v) (t % n) None ≡ v
    slot_here v = get_or-set_same old.slots.items (t % n) v None (omega (arith, place_within t, is.shows.slots.count))

  pub claims : (p : ℕ) (x : T) → IsStaged n q a (round.PushFree p x) → old.next ≡ p → new.next ≡ p + 1
      → new.front ≡ old.front → new.sequences.items ≡ old.sequences.items
      → new.slots.items ≡ set old.slots.items (p % n) (Some (held x a))
      → Advances old new a (round.PushFree p x) (said.Claim p, round.PushClaimed p)
  claims p x staged at next front sequences slots =
      let e : Event T = Claim p x
      in let may : Allows n q a e = (sym at, staged.1, staged.2)
      in let r : Queue T = after q a e
      in let c : Cell T = record { ticket = p; mark = Claimed; item = x; actor = a }
      in let has : cell_of p r.cells ≡ Some c =
      cell_of-append_same p q.cells c refl (next_is_unlisted n q p is.sound (omega (arith, at)))
      in let turn : Turn n p q r = turn_claim n q c (omega (arith, two)) (sym at)
      in let free : get_or old.sequences.items (p % n) 0 ≡ p =
      is.shows.sequences.places.free p (omega (arith, at)) (omega (arith, at, two)) staged.2
      in let s : AreSequences n r old.sequences.items = record {
        count = is.shows.sequences.count;
        places = turned (λ i. get_or old.sequences.items i 0) (λ i. get_or old.sequences.items i 0) (λ t d. sequence_by t d.mark)
            (sound_next e may) turn has is.shows.sequences.places (λ i _. refl, free);
      }
      in let d : AreHeld n r (set old.slots.items (p % n) (Some (held x a))) = record {
        count = length-set old.slots.items (p % n) (Some (held x a)) ∙ is.shows.slots.count;
        places = turned (λ i. get_or old.slots.items i None) (λ i. get_or (set old.slots.items (p % n) (Some (held x a))) i None)
            (λ t d. Some (held d.item d.actor)) (sound_next e may) turn has is.shows.slots.places
            (slot_else p (Some (held x a)), slot_here p (Some (held x a)));
      }
      in let S : List ℕ → Type 0 = λ k. AreSequences n r k
      in let D : List (Option (Held T)) → Type 0 = λ k. AreHeld n r k
      in let done = moved e may (next ∙ ap (λ k. k + 1) (sym at)) front (subst S (sym sequences) s, subst D (sym slots) d)
      in advances {old = old} {a = a} {r = round.PushFree p x} {answer = (said.Claim p, round.PushClaimed p)} (at_same q.next p _ _ at) refl
      refl done.0 mask done.1

  pub writes : (p : ℕ) → IsStaged n q a (round.PushClaimed p) → new.next ≡ old.next → new.front ≡ old.front
      → new.sequences.items ≡ set old.sequences.items (p % n) (p + 1) → new.slots.items ≡ old.slots.items
      → Advances old new a (round.PushClaimed p) (said.Write p, round.Idle)
  writes p staged next front sequences slots =
      let e : Event T = Write p
      in let may : Allows n q a e = staged
      in let r : Queue T = after q a e
      in let x : T = staged.0
      in let was : Cell T = record { ticket = p; mark = Claimed; item = x; actor = a }
      in let c : Cell T = record { ticket = p; mark = Written; item = x; actor = a }
      in let has : cell_of p r.cells ≡ Some c = HasCell-marked q.cells p Claimed x a Written a staged.1
      in let turn : Turn n p q r = turn_mark n q p was is.sound staged.1 Written a q.front
      in let there : get_or old.slots.items (p % n) None ≡ Some (held x a) = is.shows.slots.places.cells p was staged.1
      in let s : AreSequences n r (set old.sequences.items (p % n) (p + 1)) = record {
        count = length-set old.sequences.items (p % n) (p + 1) ∙ is.shows.sequences.count;
        places = turned (λ i. get_or old.sequences.items i 0) (λ i. get_or (set old.sequences.items (p % n) (p + 1)) i 0)
            (λ t d. sequence_by t d.mark) (sound_next e may) turn has is.shows.sequences.places
            (sequence_else p (p + 1), sequence_here p (p + 1));
      }
      in let d : AreHeld n r old.slots.items = record {
        count = is.shows.slots.count;
        places = turned (λ i. get_or old.slots.items i None) (λ i. get_or old.slots.items i None) (λ t d. Some (held d.item d.actor))
            (sound_next e may) turn has is.shows.slots.places (λ i _. refl, there);
      }
      in let S : List ℕ → Type 0 = λ k. AreSequences n r k
      in let D : List (Option (Held T)) → Type 0 = λ k. AreHeld n r k
      in let done = moved e may next front (subst S (sym sequences) s, subst D (sym slots) d)
      in advances {old = old} {a = a} {r = round.PushClaimed p} {answer = (said.Write p, round.Idle)} {m = ends e} refl refl refl
      done.0 mask done.1

  pub grabs : (p : ℕ) → IsStaged n q a (round.PopReady p) → old.front ≡ p → new.next ≡ old.next → new.front ≡ p + 1
      → new.sequences.items ≡ old.sequences.items
      → ((h : Held T) → get_or old.slots.items (p % n) None ≡ Some h
      → new.slots.items ≡ set old.slots.items (p % n) (Some (held h.item a)))
      → Advances old new a (round.PopReady p) (said.Grab p, round.PopGrabbed p)
  grabs p staged at next front sequences slots =
      let e : Event T = Grab p
      in let written = staged.1 (sym at)
      in let may : Allows n q a e = (sym at, written)
      in let r : Queue T = after q a e
      in let x : T = written.0
      in let was : Cell T = record { ticket = p; mark = Written; item = x; actor = written.1 }
      in let c : Cell T = record { ticket = p; mark = Emptying; item = x; actor = a }
      in let has : cell_of p r.cells ≡ Some c = HasCell-marked q.cells p Written x written.1 Emptying a written.2
      in let turn : Turn n p q r = turn_mark n q p was is.sound written.2 Emptying a (q.front + 1)
      in let there : get_or old.slots.items (p % n) None ≡ Some (held x written.1) =
      is.shows.slots.places.cells p was written.2
      in let one_more : get_or old.sequences.items (p % n) 0 ≡ p + 1 = is.shows.sequences.places.cells p was written.2
      in let s : AreSequences n r old.sequences.items = record {
        count = is.shows.sequences.count;
        places = turned (λ i. get_or old.sequences.items i 0) (λ i. get_or old.sequences.items i 0) (λ t d. sequence_by t d.mark)
            (sound_next e may) turn has is.shows.sequences.places (λ i _. refl, one_more);
      }
      in let d : AreHeld n r (set old.slots.items (p % n) (Some (held x a))) = record {
        count = length-set old.slots.items (p % n) (Some (held x a)) ∙ is.shows.slots.count;
        places = turned (λ i. get_or old.slots.items i None) (λ i. get_or (set old.slots.items (p % n) (Some (held x a))) i None)
            (λ t d. Some (held d.item d.actor)) (sound_next e may) turn has is.shows.slots.places
            (slot_else p (Some (held x a)), slot_here p (Some (held x a)));
      }
      in let S : List ℕ → Type 0 = λ k. AreSequences n r k
      in let D : List (Option (Held T)) → Type 0 = λ k. AreHeld n r k
      in let done = moved e may next (front ∙ ap (λ k. k + 1) (sym at))
      (subst S (sym sequences) s, subst D (sym (slots (held x written.1) there)) d)
      in advances {old = old} {a = a} {r = round.PopReady p} {answer = (said.Grab p, round.PopGrabbed p)} (at_same q.front p _ _ at) refl
      refl done.0 mask done.1

  pub takes : (p : ℕ) (x : T) → HasCell q.cells p Emptying x a → new.next ≡ old.next → new.front ≡ old.front
      → new.sequences.items ≡ set old.sequences.items (p % n) (p + n)
      → new.slots.items ≡ set old.slots.items (p % n) None
      → Advances old new a (round.PopGrabbed p) (said.Take p x, round.Idle)
  takes p x cell next front sequences slots =
      let e : Event T = Take p x
      in let r : Queue T = after q a e
      in let was : Cell T = record { ticket = p; mark = Emptying; item = x; actor = a }
      in let none : cell_of p r.cells ≡ None = cell_of-without_same p (q.next - n) q.cells q.next is.sound.rising
      in let turn : Turn n p q r = turn_take n q p was is.sound cell
      in let s : AreSequences n r (set old.sequences.items (p % n) (p + n)) = record {
        count = length-set old.sequences.items (p % n) (p + n) ∙ is.shows.sequences.count;
        places = by_place_turn (λ i. get_or old.sequences.items i 0) (λ i. get_or (set old.sequences.items (p % n) (p + n)) i 0)
            (λ t d. sequence_by t d.mark) (λ t. t) (sound_next e cell) turn is.shows.sequences.places
            (record {
              others = sequence_else p (p + n);
              here = λ d some. let bad : None ≡ Some d = sym none ∙ some in absurd (cc);
              gone = λ _. sequence_here p (p + n);
            });
      }
      in let d : AreHeld n r (set old.slots.items (p % n) None) = record {
        count = length-set old.slots.items (p % n) None ∙ is.shows.slots.count;
        places = by_place_turn (λ i. get_or old.slots.items i None) (λ i. get_or (set old.slots.items (p % n) None) i None)
            (λ t d. Some (held d.item d.actor)) (λ t. None) (sound_next e cell) turn is.shows.slots.places
            (record {
              others = slot_else p None;
              here = λ d some. let bad : None ≡ Some d = sym none ∙ some in absurd (cc);
              gone = λ _. slot_here p None;
            });
      }
      in let S : List ℕ → Type 0 = λ k. AreSequences n r k
      in let D : List (Option (Held T)) → Type 0 = λ k. AreHeld n r k
      in let done = moved e cell next front (subst S (sym sequences) s, subst D (sym slots) d)
      in advances {old = old} {a = a} {r = round.PopGrabbed p} {answer = (said.Take p x, round.Idle)} (ap (λ o. taking p o) cell) refl refl
      done.0 mask done.1

-- a step that only reads
module _ {T : Type 0} (t : Table T) (is : IsTable t) (a p i s : ℕ) (place : i ≡ p % places_of t)
    (read : s ≡ get_or t.sequences.items i s) where
  stays : (r : Round T) (answer : Said T × Round T) (m : Move T) → move_of (places_of t) (queue_in t) r ≡ m
      → answer.0 ≡ said_of (brought r) m.event → answer.1 ≡ m.round → queue_in t ≡ after_event (queue_in t) a m.event
      → Advances t t a r answer
  stays r answer m move said round same = advances {old = t} {a = a} {r = r} {answer = answer} move said round same refl is.shows

  sequence : s ≡ get_or t.sequences.items (p % places_of t) 0
  sequence =
      let low : p % places_of t < places_of t = mod-lt p (let some : 0 < places_of t = omega arith in some)
      in let within : i < length t.sequences.items = omega (arith, place, low, is.shows.sequences.count)
      in get_or_read t.sequences.items i s within read 0 ∙ ap (λ k. get_or t.sequences.items k 0) place

  push_look : (x : T) → p ≤ t.next
      → PushLooks (places_of t) (queue_in t) t.sequences.items (size_facts (places_of t) is.size).1 is.sound
      is.shows.sequences p x
  push_look x low =
      push_looks (places_of t) (queue_in t) t.sequences.items (size_facts (places_of t) is.size).1 is.sound
      is.shows.sequences p x low

  pub finds_full : (x : T) → p ≤ t.next → s < p → Advances t t a (round.PushRead p x) (said.Full p (Some x), round.Idle)
  finds_full x low less =
      elim (push_look x low) [
        | inl h ↦ stays (round.PushRead p x) _ _ h.1 refl refl refl
        | inr more ↦ elim more [ inl h ↦ absurd (omega (arith, h.0, sequence)) | inr h ↦ absurd (omega (arith, h.0, sequence)) ]
      ]

  pub finds_free : (x : T) → p ≤ t.next → s ≡ p
      → Advances t t a (round.PushRead p x) (said.Nothing, round.PushFree p x)
  finds_free x low same =
      elim (push_look x low) [
        | inl h ↦ absurd (omega (arith, h.0, sequence, same))
        | inr more ↦
            elim more [
              | inl h ↦ stays (round.PushRead p x) _ _ h.1 refl refl refl
              | inr h ↦ absurd (omega (arith, h.0, sequence, same))
            ]
      ]

  pub finds_later : (x : T) → p ≤ t.next → p < s
      → Advances t t a (round.PushRead p x) (said.Busy p (Some x), round.Idle)
  finds_later x low more_than =
      elim (push_look x low) [
        | inl h ↦ absurd (omega (arith, h.0, sequence))
        | inr more ↦
            elim more [
              | inl h ↦ absurd (omega (arith, h.0, sequence))
              | inr h ↦ stays (round.PushRead p x) _ _ h.1 refl refl refl
            ]
      ]

  pop_look : p ≤ t.front
      → PopLooks (places_of t) (queue_in t) t.sequences.items (size_facts (places_of t) is.size).1 is.sound
      is.shows.sequences p
  pop_look low =
      pop_looks (places_of t) (queue_in t) t.sequences.items (size_facts (places_of t) is.size).1 is.sound
      is.shows.sequences p low

  pub finds_unwritten : p ≤ t.front → s < p + 1 → Advances t t a (round.PopRead p) (said.Front p, round.PopFronted p)
  finds_unwritten low less =
      elim (pop_look low) [
        | inl h ↦ stays (round.PopRead p) _ _ h.1 refl refl refl
        | inr more ↦ elim more [ inl h ↦ absurd (omega (arith, h.0, sequence)) | inr h ↦ absurd (omega (arith, h.0, sequence)) ]
      ]

  pub finds_written : p ≤ t.front → s ≡ p + 1 → Advances t t a (round.PopRead p) (said.Nothing, round.PopReady p)
  finds_written low same =
      elim (pop_look low) [
        | inl h ↦ absurd (omega (arith, h.0, sequence, same))
        | inr more ↦
            elim more [
              | inl h ↦ stays (round.PopRead p) _ _ h.1 refl refl refl
              | inr h ↦ absurd (omega (arith, h.0, sequence, same))
            ]
      ]

  pub finds_gone : p ≤ t.front → p + 1 < s → Advances t t a (round.PopRead p) (said.Busy p None, round.Idle)
  finds_gone low more_than =
      elim (pop_look low) [
        | inl h ↦ absurd (omega (arith, h.0, sequence))
        | inr more ↦
            elim more [
              | inl h ↦ absurd (omega (arith, h.0, sequence))
              | inr h ↦ stays (round.PopRead p) _ _ h.1 refl refl refl
            ]
      ]

-- what a step finds in a ticket's place
pub slot_is : {T : Type 0} (t : Table T) → IsTable t → (p i : ℕ) (r : Option (Held T)) → i ≡ p % places_of t
    → r ≡ get_or t.slots.items i r → r ≡ get_or t.slots.items (p % places_of t) None
slot_is t is p i r place read =
    let low : p % places_of t < places_of t = mod-lt p (let some : 0 < places_of t = omega arith in some)
    in let within : i < length t.slots.items = omega (arith, place, low, is.shows.slots.count)
    in get_or_read t.slots.items i r within read None ∙ ap (λ k. get_or t.slots.items k None) place
