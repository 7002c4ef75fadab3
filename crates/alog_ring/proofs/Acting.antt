-- The four steps that change the queue keep the rule.
use Rattle.std.proofs.Common.{◌≡◌, ℕ, ◌+◌, ◌-◌, ◌*◌, ◌%◌, ◌<◌, ◌≤◌, List, [], ◌∷◌, ◌++◌, set, length, get_or, None, refl}
use Rattle.std.proofs.Common.{sym, ap, subst, ◌∙◌, arith, length-set, get_or-set_other, get_or-set_same, mod-lt}
use mathlib.Core.Option as maybe
use lib.ListN.{get_elem?}
use Rattle.atomic_table.specs.Table.{State}
use Rattle.atomic_table.proofs.Lists.{set_else, set_here}
use Rattle.alog_core.specs.declared.mark.Mark.TheVariants.{Claimed, Written, Emptying}
use Rattle.alog_core.specs.Queue.{Cell, Queue, Event, Claim, Write, Grab, Take, last, cell_of, HasCell, IsRoom, Allows, after}
use Rattle.alog_core.specs.Queue.{IsSound}
use Rattle.alog_core.specs.History.{Entry, latest, Follows, StandsFor}
use Rattle.alog_core.proofs.SharedCells.{cell_of-append_same, cell_of-marked_same}
use Rattle.alog_core.proofs.SharedRising.{cell_of-without_same}
use Rattle.alog_core.proofs.SharedHistories.{stands_after}
use Rattle.alog_core.proofs.SharedSound.{next_is_unlisted, sound_after}
use Rattle.alog_ring.specs.declared.words.TheConstants.{NEXT, FRONT, SEQUENCES, APART}
use Rattle.alog_ring.specs.Kinds.{PlaceKind}
use Rattle.alog_ring.specs.Made.{entry, Adds}
use Rattle.alog_ring.specs.Sight.{Stage, Idle, Writing, Reading, Sight}
use Rattle.alog_ring.specs.Rule.{IsAtWork, Staged, seq_of, ShowsCell, Shown, Ruled}
use Rattle.alog_ring.proofs.SharedLists.{not_both}
use Rattle.alog_ring.proofs.Telling.{grown}
use Rattle.alog_ring.proofs.Turning.{Turn, within, turn_claim, turn_write, turn_grab, turn_take, staged_turn}
use Rattle.alog_ring.proofs.Showing.{shown_turn}
use Rattle.alog_ring.proofs.SharedStepping.{one_of, sound_now, made, kept}

module _ {S T N : Type 0} (kind : PlaceKind S T N) (firsts : List S) (n f : ℕ) (s : State S (Sight T N))
    (r : Ruled kind.has (kind.spare firsts) n f s) (a : ℕ) (v : Sight T N) (at : get_elem? s.views a ≡ maybe.some v)
    (work : IsAtWork a v.known) where
  -- the view after an event
  abbrev pub acting : N → Event T → Stage T N → Sight T N
  acting note e stage = record { stage = stage; known = grown v.known r.history (entry note v.known e ∷ []) }

  abbrev pub longer : N → Event T → List (Entry T N)
  longer note e = r.history ++ entry note v.known e ∷ []

  -- the rule after it, and what it tells
  abbrev pub Acted : N → Event T → Stage T N → List ℕ → List (maybe.Option S) → Type 0
  Acted note e stage words homes =
      Ruled kind.has (kind.spare firsts) n f (record { words = words; homes = homes; views = set s.views a (acting note e stage) })
      × Adds note v.known (acting note e stage).known e

  some_places : 1 ≤ n
  some_places = let two : 2 ≤ n = r.two in omega arith

  sound_next : (e : Event T) → Allows n r.queue a e → IsSound n (after r.queue a e)
  sound_next e may = sound_after n r.queue a e some_places (sound_now kind firsts n f s r a v at) may

  acted : {note : N} {e : Event T} (stage : Stage T N) {words : List ℕ} {homes : List (maybe.Option S)}
      → Allows n r.queue a e → Follows (latest a r.history) e
      → Staged n (longer note e) (after r.queue a e) (set s.views a (acting note e stage))
      → Shown kind.has (kind.spare firsts) n (longer note e) (after r.queue a e) words homes → Acted note e stage words homes
  acted {note} {e} stage {words} {homes} may follows staged shown =
      let x : Entry T N = entry note v.known e
      in let A : ℕ → Type 0 = λ b. Allows n r.queue b e
      in let F : ℕ → Type 0 = λ b. Follows (latest b r.history) e
      in let P : ℕ → Type 0 = λ b. StandsFor n f (r.history ++ x ∷ []) (after r.queue b e)
      in let stands : StandsFor n f (r.history ++ x ∷ []) (after r.queue a e) =
      subst P work.0
      (stands_after n f r.history r.queue x r.stands (subst A (sym work.0) may) (subst F (sym work.0) follows))
      in (
        kept kind firsts n f s r a v at work (x ∷ []) (one_of a x work.0) stage
            (after r.queue a e) words homes stands staged shown,
        (made kind firsts n f s r a v at work (x ∷ []) (one_of a x work.0) stage (after r.queue a e) stands, (r.history, refl)),
      )

  -- the words beside the one that is written
  seq_in : (t : ℕ) → seq_of n t < length s.words
  seq_in t = let low : t % n < n = mod-lt t some_places in let wide : length s.words ≡ n * APART + SEQUENCES =
      r.shown.wide in omega arith

  place_in : (t : ℕ) → t % n < length s.homes
  place_in t = let low : t % n < n = mod-lt t some_places in let places : length s.homes ≡ n = r.shown.places in omega arith

  pub claim_step : (x : T) → IsRoom n r.queue.next r.queue.cells → r.queue.next < last
      → ((p : ℕ) (y : T) → v.stage ≡ Writing p y → r.queue.next ≡ p)
      → ((p : ℕ) (y : T) → v.stage ≡ Reading p y → r.queue.next ≡ p)
      → ((y : S) × (get_elem? s.homes (r.queue.next % n) ≡ maybe.some (maybe.some y)) × kind.spare firsts n r.history r.queue.next y)
      × Acted kind.blank (Claim r.queue.next x) (Writing r.queue.next x) (set s.words NEXT (r.queue.next + 1))
      (set s.homes (r.queue.next % n) maybe.none)
  claim_step x room low not_writing not_reading =
      let q : Queue T = r.queue
      in let t : ℕ = q.next
      in let e : Event T = Claim t x
      in let q' : Queue T = after q a e
      in let sound : IsSound n q = sound_now kind firsts n f s r a v at
      in let turn : Turn n a t q q' = turn_claim n a q sound x some_places
      in let may : Allows n q a e = (refl, low, room)
      in let new : Cell T = record { ticket = t; mark = Claimed; item = x; actor = a }
      in let has : HasCell q'.cells t Claimed x a =
      cell_of-append_same t q.cells new refl (next_is_unlisted n q t sound (omega arith))
      in let old = r.shown.free t (omega arith) (omega (arith, some_places)) room
      in let wide : length s.words ≡ n * APART + SEQUENCES = r.shown.wide
      in let words : List ℕ = set s.words NEXT (t + 1)
      in let other : (i : ℕ) → get_or words (i * APART + SEQUENCES) 0 ≡ get_or s.words (i * APART + SEQUENCES) 0 = λ i.
      get_or-set_other s.words NEXT (i * APART + SEQUENCES) (t + 1) 0 (λ z. omega arith)
      in let W : Cell T → Type 0 =
      λ c.
      ShowsCell kind.has (kind.spare firsts) t (get_or words (seq_of n t) 0)
      (get_elem? (set s.homes (t % n) maybe.none) (t % n)) c.item c.mark
      in (
        old.1,
        acted {note = kind.blank} {e = e} (Writing t x) may tt
            (staged_turn n a t q q' turn r.history (entry kind.blank v.known e ∷ []) s.views v
            (acting kind.blank e (Writing t x)) at r.staged (work, has)
            (record {
              left_write = not_writing;
              left_read = not_reading;
              now_write = λ y b h.
                  let same : record { ticket = t; mark = Claimed; item = x; actor = a } ≡ record {
                    ticket = t;
                    mark = Claimed;
                    item = y;
                    actor = b;
                  } = cc in (sym (ap (λ (c : Cell T). c.actor) same), ap (λ (c : Cell T). Writing t c.item) same);
              now_read =
                  λ y b h. absurd
                  (let same : record { ticket = t; mark = Claimed; item = x; actor = a } ≡ record {
                    ticket = t;
                    mark = Emptying;
                    item = y;
                    actor = b;
                  } = cc in let m : Claimed ≡ Emptying = ap (λ (c : Cell T). c.mark) same in cc);
            }))
            (shown_turn kind.has (kind.spare firsts) {h' = longer kind.blank e} {words' = words}
            {homes' = set s.homes (t % n) maybe.none} (sound_next e may) turn (omega arith) r.shown
            (record {
              wide = length-set s.words NEXT (t + 1);
              places = length-set s.homes (t % n) maybe.none;
              next = get_or-set_same s.words NEXT (t + 1) 0 (omega arith);
              front = get_or-set_other s.words NEXT FRONT (t + 1) 0 (λ z. omega arith) ∙ r.shown.front;
              bounded = omega arith;
              words_else =
                  λ i _. other i;
              homes_else = λ i apart. set_else s.homes (t % n) i maybe.none apart;
              cell_here = λ c is.
                  let same : new ≡ c = cc in subst W same (other (t % n) ∙ old.0);
              free_here = λ none. not_both none has;
              spare_else =
                  λ u _. kind.stays firsts n r.history (entry kind.blank v.known e) u (λ z y is. cc);
            })),
      )

  pub write_step : (t : ℕ) (x : T) (y : S) → kind.has y x → v.stage ≡ Writing t x → HasCell r.queue.cells t Claimed x a
      → Acted kind.blank (Write t) Idle (set s.words (seq_of n t) (t + 1)) (set s.homes (t % n) (maybe.some y))
  write_step t x y lies stage old =
      let q : Queue T = r.queue
      in let e : Event T = Write t
      in let q' : Queue T = after q a e
      in let sound : IsSound n q = sound_now kind firsts n f s r a v at
      in let turn : Turn n a t q q' = turn_write n a q sound t x old
      in let may : Allows n q a e = (x, old)
      in let was : Cell T = record { ticket = t; mark = Claimed; item = x; actor = a }
      in let new : Cell T = record { ticket = t; mark = Written; item = x; actor = a }
      in let has : HasCell q'.cells t Written x a = cell_of-marked_same t Written a q.cells was old
      in let below : (q.next - n ≤ t) × (t < q.next) = within n q t was sound old
      in let words : List ℕ = set s.words (seq_of n t) (t + 1)
      in let homes : List (maybe.Option S) = set s.homes (t % n) (maybe.some y)
      in let W : Cell T → Type 0 =
      λ c.
      ShowsCell kind.has (kind.spare firsts) t (get_or words (seq_of n t) 0) (get_elem? homes (t % n)) c.item c.mark
      in acted {note = kind.blank} {e = e} Idle may tt
      (staged_turn n a t q q' turn r.history (entry kind.blank v.known e ∷ []) s.views v
      (acting kind.blank e Idle) at r.staged work
      (record {
        left_write = λ p y is. let same : Writing t x ≡ Writing p y = sym stage
            ∙ is in cc;
        left_read = λ p y is. absurd (let wrong : Writing t x ≡ Reading p y = sym stage ∙ is in cc);
        now_write =
            λ y b h. absurd
            (let same : new ≡ record { ticket = t; mark = Claimed; item = y; actor = b } = cc in let m : Written ≡ Claimed =
            ap (λ (c : Cell T). c.mark) same in cc);
        now_read = λ y b h.
            absurd (let same : new ≡ record { ticket = t; mark = Emptying; item = y; actor = b } = cc in
            let m : Written ≡ Emptying = ap (λ (c : Cell T). c.mark) same in cc);
      }))
      (shown_turn kind.has (kind.spare firsts) {h' = longer kind.blank e} {words' = words} {homes' = homes}
      (sound_next e may) turn below.1 r.shown
      (record {
        wide = length-set s.words (seq_of n t) (t + 1);
        places = length-set s.homes (t % n) (maybe.some y);
        next = get_or-set_other s.words (seq_of n t) NEXT (t + 1) 0 (λ z. omega arith)
            ∙ r.shown.next;
        front = get_or-set_other s.words (seq_of n t) FRONT (t + 1) 0 (λ z. omega arith)
            ∙ r.shown.front;
        bounded = r.shown.bounded;
        words_else = λ i apart.
            get_or-set_other s.words (seq_of n t) (i * APART + SEQUENCES) (t + 1) 0 (λ z. apart (omega arith));
        homes_else =
            λ i apart. set_else s.homes (t % n) i (maybe.some y) apart;
        cell_here = λ c is. let same : new ≡ c = cc in
            subst W same (
              get_or-set_same s.words (seq_of n t) (t + 1) 0 (seq_in t),
              (y, set_here s.homes (t % n) (maybe.some y) (place_in t), lies),
            );
        free_here = λ none. not_both none has;
        spare_else =
            λ u _. kind.stays firsts n r.history (entry kind.blank v.known e) u (λ z y is. cc);
      }))

  pub grab_step : (x : T) (b : ℕ) → HasCell r.queue.cells r.queue.front Written x b
      → ((p : ℕ) (y : T) → v.stage ≡ Writing p y → r.queue.front ≡ p)
      → ((p : ℕ) (y : T) → v.stage ≡ Reading p y → r.queue.front ≡ p)
      → ((y : S) × (get_elem? s.homes (r.queue.front % n) ≡ maybe.some (maybe.some y)) × kind.has y x)
      × Acted kind.blank (Grab r.queue.front) (Reading r.queue.front x) (set s.words FRONT (r.queue.front + 1))
      (set s.homes (r.queue.front % n) maybe.none)
  grab_step x b old not_writing not_reading =
      let q : Queue T = r.queue
      in let t : ℕ = q.front
      in let e : Event T = Grab t
      in let q' : Queue T = after q a e
      in let sound : IsSound n q = sound_now kind firsts n f s r a v at
      in let turn : Turn n a t q q' = turn_grab n a q sound x b old
      in let may : Allows n q a e = (refl, (x, b, old))
      in let was : Cell T = record { ticket = t; mark = Written; item = x; actor = b }
      in let new : Cell T = record { ticket = t; mark = Emptying; item = x; actor = a }
      in let has : HasCell q'.cells t Emptying x a = cell_of-marked_same t Emptying a q.cells was old
      in let below : (q.next - n ≤ t) × (t < q.next) = within n q t was sound old
      in let before : (get_or s.words (seq_of n t) 0 ≡ t + 1)
      × ((y : S) × (get_elem? s.homes (t % n) ≡ maybe.some (maybe.some y)) × kind.has y x) =
      r.shown.cells t was old
      in let wide : length s.words ≡ n * APART + SEQUENCES = r.shown.wide
      in let words : List ℕ = set s.words FRONT (t + 1)
      in let other : (i : ℕ) → get_or words (i * APART + SEQUENCES) 0 ≡ get_or s.words (i * APART + SEQUENCES) 0 = λ i.
      get_or-set_other s.words FRONT (i * APART + SEQUENCES) (t + 1) 0 (λ z. omega arith)
      in let W : Cell T → Type 0 =
      λ c.
      ShowsCell kind.has (kind.spare firsts) t (get_or words (seq_of n t) 0)
      (get_elem? (set s.homes (t % n) maybe.none) (t % n)) c.item c.mark
      in (
        before.1,
        acted {note = kind.blank} {e = e} (Reading t x) may tt
            (staged_turn n a t q q' turn r.history (entry kind.blank v.known e ∷ []) s.views v
            (acting kind.blank e (Reading t x)) at r.staged (work, has)
            (record {
              left_write = not_writing;
              left_read = not_reading;
              now_write = λ y j h.
                  absurd (let same : new ≡ record { ticket = t; mark = Claimed; item = y; actor = j } = cc in
                  let m : Emptying ≡ Claimed = ap (λ (c : Cell T). c.mark) same in cc);
              now_read = λ y j h.
                  let same : new ≡ record { ticket = t; mark = Emptying; item = y; actor = j } = cc in
                  (sym (ap (λ (c : Cell T). c.actor) same), ap (λ (c : Cell T). Reading t c.item) same);
            }))
            (shown_turn kind.has (kind.spare firsts) {h' = longer kind.blank e} {words' = words}
            {homes' = set s.homes (t % n) maybe.none} (sound_next e may) turn below.1 r.shown
            (record {
              wide = length-set s.words FRONT (t + 1);
              places = length-set s.homes (t % n) maybe.none;
              next =
                  get_or-set_other s.words FRONT NEXT (t + 1) 0 (λ z. omega arith)
                  ∙ r.shown.next;
              front = get_or-set_same s.words FRONT (t + 1) 0 (omega arith);
              bounded = r.shown.bounded;
              words_else =
                  λ i _. other i;
              homes_else = λ i apart. set_else s.homes (t % n) i maybe.none apart;
              cell_here = λ c is.
                  let same : new ≡ c = cc in subst W same (other (t % n) ∙ before.0);
              free_here = λ none. not_both none has;
              spare_else =
                  λ u _. kind.stays firsts n r.history (entry kind.blank v.known e) u (λ z y is. cc);
            })),
      )

  pub take_step : (note : N) (t : ℕ) (x : T) (y : S) → kind.brings note y → v.stage ≡ Reading t x → HasCell r.queue.cells t Emptying x a
      → Acted note (Take t x) Idle (set s.words (seq_of n t) (t + n)) (set s.homes (t % n) (maybe.some y))
  take_step note t x y brought stage old =
      let q : Queue T = r.queue
      in let e : Event T = Take t x
      in let q' : Queue T = after q a e
      in let sound : IsSound n q = sound_now kind firsts n f s r a v at
      in let turn : Turn n a t q q' = turn_take n a q sound t x old
      in let may : Allows n q a e = old
      in let was : Cell T = record { ticket = t; mark = Emptying; item = x; actor = a }
      in let gone : cell_of t q'.cells ≡ None = cell_of-without_same t (q.next - n) q.cells q.next sound.rising
      in let below : (q.next - n ≤ t) × (t < q.next) = within n q t was sound old
      in let words : List ℕ = set s.words (seq_of n t) (t + n)
      in let homes : List (maybe.Option S) = set s.homes (t % n) (maybe.some y)
      in acted {note = note} {e = e} Idle may tt
      (staged_turn n a t q q' turn r.history (entry note v.known e ∷ []) s.views v (acting note e Idle) at r.staged work
      (record {
        left_write = λ p y is. absurd (let wrong : Reading t x ≡ Writing p y = sym stage ∙ is in cc);
        left_read =
            λ p y is. let same : Reading t x ≡ Reading p y = sym stage ∙ is in cc;
        now_write = λ y b h. not_both gone h;
        now_read =
            λ y b h. not_both gone h;
      }))
      (shown_turn kind.has (kind.spare firsts) {h' = longer note e} {words' = words} {homes' = homes}
      (sound_next e may) turn below.1 r.shown (record {
        wide = length-set s.words (seq_of n t) (t + n);
        places = length-set s.homes (t % n) (maybe.some y);
        next =
            get_or-set_other s.words (seq_of n t) NEXT (t + n) 0 (λ z. omega arith)
            ∙ r.shown.next;
        front = get_or-set_other s.words (seq_of n t) FRONT (t + n) 0 (λ z. omega arith)
            ∙ r.shown.front;
        bounded = r.shown.bounded;
        words_else = λ i apart.
            get_or-set_other s.words (seq_of n t) (i * APART + SEQUENCES) (t + n) 0 (λ z. apart (omega arith));
        homes_else =
            λ i apart. set_else s.homes (t % n) i (maybe.some y) apart;
        cell_here = λ c is. not_both gone is;
        free_here = λ _. (
          get_or-set_same s.words (seq_of n t) (t + n) 0 (seq_in t),
          (
            y,
            set_here s.homes (t % n) (maybe.some y) (place_in t),
            kind.comes firsts n r.history (entry note v.known e) t x refl y brought,
          ),
        );
        spare_else = λ u apart.
            kind.stays firsts n r.history (entry note v.known e) u
            (λ z y is same. let w : t ≡ z = cc in apart (sym same ∙ ap (λ (k : ℕ). k + n) (sym w)));
      }))
