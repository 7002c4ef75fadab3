-- How a step of a seat keeps the rule, put together from the history, the stages, and the words and places.
use Rattle.std.proofs.Common.{◌≡◌, ◌≢◌, ℕ, ◌<◌, ◌≤◌, Option, Some, None, List, [], ◌∷◌, ◌++◌, set, get_or, refl, sym, ap}
use Rattle.std.proofs.Common.{subst, ◌∙◌, arith}
use Rattle.std.proofs.lemmas.List.{append-nil}
use mathlib.Core.Option as maybe
use mathlib.Core.Option.{some}
use mathlib.Core.List.{IsPrefix}
use lib.ListN.{get_elem?}
use lib.Seq.{set-get_or}
use Rattle.atomic_table.specs.Table.{State}
use Rattle.alog_core.specs.Queue as queue
use Rattle.alog_core.specs.Queue.{Queue, Event, Claim, Write, Grab, Take, Full, Front, Empty, PushBusy, PopBusy, Spent, start}
use Rattle.alog_core.specs.Queue.{Allows, after, IsSound}
use Rattle.alog_core.specs.History.{Entry, IsLegal, left_by, own_of, last_event, latest, Follows, StandsFor}
use Rattle.alog_core.proofs.SharedCells.{at_same, at_other}
use Rattle.alog_core.proofs.SharedHistories.{left_by-append, latest_own, stands_after, stands_sound}
use Rattle.alog_ring.specs.Kinds.{PlaceKind}
use Rattle.alog_ring.specs.Made.{AreExact, Made, next_seen, front_seen, entry, Adds}
use Rattle.alog_ring.specs.Sight.{Stage, Idle, Sight}
use Rattle.alog_ring.specs.Rule.{IsAtWork, Knows, Staged, Shown, Ruled}
use Rattle.alog_ring.proofs.SharedLists.{prefix_longer}
use Rattle.alog_ring.proofs.Telling.{AreOf, grown, grows_now, faithful_now, told_more, members_distinct}
use Rattle.alog_ring.proofs.Turning.{IsFree, staged_on}
use Rattle.alog_ring.proofs.Showing.{shown_on}

-- positions only rise
pub rises_after : {T : Type 0} (q : Queue T) (a : ℕ) (e : Event T) → (q.next ≤ (after q a e).next)
    × (q.front ≤ (after q a e).front)
rises_after q a (Claim t x) = (omega arith, omega arith)
rises_after q a (Write t) = (omega arith, omega arith)
rises_after q a (Grab t) = (omega arith, omega arith)
rises_after q a (Take t x) = (omega arith, omega arith)
rises_after q a (Full t) = (omega arith, omega arith)
rises_after q a (Front t) = (omega arith, omega arith)
rises_after q a (Empty t) = (omega arith, omega arith)
rises_after q a (queue.Idle t) = (omega arith, omega arith)
rises_after q a (PushBusy t) = (omega arith, omega arith)
rises_after q a (PopBusy t) = (omega arith, omega arith)
rises_after q a Spent = (omega arith, omega arith)

pub rises_left : {T N : Type 0} (q : Queue T) (h : List (Entry T N)) → (q.next ≤ (left_by q h).next)
    × (q.front ≤ (left_by q h).front)
rises_left q [] = (omega arith, omega arith)
rises_left q (x ∷ h) =
    let one : (q.next ≤ (after q x.actor x.event).next) × (q.front ≤ (after q x.actor x.event).front) =
    rises_after q x.actor x.event
    in let rest : ((after q x.actor x.event).next ≤ (left_by (after q x.actor x.event) h).next)
    × ((after q x.actor x.event).front ≤ (left_by (after q x.actor x.event) h).front) =
    rises_left (after q x.actor x.event) h
    in (omega (arith, one.0, rest.0), omega (arith, one.1, rest.1))

pub rises_prefix : {T N : Type 0} (f : ℕ) (s h : List (Entry T N)) → IsPrefix s h
    → ((left_by (start {T = T} f) s).next ≤ (left_by (start {T = T} f) h).next)
    × ((left_by (start {T = T} f) s).front ≤ (left_by (start {T = T} f) h).front)
rises_prefix {T} f s h p =
    let P : Queue T → Type 0 = λ r. ((left_by (start f) s).next ≤ r.next) × ((left_by (start f) s).front ≤ r.front)
    in subst P (sym (left_by-append (start f) s p.0) ∙ ap (λ l. left_by (start {T = T} f) l) p.1)
    (rises_left (left_by (start f) s) p.0)

-- one entry of an actor
pub one_of : {T N : Type 0} (a : ℕ) (x : Entry T N) → x.actor ≡ a → AreOf a (x ∷ [])
one_of a x same = record {
  all = at_same x.actor a (x ∷ []) [] same;
  others = λ b apart. at_other x.actor b (x ∷ []) [] (λ e. apart (sym e ∙ same));
}

pub none_of : {T N : Type 0} (a : ℕ) → AreOf {T = T} {N = N} a []
none_of a = record { all = refl; others = λ b apart. refl }

module _ {S T N : Type 0} (kind : PlaceKind S T N) (firsts : List S) (n f : ℕ) (s : State S (Sight T N))
    (r : Ruled kind.has (kind.spare firsts) n f s) (a : ℕ) (v : Sight T N) (at : get_elem? s.views a ≡ some v) where
  pub sound_now : IsSound n r.queue
  sound_now = stands_sound n f r.history r.queue (let two : 2 ≤ n = r.two in omega arith) r.stands

  pub knows_now : (st : Stage T N) → v.stage ≡ st → Knows n r.history r.queue a v.known st
  knows_now st is = let K : Stage T N → Type 0 = λ z. Knows n r.history r.queue a v.known z in
      subst K is (r.staged.knows a v at)

  -- the positions that a pass has seen are behind those of now
  pub seen_behind : 0 < v.known.parts → (next_seen v.known ≤ r.queue.next) × (front_seen v.known ≤ r.queue.front)
  seen_behind live =
      let P : ℕ → Type 0 = λ z. ((left_by (start {T = T} z) v.known.seen).next ≤ r.queue.next)
      × ((left_by (start {T = T} z) v.known.seen).front ≤ r.queue.front)
      in let Q : Queue T → Type 0 = λ z. ((left_by (start f) v.known.seen).next ≤ z.next)
      × ((left_by (start f) v.known.seen).front ≤ z.front)
      in subst P (sym (r.told.first a v at live))
      (subst Q r.stands.queue (rises_prefix f v.known.seen r.history (r.told.seen a v at)))

  module _ (work : IsAtWork a v.known) (more : List (Entry T N)) (of : AreOf a more) (stage : Stage T N) where
    abbrev pub stepping : Sight T N
    stepping = record { stage = stage; known = grown v.known r.history more }

    pub made : (q : Queue T) → StandsFor n f (r.history ++ more) q → Made v.known (grown v.known r.history more) more
    made q stands =
        let P : ℕ → Type 0 = λ z. IsLegal z v.known.first (r.history ++ more)
        in let Q : ℕ → Type 0 = λ z. IsLegal n z (r.history ++ more)
        in let R : ℕ → Type 0 = λ z. v.known.own ++ more ≡ own_of z (r.history ++ more)
        in let now : (v.known.own ++ more ≡ own_of a (r.history ++ more)) × AreExact v.known.joined (r.history ++ more) =
        faithful_now v r.told at work.1 of
        in record {
          places = refl;
          first = refl;
          actor = refl;
          parts = refl;
          joined = refl;
          seen = prefix_longer v.known.seen r.history more (r.told.seen a v at);
          own = refl;
          faithful = record {
            legal = subst P (sym (r.told.places a v at work.1)) (subst Q (sym (r.told.first a v at work.1)) stands.legal);
            own = subst R (sym work.0) now.0;
            joined = now.1;
            distinct = members_distinct v r.told at work.1 work.0;
          };
        }

    pub kept : (q : Queue T) (words : List ℕ) (homes : List (maybe.Option S)) → StandsFor n f (r.history ++ more) q
        → Staged n (r.history ++ more) q (set s.views a stepping)
        → Shown kind.has (kind.spare firsts) n (r.history ++ more) q words homes
        → Ruled kind.has (kind.spare firsts) n f (record { words = words; homes = homes; views = set s.views a stepping })
    kept q words homes stands staged shown = record {
      history = r.history ++ more;
      queue = q;
      two = r.two;
      stands = stands;
      told = told_more n f a r.history more s.views v stepping r.told at work.1 of (grows_now a r.history more v);
      staged = staged;
      shown = shown;
    }

    -- a step that changes neither the queue nor a word nor a place
    pub kept_still : (i : ℕ) → IsFree v.stage → StandsFor n f (r.history ++ more) r.queue
        → ((t : ℕ) (z : S) → kind.spare firsts n r.history t z → kind.spare firsts n (r.history ++ more) t z)
        → Knows n (r.history ++ more) r.queue a (grown v.known r.history more) stage
        → Ruled kind.has (kind.spare firsts) n f
        (record { words = set s.words i (get_or s.words i 0); homes = s.homes; views = set s.views a stepping })
    kept_still i free stands same knows =
        let P : List ℕ → Type 0 =
        λ ws.
        Ruled kind.has (kind.spare firsts) n f (record { words = ws; homes = s.homes; views = set s.views a stepping })
        in subst P (sym (set-get_or s.words i 0))
        (kept r.queue s.words s.homes stands
        (staged_on a more stepping sound_now at r.staged knows free)
        (shown_on kind.has (kind.spare firsts) n r.queue r.history (r.history ++ more) s.words s.homes same r.shown))

  -- the seat only looks
  pub looks : (i : ℕ) → IsAtWork a v.known → IsFree v.stage → (stage : Stage T N)
      → Knows n (r.history ++ []) r.queue a (grown v.known r.history []) stage
      → Ruled kind.has (kind.spare firsts) n f
      (record {
        words = set s.words i (get_or s.words i 0);
        homes = s.homes;
        views = set s.views a (record { stage = stage; known = grown v.known r.history [] });
      })
      × Made v.known (grown v.known r.history []) []
  looks i work free stage knows =
      let P : List (Entry T N) → Type 0 = λ h. StandsFor n f h r.queue
      in let stands : StandsFor n f (r.history ++ []) r.queue = subst P (sym (append-nil r.history)) r.stands
      in (
        kept_still work [] (none_of a) stage i free stands
            (λ t z is. let P : List (Entry T N) → Type 0 = λ h. kind.spare firsts n h t z in subst P (sym (append-nil r.history)) is) knows,
        made work [] (none_of a) stage r.queue stands,
      )

  -- the last event that the pass knows of its own is its actor's latest, and an entry that it makes now is the last then
  pub latest_now : 0 < v.known.parts → (o : Option (Event T)) → last_event None v.known.own ≡ o → latest a r.history ≡ o
  latest_now live o is = ap (λ (l : List (Entry T N)). last_event None l) (sym (r.told.entries a v at live).own) ∙ is

  pub last_made : IsAtWork a v.known → (note : N) (e : Event T)
      → last_event None (v.known.own ++ entry note v.known e ∷ []) ≡ Some e
  last_made work note e =
      let x : Entry T N = entry note v.known e
      in ap (λ (l : List (Entry T N)). last_event None l)
      (faithful_now v r.told at work.1 (one_of a x work.0)).0
      ∙ latest_own a r.history x work.0

  -- the rule after a refusal that a load at this word told, and what it tells
  abbrev pub Refused : ℕ → Stage T N → Event T → Type 0
  Refused i stage e =
      Ruled kind.has (kind.spare firsts) n f
      (record {
        words = set s.words i (get_or s.words i 0);
        homes = s.homes;
        views =
            set s.views a (record { stage = stage; known = grown v.known r.history (entry kind.blank v.known e ∷ []) });
      })
      × Adds kind.blank v.known (grown v.known r.history (entry kind.blank v.known e ∷ [])) e

  -- an event that changes nothing, and is no take
  abbrev pub IsStill : Event T → Type 0
  IsStill e = (after r.queue a e ≡ r.queue) × ((u : ℕ) (y : T) → e ≢ Take u y)

  -- the seat tells a refusal, which changes nothing, and stands at this stage then
  pub tells : (i : ℕ) → IsAtWork a v.known → IsFree v.stage → (stage : Stage T N) {e : Event T} → Allows n r.queue a e
      → Follows (latest a r.history) e → IsStill e
      → Knows n (r.history ++ entry kind.blank v.known e ∷ []) r.queue a
      (grown v.known r.history (entry kind.blank v.known e ∷ [])) stage
      → Refused i stage e
  tells i work free stage {e} may follows still knows =
      let x : Entry T N = entry kind.blank v.known e
      in let P : Queue T → Type 0 = λ q. StandsFor n f (r.history ++ x ∷ []) q
      in let A : ℕ → Type 0 = λ b. Allows n r.queue b e
      in let B : ℕ → Type 0 = λ b. after r.queue b e ≡ r.queue
      in let F : ℕ → Type 0 = λ b. Follows (latest b r.history) e
      in let stands : StandsFor n f (r.history ++ x ∷ []) r.queue =
      subst P (subst B (sym work.0) still.0)
      (stands_after n f r.history r.queue x r.stands (subst A (sym work.0) may) (subst F (sym work.0) follows))
      in (
        kept_still work (x ∷ []) (one_of a x work.0) stage i free stands
            (λ t. kind.stays firsts n r.history x t (λ u y is. absurd (still.1 u y is))) knows,
        (made work (x ∷ []) (one_of a x work.0) stage r.queue stands, (r.history, refl)),
      )

  -- the seat ends its round with a refusal
  pub refuses : (i : ℕ) → IsAtWork a v.known → IsFree v.stage → (e : Event T) → Allows n r.queue a e
      → Follows (latest a r.history) e → IsStill e → Refused i Idle e
  refuses i work free e may follows still = tells i work free Idle may follows still work
