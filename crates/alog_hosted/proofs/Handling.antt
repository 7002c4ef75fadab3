-- A worker that is lent its pool, between its calls.
use Rattle.std.proofs.Common.{◌≡◌, ◌≢◌, ℕ, ◌+◌, Some, None, Option, inl, inr, List, [], ◌∷◌, ◌++◌, refl, sym, ap, subst, ◌∙◌, append_assoc, append-nil, length, length-append, arith}
use Rattle.std.specs.Prelude.{IfSome, drop}
use Rattle.alog_core.specs.Accounts.{takes}
use Rattle.alog_hosted.specs.Lent.{HostedView}
use Rattle.alog_hosted.specs.Owed.{IsLastOf, MakesPart, OwesLast, half_of, owed_of, rest_from}
use Rattle.alog_hosted.specs.Workers.{HasEnded, IsPause, IsSameWorker, IsWorker, IsWorkerOf, SawIdle, SawSome, WasRefused, WorkerView}
use Rattle.alog_hosted.specs.declared.worker.Pause.{Pause}
use Rattle.alog_hosted.specs.declared.worker.Pause.TheVariants as pause
use Rattle.alog_hosted.specs.declared.owed.Owed.{Owed}
use Rattle.alog_msg.specs.Block.{BlockFields}
use Rattle.alog_msg.specs.declared.item.Item.{Item}
use Rattle.alog_msg.specs.declared.item.Item.TheVariants.{Stop}
use Rattle.alog_pool.specs.Accounts.{Moved}
use Rattle.alog_pool.specs.Deeds.{Due, HaveMade, all_dues, dues_of}
use Rattle.alog_pool.specs.Pool.{lanes_of}
use Rattle.alog_pool.specs.SinkSeat.{AreServable, Place, SinkSeatView, places_of}
use Rattle.alog_pool.specs.Working.{AreLimited, IsWorkOf}
use Rattle.alog_pool.specs.declared.shared.Shared.{Shared}
use Rattle.alog_pool.proofs.SharedDeeds.{all_dues-append, have_own, have_then}
use Rattle.alog_pool.proofs.SharedMoves.{moved_more, not_moved}
use Rattle.alog_pool.proofs.SharedRows.{place_lanes}
use Rattle.alog_pool.proofs.SharedWorked.{all_servable, moved_gots}
use Rattle.alog_registry.specs.BlockPort.{block_note}
use Rattle.alog_registry.specs.Limit.{HoldsTo}
use Rattle.alog_registry.specs.declared.logger.Logger.{Logger}
use Rattle.alog_ring.specs.Known.{IsPassOf, Known, PassView}
use Rattle.alog_ring.specs.Made.{IsFaithful}
use Rattle.alog_ring.specs.Refused.{PopRefusedAs}
use Rattle.alog_ring.specs.declared.pop.PopError.{PopError}
use Rattle.alog_ring.specs.declared.pop.PopError.TheVariants as pop

-- what was made of what is owed, in the worker's own words
pub part_of : {S : Type 0} {ls ms : List Logger} {owed : Option Owed} (o : Owed) {x y : Item} {old new : List (SinkSeatView S)} (r : Option ℕ)
    → ms ≡ ls → owed ≡ Some o → y ≡ x
    → MakesPart old new (drop o.place (dues_of ms o.ticket y)) (rest_from (dues_of ms o.ticket y) r)
    → MakesPart old new (owed_of ls owed x) (rest_from (dues_of ls o.ticket x) r)
part_of {ls} {ms} o {x} {old} {new} r loggers is item part =
    subst (λ (q : Option Owed). MakesPart old new (owed_of ls q x) (rest_from (dues_of ls o.ticket x) r)) (sym is)
    (subst (λ (l : List Logger). MakesPart old new (drop o.place (dues_of l o.ticket x)) (rest_from (dues_of l o.ticket x) r)) loggers
    (subst (λ (z : Item). MakesPart old new (drop o.place (dues_of ms o.ticket z)) (rest_from (dues_of ms o.ticket z) r)) item part))

module _ {S : Type 0} {shared : Shared} {pass : PassView Item block_note} {block : BlockFields} {places : List (SinkSeatView S)}
    {tickets : List ℕ} {handled most : ℕ} {owed : List Due} where
  -- a worker that made the first of the turns that it owes
  pub still_worker : {new : List (SinkSeatView S)} {rest : List Due} → IsWorker shared pass block places tickets handled most owed
      → places_of new ≡ places_of places → MakesPart places new owed rest → IsWorker shared pass block new tickets handled most rest
  still_worker {new} {rest} w same part = record {
    ring = w.ring;
    work = w.work;
    block_fits = w.block_fits;
    limits = subst (λ (ps : List (Place S)). AreLimited shared.ring.ring.limit.most ps) (sym same) w.limits;
    start = w.start;
    began = w.began;
    same = same ∙ w.same;
    made = w.made ++ part.made;
    all = w.all ∙ ap (λ (l : List Due). w.made ++ l) part.split ∙ sym (append_assoc w.made part.made rest);
    turns = have_then 0 w.start places new w.made part.made w.turns part.turns;
  }

  -- one that made own flushes, and whose pass moved nothing
  pub moved_worker : {new : PassView Item block_note} {rests : List (SinkSeatView S)} → IsWorker shared pass block places tickets handled most owed
      → IsPassOf shared.ring.ring new → IsWorkOf most new.known tickets handled → Moved pass.known new.known [] []
      → places_of rests ≡ places_of places → HaveMade 0 places rests []
      → IsWorker shared new block rests tickets handled most owed
  moved_worker {new} {rests} w ring work moved same made = record {
    ring = ring;
    work = work;
    block_fits = w.block_fits;
    limits = subst (λ (ps : List (Place S)). AreLimited shared.ring.ring.limit.most ps) (sym same) w.limits;
    start = w.start;
    began = w.began;
    same = same ∙ w.same;
    made = w.made;
    all = ap (λ (q : List (ℕ × Item)). all_dues shared.loggers q) (moved_gots pass.known new.known [] [] moved ∙ append-nil (takes pass.known.own)) ∙ w.all;
    turns = have_own w.start places rests w.made w.turns made;
  }

  -- one that took an item, whose turns it owes
  pub took_worker : {new : PassView Item block_note} {after : BlockFields} {ts : List ℕ} {hs : ℕ} (t : ℕ)
      → IsWorker shared pass block places tickets handled most [] → owed ≡ [] → IsPassOf shared.ring.ring new
      → IsWorkOf most new.known ts hs → Moved pass.known new.known [] ((t, after.item) ∷ []) → HoldsTo shared.ring.ring.limit after
      → IsWorker shared new after places ts hs most (dues_of shared.loggers t after.item)
  took_worker {new} {after} t w none ring work moved fits = record {
    ring = ring;
    work = work;
    block_fits = fits;
    limits = w.limits;
    start = w.start;
    began = w.began;
    same = w.same;
    made = w.made;
    all = ap (λ (q : List (ℕ × Item)). all_dues shared.loggers q) (moved_gots pass.known new.known [] ((t, after.item) ∷ []) moved)
        ∙ all_dues-append shared.loggers (takes pass.known.own) ((t, after.item) ∷ [])
        ∙ (λ i. (w.all ∙ append-nil w.made) i ++ append-nil (dues_of shared.loggers t after.item) i);
    turns = w.turns;
  }

  -- its item may be served, unless it is a stop
  pub may_serve : IsWorker shared pass block places tickets handled most owed → block.item ≢ Stop → AreServable block.item (places_of places)
  may_serve w other = all_servable shared.ring.ring.limit.most block.item (places_of places) w.limits w.block_fits.1 other

-- what a pop was refused for stays so, whatever was taken before
saw_more : {j k l : Known Item block_note} {gots : List (ℕ × Item)} → Moved j k [] gots → (why : PopError) → WasRefused k l why → WasRefused j l why
saw_more {gots} moved why saw = record {
  gots = gots ++ saw.gots;
  before = saw.before;
  took = moved_more moved saw.took;
  last = saw.last;
}

idle_more : {j k l : Known Item block_note} {gots : List (ℕ × Item)} → Moved j k [] gots → SawIdle k l → SawIdle j l
idle_more moved saw = (saw.0, saw_more moved (pop.Idle saw.0) saw.1)

some_more : {j k l : Known Item block_note} {gots : List (ℕ × Item)} → Moved j k [] gots → SawSome k l → SawSome j l
some_more moved (inl saw) = inl (saw.0, saw_more moved (pop.Empty saw.0) saw.1)
some_more moved (inr saw) = inr (saw.0, saw_more moved (pop.Busy saw.0) saw.1)

-- what was ended first and what was ended then
pub ended_then : {S : Type 0} (u v w : WorkerView S) (m n : ℕ) → HasEnded u v m → HasEnded v w n → HasEnded u w (m + n)
ended_then u v w m n one two = record {
  gots = one.gots ++ two.gots;
  took = moved_more one.took two.took;
  count = (let a = one.count in let b = two.count in let both = length-append one.gots two.gots in omega (arith, a, b, both));
}

module _ {S : Type 0} where
  -- why it stopped does not depend on what it took before, nor on how many items it was to end, unless it ended all of them
  pub paused : (u v w : WorkerView S) (n most items : ℕ) (p : Pause) → HasEnded u v n → IsPause 1 v w 0 p → IsPause most u w items p
  paused u v w n most items pause.Done first is = absurd (omega (arith, is.0))
  paused u v w n most items pause.Idle first is = (idle_more first.took is.0, is.1, is.2, is.3)
  paused u v w n most items pause.Soon first is = (some_more first.took is.0, is.1, is.2)
  paused u v w n most items pause.Held first (inl half) = inl half
  paused u v w n most items pause.Held first (inr is) = inr (idle_more first.took is.0, is.1)

  -- a worker that took an item, and then made what it owed, or some of it
  pub took_and_made : (u v w : WorkerView S) (r : Option Pause) → HasEnded u v 0 → IfSome r (λ p. HasEnded v w 0 × IsPause 1 v w 0 p)
      → IfSome r (λ p. HasEnded u w 0 × IsPause 1 u w 0 p)
  took_and_made u v w None one two = two
  took_and_made u v w (Some p) one two = (ended_then u v w 0 0 one two.0, paused u v w 0 1 0 p one two.1)

  pub same_then : {u v w : WorkerView S} → IsSameWorker u v → IsSameWorker v w → IsSameWorker u w
  same_then one two = record {
    shared = two.shared ∙ one.shared;
    lanes = two.lanes ∙ one.lanes;
    number = two.number ∙ one.number;
    most = two.most ∙ one.most;
  }

  pub same_self : (u : WorkerView S) → IsSameWorker u u
  same_self u = record { shared = refl; lanes = refl; number = refl; most = refl }

  pub still_of : {hosted : HostedView S} {u v : WorkerView S} → IsSameWorker u v → IsWorkerOf hosted u → IsWorkerOf hosted v
  still_of same of = record { shared = same.shared ∙ of.shared; lanes = same.lanes ∙ of.lanes }

-- where no item is half done, nothing is owed
pub free_owes : (ls : List Logger) (owed : Option Owed) (x : Item) → half_of owed ≡ 0 → owed_of ls owed x ≡ []
free_owes ls None x free = refl
free_owes ls (Some o) x free = absurd (omega (arith, free))

pub free_last : (taken : List (ℕ × Item)) (owed : Option Owed) (x : Item) → half_of owed ≡ 0 → IsLastOf taken owed x
free_last taken None x free = tt
free_last taken (Some o) x free = absurd (omega (arith, free))

-- what is owed for an item that is half done
pub owes_last : (loggers : List Logger) (taken : List (ℕ × Item)) (owed : Option Owed) (x : Item) → IsLastOf taken owed x
    → OwesLast loggers taken (owed_of loggers owed x)
owes_last loggers taken None x last = inl refl
owes_last loggers taken (Some o) x last =
    inr (record { before = last.0; ticket = o.ticket; item = x; place = o.place; last = last.1; rest = refl })

-- a pass that moved nothing
pub ended_none : {S : Type 0} (old new : WorkerView S) → Moved old.pass.known new.pass.known [] [] → new.half ≡ old.half → HasEnded old new 0
ended_none old new moved same = record { gots = []; took = moved; count = omega (arith, same) }

module _ {S : Type 0} {shared : Shared} {pass : PassView Item block_note} {places : List (SinkSeatView S)} {tickets : List ℕ}
    {handled number most half : ℕ} {owed : List Due} {now : WorkerView S}
    (is : record {
      shared = shared;
      pass = pass;
      places = places;
      tickets = tickets;
      handled = handled;
      number = number;
      most = most;
      half = half;
      owed = owed;
    } ≡ now) where
  -- it is the same worker after a call that kept its places
  pub same_after : {p : PassView Item block_note} {bs : List (SinkSeatView S)} {ts : List ℕ} {hs h : ℕ} {o : List Due} → places_of bs ≡ places_of places
      → IsSameWorker now (record {
        shared = shared;
        pass = p;
        places = bs;
        tickets = ts;
        handled = hs;
        number = number;
        most = most;
        half = h;
        owed = o;
      })
  same_after {bs} same = record {
    shared = ap (λ (v : WorkerView S). v.shared) is;
    lanes = place_lanes places bs same ∙ ap (λ (v : WorkerView S). lanes_of v.places) is;
    number = ap (λ (v : WorkerView S). v.number) is;
    most = ap (λ (v : WorkerView S). v.most) is;
  }

  -- it took nothing yet
  pub ended_self : IsFaithful pass.known → HasEnded now now 0
  ended_self faithful = record {
    gots = [];
    took = subst (λ (v : WorkerView S). Moved v.pass.known v.pass.known [] []) is (not_moved pass.known faithful);
    count = omega arith;
  }

  -- it took nothing more
  pub ended_now : {bs : List (SinkSeatView S)} {ts : List ℕ} {hs h : ℕ} {o : List Due} → IsFaithful pass.known → (n : ℕ) → n + h ≡ now.half
      → HasEnded now (record {
        shared = shared;
        pass = pass;
        places = bs;
        tickets = ts;
        handled = hs;
        number = number;
        most = most;
        half = h;
        owed = o;
      }) n
  ended_now faithful n count = record {
    gots = [];
    took = subst (λ (v : WorkerView S). Moved v.pass.known pass.known [] []) is (not_moved pass.known faithful);
    count = omega (arith, count);
  }

  -- its pass took these
  pub ended_took : {p : PassView Item block_note} {b : List (SinkSeatView S)} {ts : List ℕ} {hs h : ℕ} {o : List Due} (gots : List (ℕ × Item))
      → Moved pass.known p.known [] gots → (n : ℕ) → n + h ≡ now.half + length gots
      → HasEnded now (record {
        shared = shared;
        pass = p;
        places = b;
        tickets = ts;
        handled = hs;
        number = number;
        most = most;
        half = h;
        owed = o;
      }) n
  ended_took {p} gots moved n count = record {
    gots = gots;
    took = subst (λ (v : WorkerView S). Moved v.pass.known p.known [] gots) is moved;
    count = count;
  }

  -- a pop was refused at once
  pub refused_now : {l : Known Item block_note} → IsFaithful pass.known → (why e : PopError) → e ≡ why → PopRefusedAs None pass.known l e
      → WasRefused now.pass.known l why
  refused_now {l} faithful why e same refused =
      subst (λ (v : WorkerView S). WasRefused v.pass.known l why) is (record {
        gots = [];
        before = pass.known;
        took = not_moved pass.known faithful;
        last = subst (λ (x : PopError). PopRefusedAs None pass.known l x) same refused;
      })
