-- What a call of `Loggers` leaves of what a producer lends it.
use Rattle.std.proofs.Common.{◌≡◌, ℕ, ℤ, zero, suc, ◌<◌, Bor, Bool, true, false, Some, None, Option, Result, Ok, Err, List, [], ◌∷◌, length, refl, sym, ap, subst, ◌∙◌, arith}
use Rattle.std.specs.Prelude.{slice_get, slice_set, slice_index_or, IfOk, OnErr}
use Rattle.alog_msg.specs.Block.{BlockFields}
use Rattle.alog_msg.specs.declared.item.Item.{Item}
use Rattle.alog_msg.specs.declared.message.Message.{Message}
use Rattle.alog_msg.specs.declared.message.MessageError.{MessageError}
use Rattle.alog_policy.specs.BookCalls.{BookId, SeatView, IsSeatOf as IsBookSeatOf}
use Rattle.alog_policy.specs.SwapPort.{IsThere, SwapDid}
use Rattle.alog_policy.specs.Progress.{without_waiting}
use Rattle.alog_policy.specs.declared.policy.Outcome.{Outcome}
use Rattle.alog_policy.specs.declared.policy.Policy.{Policy}
use Rattle.alog_lane.specs.Calls.{LaneId, IsSeatOf}
use Rattle.alog_pool.specs.Accounts.{stop}
use Rattle.alog_pool.specs.BacktraceSeat.{BacktraceSeatView, LaneSeatView, IsBacktraceSeat, IsKeeperOf, Keeps}
use Rattle.alog_pool.specs.Lending.{IsAccountOf, LendsAlike}
use Rattle.alog_pool.specs.Producer.{ProducerView, AreBacktraceSeats, HasBlocks, IsProducer, IsPortOf, Lent}
use Rattle.alog_pool.specs.declared.shared.Shared.{Shared}
use Rattle.alog_pool.proofs.SharedPosting.{post_stops, post_takes, account_after}
use Rattle.alog_registry.specs.ItemOutlet.{PostsItem}
use Rattle.alog_registry.specs.Backtrace.{Room}
use Rattle.alog_registry.specs.Dumping.{PostsEach, posted_of}
use Rattle.alog_registry.specs.LaneKeeper.{IsSeated, LendsSame, KeepsByTurn, DumpsByTurn, NeverPasses, Passes}
use Rattle.alog_registry.specs.Limit.{HoldsTo}
use Rattle.alog_registry.specs.Listed.{spec_at}
use Rattle.alog_registry.specs.Logging.{KeepsCopy, Logs, copy_of}
use Rattle.alog_registry.specs.declared.turn.BacktraceScratch.{BacktraceScratch}
use Rattle.alog_registry.specs.declared.keep.LaneKeeper.{LaneKeeper}
use Rattle.alog_registry.specs.declared.limit.TextLimit.{TextLimit}
use Rattle.alog_registry.specs.declared.logger.Logger.{Logger}
use Rattle.alog_registry.specs.declared.logger.Spec.{Spec}
use Rattle.alog_registry.specs.declared.logging.LogReply.{LogReply}
use Rattle.alog_registry.specs.declared.logging.LogReply.TheVariants.{Filtered, Logged}
use Rattle.alog_registry.specs.BlockPort.{BlockPort, IsReadyPort, block_note}
use Rattle.alog_registry.proofs.SharedListing.{spec_there}
use Rattle.alog_ring.specs.Known.{PassView, IsPassOf}
use Rattle.alog_ring.specs.Swaps.{SwapId}

abbrev pub Queueing : Type 0
Queueing = BlockPort

same_port : (a b : Queueing) → b ≡ a → LendsAlike a b
same_port a b e = record {
  ring = ap (λ (p : Queueing). p.ring) e;
  book = ap (λ (p : Queueing). p.book) e;
  pass = ap (λ (p : Queueing). p.pass.ghost_name) e;
  seat = ap (λ (p : Queueing). p.seat.ghost_name) e;
  hand = ap (λ (p : Queueing). p.hand.ghost_name) e;
  spare = ap (λ (p : Queueing). p.spare.ghost_name) e;
  pace = ap (λ (p : Queueing). p.pace.ghost_name) e;
  account = λ is. subst (λ (p : Queueing). IsAccountOf p.pass.now.known p.seat.now.known) (sym e) is;
}

pub posts_port : (p : Policy) (x : Item) (a b : Queueing) (o : Outcome (Unit {0})) → stop x ≡ 0 → PostsItem SwapDid p x a b o
    → LendsAlike a b
posts_port p x a b o none posts = record {
  ring = posts.done.ring;
  book = posts.done.book;
  pass = posts.done.pass_lent;
  seat = posts.done.seat_lent;
  hand = posts.done.hand_lent;
  spare = posts.done.spare_lent;
  pace = posts.done.pace_lent;
  account =
      account_after posts.done (post_stops p x tt posts.events o posts.post a.pass.now.known.actor none)
      (post_takes p x tt posts.events o posts.post);
}

then_port : (a b c : Queueing) → LendsAlike a b → LendsAlike b c → LendsAlike a c
then_port a b c one two = record {
  ring = two.ring ∙ one.ring;
  book = two.book ∙ one.book;
  pass = two.pass ∙ one.pass;
  seat = two.seat ∙ one.seat;
  hand = two.hand ∙ one.hand;
  spare = two.spare ∙ one.spare;
  pace = two.pace ∙ one.pace;
  account = λ is. two.account (one.account is);
}

pub each_port : (p : Policy) (ms : List Message) (a b : Queueing) (os : List (Outcome (Unit {0}))) → PostsEach SwapDid p ms a os b
    → LendsAlike a b
each_port p [] a b [] e = same_port a b e
each_port p [] a b (o ∷ os) e = absurd e
each_port p (m ∷ ms) a b [] e = absurd e
each_port p (m ∷ ms) a b (o ∷ os) e = then_port a e.0 b (posts_port p _ a e.0 o refl e.1) (each_port p ms e.0 b os e.2)

same_keeper : (k l : LaneKeeper) → l ≡ k → LendsSame k l × (l.scratch.now.list ≡ k.scratch.now.list)
same_keeper k l e = (
  record {
    lane = ap (λ (x : LaneKeeper). x.lane) e;
    seat = ap (λ (x : LaneKeeper). x.seat.ghost_name) e;
    scratch = ap (λ (x : LaneKeeper). x.scratch.ghost_name) e;
  },
  ap (λ (x : LaneKeeper). x.scratch.now.list) e,
)

copy_waiting : (c : Option Message) (kept : Bool) (k l : LaneKeeper) → KeepsCopy KeepsByTurn NeverPasses c kept k l
    → LendsSame k l × (l.scratch.now.list ≡ k.scratch.now.list)
copy_waiting None kept k l is = same_keeper k l is.1
copy_waiting (Some m) true k l is = (is.lends, is.list)
copy_waiting (Some m) false k l is = absurd is

copy_now : (c : Option Message) (kept : Bool) (k l : LaneKeeper) → KeepsCopy KeepsByTurn Passes c kept k l
    → LendsSame k l × (l.scratch.now.list ≡ k.scratch.now.list)
copy_now None kept k l is = same_keeper k l is.1
copy_now (Some m) true k l is = (is.lends, is.list)
copy_now (Some m) false k l is = (is.lends, is.list)

-- what a call leaves as it was: the port's parts, and the keeper's lane, seat, scratch and list
pub record LeavesLent (a : Queueing) (k : LaneKeeper) (b : Queueing) (l : LaneKeeper) : Type 0 where
  pub port : LendsAlike a b
  pub keeper : LendsSame k l
  pub list : l.scratch.now.list ≡ k.scratch.now.list

logs_waiting : (p : Policy) (s : Spec) (m : Message) {a : Queueing} {k : LaneKeeper} (r : LogReply) {b : Queueing} {l : LaneKeeper}
    → Logs SwapDid KeepsByTurn NeverPasses p s m a k r b l → LeavesLent a k b l
logs_waiting p s m {a} {k} (Filtered level kept) {b} {l} is =
    let c = copy_waiting (copy_of s m) kept k l is.2 in
    record { port = same_port a b is.1; keeper = c.0; list = c.1 }
logs_waiting p s m {a} {k} (Logged o kept) {b} {l} is =
    let c = copy_waiting (copy_of s m) kept k l is.1 in
    record { port = posts_port p _ a b o refl is.0; keeper = c.0; list = c.1 }

logs_now : (p : Policy) (s : Spec) (m : Message) {a : Queueing} {k : LaneKeeper} (r : LogReply) {b : Queueing} {l : LaneKeeper}
    → Logs SwapDid KeepsByTurn Passes p s m a k r b l → LeavesLent a k b l
logs_now p s m {a} {k} (Filtered level kept) {b} {l} is =
    let c = copy_now (copy_of s m) kept k l is.2 in
    record { port = same_port a b is.1; keeper = c.0; list = c.1 }
logs_now p s m {a} {k} (Logged o kept) {b} {l} is =
    let c = copy_now (copy_of s m) kept k l is.1 in
    record { port = posts_port p _ a b o refl is.0; keeper = c.0; list = c.1 }

nothing_done : (a : Queueing) (k : LaneKeeper) (b : Queueing) (l : LaneKeeper) → b ≡ a → l ≡ k → LeavesLent a k b l
nothing_done a k b l e f = let s = same_keeper k l f in record { port = same_port a b e; keeper = s.0; list = s.1 }

-- whatever a log with waiting answered
pub log_leaves : (ls : List Logger) (n : ℕ) (m : Message) {a : Queueing} {k : LaneKeeper}
    (r : Result LogReply MessageError) {b : Queueing} {l : LaneKeeper} → n < length ls
    → ((s : Spec) → spec_at ls n ≡ Some s → IfOk r (λ x. Logs SwapDid KeepsByTurn NeverPasses s.policy s m a k x b l))
    → OnErr r ((b ≡ a) × (l ≡ k)) → LeavesLent a k b l
log_leaves ls n m {a} {k} (Ok x) {b} {l} low ok err = let s = spec_there ls n low in logs_waiting s.0.policy s.0 m {a = a} {k = k} x {b = b} {l = l} (ok s.0 s.1)
log_leaves ls n m {a} {k} (Err e) {b} {l} low ok err = nothing_done a k b l err.0 err.1

-- whatever a log without waiting answered
pub log_now_leaves : (policy_of : Spec → Policy) (ls : List Logger) (n : ℕ) (m : Message) {a : Queueing} {k : LaneKeeper}
    (r : Result LogReply MessageError) {b : Queueing} {l : LaneKeeper} → n < length ls
    → ((s : Spec) → spec_at ls n ≡ Some s → IfOk r (λ x. Logs SwapDid KeepsByTurn Passes (policy_of s) s m a k x b l))
    → OnErr r ((b ≡ a) × (l ≡ k)) → LeavesLent a k b l
log_now_leaves policy_of ls n m {a} {k} (Ok x) {b} {l} low ok err =
    let s = spec_there ls n low in logs_now (policy_of s.0) s.0 m {a = a} {k = k} x {b = b} {l = l} (ok s.0 s.1)
log_now_leaves policy_of ls n m {a} {k} (Err e) {b} {l} low ok err = nothing_done a k b l err.0 err.1

-- whatever a dump answered
pub dump_leaves : {X E : Type 0} (items : X → List (Outcome (Unit {0}))) (ls : List Logger) (n : ℕ) (messages : Room → List Message)
    {a : Queueing} {k : LaneKeeper} (r : Result X E) {b : Queueing} {l : LaneKeeper} → n < length ls
    → ((s : Spec) → spec_at ls n ≡ Some s → IfOk r (λ v. (d : Room) × DumpsByTurn k d l
    × PostsEach SwapDid (without_waiting s.policy) (messages d) a (items v) b))
    → OnErr r ((b ≡ a) × (l ≡ k)) → LendsAlike a b × LendsSame k l
dump_leaves items ls n messages {a} (Ok v) {b} low ok err =
    let s = spec_there ls n low in
    let is = ok s.0 s.1 in
    (each_port (without_waiting s.0.policy) (messages is.0) a b (items v) is.2, is.1.lends)
dump_leaves items ls n messages {a} {k} (Err e) {b} {l} low ok err = (same_port a b err.0, (same_keeper k l err.1).0)

-- a place after a call of its keeper
pub still_seated : {most limit : ℕ} {lane : LaneId Room} {seat : LaneSeatView} {scratch : BacktraceScratch} {k l : LaneKeeper}
    → IsBacktraceSeat most limit lane seat scratch → k.lane.now ≡ lane → k.scratch.now ≡ scratch → LendsSame k l
    → l.scratch.now.list ≡ k.scratch.now.list → IsSeated l → IsBacktraceSeat most limit lane l.seat.now l.scratch.now
still_seated {lane} {l} old at was same list seated =
    let there : l.lane.now ≡ lane = ap (λ (b : Bor (LaneId Room)). b.now) same.lane ∙ at in
    record {
      seat_is = subst (λ (x : LaneId Room). IsSeatOf x l.seat.now) there seated;
      list = list ∙ (ap (λ (x : BacktraceScratch). x.list) was ∙ old.list);
      room = old.room;
      limits = old.limits;
    }

-- a keeper before and after a call, and the place that it lends then
pub record LendsPlace (k l : LaneKeeper) (v w : BacktraceSeatView) : Type 0 where
  pub lent : IsKeeperOf v k
  pub left : IsKeeperOf w l

module _ (passes : LaneKeeper → LaneKeeper → Type 0) (p : Policy) (s : Spec) (m : Message) where
  pub keeps_log : {E : Type 0} (a b : Queueing) {k l : LaneKeeper} {v w : BacktraceSeatView} (r : Result LogReply E) → LendsPlace k l v w
      → IfOk r (λ x. Logs SwapDid KeepsByTurn passes p s m a k x b l)
      → IfOk r (λ x. Keeps v w (λ y z. Logs SwapDid KeepsByTurn passes p s m a y x b z))
  keeps_log a b {k} {l} (Ok x) lends logs = record { keeper = k; after = l; lent = lends.lent; left = lends.left; called = logs }
  keeps_log a b (Err e) lends logs = logs

  pub lent_log : {E : Type 0} {old new : ProducerView} (n : ℕ) {a b : Queueing} {k : BacktraceSeatView} (l : BacktraceSeatView)
      (r : Result LogReply E) → IsPortOf old a
      → IsPortOf new b → slice_get old.backtrace_seats n ≡ Some k → new.backtrace_seats ≡ slice_set old.backtrace_seats n l
      → IfOk r (λ x. Keeps k l (λ y z. Logs SwapDid KeepsByTurn passes p s m a y x b z))
      → IfOk r (λ x. Lent old new n (λ c y d z. Logs SwapDid KeepsByTurn passes p s m c y x d z))
  lent_log n {a} {b} {k} l (Ok x) lent left found others kept = record {
    port = a;
    after = b;
    lent = lent;
    left = left;
    place = k;
    place_after = l;
    found = found;
    others = others;
    kept = kept;
  }
  lent_log n l (Err e) lent left found others kept = kept

module _ {X : Type 0} (items : X → List (Outcome (Unit {0}))) (p : Policy) (n : ℕ) (t : ℤ) (th : ℕ) where
  abbrev pub Dumped : Queueing → X → Queueing → LaneKeeper → LaneKeeper → Type 0
  Dumped a v b k l = (d : Room) × DumpsByTurn k d l × PostsEach SwapDid p (posted_of n t th d.messages) a (items v) b

  pub keeps_dump : {E : Type 0} (a b : Queueing) {k l : LaneKeeper} {v w : BacktraceSeatView} (r : Result X E) → LendsPlace k l v w
      → IfOk r (λ x. Dumped a x b k l) → IfOk r (λ x. Keeps v w (λ y z. Dumped a x b y z))
  keeps_dump a b {k} {l} (Ok x) lends did = record { keeper = k; after = l; lent = lends.lent; left = lends.left; called = did }
  keeps_dump a b (Err e) lends did = did

  pub lent_dump : {E : Type 0} {old new : ProducerView} (at : ℕ) {a b : Queueing} {k : BacktraceSeatView} (l : BacktraceSeatView)
      (r : Result X E) → IsPortOf old a
      → IsPortOf new b → slice_get old.backtrace_seats at ≡ Some k → new.backtrace_seats ≡ slice_set old.backtrace_seats at l
      → IfOk r (λ x. Keeps k l (λ y z. Dumped a x b y z))
      → IfOk r (λ x. Lent old new at (λ c y d z. Dumped c x d y z))
  lent_dump at {a} {b} {k} l (Ok x) lent left found others kept = record {
    port = a;
    after = b;
    lent = lent;
    left = left;
    place = k;
    place_after = l;
    found = found;
    others = others;
    kept = kept;
  }
  lent_dump at l (Err e) lent left found others kept = kept

-- a producer after a post on its port
pub still_producer : {shared : Shared} {p : PassView Item block_note} {losses : SeatView} {backtrace_seats : List BacktraceSeatView}
    {limit : ℕ}
    {a b : Queueing} → IsProducer shared p losses backtrace_seats limit → a.ring.now ≡ shared.ring → a.book.now ≡ shared.book
    → a.pass.now ≡ p → a.seat.now ≡ losses → LendsAlike a b → IsReadyPort b → IsProducer shared b.pass.now b.seat.now backtrace_seats limit
still_producer {losses} {a} {b} old ring book pass seat alike fit =
    let R : SwapId TextLimit BlockFields → Type 0 = λ r. IsPassOf r.ring b.pass.now in
    let B : BookId → Type 0 = λ k. IsBookSeatOf k b.seat.now in
    let mine : IsAccountOf a.pass.now.known a.seat.now.known =
    subst (λ (s : SeatView). IsAccountOf a.pass.now.known s.known) (sym seat)
    (subst (λ (v : PassView Item block_note). IsAccountOf v.known losses.known) (sym pass) old.account) in
    record {
      pass = subst R (ap (λ (x : Bor (SwapId TextLimit BlockFields)). x.now) alike.ring ∙ ring) fit.0.0;
      losses_are = subst B (ap (λ (x : Bor BookId). x.now) alike.book ∙ book) fit.0.1;
      each = old.each;
      kept = old.kept;
      queued = old.queued;
      limits = old.limits;
      account = alike.account mine;
    }

-- and its blocks
pub still_blocks : (shared : Shared) (a b : Queueing) → a.ring.now ≡ shared.ring → LendsAlike a b → IsReadyPort b
    → HasBlocks shared b.hand.now b.spare.now
still_blocks shared a b ring alike ready =
    let P : SwapId TextLimit BlockFields → Type 0 =
    λ r. IsThere (HoldsTo r.ring.limit) b.hand.now × IsThere (HoldsTo r.ring.limit) b.spare.now in
    subst P (ap (λ (x : Bor (SwapId TextLimit BlockFields)). x.now) alike.ring ∙ ring) (ready.1, ready.0.2)

-- the port of a producer after it
pub port_after : (v : ProducerView) (a b : Queueing) → a.ring.now ≡ v.shared.ring → a.book.now ≡ v.shared.book → LendsAlike a b
    → b.pass.now ≡ v.pass → b.seat.now ≡ v.losses → IsPortOf v b
port_after v a b ring book alike pass losses = record {
  ring = ap (λ (x : Bor (SwapId TextLimit BlockFields)). x.now) alike.ring ∙ ring;
  book = ap (λ (x : Bor BookId). x.now) alike.book ∙ book;
  pass = pass;
  losses = losses;
}

-- the text limit of a place at a backtrace
pub kept_at : (limit : ℕ) (ks : List BacktraceSeatView) (n : ℕ) (d : BacktraceSeatView) → n < length ks → AreBacktraceSeats limit ks
    → (slice_index_or ks n d).lane.first.limit ≡ limit
kept_at limit [] n d low all = absurd (omega (arith, low))
kept_at limit (k ∷ ks) zero d low all = all.0
kept_at limit (k ∷ ks) (suc n) d low all = kept_at limit ks n d (omega (arith, low)) all.1
