-- One round of a push of the block in the hand of a port.
use Rattle.std.proofs.Common.{◌≡◌, ◌≢◌, ℕ, ◌+◌, List, [], ◌∷◌, refl, sym, subst, ◌∙◌, inl, inr, lit<, zero-add}
use Rattle.alog_hosted.specs.Once.{HadNoRoom}
use Rattle.alog_msg.specs.declared.item.Item.TheVariants.{Text}
use Rattle.alog_msg.specs.declared.message.Message.{Message}
use Rattle.alog_policy.specs.Post.{OutOfTickets, Wrote}
use Rattle.alog_policy.specs.SwapTogether.{did_both}
use Rattle.alog_policy.specs.declared.policy.Outcome.TheVariants.{Posted, Discarded}
use Rattle.alog_policy.specs.declared.policy.Policy.TheVariants.{Block, OverrunOldest, DiscardNew}
use Rattle.alog_policy.specs.declared.policy.Policy.{Policy}
use Rattle.alog_policy.specs.Progress.{without_waiting}
use Rattle.alog_policy.specs.declared.policy.Why.TheVariants as why
use Rattle.alog_registry.specs.ItemOutlet.{PostsItem}
use Rattle.std.specs.Prelude.{None, Option}
use Rattle.alog_core.specs.History.{Entry}
use Rattle.alog_core.specs.Queue.{Event, Claim, Write}
use Rattle.alog_core.specs.Queue as queue
use Rattle.alog_msg.specs.Block.{BlockFields}
use Rattle.alog_msg.specs.declared.item.Item.{Item}
use Rattle.alog_policy.specs.Outlet as outlet
use Rattle.alog_policy.specs.Port.{Rounds}
use Rattle.alog_policy.specs.SwapPort.{AreBy, SwapDid}
use Rattle.alog_registry.specs.BlockPort.{BlockPort, IsReadyPort, item_in}
use Rattle.alog_ring.specs.Calls.{PushedAs}
use Rattle.alog_ring.specs.Known.{IsPassOf}
use Rattle.alog_ring.specs.Made.{Made}
use Rattle.alog_ring.specs.Refused as ring
use Rattle.alog_ring.specs.declared.push.PushError.{PushError}
use Rattle.alog_ring.specs.declared.push.PushError.TheVariants.{Full, Busy, Spent}

-- a port before and after a round of a push: it lends the same parts, and its seat is as it was
pub record Pushed (a b : BlockPort) : Type 0 where
  pub ring : b.ring ≡ a.ring
  pub book : b.book ≡ a.book
  pub pass : b.pass.ghost_name ≡ a.pass.ghost_name
  pub seat : b.seat.ghost_name ≡ a.seat.ghost_name
  pub hand : b.hand.ghost_name ≡ a.hand.ghost_name
  pub spare : b.spare.ghost_name ≡ a.spare.ghost_name
  pub pace : b.pace.ghost_name ≡ a.pace.ghost_name
  pub seat_is : b.seat.now ≡ a.seat.now
  pub fit : IsReadyPort a
  pub still : IsPassOf a.ring.now.ring b.pass.now
  pub ready : IsReadyPort b

module _ {a b : BlockPort} (pushed : Pushed a b) where
  did_round : (es : List (Event Item)) (entries : List (Entry Item (Option BlockFields))) → AreBy a.pass.now.known.actor es entries
      → Made a.pass.now.known b.pass.now.known entries → Rounds a.pass.now.known es b.pass.now.known
      → SwapDid a es 0 0 b
  did_round es entries by made rounds = record {
    ring = pushed.ring;
    book = pushed.book;
    pass_lent = pushed.pass;
    seat_lent = pushed.seat;
    hand_lent = pushed.hand;
    spare_lent = pushed.spare;
    pace_lent = pushed.pace;
    pass = inr (record {
      table = pushed.still.table ∙ sym pushed.fit.0.0.table;
      entries = entries;
      by = by;
      made = made;
      rounds = rounds;
    });
    seat = inl (refl, refl, pushed.seat_is);
  }

  pub hand_pushed : (t : ℕ) (x y : Item) → x ≡ y → PushedAs None a.pass.now.known b.pass.now.known t x
      → SwapDid a (Claim t y ∷ Write t ∷ []) 0 0 b
  hand_pushed t x y is did =
      subst (λ (z : Item). SwapDid a (Claim t z ∷ Write t ∷ []) 0 0 b) is
      (did_round (Claim t x ∷ Write t ∷ []) _ (refl, refl, (refl, refl, tt)) did.0
      (Rounds.two (Claim t x) (Write t) Rounds.none tt tt (None, None, did)))

  pub hand_refused : (e : PushError (Unit {0})) → ring.PushRefusedAs None a.pass.now.known b.pass.now.known (tt {0}) e
      → outlet.PushRefused SwapDid IsReadyPort a (tt {0}) e b
  hand_refused (Full back next) is =
      (is.0, (did_round (queue.Full next ∷ []) _ (refl, refl, tt) is.2.0 (Rounds.one (queue.Full next) Rounds.none is.1 (None, is.2)), pushed.ready))
  hand_refused (Busy back seen) is =
      (is.0, (did_round (queue.PushBusy seen ∷ []) _ (refl, refl, tt) is.2.0 (Rounds.one (queue.PushBusy seen) Rounds.none is.1 (None, is.2)), pushed.ready))
  hand_refused (Spent back) is =
      (is.0, (did_round (queue.Spent ∷ []) _ (refl, refl, tt) is.1.0 (Rounds.one queue.Spent Rounds.none tt (None, is.1)), pushed.ready))

-- what a port did first without an event, and then
did_then : {a b c : BlockPort} {es : List (Event Item)} {items posts : ℕ} → SwapDid a [] 0 0 b → SwapDid b es items posts c
    → SwapDid a es items posts c
did_then {a} {b} {c} {es} {items} {posts} idle did =
    subst (λ n. SwapDid a es n posts c) (zero-add items)
    (subst (λ n. SwapDid a es (0 + items) n c) (zero-add posts) (did_both a b c [] es 0 0 items posts idle did))

module _ {m : Message} {a b c : BlockPort} (made : item_in b.hand.now ≡ Text m) (idle : SwapDid a [] 0 0 b) where
  -- a round that wrote is a post
  pub round_posts : (t : ℕ) → SwapDid b (Claim t (item_in b.hand.now) ∷ Write t ∷ []) 0 0 c
      → PostsItem SwapDid Block (Text m) a c (Posted t 0)
  round_posts t did = record {
    events = Claim t (Text m) ∷ Write t ∷ [];
    post = record {
      rounds = [];
      end = Wrote t;
      go_on = tt;
      ends = lit< tt;
      events_are = refl;
      outcome_is = refl;
    };
    done = did_then idle (subst (λ (x : Item). SwapDid b (Claim t x ∷ Write t ∷ []) 0 0 c) made did);
  }

-- a round that found no ticket left is a post, too, where it was counted
pub round_is_lost : (m : Message) (a b c d : BlockPort) → SwapDid a [] 0 0 b → SwapDid b (queue.Spent ∷ []) 0 0 c → SwapDid c [] 0 1 d
    → PostsItem SwapDid Block (Text m) a d (Discarded tt why.Spent 0)
round_is_lost m a b c d idle refused counted = record {
  events = queue.Spent ∷ [];
  post = record {
    rounds = [];
    end = OutOfTickets;
    go_on = tt;
    ends = lit< tt;
    events_are = refl;
    outcome_is = refl;
  };
  done = did_then idle (did_both b c d (queue.Spent ∷ []) [] 0 0 0 1 refused counted);
}

-- and one that found no room, or was not the fastest, is none
pub round_full : (next : ℕ) {a b c : BlockPort} → SwapDid a [] 0 0 b → SwapDid b (queue.Full next ∷ []) 0 0 c → HadNoRoom a c
round_full next idle refused = inl (next, did_then idle refused)

pub round_busy : (seen : ℕ) {a b c : BlockPort} → SwapDid a [] 0 0 b → SwapDid b (queue.PushBusy seen ∷ []) 0 0 c → HadNoRoom a c
round_busy seen idle refused = inr (seen, did_then idle refused)

-- a policy that does not block is read as it is
pub as_it_is : (p : Policy) → p ≢ Block → without_waiting p ≡ p
as_it_is Block other = absurd (other refl)
as_it_is OverrunOldest other = refl
as_it_is DiscardNew other = refl
