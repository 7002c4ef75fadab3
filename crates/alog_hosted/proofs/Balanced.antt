-- The accounts of a hosted pool at its end, when all passes and seats have come back.
use Rattle.std.proofs.Common.{◌≡◌, ℕ, ◌+◌, ◌%◌, ◌^◌, List, [], ◌∷◌, ◌++◌, map, refl, sym, ap, ◌∙◌, arith}
use Rattle.std.specs.List.{AllByRecursion, sum_by}
use Rattle.std.proofs.Math.Nat.{mod-add-mod}
use Rattle.std.proofs.lemmas.List.Sums.{sum_by-append, sum_by-cons}
use Rattle.alog_core.specs.Accounts.{claimed, taken, takes, weigh}
use Rattle.alog_core.specs.History.{Entry, left_by}
use Rattle.alog_core.specs.Queue.{start}
use Rattle.alog_hosted.specs.Ends.{WasWorker}
use Rattle.alog_hosted.specs.Ends.{AllCameOut, AreAllTotals, PutNoStop, handled_by, worker_member}
use Rattle.alog_hosted.specs.Workers.{WorkerView}
use Rattle.alog_lane.specs.Seats as lane
use Rattle.alog_msg.specs.declared.item.Item.{Item}
use Rattle.alog_msg.specs.declared.item.Item.TheVariants.{Text, Flush, Stop}
use Rattle.alog_policy.specs.BookAdds.{Add, items_in, posts_in}
use Rattle.alog_policy.specs.BookCalls as book
use Rattle.alog_policy.specs.declared.counts.Counts.{Counts}
use Rattle.alog_pool.proofs.SharedBack.{sum_mod, sum_of_map}
use Rattle.alog_pool.proofs.SharedSums.{members_balance}
use Rattle.alog_pool.proofs.SharedTotalled.{overran, two_mods}
use Rattle.alog_pool.specs.Accounts.{of_all, of_stops, of_work}
use Rattle.alog_pool.specs.Back.{AreAccounts, HasBack, HasSeatsBack, loss_member, pass_member}
use Rattle.alog_pool.specs.Producer.{ProducerView}
use Rattle.alog_pool.specs.Report.{AreSums, put_in, took_out}
use Rattle.alog_pool.specs.declared.report.Totals.{Totals}
use Rattle.alog_registry.specs.BlockPort.{block_note}
use Rattle.alog_ring.specs.Known.{Known, Member}
use Rattle.alog_ring.specs.Share.{IsWhole, ticket_and_item}

abbrev Deed : Type 0
Deed = Entry Item block_note

abbrev One : Type 0
One = Member Item block_note

each_kind : (ps : List (ℕ × Item)) → weigh of_all ps ≡ weigh of_work ps + weigh of_stops ps
each_kind [] = refl
each_kind ((t, Text m) ∷ ps) = omega (arith, each_kind ps)
each_kind ((t, Flush n) ∷ ps) = omega (arith, each_kind ps)
each_kind ((t, Stop) ∷ ps) = omega (arith, each_kind ps)

-- what producers put in, and what they took out, by a weight
abbrev puts_of : (ℕ → Item → ℕ) → ProducerView → ℕ
puts_of w p = claimed w p.pass.known.own

abbrev gots_of : (ℕ → Item → ℕ) → ProducerView → ℕ
gots_of w p = taken w p.pass.known.own

kinds : (ps : List ProducerView) → sum_by took_out ps ≡ sum_by (λ (p : ProducerView). gots_of of_work p) ps + sum_by (λ (p : ProducerView). gots_of of_stops p) ps
kinds [] = refl
kinds (p ∷ ps) =
    let one = sum_by-cons took_out p ps in
    let two = sum_by-cons (λ (q : ProducerView). gots_of of_work q) p ps in
    let three = sum_by-cons (λ (q : ProducerView). gots_of of_stops q) p ps in
    let mine = each_kind (takes p.pass.known.own) in
    omega (arith, one, two, three, mine, kinds ps)

-- what is nothing of each is nothing of all
pub none_summed : {A : Type 0} (f : A → ℕ) (xs : List A) → AllByRecursion (λ (x : A). f x ≡ 0) xs → sum_by f xs ≡ 0
none_summed f [] all = refl
none_summed f (x ∷ xs) all =
    let one = sum_by-cons f x xs in
    let mine = all.0 in
    omega (arith, one, mine, none_summed f xs all.1)

pub put_no_stops : (ps : List ProducerView) → AreAccounts ps → AllByRecursion PutNoStop ps
put_no_stops [] all = tt
put_no_stops (p ∷ ps) all = (all.0.no_stop, put_no_stops ps all.1)

no_stops : (ps : List ProducerView) → AreAccounts ps → sum_by (λ (p : ProducerView). puts_of of_stops p) ps ≡ 0
no_stops ps all = none_summed (λ (p : ProducerView). puts_of of_stops p) ps (put_no_stops ps all)

module _ {S : Type 0} where
  put_nothing : (w : ℕ → Item → ℕ) (ws : List (WorkerView S)) → AllByRecursion WasWorker ws
      → sum_by (λ (h : WorkerView S). claimed w h.pass.known.own) ws ≡ 0
  put_nothing w [] all = refl
  put_nothing w (h ∷ ws) all =
      let one = sum_by-cons (λ (q : WorkerView S). claimed w q.pass.known.own) h ws in
      let mine : claimed w h.pass.known.own ≡ 0 = ap (λ (ps : List (ℕ × Item)). weigh w ps) all.0.work.puts in
      omega (arith, one, mine, put_nothing w ws all.1)

  all_handled : (ws : List (WorkerView S)) → AllByRecursion WasWorker ws
      → AllByRecursion (λ (h : WorkerView S). h.handled ≡ handled_by h % 2 ^ 64) ws
  all_handled [] all = tt
  all_handled (h ∷ ws) all = (all.0.work.handled_is, all_handled ws all.1)

-- The pool's pass before any came back, then when the producers had, and when the workers had.
module _ {S : Type 0} (a j l : Known Item block_note) (producers : List ProducerView) (workers : List (WorkerView S))
    (own : a.own ≡ []) (none : a.joined ≡ []) (gather : HasBack a j (map pass_member producers)) (accounts : AreAccounts producers)
    (collect : HasBack j l (map (λ (h : WorkerView S). worker_member h) workers)) (worked : AllByRecursion WasWorker workers) where
  abbrev made_by : List One
  made_by = map pass_member producers

  abbrev served_by : List One
  served_by = map (λ (h : WorkerView S). worker_member h) workers

  pub members : l.joined ≡ made_by ++ served_by
  members = collect.joined ∙ ap (λ (ms : List One). ms ++ served_by) (gather.joined ∙ ap (λ (ms : List One). ms ++ made_by) none)

  pub made_none : l.own ≡ []
  made_none = collect.own ∙ gather.own ∙ own

  -- a sum over all members is one over the producers and one over the workers
  in_two : (f : List Deed → ℕ) → f [] ≡ 0 → sum_by (λ (m : One). f m.own) (record { actor = l.actor; own = l.own } ∷ l.joined)
      ≡ sum_by (λ (p : ProducerView). f p.pass.known.own) producers + sum_by (λ (h : WorkerView S). f h.pass.known.own) workers
  in_two f nothing =
      let g : One → ℕ = λ m. f m.own in
      let me : One = record { actor = l.actor; own = l.own } in
      let mine : g me ≡ 0 = ap f made_none ∙ nothing in
      let first : sum_by g (me ∷ l.joined) ≡ g me + sum_by g l.joined = sum_by-cons g me l.joined in
      let split : sum_by g l.joined ≡ sum_by g made_by + sum_by g served_by =
      ap (λ (ms : List One). sum_by g ms) members ∙ sum_by-append g made_by served_by in
      let one = sum_of_map pass_member g producers in
      let two = sum_of_map (λ (h : WorkerView S). worker_member h) g workers in
      omega (arith, mine, first, split, one, two)

  module _ (whole : IsWhole l) (left : List (ℕ × Item)) (left_are : left ≡ map ticket_and_item (left_by (start l.first) l.seen).cells) where
    pub out : AllCameOut producers workers left
    out w =
        let balance = members_balance Item block_note l w whole in
        let put = in_two (λ h. claimed w h) refl in
        let got = in_two (λ h. taken w h) refl in
        let silent = put_nothing w workers worked in
        let rest = ap (λ (ps : List (ℕ × Item)). weigh w ps) left_are in
        omega (arith, balance, put, got, silent, rest)

    -- what the producers put in was overrun, or handled, or left
    balance : sum_by put_in producers ≡ sum_by took_out producers + (sum_by (λ (h : WorkerView S). handled_by h) workers + weigh of_work left)
    balance =
        let work = out of_work in
        let stops = out of_stops in
        let kind = kinds producers in
        let nothing = no_stops producers accounts in
        omega (arith, work, stops, kind, nothing)

    module _ (s u : lane.Known Add) (lost : Counts) (counted handled : ℕ) (t : Totals) (seat_own : s.own ≡ []) (seat_none : s.joined ≡ [])
        (seats : HasSeatsBack s u (map loss_member producers)) (closes : book.Closes u lost)
        (counted_is : counted ≡ sum_by (λ (h : WorkerView S). h.handled) workers % 2 ^ 64)
        (handled_is : handled ≡ (counted + weigh of_work left) % 2 ^ 64) (sums : AreSums lost handled t) where
      -- a sum over the seats of the book is one over the producers
      of_seats : (f : lane.Member Add → ℕ) → f (record { seat = u.seat; own = [] }) ≡ 0
          → sum_by f (lane.members_of u) ≡ sum_by (λ (p : ProducerView). f (loss_member p)) producers
      of_seats f nothing =
          let me : lane.Member Add = record { seat = u.seat; own = u.own } in
          let mine : f me ≡ 0 =
          ap (λ (h : List (lane.Entry Add)). f (record { seat = u.seat; own = h })) (seats.own ∙ seat_own) ∙ nothing in
          let first : sum_by f (me ∷ u.joined) ≡ f me + sum_by f u.joined = sum_by-cons f me u.joined in
          let theirs : sum_by f u.joined ≡ sum_by f (map loss_member producers) =
          ap (λ (ms : List (lane.Member Add)). sum_by f ms)
          (seats.joined ∙ ap (λ (ms : List (lane.Member Add)). ms ++ map loss_member producers) seat_none) in
          let each : sum_by f (map loss_member producers) ≡ sum_by (λ (p : ProducerView). f (loss_member p)) producers =
          sum_of_map loss_member f producers in
          omega (arith, mine, first, theirs, each)

      overrun_is : lost.overrun ≡ sum_by took_out producers % 2 ^ 64
      overrun_is = closes.overrun ∙ ap (λ n. n % 2 ^ 64) (of_seats (λ m. items_in m.own) refl ∙ overran producers accounts)

      handled_are : handled ≡ (sum_by (λ (h : WorkerView S). handled_by h) workers + weigh of_work left) % 2 ^ 64
      handled_are =
          let by = counted_is ∙ sum_mod (λ (h : WorkerView S). h.handled) (λ (h : WorkerView S). handled_by h) workers (all_handled workers worked) in
          handled_is ∙ ap (λ n. (n + weigh of_work left) % 2 ^ 64) by
          ∙ mod-add-mod (sum_by (λ (h : WorkerView S). handled_by h) workers) (2 ^ 64) (weigh of_work left)

      pub totals : AreAllTotals t producers workers left
      totals = record {
        posted = sums.posted ∙ two_mods lost.overrun handled _ _ overrun_is handled_are ∙ ap (λ n. n % 2 ^ 64) (sym balance);
        overrun = sums.overrun ∙ overrun_is;
        discarded = sums.discarded ∙ closes.discarded ∙ ap (λ n. n % 2 ^ 64) (of_seats (λ m. posts_in m.own) refl);
        handled = sums.handled_is ∙ handled_are;
        asked = sums.asked ∙ ap (λ n. (t.posted + n) % 2 ^ 64) (sym sums.discarded);
        balance = sums.posted ∙ (λ i. (sym sums.overrun i + sym sums.handled_is i) % 2 ^ 64);
      }
