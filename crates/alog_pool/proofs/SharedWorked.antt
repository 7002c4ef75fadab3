-- What a worker's account is after a move.
use Rattle.std.proofs.Common.{◌≡◌, ◌≢◌, ℕ, zero, suc, ◌+◌, ◌%◌, ◌^◌, ◌≤◌, List, [], ◌∷◌, ◌++◌, map, take, length, refl, sym, ap, subst, ◌∙◌, arith, append-nil}
use Rattle.std.proofs.lemmas.List.{length-take}
use Rattle.std.proofs.Math.Nat.{mod-add-mod}
use Rattle.alog_core.specs.History.{Entry}
use Rattle.alog_core.specs.Accounts.{claims, takes, grabbed, weigh, taken}
use Rattle.alog_core.proofs.SharedAccounts.{weigh-append}
use Rattle.alog_msg.specs.declared.item.Item.{Item}
use Rattle.alog_msg.specs.declared.item.Item.TheVariants.{Text, Flush, Stop}
use Rattle.alog_pool.specs.Accounts.{of_work, of_stops, work_tickets, Moved}
use Rattle.alog_pool.specs.SinkSeat.{Place, AreServable}
use Rattle.alog_pool.specs.Working.{AreLimited, IsWorkOf}
use Rattle.alog_pool.proofs.SharedMoves.{claims-append, takes-append, grabbed-append, tickets-append}
use Rattle.alog_pool.proofs.SharedTurning.{flush_servable}
use Rattle.alog_registry.specs.Limit.{KeepsTo}
use Rattle.alog_ring.specs.Known.{Known}
use Rattle.alog_registry.specs.BlockPort.{block_note}

-- what a pass put in and took out, after a move
pub moved_puts : (k l : Known Item block_note) (p g : List (ℕ × Item)) → Moved k l p g → claims l.own ≡ claims k.own ++ p
moved_puts k l p g m = ap (λ (h : List (Entry Item block_note)). claims h) m.made.own ∙ claims-append k.own m.entries
    ∙ ap (λ (q : List (ℕ × Item)). claims k.own ++ q) m.puts_are

pub moved_gots : (k l : Known Item block_note) (p g : List (ℕ × Item)) → Moved k l p g → takes l.own ≡ takes k.own ++ g
moved_gots k l p g m = ap (λ (h : List (Entry Item block_note)). takes h) m.made.own ∙ takes-append k.own m.entries
    ∙ ap (λ (q : List (ℕ × Item)). takes k.own ++ q) m.gots_are

pub moved_grabs : (k l : Known Item block_note) (p g : List (ℕ × Item)) → Moved k l p g
    → grabbed l.own ≡ grabbed k.own ++ map (λ (q : ℕ × Item). q.0) g
moved_grabs k l p g m = ap (λ (h : List (Entry Item block_note)). grabbed h) m.made.own ∙ grabbed-append k.own m.entries
    ∙ ap (λ (q : List ℕ). grabbed k.own ++ q) m.grabs_are

-- the first of a list that had its first taken already
pub take_take : (n : ℕ) (xs ys : List ℕ) → take n (take n xs ++ ys) ≡ take n (xs ++ ys)
take_take zero xs ys = refl
take_take (suc n) [] ys = refl
take_take (suc n) (x ∷ xs) ys = ap (λ (l : List ℕ). x ∷ l) (take_take n xs ys)

work_tickets-append : (ps qs : List (ℕ × Item)) → work_tickets (ps ++ qs) ≡ work_tickets ps ++ work_tickets qs
work_tickets-append [] qs = refl
work_tickets-append ((t, Text m) ∷ ps) qs = ap (λ (l : List ℕ). t ∷ l) (work_tickets-append ps qs)
work_tickets-append ((t, Flush n) ∷ ps) qs = ap (λ (l : List ℕ). t ∷ l) (work_tickets-append ps qs)
work_tickets-append ((t, Stop) ∷ ps) qs = work_tickets-append ps qs

-- one text or flush
one_ticket : (t : ℕ) (x : Item) → x ≢ Stop → work_tickets ((t, x) ∷ []) ≡ t ∷ []
one_ticket t (Text m) other = refl
one_ticket t (Flush n) other = refl
one_ticket t Stop other = absurd (other refl)

one_work : (t : ℕ) (x : Item) → x ≢ Stop → weigh of_work ((t, x) ∷ []) ≡ 1
one_work t (Text m) other = refl
one_work t (Flush n) other = refl
one_work t Stop other = absurd (other refl)

no_stop : (t : ℕ) (x : Item) → x ≢ Stop → weigh of_stops ((t, x) ∷ []) ≡ 0
no_stop t (Text m) other = refl
no_stop t (Flush n) other = refl
no_stop t Stop other = absurd (other refl)

-- the account after a move that took these
pub work_after : {most : ℕ} {k l : Known Item block_note} {g : List (ℕ × Item)} {tickets : List ℕ} {handled : ℕ} {ts : List ℕ} {hs : ℕ}
    → IsWorkOf most k ts hs → Moved k l [] g → tickets ≡ take most (work_tickets (takes k.own ++ g))
    → handled ≡ weigh of_work (takes k.own ++ g) % 2 ^ 64 → IsWorkOf most l tickets handled
work_after {most} {k} {l} {g} w m tickets_are handled_is =
    let gots : takes l.own ≡ takes k.own ++ g = moved_gots k l [] g m in
    record {
      faithful = m.made.faithful;
      parts = m.made.parts ∙ w.parts;
      joined = m.made.joined ∙ w.joined;
      puts = moved_puts k l [] g m ∙ append-nil (claims k.own) ∙ w.puts;
      grabs = moved_grabs k l [] g m ∙ ap (λ (q : List ℕ). q ++ map (λ (p : ℕ × Item). p.0) g) w.grabs
          ∙ sym (tickets-append (takes k.own) g) ∙ ap (λ (q : List (ℕ × Item)). map (λ (p : ℕ × Item). p.0) q) (sym gots);
      tickets_are = tickets_are ∙ ap (λ (q : List (ℕ × Item)). take most (work_tickets q)) (sym gots);
      handled_is = handled_is ∙ ap (λ (q : List (ℕ × Item)). weigh of_work q % 2 ^ 64) (sym gots);
    }

stops_after : (k l : Known Item block_note) (g : List (ℕ × Item)) → Moved k l [] g
    → taken of_stops l.own ≡ taken of_stops k.own + weigh of_stops g
stops_after k l g m = ap (λ (q : List (ℕ × Item)). weigh of_stops q) (moved_gots k l [] g m) ∙ weigh-append of_stops (takes k.own) g

-- it took nothing
pub account_of_nothing : {most : ℕ} {k l : Known Item block_note} {ts : List ℕ} {hs : ℕ} → IsWorkOf most k ts hs → Moved k l [] []
    → IsWorkOf most l ts hs
account_of_nothing {most} {k} w m =
    let same : takes k.own ++ [] ≡ takes k.own = append-nil (takes k.own) in
    work_after w m (w.tickets_are ∙ ap (λ (q : List (ℕ × Item)). take most (work_tickets q)) (sym same))
    (w.handled_is ∙ ap (λ (q : List (ℕ × Item)). weigh of_work q % 2 ^ 64) (sym same))

pub took_nothing : (most : ℕ) (k l : Known Item block_note) (ts : List ℕ) (hs : ℕ) → IsWorkOf most k ts hs → taken of_stops k.own ≡ 0
    → Moved k l [] [] → IsWorkOf most l ts hs × (taken of_stops l.own ≡ 0)
took_nothing most k l ts hs w none m = (account_of_nothing w m, (let s = stops_after k l [] m in omega (arith, s, none)))

-- it took a text or a flush
pub account_of_work : {most : ℕ} {k l : Known Item block_note} {t : ℕ} {x : Item} {ts : List ℕ} {hs : ℕ} → IsWorkOf most k ts hs
    → Moved k l [] ((t, x) ∷ []) → x ≢ Stop → IsWorkOf most l (take most (ts ++ t ∷ [])) ((hs + 1) % 2 ^ 64)
account_of_work {most} {k} {t} {x} w m other =
    let one : weigh of_work (takes k.own ++ (t, x) ∷ []) ≡ weigh of_work (takes k.own) + 1 =
    weigh-append of_work (takes k.own) ((t, x) ∷ []) ∙ ap (λ n. weigh of_work (takes k.own) + n) (one_work t x other) in
    work_after w m
    (ap (λ (q : List ℕ). take most (q ++ t ∷ [])) w.tickets_are ∙ take_take most (work_tickets (takes k.own)) (t ∷ [])
    ∙ ap (λ (q : List ℕ). take most (work_tickets (takes k.own) ++ q)) (sym (one_ticket t x other))
    ∙ ap (λ (q : List ℕ). take most q) (sym (work_tickets-append (takes k.own) ((t, x) ∷ []))))
    (ap (λ n. (n + 1) % 2 ^ 64) w.handled_is ∙ mod-add-mod (weigh of_work (takes k.own)) (2 ^ 64) 1 ∙ ap (λ n. n % 2 ^ 64) (sym one))

pub took_work : {most : ℕ} {k l : Known Item block_note} {t : ℕ} {x : Item} {ts : List ℕ} {hs : ℕ} → IsWorkOf most k ts hs
    → taken of_stops k.own ≡ 0 → Moved k l [] ((t, x) ∷ []) → x ≢ Stop
    → IsWorkOf most l (take most (ts ++ t ∷ [])) ((hs + 1) % 2 ^ 64) × (taken of_stops l.own ≡ 0)
took_work {k} {l} {t} {x} w none m other =
    (account_of_work w m other, (let s = stops_after k l ((t, x) ∷ []) m in let z = no_stop t x other in omega (arith, s, z, none)))

-- it took a stop
pub account_of_stop : {most : ℕ} {k l : Known Item block_note} {t : ℕ} {x : Item} {ts : List ℕ} {hs : ℕ} → IsWorkOf most k ts hs
    → Moved k l [] ((t, x) ∷ []) → x ≡ Stop → IsWorkOf most l ts hs
account_of_stop {most} {k} {l} {t} w moved is =
    let m : Moved k l [] ((t, Stop) ∷ []) = subst (λ (z : Item). Moved k l [] ((t, z) ∷ [])) is moved in
    let more : work_tickets (takes k.own ++ (t, Stop) ∷ []) ≡ work_tickets (takes k.own) =
    work_tickets-append (takes k.own) ((t, Stop) ∷ []) ∙ append-nil (work_tickets (takes k.own)) in
    let same : weigh of_work (takes k.own ++ (t, Stop) ∷ []) ≡ weigh of_work (takes k.own) =
    (let a = weigh-append of_work (takes k.own) ((t, Stop) ∷ []) in omega (arith, a)) in
    work_after w m (w.tickets_are ∙ ap (λ (q : List ℕ). take most q) (sym more)) (w.handled_is ∙ ap (λ n. n % 2 ^ 64) (sym same))

pub took_stop : {most : ℕ} {k l : Known Item block_note} {t : ℕ} {x : Item} {ts : List ℕ} {hs : ℕ} → IsWorkOf most k ts hs
    → taken of_stops k.own ≡ 0 → Moved k l [] ((t, x) ∷ []) → x ≡ Stop → IsWorkOf most l ts hs × (taken of_stops l.own ≡ 1)
took_stop {k} {l} {t} w none moved is =
    let m : Moved k l [] ((t, Stop) ∷ []) = subst (λ (z : Item). Moved k l [] ((t, z) ∷ [])) is moved in
    (account_of_stop w moved is, (let s = stops_after k l ((t, Stop) ∷ []) m in omega (arith, s, none)))

-- no more tickets than are asked for
pub few_tickets : (most : ℕ) (k : Known Item block_note) (ts : List ℕ) (hs : ℕ) → IsWorkOf most k ts hs → length ts ≤ most
few_tickets most k ts hs w =
    let e : length ts ≡ length (take most (work_tickets (takes k.own))) = ap (λ (l : List ℕ). length l) w.tickets_are in
    let f = length-take most (work_tickets (takes k.own)) in omega (arith, e, f)

-- an item that keeps to the limit, and is no stop, may be served at each place
pub all_servable : {S : Type 0} (limit : ℕ) (item : Item) (ps : List (Place S)) → AreLimited limit ps → KeepsTo limit item → item ≢ Stop
    → AreServable item ps
all_servable limit (Text m) [] all keeps other = tt
all_servable limit (Text m) (p ∷ ps) all keeps other =
    (subst (λ n. length m.text ≤ n) (sym all.0) keeps, all_servable limit (Text m) ps all.1 keeps other)
all_servable limit (Flush n) ps all keeps other = flush_servable n ps
all_servable limit Stop ps all keeps other = absurd (other refl)
