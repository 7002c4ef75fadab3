-- Where a worker of a pool has ended, only stops are left in the queue.
use Rattle.std.proofs.Common.{◌≡◌, ◌⊎◌, ℕ, zero, suc, ◌<◌, ◌≤◌, cond, Some, List, [], ◌∷◌, ◌++◌, Contains, inl, inr}
use Rattle.std.proofs.Common.{refl, sym, ap, subst, ◌∙◌, arith}
use Rattle.std.proofs.lemmas.Bool.{cases_lt}
use Rattle.std.proofs.lemmas.List.Elements.{Contains-append_left, Contains-append_right, Contains-append_cases}
use Rattle.alog_core.specs.Accounts.{put_by, got_by, claims, takes, held, weigh, claimed, listed}
use Rattle.alog_core.specs.History.{Entry, left_by, own_of, IsLegal, IsLegalFrom}
use Rattle.alog_core.specs.Queue.{Cell, Queue, Event, Claim, Write, Grab, Take, Full, Front, Empty, Idle, PushBusy, PopBusy, Spent, start, last}
use Rattle.alog_core.specs.Queue.{cell_of, Allows, after, IsListed, IsSound}
use Rattle.alog_core.specs.declared.mark.Mark.TheVariants.{Written}
use Rattle.alog_core.proofs.SharedCells.{on_test}
use Rattle.alog_core.proofs.SharedHistories.{legal_first, legal_second, sound_by_history}
use Rattle.alog_core.proofs.SharedItems.{tickets_keep_their_items}
use Rattle.alog_core.proofs.SharedSound.{sound_start, sound_after}
use Rattle.alog_msg.specs.declared.item.Item.{Item}
use Rattle.alog_msg.specs.declared.item.Item.TheVariants.{Text, Flush, Stop}
use Rattle.alog_pool.specs.Accounts.{work, of_work, stop, of_stops, SawEnd}
use Rattle.alog_pool.specs.Ending.{NoWorkIsLeft, HasEndedAmong}
use Rattle.alog_pool.specs.Working.{HasEnded}
use Rattle.alog_pool.proofs.SharedMoves.{claims-append}
use Rattle.alog_pool.proofs.SharedSums.{members_balance}
use Rattle.alog_registry.specs.BlockPort.{block_note}
use Rattle.alog_ring.specs.Known.{Member, members_of}
use Rattle.alog_ring.specs.Made.{AreExact}
use Rattle.alog_ring.proofs.SharedStepping.{rises_after, rises_left}

abbrev Deed : Type 0
Deed = Entry Item block_note

-- what one event put in, and took out
put_above : (n : ℕ) (q : Queue Item) (a : ℕ) (e : Event Item) (p : ℕ × Item) → Allows n q a e → Contains (put_by e) p
    → (q.next ≤ p.0) × (p.0 < (after q a e).next) × (p.0 < last)
put_above n q a (Claim t x) p may (zero, l, e) =
    let same : t ≡ p.0 = ap (λ (r : ℕ × Item). r.0) e in
    let at = may.0 in
    let low = may.1 in
    (omega (arith, same, at), omega (arith, same, at), omega (arith, same, low))
put_above n q a (Claim t x) p may (suc k, l, e) = absurd (omega (arith, l))
put_above n q a (Write t) p may c = absurd (omega (arith, c.1))
put_above n q a (Grab t) p may c = absurd (omega (arith, c.1))
put_above n q a (Take t x) p may c = absurd (omega (arith, c.1))
put_above n q a (Full t) p may c = absurd (omega (arith, c.1))
put_above n q a (Front t) p may c = absurd (omega (arith, c.1))
put_above n q a (Empty t) p may c = absurd (omega (arith, c.1))
put_above n q a (Idle t) p may c = absurd (omega (arith, c.1))
put_above n q a (PushBusy t) p may c = absurd (omega (arith, c.1))
put_above n q a (PopBusy t) p may c = absurd (omega (arith, c.1))
put_above n q a Spent p may c = absurd (omega (arith, c.1))

got_below : (n : ℕ) (q : Queue Item) (a : ℕ) (e : Event Item) (p : ℕ × Item) → IsSound n q → Allows n q a e → Contains (got_by e) p
    → p.0 < q.front
got_below n q a (Take t x) p sound may (zero, l, e) =
    let same : t ≡ p.0 = ap (λ (r : ℕ × Item). r.0) e in
    let low = (sound.emptied t _ may).0 refl in omega (arith, same, low)
got_below n q a (Take t x) p sound may (suc k, l, e) = absurd (omega (arith, l))
got_below n q a (Claim t x) p sound may c = absurd (omega (arith, c.1))
got_below n q a (Write t) p sound may c = absurd (omega (arith, c.1))
got_below n q a (Grab t) p sound may c = absurd (omega (arith, c.1))
got_below n q a (Full t) p sound may c = absurd (omega (arith, c.1))
got_below n q a (Front t) p sound may c = absurd (omega (arith, c.1))
got_below n q a (Empty t) p sound may c = absurd (omega (arith, c.1))
got_below n q a (Idle t) p sound may c = absurd (omega (arith, c.1))
got_below n q a (PushBusy t) p sound may c = absurd (omega (arith, c.1))
got_below n q a (PopBusy t) p sound may c = absurd (omega (arith, c.1))
got_below n q a Spent p sound may c = absurd (omega (arith, c.1))

-- what a legal history claims is from its first ticket on and below its last one, and below the last of all
pub claims_between : (n : ℕ) (q : Queue Item) (h : List Deed) (p : ℕ × Item) → IsLegalFrom n q h → Contains (claims h) p
    → (q.next ≤ p.0) × (p.0 < (left_by q h).next) × (p.0 < last)
claims_between n q [] p legal c = absurd (omega (arith, c.1))
claims_between n q (x ∷ h) p legal c =
    let r = after q x.actor x.event in
    let up = rises_after q x.actor x.event in
    let further = rises_left r h in
    elim (Contains-append_cases (put_by x.event) (claims h) p c) [
      | inl now ↦
          let is = put_above n q x.actor x.event p legal.0 now in
          (is.0, omega (arith, is.1, further.0), is.2)
      | inr later ↦
          let is = claims_between n r h p legal.1 later in
          (omega (arith, is.0, up.0), is.1, is.2)
    ]

-- what it takes is below its front
takes_below : (n : ℕ) (q : Queue Item) (h : List Deed) (p : ℕ × Item) → 1 ≤ n → IsSound n q → IsLegalFrom n q h → Contains (takes h) p
    → p.0 < (left_by q h).front
takes_below n q [] p some sound legal c = absurd (omega (arith, c.1))
takes_below n q (x ∷ h) p some sound legal c =
    elim (Contains-append_cases (got_by x.event) (takes h) p c) [
      | inl now ↦
          let is = got_below n q x.actor x.event p sound legal.0 now in
          let up = rises_left q (x ∷ h) in
          omega (arith, is, up.1)
      | inr later ↦
          takes_below n (after q x.actor x.event) h p some (sound_after n q x.actor x.event some sound legal.0) legal.1 later
    ]

-- who saw that no ticket is left: the front has come to the end
end_reached : (n : ℕ) (q : Queue Item) (h : List Deed) → IsLegalFrom n q h → SawEnd h → last ≤ (left_by q h).front
end_reached n q [] legal saw = absurd saw
end_reached n q (x ∷ h) legal (inl is) =
    let may : Allows n q x.actor (Idle last) = subst (λ (e : Event Item). Allows n q x.actor e) is legal.0 in
    let up = rises_left q (x ∷ h) in
    let at = may.1 in
    omega (arith, at, up.1)
end_reached n q (x ∷ h) legal (inr saw) = end_reached n (after q x.actor x.event) h legal.1 saw

-- an actor's own entries are of the history
own_takes : (a : ℕ) (h : List Deed) (p : ℕ × Item) → Contains (takes (own_of a h)) p → Contains (takes h) p
own_takes a [] p c = c
own_takes a (x ∷ h) p c =
    on_test (λ b. Contains (takes (cond b (x ∷ own_of a h) (own_of a h))) p → Contains (got_by x.event ++ takes h) p) x.actor a
    (λ _ d.
    elim (Contains-append_cases (got_by x.event) (takes (own_of a h)) p d) [
      | inl now ↦ Contains-append_left (got_by x.event) (takes h) p now
      | inr later ↦ Contains-append_right (got_by x.event) (takes h) p (own_takes a h p later)
    ])
    (λ _ d. Contains-append_right (got_by x.event) (takes h) p (own_takes a h p d))
    c

own_saw : (a : ℕ) (h : List Deed) → SawEnd (own_of a h) → SawEnd h
own_saw a [] s = s
own_saw a (x ∷ h) s =
    on_test (λ b. SawEnd (cond b (x ∷ own_of a h) (own_of a h)) → SawEnd (x ∷ h)) x.actor a
    (λ _ d. elim d [ inl is ↦ inl is | inr later ↦ inr (own_saw a h later) ])
    (λ _ d. inr (own_saw a h d))
    s

-- weights of what is contained
stop_or : (x : Item) → (x ≡ Stop) ⊎ (stop x ≡ 0)
stop_or (Text m) = inr refl
stop_or (Flush n) = inr refl
stop_or Stop = inl refl

is_stop : (x : Item) → work x ≡ 0 → x ≡ Stop
is_stop (Text m) none = absurd (omega (arith, none))
is_stop (Flush n) none = absurd (omega (arith, none))
is_stop Stop none = refl

contains_more : (p q : ℕ × Item) (ps : List (ℕ × Item)) → Contains ps p → Contains (q ∷ ps) p
contains_more p q ps c = Contains-append_right (q ∷ []) ps p c

some_stop : (ps : List (ℕ × Item)) → 1 ≤ weigh of_stops ps → (t : ℕ) × Contains ps (t, Stop)
some_stop [] some = absurd (omega (arith, some))
some_stop (p ∷ ps) some =
    elim (stop_or p.1) [
      | inl is ↦ (p.0, (0, omega arith, ap (λ (x : Item). (p.0, x)) is))
      | inr none ↦ let r = some_stop ps (omega (arith, some, none)) in (r.0, contains_more (r.0, Stop) p ps r.1)
    ]

pub none_weighs : (w : ℕ → Item → ℕ) (ps : List (ℕ × Item)) (p : ℕ × Item) → weigh w ps ≡ 0 → Contains ps p → w p.0 p.1 ≡ 0
none_weighs w [] p none c = absurd (omega (arith, c.1))
none_weighs w (q ∷ ps) p none (zero, l, e) =
    let same : w q.0 q.1 ≡ w p.0 p.1 = ap (λ (r : ℕ × Item). w r.0 r.1) e in omega (arith, none, same)
none_weighs w (q ∷ ps) p none (suc k, l, e) = none_weighs w ps p (omega (arith, none)) (k, omega (arith, l), e)

pub stops_weigh_nothing : (w : ℕ → Item → ℕ) (ps : List (ℕ × Item)) → ((t : ℕ) → w t Stop ≡ 0)
    → ((p : ℕ × Item) → Contains ps p → work p.1 ≡ 0) → weigh w ps ≡ 0
stops_weigh_nothing w [] nothing each = refl
stops_weigh_nothing w (p ∷ ps) nothing each =
    let is : p.1 ≡ Stop = is_stop p.1 (each p (0, omega arith, refl)) in
    let first : w p.0 p.1 ≡ 0 = ap (λ (x : Item). w p.0 x) is ∙ nothing p.0 in
    let rest = stops_weigh_nothing w ps nothing (λ q c. each q (contains_more q p ps c)) in
    omega (arith, first, rest)

-- what is held is listed
held_listed : (cs : List (Cell Item)) (p : ℕ × Item) → Contains (held cs) p → IsListed p.0 cs
held_listed [] p c = absurd (omega (arith, c.1))
held_listed (d ∷ cs) p (zero, l, e) =
    on_test (λ b. (k : Cell Item) × (cond b (Some d) (cell_of p.0 cs) ≡ Some k)) d.ticket p.0 (λ _. (d, refl))
    (λ other. absurd (other (ap (λ (r : ℕ × Item). r.0) e)))
held_listed (d ∷ cs) p (suc k, l, e) =
    on_test (λ b. (k : Cell Item) × (cond b (Some d) (cell_of p.0 cs) ≡ Some k)) d.ticket p.0 (λ _. (d, refl))
    (λ other. held_listed cs p (k, omega (arith, l), e))

module _ (n f : ℕ) (before later : List Deed) (some : 1 ≤ n) (legal : IsLegal n f (before ++ later))
    (no_stop : claimed of_stops before ≡ 0) (only_stops : claimed of_work later ≡ 0) where
  abbrev pub seen : List Deed
  seen = before ++ later

  abbrev q : Queue Item
  q = left_by (start f) before

  abbrev pub end : Queue Item
  end = left_by (start f) seen

  abbrev Reached : Type 0
  Reached = (q.next ≤ end.front) ⊎ (last ≤ end.front)

  -- what was claimed was so in one of the two
  claimed_in : (p : ℕ × Item) → Contains (claims seen) p → Contains (claims before) p ⊎ Contains (claims later) p
  claimed_in p c = Contains-append_cases (claims before) (claims later) p
      (subst (λ (ps : List (ℕ × Item)). Contains ps p) (claims-append before later) c)

  stop_reached : (t : ℕ) → Contains (takes seen) (t, Stop) → Reached
  stop_reached t c =
      let below = takes_below n (start f) seen (t, Stop) some (sound_start n f) legal.0 c in
      let put = (tickets_keep_their_items Item block_note n f seen t Stop legal (inl c)).0 in
      elim (claimed_in (t, Stop) put) [
        | inl early ↦ absurd (omega (arith, none_weighs of_stops (claims before) (t, Stop) no_stop early))
        | inr late ↦
            let from = claims_between n (left_by (start f) before) later (t, Stop) (legal_second n (start f) before later legal.0) late in
            inl (omega (arith, from.0, below))
      ]

  -- where one of these ended, the front has come so far
  ended_reached : (own : List Deed) (a : ℕ) → own ≡ own_of a seen → HasEnded own → Reached
  ended_reached own a is (inl took) =
      let one = some_stop (takes own) (omega (arith, took)) in
      let mine : Contains (takes (own_of a seen)) (one.0, Stop) =
      subst (λ (h : List Deed). Contains (takes h) (one.0, Stop)) is one.1 in
      stop_reached one.0 (own_takes a seen (one.0, Stop) mine)
  ended_reached own a is (inr saw) =
      inr (end_reached n (start f) seen legal.0 (own_saw a seen (subst SawEnd is saw.1)))

  among_reached : (ms : List (Member Item block_note)) → AreExact ms seen → HasEndedAmong ms → Reached
  among_reached [] exact ended = absurd ended
  among_reached (m ∷ ms) exact (inl ended) = ended_reached m.own m.actor exact.0 ended
  among_reached (m ∷ ms) exact (inr ended) = among_reached ms exact.1 ended

  left_is_stop : Reached → ((t : ℕ) (c : Cell Item) → cell_of t end.cells ≡ Some c → c.mark ≡ Written) → (p : ℕ × Item)
      → Contains (held end.cells) p → work p.1 ≡ 0
  left_is_stop reached written p c =
      let put = (tickets_keep_their_items Item block_note n f seen p.0 p.1 legal (inr c)).0 in
      let cell = held_listed (left_by (start f) seen).cells p c in
      let mark = written p.0 cell.0 cell.1 in
      let sound = sound_by_history n f seen some legal in
      let all = claims_between n (start f) seen p legal.0 put in
      elim (cases_lt p.0 (left_by (start f) seen).front) [
        | inl low ↦ let emptying = (sound.emptied p.0 cell.0 cell.1).1 low in absurd (cc)
        | inr high ↦
            elim (claimed_in p put) [
              | inl early ↦
                  let here = claims_between n (start f) before p (legal_first n (start f) before later legal.0) early in
                  elim reached [
                    | inl far ↦ absurd (omega (arith, high, far, here.1))
                    | inr out ↦ absurd (omega (arith, high, out, all.2))
                  ]
              | inr late ↦ none_weighs of_work (claims later) p only_stops late
            ]
      ]

  pub nothing_left : (ms : List (Member Item block_note)) → AreExact ms seen → HasEndedAmong ms
      → ((t : ℕ) (c : Cell Item) → cell_of t end.cells ≡ Some c → c.mark ≡ Written)
      → (w : ℕ → Item → ℕ) → ((t : ℕ) → w t Stop ≡ 0) → listed w end.cells ≡ 0
  nothing_left ms exact ended written w nothing =
      stops_weigh_nothing w (held end.cells) nothing (left_is_stop (among_reached ms exact ended) written)

pub no_work_is_left : NoWorkIsLeft
no_work_is_left k w end nothing =
    let whole = end.whole in
    let P : List Deed → Type 0 = λ h. IsLegal k.places k.first h in
    let legal : P (end.before ++ end.later) = subst P end.seen whole.faithful.legal in
    let Q : List Deed → Type 0 = λ h. AreExact (members_of k) h in
    let exact : Q (end.before ++ end.later) = subst Q end.seen (whole.faithful.own, whole.faithful.joined) in
    let R : List Deed → Type 0 = λ h. (t : ℕ) (c : Cell Item) → cell_of t (left_by (start k.first) h).cells ≡ Some c → c.mark ≡ Written in
    let written : R (end.before ++ end.later) = subst R end.seen whole.written in
    let V : List Deed → Type 0 = λ h. listed w (left_by (start k.first) h).cells ≡ 0 in
    let none : listed w (left_by (start k.first) k.seen).cells ≡ 0 = subst V (sym end.seen)
    (nothing_left k.places k.first end.before end.later end.some legal end.no_stop end.only_stops (members_of k) exact end.ended
    written w nothing) in
    let balance = members_balance Item block_note k w whole in
    omega (arith, balance, none)
