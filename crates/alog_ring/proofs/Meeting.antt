-- Loads by which a pass learns: its number, what another has seen, and that no other is left.
use Rattle.std.proofs.Common.{◌≡◌, ◌≢◌, ℕ, zero, suc, ◌+◌, ◌<◌, ◌≤◌, ◌⊎◌, cond, List, [], ◌∷◌, ◌++◌, Some, set, length, get_or}
use Rattle.std.proofs.Common.{refl, sym, ap, subst, ◌∙◌, inl, inr, arith}
use Rattle.std.proofs.lemmas.List.{append-nil, length-append}
use Rattle.std.proofs.lemmas.Bool.Decides.{leb_tells}
use Rattle.std.specs.List.{AllByRecursion, sum_by}
use mathlib.Core.Option.{some}
use mathlib.Core.List.{IsPrefix}
use lib.ListN.{get_elem?}
use lib.Seq.{set-get_or}
use Rattle.atomic_table.specs.Table.{State, Me, keeps, Allows}
use Rattle.alog_core.specs.declared.mark.Mark.TheVariants.{Claimed, Written, Emptying}
use Rattle.alog_core.specs.Queue.{Cell, Queue, start, cell_of}
use Rattle.alog_core.specs.History.{Entry, IsLegal, left_by, own_of, StandsFor}
use Rattle.alog_core.proofs.SharedCells.{on_test, at_same}
use Rattle.alog_core.proofs.SharedHistories.{own_of-append, legal_before}
use Rattle.alog_ring.specs.declared.words.TheConstants.{NEXT}
use Rattle.alog_ring.specs.declared.TheConstants.{ALL_PARTS}
use Rattle.alog_ring.specs.Kinds.{PlaceKind}
use Rattle.alog_ring.specs.Known.{Member, Known, IsAmong, AreDistinct, members_of}
use Rattle.alog_ring.specs.Made.{AreExact}
use Rattle.alog_ring.specs.Share.{having_seen, IsLonger}
use Rattle.alog_ring.specs.Sight.{Stage, Idle, Fresh, Joined, Writing, Reading, Sight}
use Rattle.alog_ring.specs.Seats.{IsExactIn, gone, was_named, saw_both, saw_all}
use Rattle.alog_ring.specs.Rule.{parts_of, IsAtWork, HasEntries, Knows, Ruled}
use Rattle.alog_core.proofs.SharedLaps.{same_or_not}
use Rattle.alog_ring.proofs.SharedLists.{one_value, prefix_same, prefix_longer, each_of_two, sum_changed, sum_of_two}
use Rattle.alog_ring.proofs.Telling.{members_distinct, grown, told_more}
use Rattle.alog_ring.proofs.Turning.{IsFree, staged_on}
use Rattle.alog_ring.proofs.Showing.{shown_on}
use Rattle.alog_ring.proofs.Looking.{on_mark, has_cell}
use Rattle.alog_ring.proofs.SharedStepping.{none_of, sound_now, knows_now, looks}

no_more : {A : Type 0} (l : List A) → length l ≡ 0 → l ≡ []
no_more [] e = refl
no_more (x ∷ xs) e = absurd (omega arith)

-- of two beginnings of one list the shorter begins the longer
prefix_of_longer : {A : Type 0} (u s h : List A) → IsPrefix u h → IsPrefix s h → length u ≤ length s → IsPrefix u s
prefix_of_longer [] s h p q le = (s, refl)
prefix_of_longer (x ∷ u) [] h p q le = absurd (omega arith)
prefix_of_longer {A} (x ∷ u) (y ∷ s) h p q le =
    let both : x ∷ (u ++ p.0) ≡ y ∷ (s ++ q.0) = p.1 ∙ sym q.1
    in let first : x ≡ y = cc
    in let tails : u ++ p.0 ≡ s ++ q.0 = cc
    in let rest : IsPrefix u s = prefix_of_longer u s (s ++ q.0) (p.0, tails) (q.0, refl) (omega arith)
    in (rest.0, (λ i. first i ∷ rest.1 i))

module _ {T N : Type 0} where
  longer_of : (u s h : List (Entry T N)) → IsPrefix u h → IsPrefix s h → (l : List (Entry T N)) × IsLonger u s l
      × IsPrefix l h
  longer_of u s h p q =
      elim (leb_tells (length u) (length s)) [
        | inl le ↦ (s, record { one = inr refl; first = prefix_of_longer u s h p q le.1; second = prefix_same s }, q)
        | inr lt ↦ (
          u,
          record { one = inl refl; first = prefix_same u; second = prefix_of_longer s u h q p (omega (arith, lt.1)) },
          p,
        )
      ]

  -- a member that is exact in a beginning and in the whole is exact between them
  between : (a : ℕ) (u p h : List (Entry T N)) {own : List (Entry T N)} → IsPrefix u p → IsPrefix p h → own ≡ own_of a u → own ≡ own_of a h
      → own ≡ own_of a p
  between a u p h {own} first second low high =
      let P : List (Entry T N) = own_of a p
      in let Y : List (Entry T N) = own_of a second.0
      in let X : List (Entry T N) = own_of a first.0
      in let whole : own_of a h ≡ P ++ Y = sym (ap (λ l. own_of a l) second.1) ∙ own_of-append a p second.0
      in let part : P ≡ own_of a u ++ X = sym (ap (λ l. own_of a l) first.1) ∙ own_of-append a u first.0
      in let long : length own ≡ length P + length Y = ap length (high ∙ whole) ∙ length-append P Y
      in let short : length P ≡ length own + length X = ap length (part ∙ ap (λ l. l ++ X) (sym low)) ∙ length-append own X
      in let none : Y ≡ [] = no_more Y (omega arith)
      in high ∙ whole ∙ ap (λ l. P ++ l) none ∙ append-nil P

  exact_between : {u s p : List (Entry T N)} (h : List (Entry T N)) → IsLonger u s p → IsPrefix p h → (l : List (Member T N)) → AreExact l h
      → AllByRecursion (IsExactIn u s) l → AreExact l p
  exact_between {u} {s} {p} h longer below l exact either =
      each_of_two (λ (c : Member T N). c.own ≡ own_of c.actor h) (IsExactIn u s)
      (λ (c : Member T N). c.own ≡ own_of c.actor p) l
      (λ (c : Member T N) high low.
      elim low [
        | inl e ↦ between c.actor u p h longer.first below e high
        | inr e ↦ between c.actor s p h longer.second below e high
      ])
      exact either

  -- what holds of each actor with entries holds of each entry's actor
  pub all_actors : (P : ℕ → Type 0) (h : List (Entry T N)) → ((b : ℕ) → own_of b h ≢ [] → P b)
      → AllByRecursion (λ (x : Entry T N). P x.actor) h
  all_actors P [] each = tt
  all_actors P (x ∷ h) each = (
    each x.actor
        (λ none. let here : own_of x.actor (x ∷ h) ≡ x ∷ own_of x.actor h =
        at_same x.actor x.actor (x ∷ own_of x.actor h) (own_of x.actor h) refl in let wrong : x ∷ own_of x.actor h ≡ [] =
        sym here ∙ none in cc),
    all_actors P h
        (λ b some_own.
        each b (λ none.
        some_own (on_test (λ t. cond t (x ∷ own_of b h) (own_of b h) ≡ [] → own_of b h ≡ []) x.actor b (λ _ wrong. cc)
        (λ _ e. e) none))),
  )

  view_or_none : (l : List (Sight T N)) (b : ℕ) → ((u : Sight T N) × (get_elem? l b ≡ some u)) ⊎ (length l ≤ b)
  view_or_none [] b = inr (omega arith)
  view_or_none (x ∷ xs) zero = inl (x, refl)
  view_or_none (x ∷ xs) (suc b) = elim (view_or_none xs b) [ inl e ↦ inl e | inr far ↦ inr (omega arith) ]

  has_at_most : (l : List (Sight T N)) (i : ℕ) (v : Sight T N) → get_elem? l i ≡ some v → v.known.parts ≤ sum_by parts_of l
  has_at_most l i v e =
      let changed : sum_by parts_of (set l i (gone {T = T} {N = N})) + parts_of v ≡ sum_by parts_of l + parts_of
      (gone {T = T} {N = N}) = sum_changed parts_of l i v (gone {T = T} {N = N}) e in omega arith

-- the pass may have seen more, and nothing else of it changed
record SeesMore {T N : Type 0} (v w : Known T N) (h : List (Entry T N)) : Type 0 where
  pub places : w.places ≡ v.places
  pub first : w.first ≡ v.first
  pub parts : w.parts ≡ v.parts
  pub joined : w.joined ≡ v.joined
  pub own : w.own ≡ v.own
  pub seen : IsPrefix w.seen h

module _ {S T N : Type 0} (kind : PlaceKind S T N) (firsts : List S) (n f : ℕ) (s : State S (Sight T N))
    (r : Ruled kind.has (kind.spare firsts) n f s) (a : ℕ) (v : Sight T N) (at : get_elem? s.views a ≡ some v)
    (live : 0 < v.known.parts) where
  -- the view changes, and nothing else
  seen_anew : (i : ℕ) (w : Sight T N) → IsFree v.stage → SeesMore v.known w.known r.history
      → Knows n (r.history ++ []) r.queue a w.known w.stage
      → Ruled kind.has (kind.spare firsts) n f
      (record { words = set s.words i (get_or s.words i 0); homes = s.homes; views = set s.views a w })
  seen_anew i w free more knows =
      let P : List ℕ → Type 0 =
      λ ws. Ruled kind.has (kind.spare firsts) n f (record { words = ws; homes = s.homes; views = set s.views a w })
      in let Q : List (Entry T N) → Type 0 = λ h. StandsFor n f h r.queue
      in subst P (sym (set-get_or s.words i 0)) (record {
        history = r.history ++ [];
        queue = r.queue;
        two = r.two;
        stands = subst Q (sym (append-nil r.history)) r.stands;
        told =
            told_more n f a r.history [] s.views v w r.told at live (none_of a)
            (record {
              places = more.places;
              first = more.first;
              parts = more.parts;
              joined = more.joined;
              own = more.own ∙ sym (append-nil v.known.own);
              seen = prefix_longer w.known.seen r.history [] more.seen;
            });
        staged = staged_on a [] w (sound_now kind firsts n f s r a v at) at r.staged knows free;
        shown = shown_on kind.has (kind.spare firsts) n r.queue r.history (r.history ++ []) s.words s.homes
            (λ t z is. let P : List (Entry T N) → Type 0 = λ h. kind.spare firsts n h t z in subst P (sym (append-nil r.history)) is) r.shown;
      })

  -- a beginning of the history is legal
  pub legal_prefix : (p : List (Entry T N)) → IsPrefix p r.history → IsLegal v.known.places v.known.first p
  legal_prefix p is =
      let P : List (Entry T N) → Type 0 = λ h. IsLegal n f h
      in let Q : ℕ → Type 0 = λ z. IsLegal z v.known.first p
      in let R : ℕ → Type 0 = λ z. IsLegal n z p
      in subst Q (sym (r.told.places a v at live))
      (subst R (sym (r.told.first a v at live)) (legal_before n f p is.0 (subst P (sym is.1) r.stands.legal)))

module _ {S T N : Type 0} (kind : PlaceKind S T N) (firsts : List S) (n f slots id : ℕ) (me : Me S (Sight T N))
    (live : 0 < me.0.known.parts) where
  pub names_itself : me.0.stage ≡ Fresh → me.0.known.own ≡ [] → me.0.known.joined ≡ []
      → Allows (λ (s : State S (Sight T N)). Ruled kind.has (kind.spare firsts) n f s) slots id me NEXT (λ y. y)
      (λ y m. was_named me m)
  names_itself fresh none alone s r wide at _ =
      let k : Known T N = me.0.known
      in let k' : Known T N =
      record {
        places = k.places;
        first = k.first;
        actor = id;
        parts = k.parts;
        seen = k.seen;
        own = k.own;
        joined = k.joined;
      }
      in let w : Sight T N = record { stage = Idle; known = k' }
      in let F : Stage T N → Type 0 = λ z. IsFree z
      in let free : IsFree me.0.stage = subst F (sym fresh) ((λ p x e. cc), (λ p x e. cc))
      in let has : HasEntries r.history s.views id k = r.told.entries id me.0 at live
      in let seen : IsPrefix k.seen r.history = r.told.seen id me.0 at
      in let E : List (Member T N) → Type 0 = λ l. AreExact l k.seen
      in let whole : own_of id r.history ≡ own_of id k.seen ++ own_of id seen.0 = sym (ap (λ l. own_of id l) seen.1)
      ∙ own_of-append id k.seen seen.0
      in let count : length (own_of id r.history) ≡ length (own_of id k.seen) + length (own_of id seen.0) = ap length whole
      ∙ length-append (own_of id k.seen) (own_of id seen.0)
      in let zero_len : length (own_of id r.history) ≡ 0 = ap length (sym has.own ∙ none)
      in (
        w,
        keeps,
        tt,
        seen_anew kind firsts n f s r id me.0 at live NEXT w free
            (record { places = refl; first = refl; parts = refl; joined = refl; own = refl; seen = seen }) (refl, live),
        (
          id,
          refl,
          record {
            legal = legal_prefix kind firsts n f s r id me.0 at live k.seen seen;
            own = none
                ∙ sym (no_more (own_of id k.seen) (omega arith));
            joined = subst E (sym alone) tt;
            distinct =
                (let D : List (Member T N) → Type 0 = λ l. AreDistinct (record { actor = id; own = k.own } ∷ l) in
                subst D (sym alone) ((λ is. is), tt));
          },
          refl,
        ),
      )

  pub sees_both : (t : List (Entry T N)) → me.0.stage ≡ Joined t
      → Allows (λ (s : State S (Sight T N)). Ruled kind.has (kind.spare firsts) n f s) slots id me NEXT (λ y. y)
      (λ y m. saw_both t me m)
  sees_both t stage s r wide at _ =
      let k : Known T N = me.0.known
      in let knows : IsAtWork id k × IsPrefix t r.history = knows_now kind firsts n f s r id me.0 at (Joined t) stage
      in let found = longer_of k.seen t r.history (r.told.seen id me.0 at) knows.1
      in let h : List (Entry T N) = found.0
      in let w : Sight T N = record { stage = Idle; known = having_seen k h }
      in let F : Stage T N → Type 0 = λ z. IsFree z
      in let free : IsFree me.0.stage = subst F (sym stage) ((λ p x e. cc), (λ p x e. cc))
      in let has : HasEntries r.history s.views id k = r.told.entries id me.0 at live
      in let own : k.own ≡ own_of k.actor r.history = has.own ∙ ap (λ (z : ℕ). own_of z r.history) (sym knows.0.0)
      in (
        w,
        keeps,
        tt,
        seen_anew kind firsts n f s r id me.0 at live NEXT w free
            (record { places = refl; first = refl; parts = refl; joined = refl; own = refl; seen = found.2 }) knows.0,
        (
          h,
          found.1,
          refl,
          legal_prefix kind firsts n f s r id me.0 at live h found.2,
          exact_between r.history found.1 found.2 (members_of k) (own, has.joined),
          members_distinct me.0 r.told at live knows.0.0,
          (let most : k.parts ≤ sum_by parts_of s.views = has_at_most s.views id me.0 at in omega (arith, r.told.whole)),
          refl,
        ),
      )

  -- with all parts the pass is alone
  module _ (s : State S (Sight T N)) (r : Ruled kind.has (kind.spare firsts) n f s) (at : get_elem? s.views id ≡ some me.0)
      (idle : me.0.stage ≡ Idle) (all : me.0.known.parts ≡ ALL_PARTS) where
    others_have_none : (b : ℕ) (u : Sight T N) → b ≢ id → get_elem? s.views b ≡ some u → u.known.parts ≡ 0
    others_have_none b u apart e = let two : parts_of me.0 + parts_of u ≤ sum_by parts_of s.views =
        sum_of_two parts_of s.views me.0 u {nothing = gone {T = T} {N = N}} refl at e apart in omega (arith, r.told.whole)

    pub actors_now : (b : ℕ) → own_of b r.history ≢ [] → (b ≡ id) ⊎ IsAmong b me.0.known.joined
    actors_now b some_own =
        elim (same_or_not b id) [
          | inl same ↦ inl same
          | inr apart ↦
              elim (view_or_none s.views b) [
                | inr far ↦ absurd (some_own (r.told.unborn b far))
                | inl is ↦
                    elim (r.told.without b is.0 is.1 (others_have_none b is.0 apart is.1)) [
                      | inl empty ↦ absurd (some_own empty)
                      | inr taken ↦
                          elim (same_or_not taken.0 id) [
                            | inr other ↦ let none : taken.1.known.parts ≡ 0 =
                                others_have_none taken.0 taken.1 other taken.2 in absurd (omega (arith, taken.3))
                            | inl same ↦
                                let Q : ℕ → Type 0 = λ i. get_elem? s.views i ≡ some taken.1
                                in let one : taken.1 ≡ me.0 = one_value s.views id taken.1 me.0 (subst Q same taken.2) at
                                in let P : Sight T N → Type 0 = λ z. IsAmong b z.known.joined
                                in inr (subst P one taken.4)
                          ]
                    ]
              ]
        ]

    -- a seat that is at work on a cell has parts, and this one is at work on none
    nobody_writes : (b : ℕ) (u : Sight T N) (p : ℕ) (x : T) → get_elem? s.views b ≡ some u → u.stage ≢ Writing p x
    nobody_writes b u p x e stage =
        let K : Stage T N → Type 0 = λ z. Knows n r.history r.queue b u.known z
        in let work = subst K stage (r.staged.knows b u e)
        in elim (same_or_not b id) [
          | inl same ↦
              let Q : ℕ → Type 0 = λ i. get_elem? s.views i ≡ some u
              in let one : u ≡ me.0 = one_value s.views id u me.0 (subst Q same e) at
              in let wrong : ◌≡◌ {A = Stage T N} Idle (Writing p x) = sym idle ∙ sym (ap (λ (z : Sight T N). z.stage) one)
              ∙ stage
              in cc
          | inr apart ↦ let none : u.known.parts ≡ 0 = others_have_none b u apart e in absurd (omega (arith, work.0.1))
        ]

    nobody_reads : (b : ℕ) (u : Sight T N) (p : ℕ) (x : T) → get_elem? s.views b ≡ some u → u.stage ≢ Reading p x
    nobody_reads b u p x e stage =
        let K : Stage T N → Type 0 = λ z. Knows n r.history r.queue b u.known z
        in let work = subst K stage (r.staged.knows b u e)
        in elim (same_or_not b id) [
          | inl same ↦
              let Q : ℕ → Type 0 = λ i. get_elem? s.views i ≡ some u
              in let one : u ≡ me.0 = one_value s.views id u me.0 (subst Q same e) at
              in let wrong : ◌≡◌ {A = Stage T N} Idle (Reading p x) = sym idle ∙ sym (ap (λ (z : Sight T N). z.stage) one)
              ∙ stage
              in cc
          | inr apart ↦ let none : u.known.parts ≡ 0 = others_have_none b u apart e in absurd (omega (arith, work.0.1))
        ]

    pub written_now : (t : ℕ) (c : Cell T) → cell_of t r.queue.cells ≡ Some c → c.mark ≡ Written
    written_now t c is =
        elim (on_mark c.mark) [
          | inl claimed ↦ let by = r.staged.writers t c.item c.actor (has_cell r.queue.cells t c Claimed is claimed) in
              absurd (nobody_writes c.actor by.0 t c.item by.1 by.2)
          | inr more ↦
              elim more [
                | inl written ↦ written
                | inr emptying ↦ let by =
                    r.staged.readers t c.item c.actor (has_cell r.queue.cells t c Emptying is emptying) in
                    absurd (nobody_reads c.actor by.0 t c.item by.1 by.2)
              ]
        ]

  pub sees_all : me.0.stage ≡ Idle
      → Allows (λ (s : State S (Sight T N)). Ruled kind.has (kind.spare firsts) n f s) slots id me NEXT (λ y. y)
      (λ y m. saw_all me m)
  sees_all idle s r wide at _ =
      let k : Known T N = me.0.known
      in let work : IsAtWork id k = knows_now kind firsts n f s r id me.0 at Idle idle
      in let F : Stage T N → Type 0 = λ z. IsFree z
      in let free : IsFree me.0.stage = subst F (sym idle) ((λ p x e. cc), (λ p x e. cc))
      in let done = looks kind firsts n f s r id me.0 at NEXT work free Idle work
      in let H : List (Entry T N) → Type 0 =
      λ h. AllByRecursion (λ (x : Entry T N). (x.actor ≡ k.actor) ⊎ IsAmong x.actor k.joined) h
      in let left : left_by (start k.first) (r.history ++ []) ≡ r.queue =
      (λ i. left_by (start (r.told.first id me.0 at live i)) (append-nil r.history i)) ∙ r.stands.queue
      in let W : Queue T → Type 0 = λ q. (t : ℕ) (c : Cell T) → cell_of t q.cells ≡ Some c → c.mark ≡ Written
      in (
        record { stage = Idle; known = grown k r.history [] },
        keeps,
        tt,
        done.0,
        (
          done.1,
          refl,
          refl,
          λ all. record {
            faithful = done.1.faithful;
            actors =
                subst H (sym (append-nil r.history))
                (all_actors (λ b. (b ≡ k.actor) ⊎ IsAmong b k.joined) r.history
                (λ b some_own.
                elim (actors_now s r at idle all b some_own) [
                  | inl same ↦ inl
                      (same ∙ sym work.0)
                  | inr among ↦ inr among
                ]));
            written = subst W (sym left) (written_now s r at idle all);
          },
        ),
      )
