-- A seat takes in another, with its parts and members, or a note, which has none.
use Rattle.std.proofs.Common.{◌≡◌, ◌≢◌, ℕ, ◌+◌, ◌<◌, ◌⊎◌, List, [], ◌∷◌, ◌++◌, set, length, refl, sym, ap, subst, ◌∙◌, inl, inr}
use Rattle.std.proofs.Common.{arith, length-set}
use Rattle.std.specs.List.{AllByRecursion, sum_by}
use mathlib.Core.Option.{some}
use mathlib.Core.List.{IsPrefix}
use lib.ListN.{get_elem?}
use Rattle.atomic_table.specs.Table.{State, Joins}
use Rattle.atomic_table.proofs.Lists.{at_set, set_else, set_here}
use Rattle.alog_core.specs.Queue.{Queue}
use Rattle.alog_core.specs.History.{Entry, own_of}
use Rattle.alog_ring.specs.Known.{Member, IsAmong, AreDistinct, members_of}
use Rattle.alog_ring.specs.Sight.{Stage, Idle, Lent, Writing, Reading, Sight}
use Rattle.alog_ring.specs.Seats.{taking_in, reading_note, gone}
use Rattle.alog_ring.specs.Rule.{parts_of, IsAtWork, IsRetired, IsTakenIn, HasEntries, Knows, Told, Staged, Ruled}
use Rattle.alog_core.proofs.SharedLaps.{same_or_not}
use Rattle.alog_ring.proofs.SharedLists.{inside, one_value, each_of, each_append, sum_changed}
use Rattle.alog_ring.proofs.Telling.{retired_apart, among_retired, members_distinct}

module _ {T N : Type 0} where
  among_first : (b : ℕ) (l m : List (Member T N)) → IsAmong b l → IsAmong b (l ++ m)
  among_first b [] m is = absurd is
  among_first b (c ∷ l) m is = elim is [ inl e ↦ inl e | inr more ↦ inr (among_first b l m more) ]

  among_second : (b : ℕ) (l m : List (Member T N)) → IsAmong b m → IsAmong b (l ++ m)
  among_second b [] m is = is
  among_second b (c ∷ l) m is = inr (among_second b l m is)

  among_either : (b : ℕ) (l m : List (Member T N)) → IsAmong b (l ++ m) → IsAmong b l ⊎ IsAmong b m
  among_either b [] m is = inr is
  among_either b (c ∷ l) m is =
      elim is [
        | inl e ↦ inl
            (inl e)
        | inr more ↦ elim (among_either b l m more) [ inl first ↦ inl (inr first) | inr second ↦ inr second ]
      ]

  distinct_append : (l m : List (Member T N)) → AreDistinct l → AreDistinct m → ((b : ℕ) → IsAmong b l → ¬ IsAmong b m)
      → AreDistinct (l ++ m)
  distinct_append [] m first second apart = second
  distinct_append (c ∷ l) m first second apart = (
    (λ is. elim (among_either c.actor l m is) [ inl again ↦ first.0 again | inr other ↦ apart c.actor (inl refl) other ]),
    distinct_append l m first.1 second (λ b is. apart b (inr is)),
  )

  -- The seats of a join: `a` becomes `both`, with the parts of the two, and `o` has nothing any more.
  module _ (n f a o : ℕ) (v w both : Sight T N) (h : List (Entry T N)) (views : List (Sight T N))
      (at : get_elem? views a ≡ some v) (apart : o ≢ a) (at_other : get_elem? views o ≡ some w) (live : 0 < v.known.parts)
      (told : Told n f h views) where
    abbrev pub after_join : List (Sight T N)
    after_join = set (set views a both) o gone

    in_views : o < length (set views a both)
    in_views = let low : o < length views = inside views o w at_other in
        let same : length (set views a both) ≡ length views = length-set views a both in omega arith

    here : get_elem? after_join a ≡ some both
    here = set_else (set views a both) o a gone (λ e. apart (sym e)) ∙ set_here views a both (inside views a v at)

    there : get_elem? after_join o ≡ some gone
    there = set_here (set views a both) o gone in_views

    elsewhere : (b : ℕ) (u : Sight T N) → b ≢ a → b ≢ o → get_elem? views b ≡ some u → get_elem? after_join b ≡ some u
    elsewhere b u not_a not_o e = set_else (set views a both) o b gone not_o ∙ set_else views a b both not_a ∙ e

    which : (P : ℕ → Sight T N → Type 0) → P a both → P o gone
        → ((b : ℕ) (u : Sight T N) → b ≢ a → b ≢ o → get_elem? views b ≡ some u → P b u) → (b : ℕ) (u : Sight T N)
        → get_elem? after_join b ≡ some u → P b u
    which P mine its others b u e =
        elim (at_set (set views a both) o b gone u e) [
          | inl same ↦ let Q : ℕ → Type 0 = λ z. P z u in let R : Sight T N → Type 0 =
              λ z. P o z in subst Q (sym same.0) (subst R same.1 its)
          | inr other ↦
              elim (at_set views a b both u other.1) [
                | inl same ↦ let Q : ℕ → Type 0 = λ z. P z u in let R : Sight T N → Type 0 =
                    λ z. P a z in subst Q (sym same.0) (subst R same.1 mine)
                | inr old ↦ others b u old.0 other.0 old.1
              ]
        ]

    gone_retired : IsRetired after_join o
    gone_retired = (gone, there, refl)

    retired_still : (b : ℕ) → IsRetired views b → IsRetired after_join b
    retired_still b is =
        elim (same_or_not b o) [
          | inl same ↦ let P : ℕ → Type 0 = λ z. IsRetired after_join z in subst P (sym same) gone_retired
          | inr other ↦ (is.0, elsewhere b is.0 (retired_apart views a b v at live is) other is.1, is.2)
        ]

    all_retired : (l : List (Member T N)) → AllByRecursion (λ (c : Member T N). IsRetired views c.actor) l
        → AllByRecursion (λ (c : Member T N). IsRetired after_join c.actor) l
    all_retired l =
        each_of (λ (c : Member T N). IsRetired views c.actor) (λ (c : Member T N). IsRetired after_join c.actor) l
        (λ (c : Member T N) r. retired_still c.actor r)

    -- whoever was taken in by one of the two is taken in by `a` now
    module _ (parts : both.known.parts ≡ v.known.parts + w.known.parts)
        (mine : (b : ℕ) → IsAmong b v.known.joined → IsAmong b both.known.joined)
        (its : (b : ℕ) → 0 < w.known.parts → IsAmong b w.known.joined → IsAmong b both.known.joined) where
      some_left : 0 < both.known.parts
      some_left = omega arith

      taken_still : (b : ℕ) → IsTakenIn views b → IsTakenIn after_join b
      taken_still b by =
          elim (same_or_not by.0 a) [
            | inl same ↦
                let Q : ℕ → Type 0 = λ i. get_elem? views i ≡ some by.1
                in let one : by.1 ≡ v = one_value views a by.1 v (subst Q same by.2) at
                in let P : Sight T N → Type 0 = λ z. IsAmong b z.known.joined
                in (a, both, here, some_left, mine b (subst P one by.4))
            | inr not_a ↦
                elim (same_or_not by.0 o) [
                  | inl same ↦
                      let Q : ℕ → Type 0 = λ i. get_elem? views i ≡ some by.1
                      in let one : by.1 ≡ w = one_value views o by.1 w (subst Q same by.2) at_other
                      in let P : Sight T N → Type 0 = λ z. IsAmong b z.known.joined
                      in let R : Sight T N → Type 0 = λ z. 0 < z.known.parts
                      in (a, both, here, some_left, its b (subst R one by.3) (subst P one by.4))
                  | inr not_o ↦ (by.0, by.1, elsewhere by.0 by.1 not_a not_o by.2, by.3, by.4)
                ]
          ]

      -- `o` has no entries, or it is a member of the joined one
      module _ (places : both.known.places ≡ v.known.places) (first : both.known.first ≡ v.known.first)
          (seen : both.known.seen ≡ v.known.seen) (entries : HasEntries h after_join a both.known)
          (other : (own_of o h ≡ []) ⊎ IsTakenIn after_join o) (distinct_now : AreDistinct both.known.joined)
          (against : (j : ℕ) (x : Sight T N) → j ≢ a → j ≢ o → get_elem? views j ≡ some x → 0 < x.known.parts → (c : ℕ)
          → IsAmong c both.known.joined → ¬ IsAmong c x.known.joined) where
        pub told_join : Told n f h after_join
        told_join = record {
          places = which (λ b u. 0 < u.known.parts → u.known.places ≡ n) (λ _. places ∙ told.places a v at live)
              (λ some. absurd (omega arith)) (λ b u _ _ g. told.places b u g);
          first = which (λ b u. 0 < u.known.parts → u.known.first ≡ f) (λ _. first ∙ told.first a v at live)
              (λ some. absurd (omega arith)) (λ b u _ _ g. told.first b u g);
          seen =
              let P : List (Entry T N) → Type 0 = λ s. IsPrefix s h
              in which (λ b u. IsPrefix u.known.seen h) (subst P (sym seen) (told.seen a v at)) (h, refl)
              (λ b u _ _ g. told.seen b u g);
          entries =
              which (λ b u. 0 < u.known.parts → HasEntries h after_join b u.known)
              (λ _. entries)
              (λ some. absurd (omega arith))
              (λ b u _ _ g some_parts.
              let old : HasEntries h views b u.known = told.entries b u g some_parts
              in record { own = old.own; joined = old.joined; retired = all_retired u.known.joined old.retired });
          without =
              which (λ b u. u.known.parts ≡ 0 → (own_of b h ≡ []) ⊎ IsTakenIn after_join b)
              (λ none. absurd (let some : 0 < both.known.parts = some_left in omega arith))
              (λ _. other)
              (λ b u _ _ g none.
              elim (told.without b u g none) [ inl empty ↦ inl empty | inr taken ↦ inr (taken_still b taken) ]);
          distinct =
              which (λ b u. 0 < u.known.parts → AreDistinct u.known.joined) (λ _. distinct_now) (λ _. tt)
              (λ b u _ _ g. told.distinct b u g);
          once =
              which (λ b u. 0 < u.known.parts → (j : ℕ) (x : Sight T N) → get_elem? after_join j ≡ some x
              → 0 < x.known.parts → j ≢ b → (c : ℕ) → IsAmong c u.known.joined → ¬ IsAmong c x.known.joined)
              (λ _.
              which (λ j x. 0 < x.known.parts → j ≢ a → (c : ℕ) → IsAmong c both.known.joined → ¬ IsAmong c x.known.joined)
              (λ _ apart_now. absurd (apart_now refl))
              (λ some_parts. absurd (omega arith))
              (λ j x not_a not_o g some_parts _ c mine is. against j x not_a not_o g some_parts c mine is))
              (λ some_parts. absurd (omega arith))
              (λ b u not_a not_o e some_u.
              which (λ j x. 0 < x.known.parts → j ≢ b → (c : ℕ) → IsAmong c u.known.joined → ¬ IsAmong c x.known.joined)
              (λ _ _ c is mine. against b u not_a not_o e some_u c mine is)
              (λ some_parts. absurd (omega arith))
              (λ j x _ _ g some_parts apart_now. told.once b u e some_u j x g some_parts apart_now));
          unborn =
              λ b far.
              let len : length after_join ≡ length (set views a both) = length-set (set views a both) o gone
              in let same : length (set views a both) ≡ length views = length-set views a both
              in told.unborn b (omega arith);
          whole =
              let changed : sum_by parts_of (set views a both) + parts_of v ≡ sum_by parts_of views + parts_of both =
              sum_changed parts_of views a v both at
              in let then : sum_by parts_of after_join + parts_of w ≡ sum_by parts_of (set views a both) + parts_of
              (gone {T = T} {N = N}) =
              sum_changed parts_of (set views a both) o w (gone {T = T} {N = N})
              (set_else views a o both apart ∙ at_other)
              in omega (arith, told.whole);
        }

    -- what the seat that took the other in has then
    pub record TookIn : Type 0 where
      pub parts : both.known.parts ≡ v.known.parts + w.known.parts
      pub mine : (b : ℕ) → IsAmong b v.known.joined → IsAmong b both.known.joined
      pub its : (b : ℕ) → 0 < w.known.parts → IsAmong b w.known.joined → IsAmong b both.known.joined
      pub places : both.known.places ≡ v.known.places
      pub first : both.known.first ≡ v.known.first
      pub seen : both.known.seen ≡ v.known.seen
      pub entries : HasEntries h after_join a both.known
      pub other : (own_of o h ≡ []) ⊎ IsTakenIn after_join o
      pub distinct : AreDistinct both.known.joined
      pub against : (j : ℕ) (x : Sight T N) → j ≢ a → j ≢ o → get_elem? views j ≡ some x → 0 < x.known.parts → (c : ℕ)
          → IsAmong c both.known.joined → ¬ IsAmong c x.known.joined

    pub told_joined : TookIn → Told n f h after_join
    told_joined t =
        told_join t.parts t.mine t.its t.places t.first t.seen t.entries t.other t.distinct t.against

    -- the stages: neither of the two was at work on a cell
    pub staged_join : (q : Queue T) → Staged n h q views → v.stage ≡ Idle → ((p : ℕ) (x : T) → w.stage ≢ Writing p x)
        → ((p : ℕ) (x : T) → w.stage ≢ Reading p x) → Knows n h q a both.known both.stage → Staged n h q after_join
    staged_join q staged idle not_writing not_reading now =
        record {
          knows = which (λ b u. Knows n h q b u.known u.stage) now tt (λ b u _ _ g. staged.knows b u g);
          writers =
              λ p x b has.
              let old : (u : Sight T N) × (get_elem? views b ≡ some u) × (u.stage ≡ Writing p x) = staged.writers p x b has
              in let not_me : b ≢ a = λ e. let G : ℕ → Type 0 = λ c. get_elem? views c ≡ some old.0 in let is : old.0 ≡ v =
              one_value views a old.0 v (subst G e old.1) at in let wrong : ◌≡◌ {A = Stage T N} Idle (Writing p x) =
              sym idle ∙ (sym (ap (λ (z : Sight T N). z.stage) is) ∙ old.2) in cc
              in let not_it : b ≢ o = λ e. let G : ℕ → Type 0 = λ c. get_elem? views c ≡ some old.0 in let is : old.0 ≡ w =
              one_value views o old.0 w (subst G e old.1) at_other in
              not_writing p x (sym (ap (λ (z : Sight T N). z.stage) is) ∙ old.2)
              in (old.0, elsewhere b old.0 not_me not_it old.1, old.2);
          readers =
              λ p x b has.
              let old : (u : Sight T N) × (get_elem? views b ≡ some u) × (u.stage ≡ Reading p x) = staged.readers p x b has
              in let not_me : b ≢ a = λ e. let G : ℕ → Type 0 = λ c. get_elem? views c ≡ some old.0 in let is : old.0 ≡ v =
              one_value views a old.0 v (subst G e old.1) at in let wrong : ◌≡◌ {A = Stage T N} Idle (Reading p x) =
              sym idle ∙ (sym (ap (λ (z : Sight T N). z.stage) is) ∙ old.2) in cc
              in let not_it : b ≢ o = λ e. let G : ℕ → Type 0 = λ c. get_elem? views c ≡ some old.0 in let is : old.0 ≡ w =
              one_value views o old.0 w (subst G e old.1) at_other in
              not_reading p x (sym (ap (λ (z : Sight T N). z.stage) is) ∙ old.2)
              in (old.0, elsewhere b old.0 not_me not_it old.1, old.2);
        }

  module _ {S : Type 0} (has : S → T → Type 0) (spare : ℕ → List (Entry T N) → ℕ → S → Type 0) (n f a o : ℕ) (v w : Sight T N)
      (idle : v.stage ≡ Idle) (live : 0 < v.known.parts) where
    unjoined : (both : Sight T N) (s : State S (Sight T N)) → get_elem? s.views a ≡ some v → o ≢ a
        → get_elem? (set s.views a both) o ≡ some w → get_elem? s.views o ≡ some w
    unjoined both s at apart e = sym (set_else s.views a o both apart) ∙ e

    -- another pass is joined
    pub joins : w.stage ≡ Idle → 0 < w.known.parts
        → Joins (λ (s : State S (Sight T N)). Ruled has spare n f s) a v o w (taking_in v w) gone
    joins other_idle other_live s r at apart e =
        let both : Sight T N = taking_in v w
        in let at_other : get_elem? s.views o ≡ some w = unjoined both s at apart e
        in let K : Stage T N → Type 0 = λ z. Knows n r.history r.queue a v.known z
        in let L : Stage T N → Type 0 = λ z. Knows n r.history r.queue o w.known z
        in let work : IsAtWork a v.known = subst K idle (r.staged.knows a v at)
        in let other_work : IsAtWork o w.known = subst L other_idle (r.staged.knows o w at_other)
        in let mine : HasEntries r.history s.views a v.known = r.told.entries a v at live
        in let its : HasEntries r.history s.views o w.known = r.told.entries o w at_other other_live
        in let own : w.known.own ≡ own_of w.known.actor r.history = its.own
        ∙ ap (λ (z : ℕ). own_of z r.history) (sym other_work.0)
        in let E : Member T N → Type 0 = λ c. c.own ≡ own_of c.actor r.history
        in let G : Member T N → Type 0 =
        λ c. IsRetired (after_join n f a o v w both r.history s.views at apart at_other live r.told) c.actor
        in let retired_o : G (record { actor = w.known.actor; own = w.known.own }) =
        let P : ℕ → Type 0 = λ z. IsRetired (after_join n f a o v w both r.history s.views at apart at_other live r.told) z
        in subst P (sym other_work.0) (gone_retired n f a o v w both r.history s.views at apart at_other live r.told)
        in let entries : HasEntries r.history
        (after_join n f a o v w both r.history s.views at apart at_other live r.told) a both.known = record {
          own = mine.own;
          joined = each_append E v.known.joined (members_of w.known) mine.joined (own, its.joined);
          retired = each_append G v.known.joined (members_of w.known)
              (all_retired n f a o v w both r.history s.views at apart at_other live r.told v.known.joined mine.retired) (
                retired_o,
                all_retired n f a o v w both r.history s.views at apart at_other live r.told w.known.joined its.retired,
              );
        }
        in let taken : IsTakenIn (after_join n f a o v w both r.history s.views at apart at_other live r.told) o = (
          a,
          both,
          here n f a o v w both r.history s.views at apart at_other live r.told,
          omega arith,
          among_second o v.known.joined (members_of w.known) (inl (sym other_work.0)),
        )
        in let apart_from_joined : (b : ℕ) → IsAmong b v.known.joined → b ≢ w.known.actor =
        λ b is e. retired_apart s.views o b w at_other other_live (among_retired s.views b v.known.joined mine.retired is)
        (e ∙ other_work.0)
        in let cross : (b : ℕ) → IsAmong b v.known.joined → ¬ IsAmong b (members_of w.known) =
        λ b is more.
        elim more [
          | inl e ↦ apart_from_joined b is e
          | inr others ↦ r.told.once a v at live o w at_other other_live
              apart b is others
        ]
        in let distinct_both : AreDistinct both.known.joined =
        distinct_append v.known.joined (members_of w.known) (r.told.distinct a v at live)
        (members_distinct w r.told at_other other_live other_work.0) cross
        in let against_both : (j : ℕ) (x : Sight T N) → j ≢ a → j ≢ o → get_elem? s.views j ≡ some x → 0 < x.known.parts
        → (c : ℕ) → IsAmong c both.known.joined → ¬ IsAmong c x.known.joined =
        λ j x not_a not_o g some_parts c is in_x.
        elim (among_either c v.known.joined (members_of w.known) is) [
          | inl first ↦ r.told.once a v at live j x g some_parts not_a c first in_x
          | inr second ↦
              elim second [
                | inl e ↦ retired_apart s.views o c w at_other other_live
                    (among_retired s.views c x.known.joined (r.told.entries j x g some_parts).retired in_x)
                    (e ∙ other_work.0)
                | inr others ↦ r.told.once o w at_other other_live j x g some_parts not_o c others in_x
              ]
        ]
        in record {
          history = r.history;
          queue = r.queue;
          two = r.two;
          stands = r.stands;
          told =
              told_joined n f a o v w both r.history s.views at apart at_other live r.told
              (record {
                parts = refl;
                mine = λ b. among_first b v.known.joined (members_of w.known);
                its = λ b _ is.
                    among_second b v.known.joined (members_of w.known) (inr is);
                places = refl;
                first = refl;
                seen = refl;
                entries = entries;
                other = inr taken;
                distinct = distinct_both;
                against = against_both;
              });
          staged =
              staged_join n f a o v w both r.history s.views at apart at_other live r.told r.queue r.staged idle
              (λ p x is. let wrong : ◌≡◌ {A = Stage T N} Idle (Writing p x) = sym other_idle ∙ is in cc)
              (λ p x is. let wrong : ◌≡◌ {A = Stage T N} Idle (Reading p x) = sym other_idle ∙ is in cc)
              ((work.0, omega arith), r.told.seen o w at_other);
          shown = r.shown;
        }

    -- a note is read
    pub reads_note : w.stage ≡ Lent → w.known.parts ≡ 0
        → Joins (λ (s : State S (Sight T N)). Ruled has spare n f s) a v o w (reading_note v w) gone
    reads_note lent none s r at apart e =
        let both : Sight T N = reading_note v w
        in let at_other : get_elem? s.views o ≡ some w = unjoined both s at apart e
        in let K : Stage T N → Type 0 = λ z. Knows n r.history r.queue a v.known z
        in let work : IsAtWork a v.known = subst K idle (r.staged.knows a v at)
        in let mine : HasEntries r.history s.views a v.known = r.told.entries a v at live
        in let entries : HasEntries r.history
        (after_join n f a o v w both r.history s.views at apart at_other live r.told) a both.known = record {
          own = mine.own;
          joined = mine.joined;
          retired = all_retired n f a o v w both r.history s.views at apart at_other live r.told v.known.joined
              mine.retired;
        }
        in let more : both.known.parts ≡ v.known.parts + w.known.parts = omega arith
        in let still : (b : ℕ) → IsTakenIn s.views b
        → IsTakenIn (after_join n f a o v w both r.history s.views at apart at_other live r.told) b =
        taken_still n f a o v w both r.history s.views at apart at_other live r.told more (λ b is. is)
        (λ b some _. absurd (omega arith))
        in record {
          history = r.history;
          queue = r.queue;
          two = r.two;
          stands = r.stands;
          told =
              told_joined n f a o v w both r.history s.views at apart at_other live r.told
              (record {
                parts = more;
                mine = λ b is. is;
                its = λ b some _. absurd (omega arith);
                places = refl;
                first =
                    refl;
                seen = refl;
                entries = entries;
                other =
                    elim (r.told.without o w at_other none) [ inl empty ↦ inl empty | inr taken ↦ inr (still o taken) ];
                distinct = r.told.distinct a v at live;
                against = λ j x not_a not_o g some_parts c is in_x.
                    r.told.once a v at live j x g some_parts not_a c is in_x;
              });
          staged =
              staged_join n f a o v w both r.history s.views at apart at_other live r.told r.queue r.staged idle
              (λ p x is. let wrong : ◌≡◌ {A = Stage T N} Lent (Writing p x) = sym lent ∙ is in cc)
              (λ p x is. let wrong : ◌≡◌ {A = Stage T N} Lent (Reading p x) = sym lent ∙ is in cc)
              (work, r.told.seen o w at_other);
          shown = r.shown;
        }
