-- Each step of a seat keeps the rule of the book.
use Rattle.std.proofs.Common.{◌≡◌, ℕ, ◌+◌, ◌%◌, ◌^◌, ◌<◌, ◌⊎◌, Some, List, [], ◌∷◌, ◌++◌, set, get_or}
use Rattle.std.proofs.Common.{refl, sym, ap, subst, ◌∙◌, arith, length-set}
use Rattle.std.specs.Prelude.{slice_index}
use Rattle.std.specs.List.{AllByRecursion}
use Rattle.std.proofs.Math.Nat.{mod-add-mod}
use Rattle.std.proofs.lemmas.List.{get_or-set_same, get_or-set_other}
use mathlib.Core.Option.{some}
use lib.ListN.{get_elem?}
use lib.Seq.{set-get_or}
use Rattle.atomic_table.specs.Table.{State, Me, keeps, Allows, Splits, Joins, opening}
use Rattle.atomic_table.proofs.Lists.{set_else}
use Rattle.alog_lane.specs.declared.seat.TheConstants.{ALL_PARTS}
use Rattle.alog_lane.specs.Seats.{Entry, Member, own_of, members_of, IsFaithful, AreExact, having_seen}
use Rattle.alog_lane.specs.Roster.{Stage, Idle, Fresh, Joined, members_at, kept_part, given_part, taking_in, gone, first_sight}
use Rattle.alog_lane.specs.Plays.{standing, was_named, saw_both}
use Rattle.alog_lane.proofs.SharedLists.{sum_with_last}
use Rattle.alog_lane.proofs.SharedRosters.{IsLook, agrees_step, agrees_look, agrees_first, seen_whole}
use Rattle.alog_lane.proofs.SharedKnowing.{by_stage, looks_at_all, look_of_all, its_entry, with_entry, its_step, its_made}
use Rattle.alog_lane.proofs.SharedKnowing.{named, look_of_named, named_is_told, seeing_both, look_of_both, both_is_told, old_members}
use Rattle.alog_lane.proofs.SharedDividing.{agrees_split}
use Rattle.alog_lane.proofs.SharedJoining.{agrees_join}
use Rattle.alog_policy.specs.declared.loss_book.TheConstants.{OVERRUN, DISCARDED}
use Rattle.alog_policy.specs.BookAdds.{Add, Overran, Discarded, items_of, posts_of, items_in, posts_in, overrun_after, discarded_after}
use Rattle.alog_policy.specs.BookRule.{BookSight, Tells, Ruled}
use Rattle.alog_policy.specs.BookPlays.{number_at, Added, Looked}

-- a sum after one more term, modulo a number
sum_more : (f : Entry Add → ℕ) (s : List (Entry Add) → ℕ) (h : List (Entry Add)) (x : Entry Add)
    → s (h ++ x ∷ []) ≡ s h + f x → (s h % 2 ^ 64 + f x) % 2 ^ 64 ≡ s (h ++ x ∷ []) % 2 ^ 64
sum_more f s h x more = mod-add-mod (s h) (2 ^ 64) (f x) ∙ ap (λ (n : ℕ). n % 2 ^ 64) (sym more)

-- the items and the posts after one more add
items_more : (h : List (Entry Add)) (x : Entry Add) → items_in (h ++ x ∷ []) ≡ items_in h + items_of x.deed
items_more h x = sum_with_last (λ (y : Entry Add). items_of y.deed) h x

posts_more : (h : List (Entry Add)) (x : Entry Add) → posts_in (h ++ x ∷ []) ≡ posts_in h + posts_of x.deed
posts_more h x = sum_with_last (λ (y : Entry Add). posts_of y.deed) h x

-- the words after an add to the one or the other
tells_items : (items : ℕ) (h : List (Entry Add)) (x : Entry Add) (words : List ℕ) → x.deed ≡ Overran items → Tells h words
    → Tells (h ++ x ∷ []) (set words OVERRUN ((slice_index words OVERRUN + items) % 2 ^ 64))
tells_items items h x words deed tells =
    let n : ℕ = (slice_index words OVERRUN + items) % 2 ^ 64
    in let here : items_of x.deed ≡ items = ap items_of deed
    in let there : posts_of x.deed ≡ 0 = ap posts_of deed
    in let more : posts_in (h ++ x ∷ []) ≡ posts_in h + posts_of x.deed = posts_more h x
    in let posts : posts_in (h ++ x ∷ []) ≡ posts_in h = omega (arith, more, there)
    in record {
      count = length-set words OVERRUN n ∙ tells.count;
      overrun =
          get_or-set_same words OVERRUN n 0 (omega (arith, tells.count))
          ∙ ap (λ (m : ℕ). (m + items) % 2 ^ 64) tells.overrun
          ∙ ap (λ (m : ℕ). (overrun_after h + m) % 2 ^ 64) (sym here)
          ∙ sum_more (λ (y : Entry Add). items_of y.deed) items_in h x (items_more h x);
      discarded = get_or-set_other words OVERRUN DISCARDED n 0 (λ e. absurd (omega arith)) ∙ tells.discarded
          ∙ ap (λ (m : ℕ). m % 2 ^ 64) (sym posts);
    }

tells_posts : (posts : ℕ) (h : List (Entry Add)) (x : Entry Add) (words : List ℕ) → x.deed ≡ Discarded posts → Tells h words
    → Tells (h ++ x ∷ []) (set words DISCARDED ((slice_index words DISCARDED + posts) % 2 ^ 64))
tells_posts posts h x words deed tells =
    let n : ℕ = (slice_index words DISCARDED + posts) % 2 ^ 64
    in let here : posts_of x.deed ≡ posts = ap posts_of deed
    in let there : items_of x.deed ≡ 0 = ap items_of deed
    in let more : items_in (h ++ x ∷ []) ≡ items_in h + items_of x.deed = items_more h x
    in let items : items_in (h ++ x ∷ []) ≡ items_in h = omega (arith, more, there)
    in record {
      count = length-set words DISCARDED n ∙ tells.count;
      overrun = get_or-set_other words DISCARDED OVERRUN n 0 (λ e. absurd (omega arith)) ∙ tells.overrun
          ∙ ap (λ (m : ℕ). m % 2 ^ 64) (sym items);
      discarded =
          get_or-set_same words DISCARDED n 0 (omega (arith, tells.count))
          ∙ ap (λ (m : ℕ). (m + posts) % 2 ^ 64) tells.discarded
          ∙ ap (λ (m : ℕ). (discarded_after h + m) % 2 ^ 64) (sym here)
          ∙ sum_more (λ (y : Entry Add). posts_of y.deed) posts_in h x (posts_more h x);
    }

-- a book at its start
pub starts : (words : List ℕ) → Tells [] words → Ruled (opening words [] (first_sight (Some tt)))
starts words tells = record { history = []; agrees = agrees_first tt; words = tells }

-- a look by which the seat's view becomes another
look_keeps : (s : State (Unit {0}) BookSight) (id : ℕ) (v w : BookSight) → get_elem? s.views id ≡ some v → (i : ℕ) (r : Ruled s)
    → IsLook r.history id v w → Ruled (record { words = set s.words i (get_or s.words i 0); homes = s.homes; views = set s.views id w })
look_keeps s id v w at i r look =
    let P : List ℕ → Type 0 = λ ws. Ruled (record { words = ws; homes = s.homes; views = set s.views id w })
    in subst P (sym (set-get_or s.words i 0))
    (record { history = r.history; agrees = agrees_look r.agrees at look; words = r.words })

-- a seat with all parts has seen the whole history
pub saw_all : (s : State (Unit {0}) BookSight) (r : Ruled s) (id : ℕ) (v : BookSight) → get_elem? s.views id ≡ some v
    → v.stage ≡ Idle → v.known.parts ≡ ALL_PARTS → IsFaithful v.known → v.known.seen ≡ r.history
saw_all s r id v at idle all faithful =
    let E : List (Member Add) → Type 0 = λ l. AreExact l v.known.seen
    in seen_whole tt r.history s.views id v r.agrees at all
    (subst E (sym (by_stage id v Idle idle)) (faithful.own, faithful.joined))

module _ (slots id : ℕ) (me : Me (Unit {0}) BookSight) where
  -- an add of so much to a word
  adds : (a : Add) (i much : ℕ)
      → ((h : List (Entry Add)) (x : Entry Add) (words : List ℕ) → x.deed ≡ a → Tells h words
      → Tells (h ++ x ∷ []) (set words i ((slice_index words i + much) % 2 ^ 64)))
      → me.0.stage ≡ Idle → Allows Ruled slots id me i (λ n. (n + much) % 2 ^ 64) (λ n m. Added a me m)
  adds a i much tells idle s r wide at _ =
      let mine : members_at id me.0 ≡ members_of me.0.known = by_stage id me.0 Idle idle
      in let x : Entry Add = its_entry tt r.history s.views id me.0 r.agrees at mine a
      in let w : BookSight = standing me.0 Idle (with_entry tt r.history s.views id me.0 r.agrees at mine a)
      in (
        w,
        keeps,
        tt,
        record {
          history = r.history ++ x ∷ [];
          agrees = agrees_step tt r.history (x ∷ []) s.views id me.0 w r.agrees at
              (its_step tt r.history s.views id me.0 r.agrees at mine a);
          words = tells r.history x s.words refl r.words;
        },
        record {
          adds = λ faithful. record {
            made = its_made tt r.history s.views id me.0 r.agrees at mine a;
            before = r.history;
            longer = r.agrees.seen id me.0 at;
            ends = refl;
            alone = λ all. sym (saw_all s r id me.0 at idle all faithful);
          };
          stage = refl;
          slots = refl;
        },
      )

  pub adds_items : (items : ℕ) → me.0.stage ≡ Idle
      → Allows Ruled slots id me OVERRUN (λ n. (n + items) % 2 ^ 64) (λ n m. Added (Overran items) me m)
  adds_items items = adds (Overran items) OVERRUN items (tells_items items)

  pub adds_posts : (posts : ℕ) → me.0.stage ≡ Idle
      → Allows Ruled slots id me DISCARDED (λ n. (n + posts) % 2 ^ 64) (λ n m. Added (Discarded posts) me m)
  adds_posts posts = adds (Discarded posts) DISCARDED posts (tells_posts posts)

  -- a look at a word
  pub looks : (i : ℕ) → ((h : List (Entry Add)) (words : List ℕ) → Tells h words → slice_index words i ≡ number_at i h)
      → me.0.stage ≡ Idle → Allows Ruled slots id me i (λ n. n) (λ n m. Looked i me n m)
  looks i reads idle s r wide at _ =
      let mine : members_at id me.0 ≡ members_of me.0.known = by_stage id me.0 Idle idle
      in let w : BookSight = standing me.0 Idle (having_seen me.0.known r.history)
      in (
        w,
        keeps,
        tt,
        look_keeps s id me.0 w at i r (look_of_all tt r.history s.views id me.0 r.agrees at mine),
        record {
          looks = looks_at_all tt r.history s.views id me.0 r.agrees at mine;
          stage = refl;
          slots = refl;
          number = reads r.history s.words r.words;
          alone = λ all faithful. sym (saw_all s r id me.0 at idle all faithful);
        },
      )

  -- a seat that was just split off learns its number
  pub names : (v : BookSight) (parts i : ℕ) (out : List (ℕ × Unit {0})) → me ≡ (given_part parts v, out)
      → Allows Ruled slots id me i (λ n. n) (λ n m. was_named me m)
  names v parts i out is s r wide at _ =
      let fresh : me.0.stage ≡ Fresh = ap (λ m. m.0.stage) is
      in let none_own : me.0.known.own ≡ [] = ap (λ m. m.0.known.own) is
      in let alone : me.0.known.joined ≡ [] = ap (λ m. m.0.known.joined) is
      in let w : BookSight = named tt r.history s.views id me.0 r.agrees at fresh none_own alone
      in (
        w,
        keeps,
        tt,
        look_keeps s id me.0 w at i r (look_of_named tt r.history s.views id me.0 r.agrees at fresh none_own alone),
        named_is_told tt r.history s.views id me.0 r.agrees at fresh none_own alone me.1,
      )

-- a seat that has just taken in another sees what both had seen
pub sees_both : {slots : ℕ} (id i : ℕ) {me : Me (Unit {0}) BookSight} (v w : BookSight) {out : List (ℕ × Unit {0})}
    → me ≡ (taking_in v w, out) → IsFaithful v.known → IsFaithful w.known
    → Allows Ruled slots id me i (λ n. n) (λ n m. (h : List (Entry Add)) → me.0.stage ≡ Joined h → saw_both h me m)
sees_both {slots} id i v w {out} is first second =
    let P : Me (Unit {0}) BookSight → Type 0 = λ m0. Allows Ruled slots id m0 i (λ n. n)
    (λ n m. (h : List (Entry Add)) → m0.0.stage ≡ Joined h → saw_both h m0 m)
    in subst P (sym is)
    (λ s r wide at _.
    let both : BookSight = taking_in v w
    in let g : List (Entry Add) = w.known.seen
    in let old : AllByRecursion (λ (c : Member Add). (c.own ≡ own_of c.seat v.known.seen) ⊎ (c.own ≡ own_of c.seat g))
    (members_of both.known) = old_members v.known w.known first second
    in let now : BookSight = seeing_both tt r.history s.views id both r.agrees at g refl old
    in (
      now,
      keeps,
      tt,
      look_keeps s id both now at i r (look_of_both tt r.history s.views id both r.agrees at g refl old),
      λ h stage.
          let same : ◌≡◌ {A = Stage Add ⊥} (Joined g) (Joined h) = stage
          in let one : g ≡ h = cc
          in let Q : List (Entry Add) → Type 0 = λ z. saw_both z (both, out) (now, out)
          in subst Q one (both_is_told tt r.history s.views id both r.agrees at g refl old out),
    ))

-- a seat is cut in two
pub splits : (id parts : ℕ) (v : BookSight) → v.stage ≡ Idle → parts < v.known.parts → 0 < parts
    → Splits Ruled id v (kept_part parts v) (given_part parts v)
splits id parts v idle fewer some_parts s r at = record {
  history = r.history;
  agrees = agrees_split tt r.history s.views id parts v r.agrees at idle fewer some_parts;
  words = r.words;
}

-- a seat takes another in
pub joins : (id o : ℕ) (v w : BookSight) → v.stage ≡ Idle → w.stage ≡ Idle → 0 < v.known.parts
    → Joins Ruled id v o w (taking_in v w) gone
joins id o v w idle other_idle some_parts s r at apart e =
    let at_other : get_elem? s.views o ≡ some w = sym (set_else s.views id o (taking_in v w) apart) ∙ e
    in record {
      history = r.history;
      agrees = agrees_join tt r.history s.views id o v w r.agrees at at_other apart idle other_idle some_parts;
      words = r.words;
    }
