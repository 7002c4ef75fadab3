-- Each step of a seat keeps the rule of the lane.
use Rattle.std.proofs.Common.{◌≡◌, ◌≢◌, ℕ, ◌+◌, ◌%◌, ◌^◌, ◌<◌, ◌⊎◌, eqb, Some, List, [], ◌∷◌, ◌++◌, set, length, get_or}
use Rattle.std.proofs.Common.{refl, sym, ap, subst, ◌∙◌, inl, inr, arith, length-set}
use Rattle.std.specs.Prelude.{slice_index}
use Rattle.std.specs.List.{AllByRecursion}
use Rattle.std.proofs.lemmas.List.{length-append}
use Rattle.std.proofs.Math.Nat.{add-mod}
use mathlib.Core.Option.{Option, none, some, some-ne-none}
use lib.ListN.{get_elem?}
use lib.Seq.{set-get_or}
use prog.Atomic.{either}
use Rattle.atomic_table.specs.Table.{State, Me, keeps, takes, gives, Allows, opening, put_back}
use Rattle.atomic_table.proofs.Lists.{at_set, set_else, set_here, set_again}
use Rattle.alog_lane.specs.declared.view.LockedValue.{LockedValue}
use Rattle.alog_lane.specs.Seats.{Entry, Member, Known, own_of, members_of, having_seen, AreExact}
use Rattle.alog_lane.specs.Roster.{Stage, Idle, Fresh, Joined, Working, members_by, members_at}
use Rattle.alog_lane.specs.Roster.{first_sight}
use Rattle.alog_lane.specs.Calls.{TakesTurn}
use Rattle.alog_lane.specs.Turns.{Turned, Turns, Leads}
use Rattle.alog_lane.specs.Rule.{LaneSight, index_after, Keeps, Reaches, IsFree, IsHeld, Ruled}
use Rattle.alog_lane.specs.Plays.{standing, was_named, saw_both, tried, GaveBack}
use Rattle.alog_lane.proofs.SharedLists.{same_or_not, inside, one_value, prefix_same, at_end}
use Rattle.alog_lane.proofs.SharedRosters.{IsLook, agrees_step, agrees_look, agrees_first}
use Rattle.alog_lane.proofs.SharedRosters.{others_have_none, seen_whole}
use Rattle.alog_lane.proofs.SharedKnowing.{by_stage, has_parts, its_key, looks_at_all, with_entry, its_step, its_made, named, look_of_named}
use Rattle.alog_lane.proofs.SharedKnowing.{named_is_told, seeing_both, look_of_both, both_is_told}

module _ {T I S R : Type 0} (turns : T → S → I → R → T → S → Type 0) where
  -- one more turn
  pub leads_more : (v : T) (h : List (Entry (Turned I S R))) (w : T) (x : Entry (Turned I S R)) (u : T) → Leads turns v h w
      → Turns turns w x.deed u → Leads turns v (h ++ x ∷ []) u
  leads_more v [] w x u same turn = let P : T → Type 0 = λ z. Turns turns z x.deed u in (u, subst P (sym same) turn, refl)
  leads_more v (y ∷ h) w x u leads turn = (leads.0, leads.1, leads_more leads.0 h w x u leads.2 turn)

  -- the last turn, from the value that those before it led to
  pub leads_last : (v : T) (h : List (Entry (Turned I S R))) (x : Entry (Turned I S R)) (u : T) → Leads turns v (h ++ x ∷ []) u
      → (w : T) × Leads turns v h w × Turns turns w x.deed u
  leads_last v [] x u leads = let P : T → Type 0 = λ z. Turns turns v x.deed z in (v, refl, subst P leads.2 leads.1)
  leads_last v (y ∷ h) x u leads =
      let last = leads_last leads.0 h x u leads.2
      in (last.0, (leads.0, leads.1, last.1), last.2)

  -- what a seat took is a turn of some value
  pub its_turn : (first : T) (old new : Known (Turned I S R)) (deed : Turned I S R) (index : ℕ) → TakesTurn turns first old new deed index
      → (v : T) × (w : T) × Turns turns v deed w
  its_turn first old new deed index took =
      let last = leads_last first took.before (record { seat = old.seat; deed = deed }) took.value
      (subst (λ h. Leads turns first h took.value) took.ends took.leads)
      in (last.0, took.value, last.2)

-- the lock word is the one word
word_set : (l : List ℕ) (x : ℕ) → length l ≡ 1 → slice_index (set l 0 x) 0 ≡ x
word_set [] x e = absurd (omega arith)
word_set (y ∷ l) x e = refl

-- the number of turns after one more
pub index_more : {D : Type 0} (h : List (Entry D)) (x : Entry D) → (index_after h + 1) % 2 ^ 64 ≡ index_after (h ++ x ∷ [])
index_more h x =
    let l : length (h ++ x ∷ []) ≡ length h + 1 = length-append h (x ∷ [])
    in sym (ap (λ (n : ℕ). n % 2 ^ 64) l ∙ add-mod (length h) 1 (2 ^ 64))

module _ {T I S R : Type 0} (turns : T → S → I → R → T → S → Type 0) (may : T → I → S → Type 0) (first : T) where
  abbrev View : Type 0
  View = LaneSight T I S R

  abbrev Deed : Type 0
  Deed = Turned I S R

  -- a lane at its start
  pub starts : (c : LockedValue T I R S) → c.value ≡ first → c.turns ≡ 0
      → Ruled turns may first (opening (0 ∷ []) (c ∷ []) (first_sight (Some first)))
  starts c is_first none_taken = record {
    history = [];
    agrees = agrees_first first;
    words = refl;
    homes = refl;
    lock =
        inl (record {
          word = refl;
          locked = c;
          home = refl;
          reaches = record { leads = sym is_first; keeps = λ i z is. let P : T → Type 0 = λ v. may v i z in subst P (sym is_first) is };
          count = none_taken;
          nobody =
              λ b u x e is.
              elim (at_end [] (first_sight (Some first)) u b e) [
                | inl none_there ↦ absurd (some-ne-none u (sym none_there))
                | inr last ↦ let wrong : ◌≡◌ {A = Stage Deed T} Idle (Working x) = ap (λ (z : View). z.stage) last.1 ∙ is in cc
              ];
        });
  }

  -- The lock stays as it is where a seat at work stays so, and none other comes to work.
  pub lock_stays : (h : List (Entry Deed)) (words : List ℕ) (homes : List (Option (LockedValue T I R S))) (old new : List View)
      → ((b : ℕ) (u : View) (x : T) → get_elem? new b ≡ some u → u.stage ≡ Working x → get_elem? old b ≡ some u)
      → ((b : ℕ) (u : View) (x : T) → get_elem? old b ≡ some u → u.stage ≡ Working x → get_elem? new b ≡ some u)
      → IsFree turns may first h (record { words = words; homes = homes; views = old })
      ⊎ IsHeld turns may first h (record { words = words; homes = homes; views = old })
      → IsFree turns may first h (record { words = words; homes = homes; views = new })
      ⊎ IsHeld turns may first h (record { words = words; homes = homes; views = new })
  lock_stays h words homes old new back forth lock =
      elim lock [
        | inl free ↦ inl (record {
          word = free.word;
          locked = free.locked;
          home = free.home;
          reaches = free.reaches;
          count = free.count;
          nobody = λ b u x e is. free.nobody b u x (back b u x e is) is;
        })
        | inr held ↦
            inr (record {
              word = held.word;
              owner = held.owner;
              view = held.view;
              at = forth held.owner held.view held.value held.at held.stage;
              value = held.value;
              stage = held.stage;
              reaches = held.reaches;
              seen = held.seen;
              alone = λ b u x e is. held.alone b u x (back b u x e is) is;
            })
      ]

  -- a seat that is not at work changes its view, and is not at work then
  module _ (s : State (LockedValue T I R S) View) (id : ℕ) (v w : View) (at : get_elem? s.views id ≡ some v) (calm : (x : T)
      → v.stage ≢ Working x) (calm_after : (x : T) → w.stage ≢ Working x) where
    back_set : (b : ℕ) (u : View) (x : T) → get_elem? (set s.views id w) b ≡ some u → u.stage ≡ Working x → get_elem? s.views b ≡ some u
    back_set b u x e is = elim (at_set s.views id b w u e) [
      | inl same ↦ absurd (calm_after x (ap (λ (z : View). z.stage) same.1
          ∙ is))
      | inr other ↦ other.1
    ]

    forth_set : (b : ℕ) (u : View) (x : T) → get_elem? s.views b ≡ some u → u.stage ≡ Working x → get_elem? (set s.views id w) b ≡ some u
    forth_set b u x e is =
        elim (same_or_not b id) [
          | inl same ↦ absurd (let G : ℕ → Type 0 = λ i. get_elem? s.views i ≡ some u
              in let one : u ≡ v = one_value s.views id u v (subst G same e) at
              in calm x (sym (ap (λ (z : View). z.stage) one) ∙ is))
          | inr other ↦ set_else s.views id b w other ∙ e
        ]

    -- a look by which the seat's view becomes another
    look_keeps : (i : ℕ) (r : Ruled turns may first s) → IsLook r.history id v w
        → Ruled turns may first (record { words = set s.words i (get_or s.words i 0); homes = s.homes; views = set s.views id w })
    look_keeps i r look =
        let P : List ℕ → Type 0 = λ ws. Ruled turns may first (record { words = ws; homes = s.homes; views = set s.views id w })
        in subst P (sym (set-get_or s.words i 0)) (record {
          history = r.history;
          agrees = agrees_look r.agrees at look;
          words = r.words;
          homes = r.homes;
          lock = lock_stays r.history s.words s.homes s.views (set s.views id w) back_set forth_set r.lock;
        })

  module _ (slots id : ℕ) (me : Me (LockedValue T I R S) View) where
    -- the exchange of the lock word
    pub tries : me.0.stage ≡ Idle → Allows (λ (s : State (LockedValue T I R S) View). Ruled turns may first s) slots id me 0 (λ n. either
        (eqb n 0) 1 n) (λ n m. tried turns may me n m)
    tries idle s r wide at _ =
        let mine : members_at id me.0 ≡ members_of me.0.known = by_stage id me.0 Idle idle
        in elim r.lock [
          | inl free ↦
              let c : LockedValue T I R S = free.locked
              in let w : View = record { key = me.0.key; stage = Working free.locked.value; known = having_seen me.0.known r.history }
              in let word : either (eqb (slice_index s.words 0) 0) 1 (slice_index s.words 0) ≡ 1 = ap (λ (z : ℕ). either
              (eqb z 0) 1 z) free.word
              in let wide_views : id < length s.views = inside s.views id me.0 at
              in (
                w,
                takes 0 c,
                free.home,
                record {
                  history = r.history;
                  agrees =
                      agrees_look {a = id} {v = me.0} {w = w} r.agrees at (record {
                        key = refl;
                        parts = refl;
                        members = sym mine;
                        seen = prefix_same r.history;
                        other = λ z is. let wrong : ◌≡◌ {A = Stage Deed T} (Working free.locked.value) (Joined z) = is in cc;
                      });
                  words = length-set s.words 0 (either (eqb (slice_index s.words 0) 0) 1 (slice_index s.words 0)) ∙ r.words;
                  homes = length-set s.homes 0 none ∙ r.homes;
                  lock =
                      inr (record {
                        word = word_set s.words (either (eqb (slice_index s.words 0) 0) 1 (slice_index s.words 0)) r.words ∙ word;
                        owner = id;
                        view = w;
                        at = set_here s.views id w wide_views;
                        value = free.locked.value;
                        stage = refl;
                        reaches = free.reaches;
                        seen = refl;
                        alone = λ b u x e is. elim (at_set s.views id b w u e) [
                          | inl same ↦ same.0
                          | inr other ↦ absurd
                              (free.nobody b u x other.1 is)
                        ];
                      });
                },
                (
                  (λ _. record {
                    first = first;
                    key = its_key first r.history s.views id me.0 r.agrees at mine;
                    locked = c;
                    taken = refl;
                    stage = refl;
                    same_key = refl;
                    looks = looks_at_all first r.history s.views id me.0 r.agrees at mine;
                    reaches = free.reaches;
                    count = free.count;
                    alone = λ all faithful. let E : List (Member Deed) → Type 0 = λ l. AreExact l me.0.known.seen
                        in sym (seen_whole first r.history s.views id me.0 r.agrees at all (subst E (sym mine) (faithful.own, faithful.joined)));
                  }),
                  (λ ne. absurd (ne free.word)),
                ),
              )
          | inr held ↦
              let same_word : either (eqb (slice_index s.words 0) 0) 1 (slice_index s.words 0) ≡ get_or s.words 0 0 = ap (λ
              (z : ℕ). either (eqb z 0) 1 z) held.word ∙ sym held.word
              in let P : List ℕ → Type 0 = λ ws. Ruled turns may first (record { words = ws; homes = s.homes; views = set s.views id me.0 })
              in let Q : List View → Type 0 = λ vs. Ruled turns may first (record { words = s.words; homes = s.homes; views = vs })
              in let still : Q s.views = record { history = r.history; agrees = r.agrees; words = r.words; homes = r.homes; lock = r.lock }
              in let apart : held.owner ≢ id = λ same. let G : ℕ → Type 0 = λ i. get_elem? s.views i ≡ some held.view
              in let one : held.view ≡ me.0 = one_value s.views id held.view me.0 (subst G same held.at) at
              in let wrong : ◌≡◌ {A = Stage Deed T} Idle (Working held.value) = sym idle ∙ sym (ap (λ (z : View). z.stage) one)
              ∙ held.stage in cc
              in let owner_parts : 0 < held.view.known.parts = has_parts first r.history s.views held.owner held.view r.agrees held.at (ap
              (λ (z : Stage Deed T). members_by held.owner held.view.known z) held.stage)
              in (
                me.0,
                keeps,
                tt,
                subst P (sym (ap (λ (z : ℕ). set s.words 0 z) same_word
                    ∙ set-get_or s.words 0 0)) (subst Q (sym (set_again s.views id me.0 at)) still),
                (
                  (λ is. let wrong : 0 ≡ 1 = sym is ∙ held.word in absurd (omega arith)),
                  (λ _. (
                    refl,
                    λ all. let none_there : held.view.known.parts ≡ 0 = others_have_none first r.history s.views id
                        me.0 r.agrees at all held.owner held.view apart held.at in absurd (omega arith),
                  )),
                ),
              )
        ]

    -- the store of the lock word, after a turn
    pub gives_back : {x : T} {c : LockedValue T I R S} (t : Turned I S R) {more : List (ℕ × LockedValue T I R S)} → me.0.stage ≡ Working x
        → me.1 ≡ (0, c) ∷ more → Turns turns x t c.value → Keeps may x c.value
        → c.turns ≡ index_after (me.0.known.seen ++ record { seat = me.0.known.seat; deed = t } ∷ [])
        → Allows (λ (s : State (LockedValue T I R S) View). Ruled turns may first s) slots id me 0 (λ _. 0) (λ _ m. GaveBack t me m)
    gives_back {x} {c} t stage has turn keeping number s r wide at _ =
        let mine : members_at id me.0 ≡ members_of me.0.known = by_stage id me.0 (Working x) stage
        in let k : Known Deed = me.0.known
        in let e : Entry Deed = record { seat = k.seat; deed = t }
        in elim r.lock [
          | inl free ↦ absurd (free.nobody id me.0 x at stage)
          | inr held ↦
              let same : id ≡ held.owner = held.alone id me.0 x at stage
              in let G : ℕ → Type 0 = λ i. get_elem? s.views i ≡ some held.view
              in let one : held.view ≡ me.0 = one_value s.views id held.view me.0 (subst G (sym same) held.at) at
              in let both : ◌≡◌ {A = Stage Deed T} (Working held.value) (Working x) = sym held.stage
              ∙ ap (λ (z : View). z.stage) one ∙ stage
              in let is_x : held.value ≡ x = cc
              in let seen : k.seen ≡ r.history = sym (ap (λ (z : View). z.known.seen) one) ∙ held.seen
              in let X : T → Type 0 = λ z. Reaches turns may first r.history z
              in let reached : X x = subst X is_x held.reaches
              in let h' : List (Entry Deed) = r.history ++ e ∷ []
              in let w' : View = standing me.0 Idle (with_entry first r.history s.views id me.0 r.agrees at mine t)
              in let home_len : 0 < length s.homes = (let l : length s.homes ≡ 1 = r.homes in omega arith)
              in let H : List (ℕ × LockedValue T I R S) → Type 0 = λ l. get_elem? (put_back s.homes l) 0 ≡ some (some c)
              in let n_is : c.turns ≡ index_after h' = number ∙ ap (λ (g : List (Entry Deed)). index_after (g ++ e ∷ [])) seen
              in let home : H me.1 = subst H (sym has) (set_here s.homes 0 (some c) home_len)
              in let L : List (ℕ × LockedValue T I R S) → Type 0 = λ l. length (put_back s.homes l) ≡ 1
              in (
                w',
                gives,
                tt,
                record {
                  history = h';
                  agrees = agrees_step first r.history (e ∷ []) s.views id me.0 w' r.agrees at
                      (its_step first r.history s.views id me.0 r.agrees at mine t);
                  words = length-set s.words 0 0 ∙ r.words;
                  homes = subst L (sym has) (length-set s.homes 0 (some c) ∙ r.homes);
                  lock =
                      inl (record {
                        word = word_set s.words 0 r.words;
                        locked = c;
                        home = home;
                        reaches = record {
                          leads = leads_more turns first r.history x e c.value reached.leads turn;
                          keeps = λ i z is. keeping i z (reached.keeps i z is);
                        };
                        count = n_is;
                        nobody = λ b u y g is. elim (at_set s.views id b w' u g) [
                          | inl it ↦
                              (let wrong : ◌≡◌ {A = Stage Deed T} Idle (Working y) = ap (λ (z : View). z.stage) it.1 ∙ is
                              in cc)
                          | inr other ↦ absurd (other.0 (held.alone b u y other.1 is ∙ sym same))
                        ];
                      });
                },
                record {
                  made = its_made first r.history s.views id me.0 r.agrees at mine t;
                  seen = ap (λ (g : List (Entry Deed)). g ++ e ∷ []) (sym seen);
                  stage = refl;
                  same_key = refl;
                  back = refl;
                },
              )
        ]

    -- a new seat learns its number
    pub names : me.0.stage ≡ Fresh → me.0.known.own ≡ [] → me.0.known.joined ≡ []
        → Allows (λ (s : State (LockedValue T I R S) View). Ruled turns may first s) slots id me 0 (λ n. n) (λ n m. was_named me m)
    names fresh none_own alone s r wide at _ = (
      named first r.history s.views id me.0 r.agrees at fresh none_own alone,
      keeps,
      tt,
      look_keeps s id me.0 (named first r.history s.views id me.0 r.agrees at fresh none_own alone) at
          (λ x is. let wrong : ◌≡◌ {A = Stage Deed T} Fresh (Working x) = sym fresh ∙ is in cc)
          (λ x is. let wrong : ◌≡◌ {A = Stage Deed T} Idle (Working x) = is in cc)
          0 r (look_of_named first r.history s.views id me.0 r.agrees at fresh none_own alone),
      named_is_told first r.history s.views id me.0 r.agrees at fresh none_own alone me.1,
    )

    -- a seat into which another was joined sees what both had seen
    pub sees_both : (g : List (Entry Deed)) → me.0.stage ≡ Joined g
        → AllByRecursion (λ (c : Member Deed). (c.own ≡ own_of c.seat me.0.known.seen)
        ⊎ (c.own ≡ own_of c.seat g)) (members_of me.0.known)
        → Allows (λ (s : State (LockedValue T I R S) View). Ruled turns may first s) slots id me 0 (λ n. n) (λ n m. saw_both g me m)
    sees_both g stage old s r wide at _ = (
      seeing_both first r.history s.views id me.0 r.agrees at g stage old,
      keeps,
      tt,
      look_keeps s id me.0 (seeing_both first r.history s.views id me.0 r.agrees at g stage old) at
          (λ x is. let wrong : ◌≡◌ {A = Stage Deed T} (Joined g) (Working x) = sym stage ∙ is in cc)
          (λ x is. let wrong : ◌≡◌ {A = Stage Deed T} Idle (Working x) = is in cc)
          0 r (look_of_both first r.history s.views id me.0 r.agrees at g stage old),
      both_is_told first r.history s.views id me.0 r.agrees at g stage old me.1,
    )
