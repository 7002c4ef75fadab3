-- What a seat learns at a step, from a history and views that agree: of any deeds, and of any work.
use Rattle.std.proofs.Common.{◌≡◌, ℕ, ◌<◌, ◌≤◌, ◌⊎◌, Some, List, [], ◌∷◌, ◌++◌}
use Rattle.std.proofs.Common.{refl, sym, ap, subst, ◌∙◌, inl, inr, append_assoc, arith}
use Rattle.std.specs.List.{AllByRecursion, sum_by}
use Rattle.std.proofs.lemmas.List.{append-nil}
use mathlib.Core.Option.{some}
use mathlib.Core.List.{IsPrefix}
use lib.ListN.{get_elem?}
use Rattle.alog_lane.specs.declared.seat.TheConstants.{ALL_PARTS}
use Rattle.alog_lane.specs.Seats.{Entry, Member, Known, own_of, members_of, IsAmong, AreDistinct, AreExact, Made, IsFaithful, having_seen}
use Rattle.alog_lane.specs.Seats.{with_other}
use Rattle.alog_lane.specs.Roster.{Stage, Idle, Fresh, Joined, Sight, members_by, members_at, parts_of, Agrees, gone}
use Rattle.alog_lane.specs.Plays.{standing, was_named, saw_both}
use Rattle.alog_lane.proofs.SharedLists.{same_or_not, prefix_same, prefix_longer, own_of-append, own_of_one, own_of_other}
use Rattle.alog_lane.proofs.SharedLists.{at_most, longer_of, exact_between, exact_apart, each_of, each_append}
use Rattle.alog_lane.proofs.SharedRosters.{IsStep, IsLook}

first_empty : {A : Type 0} (l m : List A) → l ++ m ≡ [] → l ≡ []
first_empty [] m e = refl
first_empty (x ∷ l) m e = cc

-- entries that a seat made one after another
pub made_then : {D : Type 0} (a b c : Known D) (first second : List (Entry D)) → Made a b first → Made b c second
    → Made a c (first ++ second)
made_then {D} a b c first second one two =
    let P : List (Entry D) → Type 0 = λ h. IsPrefix a.seen h
    in record {
      seat = two.seat ∙ one.seat;
      parts = two.parts ∙ one.parts;
      joined = two.joined ∙ one.joined;
      seen = subst P two.seen.1 (prefix_longer a.seen b.seen two.seen.0 one.seen);
      own = two.own ∙ ap (λ (l : List (Entry D)). l ++ second) one.own ∙ append_assoc a.own first second;
      faithful = two.faithful;
    }

-- the members of a seat whose stage is known
pub by_stage : {K D W : Type 0} (id : ℕ) (v : Sight K D W) (st : Stage D W) → v.stage ≡ st → members_at id v ≡ members_by id v.known st
by_stage {K} {D} {W} id v st is = ap (λ (z : Stage D W). members_by id v.known z) is

-- the members of two seats are exact in what the one or the other had seen
pub old_members : {D : Type 0} (k l : Known D) → IsFaithful k → IsFaithful l
    → AllByRecursion (λ (c : Member D). (c.own ≡ own_of c.seat k.seen)
    ⊎ (c.own ≡ own_of c.seat l.seen)) (members_of (with_other k l))
old_members {D} k l first second =
    let E : Member D → Type 0 = λ c. (c.own ≡ own_of c.seat k.seen) ⊎ (c.own ≡ own_of c.seat l.seen)
    in let mine : AllByRecursion E k.joined = each_of (λ
    (c : Member D). c.own ≡ own_of c.seat k.seen) E k.joined (λ c e. inl e) first.joined
    in let its : AllByRecursion E (members_of l) = each_of (λ
    (c : Member D). c.own ≡ own_of c.seat l.seen) E (members_of l) (λ c e. inr e) (second.own, second.joined)
    in (inl first.own, each_append E k.joined (members_of l) mine its)

module _ {K D W : Type 0} (key : K) (h : List (Entry D)) (views : List
    (Sight K D W)) (id : ℕ) (v : Sight K D W) (agrees : Agrees key h views) (at : get_elem? views id ≡ some v) where
  -- a seat that knows its number, with parts
  module _ (mine : members_at id v ≡ members_of v.known) where
    pub members_exact : AreExact (members_of v.known) h
    members_exact = let P : List (Member D) → Type 0 = λ l. AreExact l h in subst P mine (agrees.exact id v at)

    pub members_distinct : AreDistinct (members_of v.known)
    members_distinct = let P : List (Member D) → Type 0 = λ l. AreDistinct l in subst P mine (agrees.distinct id v at)

    pub has_parts : 0 < v.known.parts
    has_parts = agrees.parted id v at v.known.seat (let P : List (Member D) → Type 0 = λ l. IsAmong v.known.seat l
        in subst P (sym mine) (inl refl))

    pub its_key : v.key ≡ Some key
    its_key = agrees.keyed id v at has_parts

    -- it looks at the whole history
    pub looks_at_all : Made v.known (having_seen v.known h) []
    looks_at_all = record {
      seat = refl;
      parts = refl;
      joined = refl;
      seen = agrees.seen id v at;
      own = sym (append-nil v.known.own);
      faithful = record { own = members_exact.0; joined = members_exact.1; distinct = members_distinct };
    }

    pub look_of_all : IsLook h id v (standing v Idle (having_seen v.known h))
    look_of_all = record {
      key = refl;
      parts = refl;
      members = sym mine;
      seen = prefix_same h;
      other = λ z is. let wrong : ◌≡◌ {A = Stage D W} Idle (Joined z) = is in cc;
    }

    -- it does a deed, which is the next of the history
    module _ (d : D) where
      abbrev pub its_entry : Entry D
      its_entry = record { seat = v.known.seat; deed = d }

      abbrev pub with_entry : Known D
      with_entry = record {
        seat = v.known.seat;
        parts = v.known.parts;
        seen = h ++ its_entry ∷ [];
        own = v.known.own ++ its_entry ∷ [];
        joined = v.known.joined;
      }

      own_now : v.known.own ++ its_entry ∷ [] ≡ own_of v.known.seat (h ++ its_entry ∷ [])
      own_now = sym (own_of-append v.known.seat h (its_entry ∷ []) ∙ (λ i. sym members_exact.0 i ++ own_of_one its_entry i))

      joined_now : AreExact v.known.joined (h ++ its_entry ∷ [])
      joined_now = exact_apart v.known.joined h (its_entry ∷ []) (λ b is. own_of_other b its_entry
          (λ again. let N : ℕ → Type 0 = λ z. IsAmong z v.known.joined in members_distinct.0 (subst N again is))) members_exact.1

      pub its_step : IsStep h (its_entry ∷ []) id v (standing v Idle with_entry)
      its_step = record {
        key = refl;
        parts = refl;
        back = λ c is. let P : List (Member D) → Type 0 = λ l. IsAmong c l in subst P (sym mine) is;
        forth = λ c is. let P : List (Member D) → Type 0 = λ l. IsAmong c l in subst P mine is;
        seen = prefix_same (h ++ its_entry ∷ []);
        other = λ z is. let wrong : ◌≡◌ {A = Stage D W} Idle (Joined z) = is in cc;
        exact = (own_now, joined_now);
        distinct = members_distinct;
        makers = λ b some_own. elim (same_or_not b v.known.seat) [
          | inl is ↦ (let P : List (Member D)
              → Type 0 = λ l. IsAmong b l in subst P (sym mine) (inl is))
          | inr other ↦ absurd
              (some_own (own_of_other b its_entry other))
        ];
      }

      pub its_made : Made v.known with_entry (its_entry ∷ [])
      its_made = record {
        seat = refl;
        parts = refl;
        joined = refl;
        seen = prefix_longer v.known.seen h (its_entry ∷ []) (agrees.seen id v at);
        own = refl;
        faithful = record { own = own_now; joined = joined_now; distinct = members_distinct };
      }

  -- a new seat learns its number
  module _ (fresh : v.stage ≡ Fresh) (none_own : v.known.own ≡ []) (alone : v.known.joined ≡ []) where
    abbrev pub named : Sight K D W
    named = standing v Idle (record {
      seat = id;
      parts = v.known.parts;
      seen = v.known.seen;
      own = v.known.own;
      joined = v.known.joined;
    })

    its_members : members_at id v ≡ record { seat = id; own = [] } ∷ []
    its_members = by_stage id v Fresh fresh

    named_members : members_of named.known ≡ record { seat = id; own = [] } ∷ []
    named_members = λ i. record { seat = id; own = none_own i } ∷ alone i

    pub look_of_named : IsLook h id v named
    look_of_named = record {
      key = refl;
      parts = refl;
      members = named_members ∙ sym its_members;
      seen = agrees.seen id v at;
      other = λ z is. let wrong : ◌≡◌ {A = Stage D W} Idle (Joined z) = is in cc;
    }

    pub named_is_told : {S : Type 0} (out : List (ℕ × S)) → was_named (v, out) (named, out)
    named_is_told out =
        let E : List (Member D) → Type 0 = λ l. AreExact l h
        in let exact : E (record { seat = id; own = [] } ∷ []) = subst E its_members (agrees.exact id v at)
        in let p : IsPrefix v.known.seen h = agrees.seen id v at
        in let F : List (Entry D) → Type 0 = λ g. [] ≡ own_of id g
        in let cut : [] ≡ own_of id v.known.seen ++ own_of id p.0 = subst F (sym p.1) exact.0 ∙ own_of-append id v.known.seen p.0
        in (
          id,
          refl,
          record {
            own = none_own ∙ sym (first_empty (own_of id v.known.seen) (own_of id p.0) (sym cut));
            joined = (let J : List (Member D) → Type 0 = λ l. AreExact l v.known.seen in subst J (sym alone) tt);
            distinct = (let J : List (Member D) → Type 0 = λ l. AreDistinct l in subst J (sym named_members) ((λ is. is), tt));
          },
          refl,
        )

  -- a seat into which another was joined sees what both had seen
  module _ (g : List (Entry D)) (stage : v.stage ≡ Joined g) (old : AllByRecursion (λ
      (c : Member D). (c.own ≡ own_of c.seat v.known.seen) ⊎ (c.own ≡ own_of c.seat g)) (members_of v.known)) where
    abbrev pub longest : List (Entry D)
    longest = (longer_of v.known.seen g h (agrees.seen id v at) (agrees.other id v at g stage)).0

    abbrev pub seeing_both : Sight K D W
    seeing_both = standing v Idle (having_seen v.known longest)

    mine_joined : members_at id v ≡ members_of v.known
    mine_joined = by_stage id v (Joined g) stage

    pub look_of_both : IsLook h id v seeing_both
    look_of_both = record {
      key = refl;
      parts = refl;
      members = sym mine_joined;
      seen = (longer_of v.known.seen g h (agrees.seen id v at) (agrees.other id v at g stage)).2;
      other = λ z is. let wrong : ◌≡◌ {A = Stage D W} Idle (Joined z) = is in cc;
    }

    pub both_is_told : {S : Type 0} (out : List (ℕ × S)) → saw_both g (v, out) (seeing_both, out)
    both_is_told out =
        let found = longer_of v.known.seen g h (agrees.seen id v at) (agrees.other id v at g stage)
        in let exact : AreExact (members_of v.known) longest = exact_between h found.1 found.2 (members_of v.known)
        (members_exact mine_joined) old
        in (
          longest,
          found.1,
          refl,
          (let most : v.known.parts ≤ sum_by parts_of views = at_most parts_of views id v gone refl at
              in let sum : sum_by parts_of views ≡ ALL_PARTS = agrees.whole in omega arith),
          record { own = exact.0; joined = exact.1; distinct = members_distinct mine_joined },
          refl,
        )
