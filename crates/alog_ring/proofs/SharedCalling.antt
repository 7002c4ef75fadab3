-- What the calls' steps tell, put together.
use Rattle.std.proofs.Common.{◌≡◌, ℕ, ◌%◌, Option, None, Some, List, [], ◌∷◌, ◌++◌, refl, sym, ap, subst, ◌∙◌, append_assoc}
use Rattle.std.specs.Prelude.{IsSome, IfSome}
use mathlib.Core.Option.{some, some-injective}
use Rattle.atomic_table.specs.Table.{Me, step, rest}
use Rattle.alog_core.specs.Queue.{Event, Claim, Write, Grab, Take}
use Rattle.alog_core.specs.History.{Entry}
use Rattle.alog_ring.specs.declared.words.TheConstants.{NEXT, FRONT}
use Rattle.alog_ring.specs.Known.{Known}
use Rattle.alog_ring.specs.Kinds.{PlaceKind}
use Rattle.alog_ring.specs.Made.{Made, EndsWith, entry, Adds}
use Rattle.alog_ring.specs.Sight.{Idle, Writing, Reading, Sight}
use Rattle.alog_ring.specs.Plays.{claimed, wrote, grabbed, took}
use Rattle.alog_ring.specs.Board.{Empties}
use Rattle.alog_ring.proofs.SharedLists.{prefix_through}

module _ {T N : Type 0} where
  -- what was made, and then made more
  pub made_more : (u v w : Known T N) (first second : List (Entry T N)) → Made u v first → Made v w second
      → Made u w (first ++ second)
  made_more u v w first second a b = record {
    places = b.places ∙ a.places;
    first = b.first ∙ a.first;
    actor = b.actor ∙ a.actor;
    parts = b.parts ∙ a.parts;
    joined = b.joined ∙ a.joined;
    seen = prefix_through u.seen v.seen w.seen a.seen b.seen;
    own = b.own ∙ ap (λ (l : List (Entry T N)). l ++ second) a.own ∙ append_assoc u.own first second;
    faithful = b.faithful;
  }

  pub adds_after : (note : N) (u v w : Known T N) (first : List (Entry T N)) (e : Event T) → Made u v first
      → Adds note v w e → Made u w (first ++ entry note u e ∷ []) × EndsWith w (entry note u e)
  adds_after note u v w first e a b =
      let P : ℕ → Type 0 = λ z. Made u w (first ++ record { actor = z; event = e; note = note } ∷ [])
      × EndsWith w (record { actor = z; event = e; note = note })
      in subst P a.actor (made_more u v w first (entry note v e ∷ []) a b.0, b.1)

-- what lies in a hand that is not empty
pub value_there : {T : Type 0} (o : Option T) → IsSome o → (x : T) × (o ≡ Some x)
value_there None there = absurd (cc)
value_there (Some x) there = (x, refl)

-- what is so of the value that lies there, and of each
pub of_value : {T : Type 0} (P : T → Type 0) (o : Option T) (x : T) → o ≡ Some x → IfSome o P → P x
of_value P o x is holds = let Q : Option _ → Type 0 = λ r. IfSome r P in subst Q is holds

pub for_value : {T : Type 0} (P : T → Type 0) (o : Option T) (x : T) → o ≡ Some x → P x → IfSome o P
for_value P o x is holds = let Q : Option _ → Type 0 = λ r. IfSome r P in subst Q (sym is) holds

module _ {S T N : Type 0} (kind : PlaceKind S T N) where
  -- The two entries of a push: the claim, after which what lay in the place is the spare for the ticket, and the write.
  pub record Filled (firsts : List S) (old new : Known T N) (t : ℕ) (brought back : S) : Type 0 where
    pub item : T
    pub has : kind.has brought item
    pub claimed : Known T N
    pub claims : Adds kind.blank old claimed (Claim t item)
    pub writes : Adds kind.blank claimed new (Write t)
    pub spare : kind.spare firsts claimed.places claimed.seen t back

-- A push: after the exchange of the position, the seat has the place; what was brought goes into it, and the sequence is stored.
module _ {S T N : Type 0} (kind : PlaceKind S T N) (firsts : List S) (slots t new place found n : ℕ) (said back : S)
    (old mid put : Me S (Sight T N))
    (told : claimed kind.blank kind.has (kind.spare firsts) (step slots NEXT t new (some said)) old found mid)
    (hit : found ≡ t) (before : mid.1 ≡ (place, back) ∷ rest mid.1) (filled : put ≡ (mid.0, (place, said) ∷ rest mid.1))
    (at : place ≡ t % n) where
  abbrev pub filled_item : T
  filled_item = (told.0 hit).1

  pub filled_has : kind.has said filled_item
  filled_has =
      let same : (told.0 hit).0 ≡ said = sym (some-injective said (told.0 hit).0 (told.0 hit).2) in
      subst (λ (y : S). kind.has y filled_item) same (told.0 hit).3

  pub filling_stage : put.0.stage ≡ Writing t filled_item
  filling_stage = ap (λ (m : Me S (Sight T N)). m.0.stage) filled ∙ (told.0 hit).4.1 ∙ (λ i. Writing (hit i) filled_item)

  pub filling_place : put.1 ≡ (t % n, said) ∷ old.1
  filling_place = ap (λ (m : Me S (Sight T N)). m.1) filled ∙ (λ i. (at i, said) ∷ ap rest (told.0 hit).5.1 i)

  pub fills : (last : Me S (Sight T N)) → wrote kind.blank t put last
      → Filled kind firsts old.0.known last.0.known t said back × (last.0.stage ≡ Idle) × (last.1 ≡ old.1)
  fills last done =
      let claim : Adds kind.blank old.0.known mid.0.known (Claim found filled_item) = (told.0 hit).4.0
      in let P : ℕ → Type 0 = λ z. Adds kind.blank old.0.known mid.0.known (Claim z filled_item)
      in let both : (place, back) ∷ rest mid.1 ≡ (found % slots, (told.0 hit).5.0) ∷ old.1 = sym before ∙ (told.0 hit).5.1
      in let pair : ◌≡◌ {A = ℕ × S} (place, back) (found % slots, (told.0 hit).5.0) = cc
      in let same : back ≡ (told.0 hit).5.0 = ap (λ (z : ℕ × S). z.1) pair
      in let W : S → Type 0 = λ y. kind.spare firsts mid.0.known.places mid.0.known.seen found y
      in let V : ℕ → Type 0 = λ z. kind.spare firsts mid.0.known.places mid.0.known.seen z back
      in let A : Known T N → Type 0 = λ k. Adds kind.blank old.0.known k (Claim t filled_item)
      in let B : Known T N → Type 0 = λ k. kind.spare firsts k.places k.seen t back
      in let known : mid.0.known ≡ put.0.known = sym (ap (λ (m : Me S (Sight T N)). m.0.known) filled)
      in (
        record {
          item = filled_item;
          has = filled_has;
          claimed = put.0.known;
          claims = subst A known (subst P hit claim);
          writes = done.0.0;
          spare = subst B known (subst V hit (subst W (sym same) (told.0 hit).5.2));
        },
        done.0.1,
        done.1 ∙ ap rest filling_place,
      )

-- A pop: after the exchange of the position, the seat has the place; its item comes out, and the sequence is stored.
module _ {S T N : Type 0} (kind : PlaceKind S T N) (slots t new place found n : ℕ) (said brought got : S)
    (old mid out : Me S (Sight T N))
    (told : grabbed kind.blank kind.has (step slots FRONT t new (some said)) old found mid) (hit : found ≡ t)
    (before : mid.1 ≡ (place, got) ∷ rest mid.1) (emptied : out ≡ (mid.0, (place, brought) ∷ rest mid.1)) (at : place ≡ t % n) where
  pub emptying_stage : out.0.stage ≡ Reading t (told.0 hit).0
  emptying_stage = ap (λ (m : Me S (Sight T N)). m.0.stage) emptied ∙ (told.0 hit).1.1 ∙ (λ i. Reading (hit i) (told.0 hit).0)

  pub emptying_place : out.1 ≡ (t % n, brought) ∷ old.1
  emptying_place = ap (λ (m : Me S (Sight T N)). m.1) emptied ∙ (λ i. (at i, brought) ∷ ap rest (told.0 hit).2.1 i)

  pub empties : (last : Me S (Sight T N)) (note : N) → kind.brings note brought → took note t (told.0 hit).0 out last
      → Empties kind old last t brought got
  empties last note brings done =
      let grab : Adds kind.blank old.0.known mid.0.known (Grab found) = (told.0 hit).1.0
      in let P : ℕ → Type 0 = λ z. Adds kind.blank old.0.known mid.0.known (Grab z)
      in let both : (place, got) ∷ rest mid.1 ≡ (found % slots, (told.0 hit).2.0) ∷ old.1 = sym before ∙ (told.0 hit).2.1
      in let pair : ◌≡◌ {A = ℕ × S} (place, got) (found % slots, (told.0 hit).2.0) = cc
      in let same : got ≡ (told.0 hit).2.0 = ap (λ (z : ℕ × S). z.1) pair
      in let H : S → Type 0 = λ y. kind.has y (told.0 hit).0
      in let A : Known T N → Type 0 = λ k. Adds kind.blank old.0.known k (Grab t)
      in let known : mid.0.known ≡ out.0.known = sym (ap (λ (m : Me S (Sight T N)). m.0.known) emptied)
      in (
        record {
          item = (told.0 hit).0;
          has = subst H (sym same) (told.0 hit).2.2;
          note = note;
          brings = brings;
          popped = adds_after note old.0.known out.0.known last.0.known (entry kind.blank old.0.known (Grab t) ∷ [])
              (Take t (told.0 hit).0) (subst A known (subst P hit grab)).0 done.0.0;
        },
        done.0.1,
        done.1 ∙ ap rest emptying_place,
      )
