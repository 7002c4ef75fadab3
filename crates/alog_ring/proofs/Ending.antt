-- With all parts the pass had seen the whole history: nobody else made an entry after that.
use Rattle.std.proofs.Common.{◌≡◌, ℕ, suc, ◌+◌, List, [], ◌∷◌, ◌++◌, length, refl, sym, ap, subst, ◌∙◌, inl, inr, arith}
use Rattle.std.specs.List.{AllByRecursion}
use Rattle.std.proofs.lemmas.List.{append-nil, length-append}
use mathlib.Core.Option as maybe
use mathlib.Core.List.{IsPrefix}
use lib.ListN.{get_elem?}
use Rattle.alog_core.specs.History.{Entry, own_of}
use Rattle.alog_core.proofs.SharedCells.{at_same}
use Rattle.alog_core.proofs.SharedHistories.{own_of-append}
use Rattle.alog_ring.specs.declared.words.TheConstants.{NEXT, FRONT}
use Rattle.alog_ring.specs.Known.{Member, Known, members_of, IsAmong}
use Rattle.alog_ring.specs.Kinds.{PlaceKind}
use Rattle.alog_ring.specs.Made.{AreExact, IsFaithful, Made}
use Rattle.alog_ring.specs.Share.{having_seen, IsWhole}
use Rattle.alog_ring.specs.Sight.{Sight}
use Rattle.alog_ring.specs.Board.{Leaves, LeftBy}
use Rattle.alog_ring.proofs.Closing.{AtEnd, leaves}

module _ {T N : Type 0} where
  -- a member that is exact in two histories has the same entries in both
  same_own : (s h : List (Entry T N)) (a : ℕ) (l : List (Member T N)) → AreExact l s → AreExact l h → IsAmong a l
      → own_of a s ≡ own_of a h
  same_own s h a [] low high is = absurd is
  same_own s h a (c ∷ cs) low high is =
      elim is [
        | inl e ↦ ap (λ (z : ℕ). own_of z s) e ∙ sym low.0 ∙ high.0 ∙ ap (λ (z : ℕ). own_of z h) (sym e)
        | inr more ↦ same_own s h a cs low.1 high.1 more
      ]

  each_second : (P : Entry T N → Type 0) (l m : List (Entry T N)) → AllByRecursion P (l ++ m) → AllByRecursion P m
  each_second P [] m all = all
  each_second P (x ∷ xs) m all = each_second P xs m all.1

  abbrev IsMember : Known T N → Entry T N → Type 0
  IsMember k x = IsAmong x.actor (members_of k)

  no_more : (k : Known T N) (rest : List (Entry T N)) → AreExact (members_of k) k.seen
      → AreExact (members_of k) (k.seen ++ rest)
      → AllByRecursion (IsMember k) rest → rest ≡ []
  no_more k [] low high all = refl
  no_more k (x ∷ rest) low high all =
      let a : ℕ = x.actor
      in let same : own_of a k.seen ≡ own_of a (k.seen ++ x ∷ rest) =
      same_own k.seen (k.seen ++ x ∷ rest) a (members_of k) low high all.0
      in let both : own_of a (k.seen ++ x ∷ rest) ≡ own_of a k.seen ++ own_of a (x ∷ rest) =
      own_of-append a k.seen (x ∷ rest)
      in let count : length (own_of a k.seen) ≡ length (own_of a k.seen) + length (own_of a (x ∷ rest)) =
      ap length (same ∙ both)
      ∙ length-append (own_of a k.seen) (own_of a (x ∷ rest))
      in let here : length (own_of a (x ∷ rest)) ≡ suc (length (own_of a rest)) =
      ap length (at_same a a (x ∷ own_of a rest) (own_of a rest) refl)
      in absurd (omega arith)

  pub whole_was_seen : (k : Known T N) (h : List (Entry T N)) → IsFaithful k → IsPrefix k.seen h → IsWhole (having_seen k h)
      → h ≡ k.seen
  whole_was_seen k h faithful begins whole =
      let exact : List (Entry T N) → Type 0 = λ l. AreExact (members_of k) l
      in let all : List (Entry T N) → Type 0 = λ l. AllByRecursion (IsMember k) l
      in let none : begins.0 ≡ [] =
      no_more k begins.0 (faithful.own, faithful.joined)
      (subst exact (sym begins.1) (whole.faithful.own, whole.faithful.joined))
      (each_second (IsMember k) k.seen begins.0 (subst all (sym begins.1) whole.actors))
      in sym begins.1 ∙ ap (λ l. k.seen ++ l) none ∙ append-nil k.seen

  -- a look by which nothing more is seen leaves the pass as it was
  pub looked_again : (old new : Known T N) → IsFaithful old → Made old new [] → IsWhole new → new ≡ old
  looked_again old new faithful made whole =
      let same : new ≡ having_seen old new.seen =
      (λ i. record {
        places = made.places i;
        first = made.first i;
        actor = made.actor i;
        parts = made.parts i;
        seen = new.seen;
        own = (made.own ∙ append-nil old.own) i;
        joined = made.joined i;
      })
      in let W : Known T N → Type 0 = λ z. IsWhole z
      in let seen : new.seen ≡ old.seen = whole_was_seen old new.seen faithful made.seen (subst W same whole)
      in same ∙ ap (λ (l : List (Entry T N)). having_seen old l) seen

-- what a table tells at its end, of the pass with which it was closed: the table's history is what the pass has seen
pub ends : {S T N : Type 0} {kind : PlaceKind S T N} {firsts : List S} {admits : S → Type 0} {n f : ℕ} {v : Sight T N}
    {words : List ℕ} {places : List S} → AtEnd kind firsts admits n f v words places → {k : Known T N} {m front next : ℕ}
    → v.known ≡ k → n ≡ m → IsFaithful v.known → get_elem? words FRONT ≡ maybe.some front
    → get_elem? words NEXT ≡ maybe.some next
    → IsWhole k × LeftBy kind firsts admits k k.seen m places front next
ends {S} {T} {N} {kind} {firsts} {admits} {n} {f} {v} {words} {places} end {m} {front} {next} is count faithful at at_next =
    let left : Leaves kind firsts admits v.known n places front next = leaves end front next at at_next
    in let seen : left.history ≡ v.known.seen = whole_was_seen v.known left.history faithful left.seen left.whole
    in let H : List (Entry T N) → Type 0 = λ h. IsWhole (having_seen v.known h)
    × LeftBy kind firsts admits v.known h n places front next
    in let P : Known T N → ℕ → Type 0 = λ z i. IsWhole z × LeftBy kind firsts admits z z.seen i places front next
    in subst (λ (z : Known T N). P z m) is
    (subst (λ (i : ℕ). P v.known i) count (subst H seen (left.whole, left.left)))
