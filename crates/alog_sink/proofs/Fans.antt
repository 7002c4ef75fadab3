-- The members of a fan, one after another: those before the next one have had their turn, those from it on have not.
use Rattle.std.proofs.Common.{◌≡◌, ℕ, ◌+◌, ◌<◌, List, [], ◌∷◌, ◌++◌, length, get_or, set, take, drop, Result, Ok, Err, refl, sym, ap, subst, ◌∙◌, add-one, arith}
use Rattle.std.proofs.lemmas.List.{take_more_set, drop_more, drop-set-lt}
use Rattle.std.proofs.Math.Seq.{take-suc}
use Rattle.alog_sink.specs.Turn.{EachDoes, first_fault, or_fault}
use Rattle.alog_sink.specs.declared.leaf.SinkError.{SinkError}

-- one answer more
first_fault_more : {A : Type 0} (done : A) (answers : List (Result A SinkError)) (given : Result A SinkError)
    → or_fault (first_fault done answers) given ≡ first_fault done (answers ++ given ∷ [])
first_fault_more done [] (Ok a) = refl
first_fault_more done [] (Err e) = refl
first_fault_more done (Err e ∷ answers) given = refl
first_fault_more done (Ok a ∷ answers) given = first_fault_more done answers given

module _ {L A : Type 0} (Does : L → A → L → Type 0) where
  each_more : (os : List L) (answers : List A) (ns : List L) (o : L) (a : A) (n : L) → EachDoes Does os answers ns → Does o a n
      → EachDoes Does (os ++ o ∷ []) (answers ++ a ∷ []) (ns ++ n ∷ [])
  each_more [] [] [] o a n all it = (it, tt)
  each_more (x ∷ os) (b ∷ answers) (y ∷ ns) o a n all it = (all.0, each_more os answers ns o a n all.1 it)
  each_more [] (b ∷ answers) ns o a n all it = absurd all
  each_more [] [] (y ∷ ns) o a n all it = absurd all
  each_more (x ∷ os) [] ns o a n all it = absurd all
  each_more (x ∷ os) (b ∷ answers) [] o a n all it = absurd all

-- The first i members have had their turn.
pub record SoFar {L A : Type 0} (Does : L → Result A SinkError → L → Type 0) (done : A) (i : ℕ) (old new : List L)
    (answer : Result A SinkError) : Type 0 where
  pub answers : List (Result A SinkError)
  pub each : EachDoes Does (take i old) answers (take i new)
  pub rest : drop i new ≡ drop i old
  pub first : answer ≡ first_fault done answers

module _ {L A : Type 0} (Does : L → Result A SinkError → L → Type 0) (done : A) (old new : List L) where
  -- the next member has its turn
  pub one_more : {i : ℕ} {answer given : Result A SinkError} {o n : L} → length new ≡ length old → i < length new
      → o ≡ get_or new i o → SoFar Does done i old new answer → Does o given n
      → SoFar Does done (i + 1) old (set new i n) (or_fault answer given)
  one_more {i} {given} {o} {n} same lt at so it =
      let lt' : i < length old = omega arith
      in let both : o ∷ drop (i + 1) new ≡ get_or old i o ∷ drop (i + 1) old =
      ap (λ x. x ∷ drop (i + 1) new) at ∙ sym (drop_more new i o lt) ∙ so.rest ∙ drop_more old i o lt'
      in let head : get_or old i o ≡ o = cc
      in let tail : drop (i + 1) new ≡ drop (i + 1) old = cc
      in let longer : take (i + 1) old ≡ take i old ++ o ∷ [] = ap (λ k. take k old) (add-one i) ∙ take-suc old i o lt' ∙ ap (λ x. take i old ++ x ∷ []) head
      in record {
        answers = so.answers ++ given ∷ [];
        each = subst (λ os. EachDoes Does os (so.answers ++ given ∷ []) (take (i + 1) (set new i n))) (sym longer)
            (subst (λ ns. EachDoes Does (take i old ++ o ∷ []) (so.answers ++ given ∷ []) ns) (sym (take_more_set new i n lt))
            (each_more Does (take i old) so.answers (take i new) o given n so.each it));
        rest = drop-set-lt (i + 1) new i n (omega arith) ∙ tail;
        first = ap (λ a. or_fault a given) so.first ∙ first_fault_more done so.answers given;
      }

  -- the member whose turn it is has not changed
  pub not_yet : (i : ℕ) (answer : Result A SinkError) (d : L) → length new ≡ length old → i < length new
      → SoFar Does done i old new answer → get_or new i d ≡ get_or old i d
  not_yet i answer d same lt so =
      let lt' : i < length old = omega arith
      in let both : get_or new i d ∷ drop (i + 1) new ≡ get_or old i d ∷ drop (i + 1) old =
      sym (drop_more new i d lt) ∙ so.rest ∙ drop_more old i d lt'
      in cc
