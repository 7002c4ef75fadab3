-- How works ended, from one thread after another.
use Rattle.std.proofs.Common.{◌≡◌, ◌<◌, ℕ, zero, suc, ◌+◌, List, [], ◌∷◌, ◌++◌, map, length, refl, sym, ap, subst, arith}
use Rattle.std.proofs.Common.{◌∙◌, append-nil, take, drop}
use Rattle.std.proofs.Math.ListN.{drop_of_length-le}
use Rattle.std.proofs.Math.Seq.{take-length}
use Rattle.std.specs.Prelude.{Option, None, Some, Result, Ok, Err, slice_index_or}
use Rattle.std.specs.Option.{option_or}
use Rattle.alog_server.specs.Ends.{AllEnd, EachEnds, EndsSo, IsToldOf, TellsError, first_error}
use Rattle.alog_server.specs.declared.seats.Ended.{Ended}
use Rattle.alog_server.specs.declared.seats.Ended.TheVariants as ended

module _ {E : Type 0} (gives : ℕ → Result (Unit {0}) E → Type 0) where
  none_early : (k : ℕ) (os : List (Option E)) → EachEnds gives k os → first_error os ≡ None → (i : ℕ) → i < length os → gives (k + i) (Ok tt)
  none_early k [] each none i below = absurd (omega (arith, below))
  none_early k (Some e ∷ os) each none i below = absurd (cc none)
  none_early k (None ∷ os) each none zero below = subst (λ n. gives n (Ok tt)) (omega arith) each.0
  none_early k (None ∷ os) each none (suc i) below =
      subst (λ n. gives n (Ok tt)) (omega arith) (none_early (k + 1) os each.1 none i (omega (arith, below)))

  one_early : (k : ℕ) (os : List (Option E)) (e : E) → EachEnds gives k os → first_error os ≡ Some e
      → (j : ℕ) × (j < length os) × gives (k + j) (Err e) × ((i : ℕ) → i < j → gives (k + i) (Ok tt))
  one_early k [] e each some = absurd (cc some)
  one_early k (Some d ∷ os) e each some = (
    0,
    omega arith,
    subst (λ n. gives n (Err e)) (omega arith) (subst (λ x. gives k (Err x)) (cc some) each.0),
    λ i below. absurd (omega (arith, below)),
  )
  one_early k (None ∷ os) e each some =
      let rest = one_early (k + 1) os e each.1 some in
      let low = rest.1 in (
        suc rest.0,
        omega (arith, low),
        subst (λ n. gives n (Err e)) (omega arith) rest.2,
        before k os rest.0 each.0 rest.3,
      )
    where
      before : (k : ℕ) (os : List (Option E)) (j : ℕ) → gives k (Ok tt) → ((i : ℕ) → i < j → gives ((k + 1) + i) (Ok tt))
          → (i : ℕ) → i < suc j → gives (k + i) (Ok tt)
      before k os j first rest zero below = subst (λ n. gives n (Ok tt)) (omega arith) first
      before k os j first rest (suc i) below = subst (λ n. gives n (Ok tt)) (omega arith) (rest i (omega (arith, below)))

  -- what is told of all is the first error
  pub tells : (os : List (Option E)) (o : Option E) → EachEnds gives 0 os → o ≡ first_error os → TellsError gives (length os) o
  tells os None each is = λ i below. subst (λ n. gives n (Ok tt)) (omega arith) (none_early 0 os each (sym is) i below)
  tells os (Some e) each is =
      let one = one_early 0 os e each (sym is) in
      record {
        thread = one.0;
        one = one.1;
        early = subst (λ n. gives n (Err e)) (omega arith) one.2;
        before = λ i below. subst (λ n. gives n (Ok tt)) (omega arith) (one.3 i below);
      }

  -- and it is told of those that ended so
  pub told : (threads : ℕ) (how : Ended E) (o : Option E) → AllEnd gives threads how → IsToldOf how o → TellsError gives threads o
  told threads ended.Done o all is = subst (λ p. TellsError gives threads p) (sym is) all
  told threads (ended.Early e) o all is = subst (λ p. TellsError gives threads p) (sym is) all
  told threads ended.OutOfMemory o all is = absurd is

-- what holds at each place holds of all
pub each_ends : {A E : Type 0} (gives : ℕ → Result (Unit {0}) E → Type 0) (error : A → Option E) (k : ℕ) (ys : List A)
    → ((i : ℕ) (d : A) → i < length ys → EndsSo (gives (k + i)) (error (slice_index_or ys i d))) → EachEnds gives k (map error ys)
each_ends gives error k [] at = tt
each_ends {A} {E} gives error k (y ∷ ys) at = (
  subst (λ n. EndsSo (gives n) (error y)) (omega arith) (at 0 y (omega arith)),
  each_ends gives error (k + 1) ys
      (λ i d below. subst (λ n. EndsSo (gives n) (error (slice_index_or ys i d))) (omega arith) (at (suc i) d (omega (arith, below)))),
)

-- a list whose elements were all replaced, as a vector that lends all of its own has it
pub refill : {A : Type 0} (n : ℕ) (xs ys : List A) → n ≡ length ys → length xs ≡ length ys → take n (ys ++ drop (length ys) xs) ≡ ys
refill {A} n xs ys n_is same =
    ap (λ (l : List A). take n (ys ++ l)) (drop_of_length-le xs (omega (arith, same))) ∙ ap (take n) (append-nil ys)
    ∙ ap (λ k. take k ys) n_is ∙ take-length ys

-- the first error, where one more comes behind those before
pub first_more : {E : Type 0} (os : List (Option E)) (o : Option E) → first_error (os ++ o ∷ []) ≡ option_or (first_error os) o
first_more [] None = refl
first_more [] (Some e) = refl
first_more (None ∷ os) o = first_more os o
first_more (Some e ∷ os) o = refl
