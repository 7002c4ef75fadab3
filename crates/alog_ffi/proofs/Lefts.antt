-- Drains of which nothing was taken: the same, again, and one of them told that its store has ended; and one more whose store has.
use Rattle.std.proofs.Common.{◌≡◌, ℕ, zero, suc, ◌+◌, ◌<◌, List, [], ◌∷◌, length, take, get_or, All, refl, sym, ap, inl, inr, subst, ◌∙◌, arith}
use Rattle.std.proofs.lemmas.List.{take_more}
use Rattle.std.proofs.lemmas.List.Elements.{All-append}
use Rattle.std.specs.Prelude.{slice_get, slice_set, IsSome, Option, Some, None}
use Rattle.alog_outbox.specs.declared.call.Call.{Call}
use Rattle.alog_outbox.specs.Views.{DrainView, HasAll}
use Rattle.alog_ffi.specs.Files.{AreLeft, EndsSo, IsOver}

pub left_same : (ds : List DrainView) → AreLeft ds ds
left_same [] = tt
left_same (d ∷ ds) = (refl, refl, inl refl, left_same ds)

ends_on : (x y z : DrainView) → z.got ≡ y.got → EndsSo x y → EndsSo y z → EndsSo x z
ends_on x y z got (inl p) (inl q) = inl (q ∙ p)
ends_on x y z got (inl p) (inr q) = inr (sym p ∙ q.0, q.1)
ends_on x y z got (inr p) (inl q) = inr (p.0, (p.1.0, q ∙ p.1.1, got ∙ p.1.2))
ends_on x y z got (inr p) (inr q) = inr (p.0, q.1)

pub left_on : (xs ys zs : List DrainView) → AreLeft xs ys → AreLeft ys zs → AreLeft xs zs
left_on [] [] [] p q = tt
left_on [] [] (z ∷ zs) p q = absurd q
left_on [] (y ∷ ys) zs p q = absurd p
left_on (x ∷ xs) [] zs p q = absurd p
left_on (x ∷ xs) (y ∷ ys) [] p q = absurd q
left_on (x ∷ xs) (y ∷ ys) (z ∷ zs) p q = (q.0 ∙ p.0, q.1 ∙ p.1, ends_on x y z q.0 p.2 q.2, left_on xs ys zs p.3 q.3)

ends_by : (was now : DrainView) (a b : Option (List Call)) → was.told ≡ a → now.told ≡ b → (IsSome was.told → now ≡ was) → (IsSome now.told → HasAll now)
    → EndsSo was now
ends_by was now (Some x) b is_a is_b once all = inl (ap (λ (v : DrainView). v.told) (once (subst IsSome (sym is_a) refl)))
ends_by was now None (Some y) is_a is_b once all = inr (is_a, all (subst IsSome (sym is_b) refl))
ends_by was now None None is_a is_b once all = inl (is_b ∙ sym is_a)

-- a drain whose end was taken stays as it is, and one that learns of it has all
pub ends_so : (was now : DrainView) → (IsSome was.told → now ≡ was) → (IsSome now.told → HasAll now) → EndsSo was now
ends_so was now once all = ends_by was now was.told now.told refl refl once all

or_else : DrainView → Option DrainView → DrainView
or_else d None = d
or_else d (Some e) = e

pub left_set : (ds : List DrainView) (at : ℕ) (was now : DrainView) → slice_get ds at ≡ Some was → now.got ≡ was.got → now.line ≡ was.line
    → EndsSo was now
    → AreLeft ds (slice_set ds at now)
unfolding or_else
left_set [] at was now is got line ends = tt
left_set (d ∷ ds) zero was now is got line ends =
    let same : d ≡ was = ap (or_else d) is in subst (λ (v : DrainView). AreLeft (v ∷ ds) (now ∷ ds)) (sym same) (got, line, ends, left_same ds)
left_set (d ∷ ds) (suc at) was now is got line ends = (refl, refl, inl refl, left_set ds at was now is got line ends)

one_has : (d : DrainView) → HasAll d → All HasAll (d ∷ [])
one_has d has zero e short = has
one_has d has (suc k) e short = absurd (omega arith)

pub have_more : (ds : List DrainView) (i : ℕ) (d : DrainView) → i < length ds → All HasAll (take i ds) → HasAll (get_or ds i d) → All HasAll (take (i + 1) ds)
have_more ds i d inside before here = subst (All HasAll) (sym (take_more ds i d inside)) (All-append HasAll (take i ds) (get_or ds i d ∷ []) before (one_has (get_or ds i d) here))

pub none_of : {A : Type 0} (o : Option A) → ¬ IsSome o → o ≡ None
none_of None none = refl
none_of (Some x) none = absurd (none refl)

pub some_told : (d : DrainView) → HasAll d → IsSome d.told
some_told d has = subst IsSome (sym has.1) refl

pub all_over : (ds : List DrainView) → All HasAll ds → All IsOver ds
all_over ds have k e short = some_told (get_or ds k e) (have k e short)
