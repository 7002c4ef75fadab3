-- Where the stores of all have ended, nothing more comes: each later take that has room answers that, and leaves all as it is.
use Rattle.std.proofs.Common.{◌≡◌, ℕ, zero, suc, ◌≤◌, List, [], ◌∷◌, length, All, refl, sym, ap, subst, ◌∙◌, inl, inr, arith}
use Rattle.std.specs.Prelude.{slice_get, IsSome, Some, None}
use Rattle.alog_ffi.specs.Files.{AreLeft, AnswersTake, EndsSo, IsOver}
use Rattle.alog_outbox.specs.Views.{DrainView, HasAll}
use Rattle.alog_ffi.specs.declared.answer.Answer.{Answer}
use Rattle.alog_ffi.specs.declared.answer.Answer.TheVariants as answer
use Rattle.alog_outbox.specs.declared.TheConstants.{AREA}
use Rattle.std.proofs.lemmas.Option.{get_or_from_slice_get}
use Rattle.alog_ffi.proofs.Lefts.{all_over, some_told}

tail_have : (d : DrainView) (ds : List DrainView) → All HasAll (d ∷ ds) → All HasAll ds
tail_have d ds have k e short = have (suc k) e (omega arith)

head_has : (d : DrainView) (ds : List DrainView) → All HasAll (d ∷ ds) → HasAll d
head_has d ds have = have zero d (omega arith)

as_it_was : (d e : DrainView) → e.got ≡ d.got → e.line ≡ d.line → e.told ≡ d.told → e ≡ d
as_it_was d e got line told =
    ap {B = DrainView} (λ g. record { got = g; told = e.told; line = e.line }) got
    ∙ ap {B = DrainView} (λ t. record { got = d.got; told = t; line = e.line }) told
    ∙ ap {B = DrainView} (λ l. record { got = d.got; told = d.told; line = l }) line

ends_no_more : (d : DrainView) → HasAll d → d.told ≡ None → ⊥
ends_no_more d has none = let no : IsSome d.told = some_told d has in absurd (cc)

told_stays : (d e : DrainView) → HasAll d → EndsSo d e → e.told ≡ d.told
told_stays d e has (inl same) = same
told_stays d e has (inr new) = absurd (ends_no_more d has new.0)

pub left_ended : (ds es : List DrainView) → All HasAll ds → AreLeft ds es → es ≡ ds
left_ended [] [] have left = refl
left_ended [] (e ∷ es) have left = absurd left
left_ended (d ∷ ds) [] have left = absurd left
left_ended (d ∷ ds) (e ∷ es) have left =
    let one = as_it_was d e left.0 left.1 (told_stays d e (head_has d ds have) left.2) in
    ap (λ (v : DrainView). v ∷ es) one ∙ ap (λ (l : List DrainView). d ∷ l) (left_ended ds es (tail_have d ds have) left.3)

first_is : (d : DrainView) (ds : List DrainView) (was : DrainView) → slice_get (d ∷ ds) zero ≡ Some was → d ≡ was
first_is d ds was is = get_or_from_slice_get (d ∷ ds) zero was d is

has_at : (ds : List DrainView) (at : ℕ) (was : DrainView) → All HasAll ds → slice_get ds at ≡ Some was → HasAll was
has_at [] at was have is = absurd (cc)
has_at (d ∷ ds) zero was have is = subst HasAll (first_is d ds was is) (head_has d ds have)
has_at (d ∷ ds) (suc at) was have is = has_at ds at was (tail_have d ds have) is

pub ended_again : (to into : List ℕ) (count : ℕ) (old : List DrainView) (a : Answer) (new : List DrainView)
    → All HasAll old
    → AREA ≤ length to
    → AnswersTake to into count old a new
    → (a ≡ answer.Ended) × (new ≡ old)
ended_again to into count old a new have room (inl done) =
    let one = done.2.0 in
    absurd (ends_no_more one.was (has_at one.left one.at one.was (subst (All HasAll) (sym (left_ended old one.left have one.others)) have) one.old_is) one.goes_on.0)
ended_again to into count old a new have room (inr (inl idle)) = absurd (idle.3 (subst (All IsOver) (sym (left_ended old new have idle.2)) (all_over old have)))
ended_again to into count old a new have room (inr (inr (inl ended))) = (ended.0, left_ended old new have ended.2)
ended_again to into count old a new have room (inr (inr (inr short))) = absurd (omega arith)
