use Rattle.std.proofs.Common.{◌≡◌, ◌≤◌, ◌^◌, ◌-◌, ℕ, ℤ, pos, neg_ℤ, ◌∷◌, ◌++◌, ◌-ℤ◌, to_z, of_z, w64, refl, ap, subst, ◌∙◌, lit<, arith}
use Rattle.std.proofs.lemmas.Int.{ints}
use Rattle.std.specs.Int.{w128}
use Rattle.std.proofs.lemmas.Option.{none-some}
use Rattle.std.specs.Str.Parse.{AllDigits}
use Rattle.alog_replay.proofs.CutLemmas.{minus_cut, nothing_before, not_before, filled, emptied}
use Rattle.alog_replay.proofs.FormLemmas.{is_natural, is_negative, is_no_time, is_negative_not, within}
use Rattle.alog_replay.proofs.parser.time.Goals as goal

kept : (n : ℕ) → n ≤ 2 ^ 63 - 1 → to_z w64 n ≡ pos n
kept n h = omega (arith, ints, h)

negated : (z : ℤ) (n : ℕ) → z ≡ pos n → n ≤ 2 ^ 63
    → to_z w64 (of_z w64 (to_z w128 (of_z w128 (pos 0 -ℤ to_z w128 (of_z w128 z))))) ≡ neg_ℤ (pos n)
negated z n e h = omega (arith, ints, e, h)

pub returns-in_err-n : goal.returns-in_err-n
returns-in_err-n c =
    is_no_time c.args.word.now c.from_residual.ensures (λ n p. none-some n ((c.in_err-n.ensures.spelled n).1 p))
    (λ d n e p. not_before c.args.word.now d (c.in_default.ensures.byte (lit< tt) (λ w o h. h)) e)

pub returns-in_default : goal.returns-in_default
returns-in_default c =
    let found = (c.in_ok-n.ensures.spelled c.in_ok-n.n).0 refl in
    rw (kept c.in_ok-n.n found.3) (is_natural c.in_ok-n.n found)

pub returns-then-not-is_empty : goal.returns-then-not-is_empty
returns-then-not-is_empty c =
    let word = c.args.word.now in
    let cut = c.in-Some.ensures.byte (lit< tt) (λ w o h. h) in
    let whole = minus_cut word c.in-Some.before.now c.in-Some.digits.now cut in
    is_no_time word refl (λ n p. within c.in-Some.before.now c.in-Some.digits.now (subst (AllDigits 10) whole p.0.1))
    (λ d n e p. filled c.in-Some.before.now c.is_empty.result c.is_empty.ensures c.if-not-is_empty.true (cut.0 ∙ nothing_before word d e))

pub returns-in_err-n-2 : goal.returns-in_err-n-2
returns-in_err-n-2 c =
    let word = c.args.word.now in
    let digits = c.in-Some.digits.now in
    let none = emptied c.in-Some.before.now c.is_empty.result c.is_empty.ensures c.if-not-is_empty.false in
    let whole = minus_cut word c.in-Some.before.now digits (c.in-Some.ensures.byte (lit< tt) (λ w o h. h)) in
    is_negative_not word digits (whole ∙ ap (λ x. x ++ 45 ∷ digits) none) c.from_residual-in_err-n-2.ensures
    (λ n p. none-some n ((c.in_err-n-2.ensures.spelled n).1 p))

pub returns : goal.returns
returns c =
    let word = c.args.word.now in
    let digits = c.in-Some.digits.now in
    let none = emptied c.in-Some.before.now c.is_empty.result c.is_empty.ensures c.if-not-is_empty.false in
    let whole = minus_cut word c.in-Some.before.now digits (c.in-Some.ensures.byte (lit< tt) (λ w o h. h)) in
    let found = (c.in_ok-n-2.ensures.spelled c.in_ok-n-2.n).0 refl in
    rw (negated c.from.result c.in_ok-n-2.n c.from.ensures found.3)
    (is_negative c.in_ok-n-2.n (whole ∙ ap (λ x. x ++ 45 ∷ digits) none) found)
