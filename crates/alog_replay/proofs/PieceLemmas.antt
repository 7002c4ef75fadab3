-- What lies before the first newline of the pending bytes.
use Rattle.std.proofs.Common.{◌≡◌, ◌≢◌, ◌≤◌, ◌<◌, ℕ, zero, suc, ◌+◌, ◌-◌, List, [], ◌∷◌, ◌++◌, length, get_or, take, drop, sym}
use Rattle.std.proofs.Common.{◌∙◌, ap, subst, arith}
use Rattle.std.proofs.lemmas.List.{take-append-drop, take_all, length-take, length-take-le, drop-take, drop-drop, drop_more}
use Rattle.std.specs.List.{slice_range}
use Rattle.alog_replay.specs.declared.limits.TheConstants.{SCRIPT_LINE_MAX}
use Rattle.alog_replay.specs.Lines.{IsUnbroken}

-- bytes of which none is a newline, by their places
pub unbroken_take : (bytes : List ℕ) (n : ℕ) → n ≤ length bytes → ((k : ℕ) → k < n → get_or bytes k 0 ≢ 10) → IsUnbroken (take n bytes)
unbroken_take [] zero h before = tt
unbroken_take [] (suc n) h before = absurd (omega arith)
unbroken_take (b ∷ bytes) zero h before = tt
unbroken_take (b ∷ bytes) (suc n) h before =
    (before 0 (omega arith), unbroken_take bytes n (omega arith) (λ k l. before (suc k) (omega arith)))

-- more bytes than a line may have
pub too_long : (pending line : List ℕ) (n : ℕ) → n ≤ length pending → ((k : ℕ) → k < n → get_or pending k 0 ≢ 10) → length line ≤ SCRIPT_LINE_MAX
    → SCRIPT_LINE_MAX - length line < n
    → (p : List ℕ) × (q : List ℕ) × (pending ≡ p ++ q) × IsUnbroken p × (SCRIPT_LINE_MAX < length line + length p)
too_long pending line n h before fits over =
    let e = length-take-le n pending h in
    (take n pending, drop n pending, sym (take-append-drop n pending), unbroken_take pending n h before, omega (arith, e))

-- all of them, where there is no newline
pub whole : (pending : List ℕ) (n : ℕ) → n ≡ length pending → ((k : ℕ) → k < n → get_or pending k 0 ≢ 10) → IsUnbroken pending
whole pending n e before = subst IsUnbroken (take_all n pending (omega arith)) (unbroken_take pending n (omega arith) before)

pub all_taken : (pending : List ℕ) (n : ℕ) → n ≡ length pending → take n pending ≡ pending
all_taken pending n e = take_all n pending (omega arith)

-- those before it, it, and those after it
pub ended : (xs : List ℕ) (start end n : ℕ) → start ≤ end → end ≤ length xs → n < length (slice_range xs start end)
    → get_or (slice_range xs start end) n 0 ≡ 10
    → slice_range xs start end ≡ take n (slice_range xs start end) ++ 10 ∷ slice_range xs (start + (n + 1)) end
ended xs start end n h fits within newline =
    let s = slice_range xs start end in
    let size = length-take (end - start) (drop start xs) in
    let more : end - start ≡ (n + 1) + (end - (start + (n + 1))) = omega (arith, size) in
    let after : drop (n + 1) s ≡ slice_range xs (start + (n + 1)) end =
    ap (λ k. drop (n + 1) (take k (drop start xs))) more
    ∙ drop-take (n + 1) (end - (start + (n + 1))) (drop start xs)
    ∙ ap (take (end - (start + (n + 1)))) (drop-drop (n + 1) start xs) in
    let at : drop n s ≡ 10 ∷ drop (n + 1) s = drop_more s n 0 within ∙ ap (λ b. b ∷ drop (n + 1) s) newline in
    sym (take-append-drop n s) ∙ ap (λ r. take n s ++ r) (at ∙ ap (λ r. 10 ∷ r) after)

pub none_left : (xs : List ℕ) (n : ℕ) → slice_range xs n n ≡ []
none_left xs n = let none : n - n ≡ 0 = omega arith in ap (λ k. take k (drop n xs)) none
