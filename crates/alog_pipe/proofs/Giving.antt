-- Bytes that are given from the front of some.
use Rattle.std.proofs.Common.{◌≡◌, ◌≤◌, ◌<◌, ◌+◌, ◌-◌, ℕ, List, [], ◌++◌, length, drop, take, sym, ap, ◌∙◌, arith}
use Rattle.std.proofs.lemmas.List.{drop-drop, drop-take}
use Rattle.std.specs.List.{slice_range}

-- what is left of a stretch behind its first bytes is a stretch
pub rest_of : {A : Type 0} (xs : List A) (from count to : ℕ) → from + count ≤ to → drop count (slice_range xs from to) ≡ slice_range xs (from + count) to
rest_of xs from count to within =
    let size : to - from ≡ count + (to - (from + count)) = omega (arith, within) in
    ap (λ k. drop count (take k (drop from xs))) size ∙ drop-take count (to - (from + count)) (drop from xs)
    ∙ ap (take (to - (from + count))) (drop-drop count from xs)

-- the stretch is what was given of it, and then the stretch that begins behind that
pub gives : (xs all left buf : List ℕ) (from count to at : ℕ) → all ≡ slice_range xs from to → length all + from ≡ to → count ≤ length all
    → at ≡ from + count → left ≡ drop count all → (all ≡ take count buf ++ left) × (count ≡ 0 → 0 < length buf → left ≡ [])
    → (slice_range xs from to ≡ take count buf ++ slice_range xs at to) × (count ≡ 0 → 0 < length buf → slice_range xs at to ≡ [])
gives xs all left buf from count to at is size fits place rest given =
    let whole : left ≡ slice_range xs at to =
    rest ∙ ap (drop count) is ∙ rest_of xs from count to (omega (arith, size, fits)) ∙ ap (λ p. slice_range xs p to) (sym place) in
    (sym is ∙ given.0 ∙ ap (λ l. take count buf ++ l) whole, λ none room. sym whole ∙ given.1 none room)
