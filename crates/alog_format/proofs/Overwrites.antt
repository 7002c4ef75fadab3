-- What is left of the bytes of a block, where a `&mut` to places of it was written.
--     ends_overwritten     what was written is at the places
--     ends_moved           a copy within the places moves bytes up
use Rattle.std.proofs.Common.{◌≡◌, ℕ, ◌+◌, ◌-◌, ◌≤◌, List, [], ◌++◌, length, take, drop, ap, sym, ◌∙◌, append_assoc, arith}
use Rattle.std.proofs.Common.{length-append, length-take, length-drop}
use Rattle.std.proofs.lemmas.List.{take_at, take-take, drop_all, drop-take, take-append-drop, append-nil}
use Rattle.std.specs.List.{refill, copy_within}
use Rattle.alog_format.specs.Block.{overwritten, moved}

length-overwritten : (xs : List ℕ) (at : ℕ) (ws : List ℕ) → at + length ws ≤ length xs → length (overwritten xs at ws) ≡ length xs
length-overwritten xs at ws fits = simp (length-append, length-take, length-drop) (omega arith)

pub ends_overwritten : (xs : List ℕ) (at : ℕ) (ws : List ℕ) → at + length ws ≤ length xs
    → refill (length xs) xs (overwritten xs at ws) ≡ overwritten xs at ws
ends_overwritten xs at ws fits =
    let all : List ℕ = overwritten xs at ws in
    take_at all (drop (length all) xs) (length xs) (length-overwritten xs at ws fits)

module _ (xs : List ℕ) (from to count : ℕ) (up : from ≤ to) (fits : to + count ≤ length xs) where
  abbrev by : ℕ
  by = to - from

  -- the bytes from `from` to the last place
  abbrev run : List ℕ
  run = take (by + count) (drop from xs)

  abbrev kept : List ℕ
  kept = take by (drop from xs)

  abbrev bytes : List ℕ
  bytes = take count (drop from xs)

  copied : copy_within run 0 count by ≡ kept ++ bytes
  copied =
      let all : count - 0 ≡ count = omega arith in
      let low : take by run ≡ kept = take-take by (by + count) (drop from xs) (omega arith) in
      let high : take (count - 0) run ≡ bytes = ap (λ k. take k run) all ∙ take-take count (by + count) (drop from xs) (omega arith) in
      let none : drop (by + (count - 0)) run ≡ [] = drop_all (by + (count - 0)) run (omega (arith, length-take (by + count) (drop from xs))) in
      (λ i. low i ++ high i ++ none i) ∙ append-nil (kept ++ bytes)

  front : take from xs ++ kept ≡ take to xs
  front =
      let sum : from + by ≡ to = omega arith in
      (λ i. sym (take-take from to xs up) i ++ sym (drop-take from by xs) i)
      ∙ ap (λ k. take from (take to xs) ++ drop from (take k xs)) sum
      ∙ take-append-drop from (take to xs)

  length-copied : length (kept ++ bytes) ≡ by + count
  length-copied = simp (length-append, length-take, length-drop) (omega arith)

  joined : overwritten xs from (kept ++ bytes) ≡ moved xs from to count
  joined =
      let rest : List ℕ = drop (to + count) xs in
      let end : from + length (kept ++ bytes) ≡ to + count = omega (arith, length-copied) in
      ap (λ k. take from xs ++ ((kept ++ bytes) ++ drop k xs)) end
      ∙ ap (λ l. take from xs ++ l) (append_assoc kept bytes rest)
      ∙ sym (append_assoc (take from xs) kept (bytes ++ rest))
      ∙ ap (λ l. l ++ (bytes ++ rest)) front

  pub ends_moved : (places new : List ℕ) → places ≡ run → new ≡ copy_within places 0 count by
      → refill (length xs) xs (overwritten xs from new) ≡ moved xs from to count
  ends_moved places new had copy =
      let same : new ≡ kept ++ bytes = copy ∙ ap (λ l. copy_within l 0 count by) had ∙ copied in
      ends_overwritten xs from new (omega (arith, ap length same, length-copied)) ∙ ap (overwritten xs from) same ∙ joined
