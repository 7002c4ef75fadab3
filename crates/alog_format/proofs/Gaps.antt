-- The bytes of a block in which a gap was opened.
use Rattle.std.proofs.Common.{◌≡◌, ℕ, ◌+◌, ◌-◌, ◌≤◌, List, ◌++◌, length, take, drop, replicate, ap, sym, ◌∙◌, append_assoc, arith}
use Rattle.std.proofs.Common.{length-append, length-take, length-drop}
use Rattle.std.proofs.lemmas.List.{take_at, take-take, drop-take, length-replicate}
use Rattle.alog_format.specs.Block.{gapped}

pub take-gapped : (block : List ℕ) (len at by : ℕ) → at ≤ len → len + by ≤ length block
    → take (len + by) (gapped block len at by) ≡ take at (take len block) ++ replicate by 32 ++ drop at (take len block)
take-gapped block len at by inside fits =
    let front : List ℕ = take at block in
    let gap : List ℕ = replicate by 32 in
    let moved : List ℕ = take (len - at) (drop at block) in
    let rest : List ℕ = drop (len + by) block in
    let regroup : front ++ (gap ++ (moved ++ rest)) ≡ ((front ++ gap) ++ moved) ++ rest = simp append_assoc in
    let e : len ≡ at + (len - at) = omega arith in
    let back : moved ≡ drop at (take len block) = sym (ap (λ n. drop at (take n block)) e ∙ drop-take at (len - at) block) in
    let start : front ≡ take at (take len block) = sym (take-take at len block inside) in
    let count : length ((front ++ gap) ++ moved) ≡ len + by = simp (
      length-append,
      length-take,
      length-drop,
      length-replicate,
    ) (omega arith) in
    ap (λ x. take (len + by) x) regroup
    ∙ take_at ((front ++ gap) ++ moved) rest (len + by) count
    ∙ ap (λ x. (x ++ gap) ++ moved) start
    ∙ ap (λ x. (take at (take len block) ++ gap) ++ x) back
