use Rattle.std.proofs.Common.{◌≡◌, ℕ, ◌-◌, ◌≤◌, ◌<◌, not, eqb, true, false, length, drop, get_or, ap, sym, ◌∙◌, arith, length-drop}
use Rattle.std.proofs.lemmas.Bool.{ne_eqb, eq-eqb}
use Rattle.std.proofs.lemmas.List.{take_all}
use Rattle.std.proofs.lemmas.List.Sums.{suffix_len_is}
use Rattle.alog_format.specs.Text.{base}
use Rattle.alog_format.proofs.names.base.Goals as goal
use Rattle.alog_format.proofs.names.base.Goals.{then-loop-start-test+else-file-start-ne47, else-loop-start-test}

pub returns : goal.returns
unfolding base
returns c =
    let start = c.loop-start.start in
    let file = c.args.file.now in
    let within : start ≤ length file = c.loop-start.invariant.inside in
    let passed : (k : ℕ) → start ≤ k → k < length file
    → not (eqb (get_or file k 0) 47) ≡ true = λ k low high. ap not (ne_eqb (get_or file k 0) 47
    (c.loop-start.invariant.passed k low high)) in
    let stops : 0 < start → not (eqb (get_or file (start - 1) 0) 47) ≡ false = λ some.
    elim c.loop-start-test.branch [
      | then-loop-start-test+else-file-start-ne47 w ↦ ap not (eq-eqb (get_or file (start - 1) 0) 47 w.if-file-start-ne47.false)
      | else-loop-start-test w ↦ absurd (omega (arith, w.loop-start-test.false))
    ] in
    let count = suffix_len_is (λ b. not (eqb b 47)) file start 0 within passed stops in
    let at : start ≡ length file - (length file - start) = omega arith in
    take_all (length file - start) (drop start file) (omega (arith, length-drop start file))
    ∙ ap (λ n. drop n file) (at ∙ ap (λ n. length file - n) (sym count))
