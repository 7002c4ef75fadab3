use Rattle.std.proofs.Common.{◌+◌, ◌-◌, ◌≤◌, ◌++◌, length, take, ap, sym, ◌∙◌, rules}
use Rattle.std.specs.Prelude.{slice_range}
use Rattle.std.proofs.lemmas.List.{with_items_is, places}
use Rattle.std.proofs.lemmas.Result.{err_from_is_err_and}
use borrow.Rule.Slice.PartMut.{put_mid}
use Rattle.alog_lines.proofs.WindowLemmas.{grown, kept}
use Rattle.alog_lines.proofs.window.Window.read_from.Goals as goal

pub returns-clause-read : goal.returns-clause-read
returns-clause-read g c =
    let w = c.args.self.now in
    let all = c.as_mut_slice.result.now in
    let within : w.end ≤ length all = search (rules, places) in
    let n = c.in_ok-count.count in
    let got = c.read.new.buf in
    let bound = c.in_ok-count.ensures.bound in
    let after = put_mid w.end (length all - w.end) all got in
    let whole = with_items_is w.bytes after (search (rules, places)) in (
      take n got,
      sym bound.1,
      ap (λ xs. slice_range xs w.start (w.end + n)) whole ∙ grown all got w.start w.end (length all - w.end) n w.ordered within bound.0
          ∙ ap (λ xs. slice_range xs w.start w.end ++ take n got) c.as_mut_slice.ensures.value,
      c.in_ok-count.ensures.bytes.0,
    )

pub returns-in_err-count-clause-err : goal.returns-in_err-count-clause-err
returns-in_err-count-clause-err g c =
    let w = c.args.self.now in
    let all = c.as_mut_slice.result.now in
    let within : w.end ≤ length all = search (rules, places) in
    let got = c.read.new.buf in
    let after = put_mid w.end (length all - w.end) all got in
    let whole = with_items_is w.bytes after (search (rules, places)) in
    let p = err_from_is_err_and c.from_residual.result c.from_residual.ensures.1 in
    rw p.1 (
      ap (λ xs. slice_range xs w.start w.end) whole ∙ kept all got w.start w.end (length all - w.end) w.ordered within
          ∙ ap (λ xs. slice_range xs w.start w.end) c.as_mut_slice.ensures.value,
      c.in_err-count.ensures.bytes,
    )
