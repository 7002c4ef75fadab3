use Rattle.std.proofs.Common.{◌-◌, ap, ◌∙◌, rules}
use Rattle.std.specs.Prelude.{slice_range}
use Rattle.std.proofs.lemmas.List.{with_items_is, places}
use Rattle.alog_lines.proofs.WindowLemmas.{moved}
use Rattle.alog_lines.proofs.window.Window.move_to_front.Goals as goal

pub returns-clause-held : goal.returns-clause-held
returns-clause-held c =
    let w = c.args.self.now in
    let all = c.as_mut_slice.result.now in
    let whole = with_items_is w.bytes c.copy_within.new.self (search (rules, places)) in
    ap (λ xs. slice_range xs 0 (w.end - w.start)) (whole ∙ c.copy_within.ensures.after)
    ∙ moved all w.start w.end w.ordered (search (rules, places))
    ∙ ap (λ xs. slice_range xs w.start w.end) c.as_mut_slice.ensures.value
