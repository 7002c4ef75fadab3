use Rattle.std.proofs.Common.{ℕ, ap, FitsSigned, w16, w64, rules, ◌∙◌}
use Rattle.std.proofs.lemmas.Int.{to_z-of_z}
use Rattle.alog_format.specs.Text.{Shown, elapsed}
use Rattle.alog_format.proofs.lines.facts_of.Goals as goal

pub returns-clause-shown : goal.returns-clause-shown
returns-clause-shown c =
    let time : FitsSigned w64 c.args.message.now.time = search rules in
    let offset : FitsSigned w16 c.args.at.now.offset = search rules in
    let with_process : ℕ → Shown = λ p. record {
      message = c.args.message.now;
      name = c.args.name.now;
      process = p;
      offset = c.args.at.now.offset;
      elapsed = elapsed c.args.previous c.args.message.now.time;
      at = c.args.at.now;
    } in
    let with_elapsed : ℕ → Shown = λ e. record {
      message = c.args.message.now;
      name = c.args.name.now;
      process = c.process-process.result;
      offset = c.args.at.now.offset;
      elapsed = e;
      at = c.args.at.now;
    } in
    let is_elapsed = simp to_z-of_z at c.elapsed_since-elapsed.ensures in (
      c.args.at.now,
      c.requires,
      simp to_z-of_z (ap with_elapsed is_elapsed ∙ ap with_process c.process-process.ensures),
    )
