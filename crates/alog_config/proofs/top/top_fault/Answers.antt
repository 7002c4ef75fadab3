use Rattle.std.proofs.Common.{false}
use Rattle.alog_config.specs.Rules.{TopBreaks}
use Rattle.alog_config.specs.declared.broken.Broken.{Broken}
use Rattle.alog_config.proofs.Firsts.{Marks, first_marked}
use Rattle.alog_config.proofs.top.top_fault.Goals as goal

pub returns : goal.returns
returns c =
    let broken : Broken = record {
      unknown_key = c.args.top.now.other_key;
      bad_value = c.has_bad_value.result;
      missing = c.lacks_array.result;
      name_taken = false;
      no_such_sink = false;
    } in
    let marks : Marks broken (TopBreaks c.args.top.now) = record {
      unknown_key = (λ x. x, λ x. x);
      bad_value = c.has_bad_value.ensures;
      missing = c.lacks_array.ensures;
      name_taken = (λ e. absurd (cc e), λ e. absurd e);
      no_such_sink = (λ e. absurd (cc e), λ e. absurd e);
    } in
    first_marked c.first.result marks c.first.ensures
