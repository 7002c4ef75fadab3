use Rattle.alog_config.specs.Rules.{SinkBreaks}
use Rattle.alog_config.specs.declared.broken.Broken.{Broken}
use Rattle.alog_config.proofs.Firsts.{Marks, first_marked}
use Rattle.alog_config.proofs.sink_fields.SinkFields.fault.Goals as goal

pub returns : goal.returns
returns c =
    let broken : Broken = record {
      unknown_key = c.args.self.now.other_key;
      bad_value = c.has_bad_value.result;
      missing = c.lacks_key.result;
      name_taken = c.takes_name.result;
      no_such_sink = c.names_no_sink.result;
    } in
    let marks : Marks broken (SinkBreaks c.args.earlier.now c.args.self.now) = record {
      unknown_key = (λ x. x, λ x. x);
      bad_value = c.has_bad_value.ensures;
      missing = c.lacks_key.ensures;
      name_taken = c.takes_name.ensures;
      no_such_sink = c.names_no_sink.ensures;
    } in
    first_marked c.first.result marks c.first.ensures
