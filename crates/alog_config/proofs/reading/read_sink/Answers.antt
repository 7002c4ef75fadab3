use Rattle.alog_config.proofs.reading.read_sink.Goals as goal

pub returns-in-Some-2 : goal.returns-in-Some-2
returns-in-Some-2 c = record {
  fields = c.in_ok-fields.fields;
  are = c.in_ok-fields.ensures;
  kept = rw c.in_default.is at c.fault.ensures;
  says = rw c.in-Some-2.is at c.in_ok-sink.ensures.says;
}
