use Rattle.std.proofs.Common.{◌∙◌, sym, subst, None, Result, IfErr}
use Rattle.std.specs.Arc.{arc_value}
use Rattle.alog_config.specs.Built.{IsFaultOf}
use Rattle.alog_config.specs.declared.building.BuildError.{BuildError}
use Rattle.alog_ffi.specs.Opening.{HasNoStore, IsUnopenedFor, answer_of}
use Rattle.alog_ffi.specs.Stores.{failures_of}
use Rattle.alog_ffi.specs.declared.opening.Opened.{Opened}
use Rattle.alog_ffi.specs.declared.opening.Refusal.{Refusal}
use Rattle.alog_outbox.specs.Views.{OutboxView}
use Rattle.alog_ffi.proofs.opening.open_configured.Goals as goal
use Rattle.alog_ffi.proofs.opening.open_configured.Goals.{in-Ok-explain_unopened, in-Err}

pub returns-in-Err-Store-clause-refused : goal.returns-in-Err-Store-clause-refused
returns-in-Err-Store-clause-refused c =
    let IsFault : BuildError → Type 0 = IsFaultOf failures_of (λ (s : OutboxView). None) c.args.config.now.sinks.items c.in-Ok.stores.items in
    let none : HasNoStore c.args.config.now (arc_value c.args.found.now).items = record {
      stores = c.in-Ok.stores.items;
      drains = c.in-Ok.drains.items;
      new = c.in-Ok.ensures.new;
      sink = c.in-Err-Store.sink;
      reason = c.in-Err-Store.reason;
      fault = subst IsFault c.in-Err-Store.field-0-is c.in-Err-Store.ensures.fault;
    } in
    let IsRefused : Result Opened Refusal → Type 0 = λ r. IfErr r (λ e. IsUnopenedFor c.args.asked (arc_value c.args.found.now).items (answer_of e)) in
    elim c.match-explain_unopened.branch [
      | in-Ok-explain_unopened w ↦ subst IsRefused (sym w.result-is) (c.args.config.now, c.requires, none)
      | in-Err w ↦ subst IsRefused (sym w.result-is) tt
    ]

pub returns-in-Ok-open-clause-opened : goal.returns-in-Ok-open-clause-opened
returns-in-Ok-open-clause-opened c = record {
  config = c.args.config.now;
  reads = c.requires;
  opens = record {
    stores = c.in-Ok.stores.items;
    new = c.in-Ok.ensures.new;
    count = c.in-Ok.ensures.count ∙ c.leaves.ensures;
    setup = c.in-Ok-setup_of.setup;
    set = c.in-Ok-setup_of.ensures.given;
    opens = c.in-Ok-open.ensures.opened;
  };
}
