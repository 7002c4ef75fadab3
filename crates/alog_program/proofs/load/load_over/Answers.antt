use Rattle.std.proofs.Common.{inl, inr, arith}
use Rattle.std.specs.Prelude.{Ok, IsErrOf}
use Rattle.alog_load.specs.declared.error.LoadError.TheVariants.{BadValue}
use Rattle.alog_pool.specs.declared.report.Report.{Report}
use Rattle.alog_program.specs.Loaded.{IsReportOf}
use Rattle.alog_program.proofs.Loading.{loads_fault, no_memory}
use Rattle.alog_program.proofs.load.load_over.Goals as goal

pub returns-in-Ok-made : goal.returns-in-Ok-made
returns-in-Ok-made g c =
    λ tries patient.
    let told = c.tell.ensures in
    let report : IsReportOf g.S.Store.tells g.S.Store.files g.S.Store.failures tries c.args.config.now c.args.request.now c.in-Ok-made.report = record { stores = c.args.stores.items; fresh = c.requires.fresh; patient = patient; loads = c.in-Ok-made.ensures.loads } in
    record {
      done = λ zero. (c.in-Ok-made.report, report, (told.done zero).0, (told.done zero).1);
      bad = λ one. absurd (elim told.status [ inl is ↦ omega arith | inr is ↦ omega arith ]);
      accepted = λ two. elim told.status [ inl is ↦ omega arith | inr is ↦ omega arith ];
      fault = λ three. inr (c.in-Ok-made.report, report);
      unwritten = λ four. absurd (elim told.status [ inl is ↦ omega arith | inr is ↦ omega arith ]);
      due = λ are. let no : IsErrOf {T = Report _} (Ok c.in-Ok-made.report) BadValue = c.in-Ok-made.ensures.bad_value.1 are in absurd (cc);
      others = elim told.status [ inl is ↦ omega arith | inr is ↦ omega arith ];
    }

pub returns-in-Err : goal.returns-in-Err
returns-in-Err g c =
    λ tries patient.
    loads_fault g.S.Store.tells g.S.Store.files g.S.Store.failures tries c.args.config.now c.args.request.now c.in-Err.fault c.refuse_asked.result
    (g.O.Write.contents c.args.output.now) c.refuse_asked.ensures c.in-Err.ensures.bad_value

pub returns-in_default : goal.returns-in_default
returns-in_default g c =
    λ tries patient.
    no_memory g.S.Store.tells g.S.Store.files g.S.Store.failures tries c.args.config.now c.args.request.now c.refuse_load.result
    (g.O.Write.contents c.args.output.now) c.refuse_load.ensures
