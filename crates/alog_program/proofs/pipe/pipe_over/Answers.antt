use Rattle.std.proofs.Common.{◌≡◌, ◌∙◌, Some, None, inl, inr, sym, arith}
use Rattle.alog_program.specs.Piped.{IsPipeOf}
use Rattle.alog_program.proofs.pipe.pipe_over.Goals as goal

pub returns-in-Ok : goal.returns-in-Ok
returns-in-Ok g c =
    let told = c.tell.ensures in
    let made : IsPipeOf g.R.Folder.Store.tells g.R.Folder.Store.files g.R.Folder.Store.failures g.R.Folders.tries c.args.config.now c.args.request.now
    (g.I.Read.remaining c.args.input.now) (g.I.Read.remaining c.pipe.new.input) c.in-Ok.piped = record {
      stores = c.args.stores.items;
      fresh = c.requires.fresh;
      patient = c.requires.patient;
      logger = c.args.logger;
      named = c.requires.named;
      pipes = c.in-Ok.ensures.piped;
    } in
    record {
      done = λ zero. (c.in-Ok.piped, made, (told.done zero).0, (told.done zero).1, told.told zero, told.untold);
      unknown = λ one. absurd (elim told.status [ inl is ↦ omega arith | inr is ↦ omega arith ]);
      accepted = λ two. elim told.status [ inl is ↦ omega arith | inr is ↦ omega arith ];
      fault = λ three. inr (c.in-Ok.piped, made);
      unwritten = λ four. absurd (elim told.status [ inl is ↦ omega arith | inr is ↦ omega arith ]);
      due = λ none. let bad : Some c.args.logger ≡ None = sym c.requires.named ∙ none in absurd (cc);
      others = elim told.status [ inl is ↦ omega arith | inr is ↦ omega arith ];
    }
