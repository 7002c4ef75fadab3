use Rattle.std.proofs.Common.{refl}
use Rattle.alog_ffi.proofs.Unopened.{answers_unopened}
use Rattle.alog_ffi.specs.declared.part.Part.TheVariants.{Nothing}
use Rattle.alog_ffi.proofs.pools.open_first.Goals as goal

pub returns-in-Ok-clause-answers : goal.returns-in-Ok-clause-answers
returns-in-Ok-clause-answers c =
    (refl, c.new-found.result, c.new-found.ensures, c.in-Ok.opened.pool, c.lay.ensures.0, (c.in-Ok.opened.drains, c.lay.ensures.1, c.in-Ok.ensures.opened))

pub returns-in-Err-clause-answers : goal.returns-in-Err-clause-answers
returns-in-Err-clause-answers c =
    answers_unopened Nothing c.args.asked c.new-found.result c.in-Err.answer _ _ c.new-found.ensures c.in-Err.ensures.refused c.requires.empty.0 c.requires.empty.1
