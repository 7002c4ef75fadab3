use Rattle.std.proofs.Common.{refl, sym, subst, ◌∙◌}
use Rattle.alog_ffi.specs.Opening.{IsTold}
use Rattle.alog_ffi.specs.declared.part.Part.{Part}
use Rattle.alog_ffi.proofs.pools.open_after.Goals as goal

pub returns-in-Ok-open_over-clause-answers : goal.returns-in-Ok-open_over-clause-answers
returns-in-Ok-open_over-clause-answers c =
    let found = c.in-Found.found in
    let told = subst (λ (p : Part). IsTold p found) (sym c.in-Found.is ∙ c.out.ensures.part) refl in
    (refl, found, told, c.in-Ok-open_over.opened.pool, c.lay.ensures.0, (c.in-Ok-open_over.opened.drains, c.lay.ensures.1, c.in-Ok-open_over.ensures.opened))
