use Rattle.std.proofs.Common.{arith}
use Rattle.alog_format.proofs.naming.no_names.Goals as goal

pub returns : goal.returns
returns c = λ items k d short.
    let made = c.from_fn.ensures.items in
    let called = made.at k d (omega (arith, made.long)) in
    called.2.met items
