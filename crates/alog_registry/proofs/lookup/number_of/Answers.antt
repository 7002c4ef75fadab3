use Rattle.std.proofs.Common.{◌≡◌, ◌≢◌, Some, arith, ap, ◌∙◌}
use Rattle.alog_registry.proofs.Listing.{found, missing, name_read, none_further}
use Rattle.alog_registry.proofs.lookup.number_of.Goals as goal

pub returns-then-has_name : goal.returns-then-has_name
returns-then-has_name c =
    let x = c.index-loggers-i.result in
    let at = name_read c.args.loggers.now c.loop-i.i x (omega arith) c.index-loggers-i.is in
    let named : x.name ≡ c.args.name.now = c.has_name.ensures.0 c.if-has_name.true in
    found c.args.loggers.now c.args.name.now c.loop-i.i c.requires.apart (at ∙ ap (λ t. Some t) named)

pub loop-i-preserved : goal.loop-i-preserved
loop-i-preserved c =
    let x = c.index-loggers-i.result in
    let at = name_read c.args.loggers.now c.loop-i.i x (omega arith) c.index-loggers-i.is in
    let other : x.name ≢ c.args.name.now = λ e.
    let yes = c.has_name.ensures.1 e in
    let stays = c.if-has_name.false in
    cc in
    none_further c.args.loggers.now c.loop-i.i x c.loop-i.invariant at other

pub returns : goal.returns
returns c = missing c.args.loggers.now c.args.name.now (λ k below. c.loop-i.invariant k (omega arith))
