use Rattle.std.proofs.Common.{rules, ◌≡◌, ◌++◌, take, drop, true, false, is_err, sym}
use Rattle.std.proofs.lemmas.List.{take-append-drop}
use Rattle.alog_sink.proofs.Fronts.{from_err, from_ok, front_of_front, front_left}
use Rattle.alog_sink.proofs.fuse_store.FuseStoreStore.append.Goals as goal

pub returns-then-is_err-clause-failed : goal.returns-then-is_err-clause-failed
returns-then-is_err-clause-failed g c = λ tells.
    let parts : c.args.bytes.now ≡ take c.min-part.result c.args.bytes.now ++ drop c.min-part.result c.args.bytes.now =
    sym (take-append-drop c.min-part.result c.args.bytes.now) in
    let bad : is_err c.append.result ≡ true = search rules in
    front_of_front c.args.name.now c.args.bytes.now (take c.min-part.result c.args.bytes.now) (drop c.min-part.result c.args.bytes.now)
    (g.S.Store.files c.args.self.now.store) (g.S.Store.files c.append.new.self) parts
    (from_err c.append.result bad (c.append.ensures.failed tells))

pub returns-else-is_err-clause-failed : goal.returns-else-is_err-clause-failed
returns-else-is_err-clause-failed g c = λ tells.
    let parts : c.args.bytes.now ≡ take c.min-part.result c.args.bytes.now ++ drop c.min-part.result c.args.bytes.now =
    sym (take-append-drop c.min-part.result c.args.bytes.now) in
    let good : is_err c.append.result ≡ false = search rules in
    front_left c.args.name.now c.args.bytes.now (take c.min-part.result c.args.bytes.now) (drop c.min-part.result c.args.bytes.now)
    (g.S.Store.files c.args.self.now.store) (g.S.Store.files c.append.new.self) parts
    (from_ok c.append.result good (c.append.ensures.done tells))
