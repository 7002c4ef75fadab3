use Rattle.std.proofs.Common.{IfOk, refl, sym, subst}
use Rattle.alog_config.specs.Built.{IsFaceOf, IsOver, IsTargetOf}
use Rattle.alog_config.specs.Parts.{Makes}
use Rattle.alog_config.specs.declared.config.SinkKind.{SinkKind}
use Rattle.alog_config.proofs.Handing.{if_ok_both, of_next}
use Rattle.alog_sink.specs.Opened.{Opened, store_of}
use Rattle.alog_sink.specs.declared.sink.Sink.{Sink}
use Rattle.alog_config.proofs.building.made.Goals as goal

pub returns-in_ok-face-in-Lines-clause-made : goal.returns-in_ok-face-in-Lines-clause-made
returns-in_ok-face-in-Lines-clause-made g c =
    let config = c.args.config.now in
    let level = c.args.sink.now.level in
    let store = c.in-Some.store in
    let upkeep = c.in-Lines.upkeep in
    let face = c.in_ok-face-in-Lines.face in
    let is = subst (λ p. IsFaceOf config level p face) c.as_str.ensures c.in_ok-face-in-Lines.ensures in
    subst (λ (k : SinkKind). IfOk c.opened.result (λ s. Makes g.S.Store.tells g.S.Store.files g.S.Store.failures config level k
    c.args.stores.now.items c.args.parts.now.items s c.pop_front.new.self.items c.args.parts.now.items)) (sym c.in-Lines.is)
    (if_ok_both c.opened.result
    (Opened g.S.Store.tells g.S.Store.files face (IsTargetOf c.as_str-in-Lines.result.now upkeep) (g.S.Store.files store))
    (λ (s : Sink g.row.S.Denot). IsOver g.S.Store.tells g.S.Store.files g.S.Store.failures upkeep store (store_of s))
    _
    (λ s o v. (
      store,
      c.in-Some.ensures.items,
      refl,
      record {
        face = face;
        is = is;
        opened = subst (λ f. Opened g.S.Store.tells g.S.Store.files face (IsTargetOf f upkeep) (g.S.Store.files store) s) c.as_str-in-Lines.ensures o;
        over = v;
      },
    ))
    c.opened.ensures.opened c.opened.ensures.over)

pub returns-in_ok-face-in-Lines-clause-fault : goal.returns-in_ok-face-in-Lines-clause-fault
returns-in_ok-face-in-Lines-clause-fault g c =
    of_next g.S.Store.failures g.S.Store.why c.args.number c.in-Some.store c.args.stores.now.items c.pop_front.new.self.items c.opened.result
    c.in-Some.ensures.items c.opened.ensures.fault
