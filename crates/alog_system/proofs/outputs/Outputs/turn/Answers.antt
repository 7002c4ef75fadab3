use Rattle.std.proofs.Common.{◌<◌, length, set, sym, subst, refl}
use Rattle.std.proofs.lemmas.Option.{slice_get_read}
use Rattle.alog_system.specs.Outputs.{AllSuit, OutputsView, Turns}
use Rattle.alog_system.proofs.Suits.{all_suit}
use Rattle.alog_system.proofs.outputs.Outputs.turn.Goals as goal

pub invariant_of-self : goal.invariant_of-self
invariant_of-self g c =
    let i = c.self.inside in
    subst (λ capacity. AllSuit i.text_limit capacity (set i.sinks.items c.args.turn.sink c.make.new.sink)) (sym c.make.ensures.capacity)
    (all_suit i.text_limit i.line.capacity g.S.Store.tells g.S.Store.files g.S.Store.failures c.args.turn c.args.item.now c.make.result
    c.make.new.sink c.self.invariant c.index_mut.ensures.value
    (subst (λ (v : OutputsView g.row.S.Denot). c.args.turn.sink < length v.sinks) (sym c.self.view_is) c.requires.known) c.make.ensures.turn)

pub returns : goal.returns
returns g c =
    let i = c.self.inside in
    let new : OutputsView g.row.S.Denot = record { sinks = set i.sinks.items c.args.turn.sink c.make.new.sink; text_limit = i.text_limit } in
    subst (λ (v : OutputsView g.row.S.Denot). Turns g.S.Store.tells g.S.Store.files g.S.Store.failures v c.args.turn c.args.item.now c.make.result new) c.self.view_is
    (record {
      before = c.index_mut.result.now;
      after = c.make.new.sink;
      there = slice_get_read i.sinks.items (length i.sinks.items) c.args.turn.sink c.index_mut.result.now refl
          (subst (λ (v : OutputsView g.row.S.Denot). c.args.turn.sink < length v.sinks) (sym c.self.view_is) c.requires.known) c.index_mut.ensures.value;
      turn = c.make.ensures.turn;
      others = refl;
    })
