use Rattle.std.proofs.Common.{◌∷◌, [], arith, sym, subst, ap, ◌∙◌}
use Rattle.std.proofs.Math.Seq.{map-set_same}
use Rattle.alog_hosted.proofs.Tries.{ok_then, place_after}
use Rattle.alog_pool.specs.SinkSeat.{SinkSeatView, IsServable, place_of}
use Rattle.alog_pool.specs.Deeds.{HasMade}
use Rattle.alog_pool.proofs.SharedDeeds.{made_one, have_one, have_past}
use Rattle.alog_pool.proofs.SharedTurning.{servable_at}
use Rattle.alog_hosted.proofs.turns.serve_at.Goals as goal

pub serve_once-requires-clause-item : goal.serve_once-requires-clause-item
serve_once-requires-clause-item g c =
    subst (λ (b : SinkSeatView g.row.S.Denot). IsServable b.limit c.args.item.now) (sym c.index_mut.ensures.value)
    (servable_at c.args.item.now c.args.places.now.items c.args.number c.index_mut.result.now (omega (arith, c.if-number-len.true, c.len.ensures)) c.requires.servable)

pub returns-then-number-len-clause-turn : goal.returns-then-number-len-clause-turn
returns-then-number-len-clause-turn g c =
    ok_then c.serve_once.result (λ serves.
    have_one c.args.places.now.items c.args.number c.args.tag c.args.item.now c.serve_once.new.self c.index_mut.result.now
    (omega (arith, c.if-number-len.true, c.len.ensures))
    (subst (λ (b : SinkSeatView g.row.S.Denot). HasMade b c.serve_once.new.self ((c.args.tag, c.args.item.now) ∷ [])) c.index_mut.ensures.value
    (made_one g.S.Store.tells g.S.Store.files g.S.Store.failures _ _ _ _ serves))) c.serve_once.ensures.serves

pub returns-else-number-len-clause-turn : goal.returns-else-number-len-clause-turn
returns-else-number-len-clause-turn g c =
    have_past c.args.places.now.items c.args.number c.args.tag c.args.item.now (omega (arith, c.if-number-len.false, c.len.ensures))

pub returns-then-number-len-clause-places : goal.returns-then-number-len-clause-places
returns-then-number-len-clause-places g c =
    map-set_same place_of c.args.places.now.items c.args.number c.serve_once.new.self c.index_mut.result.now
    (place_after g.S.Store.tells g.S.Store.files g.S.Store.failures c.serve_once.result _ _ _ _ c.serve_once.ensures.serves
    c.serve_once.ensures.held
    ∙ ap (λ (b : SinkSeatView g.row.S.Denot). place_of b) c.index_mut.ensures.value)
