use Rattle.std.proofs.Common.{◌≡◌, sym, ap, ◌∙◌}
use Rattle.std.proofs.lemmas.Bool.{eqb-true}
use Rattle.alog_ring.specs.declared.TheConstants.{ALL_PARTS}
use Rattle.alog_ring.proofs.Ending.{looked_again}
use Rattle.alog_ring.proofs.board.Board.is_whole.Goals as goal

pub returns-clause-same : goal.returns-clause-same
returns-clause-same g c t =
    let old = c.pass.inside.seat.me.0.known
    in let all : old.parts ≡ ALL_PARTS = sym c.pass.invariant.2 ∙ eqb-true c.pass.inside.parts ALL_PARTS t
    in looked_again old c.look.new.seat.me.0.known c.pass.invariant.5 c.look.ensures.all.0 (c.look.ensures.all.3 all)
    ∙ ap (λ p. p.known) c.pass.view_is
