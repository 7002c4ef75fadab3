use Rattle.std.proofs.Common.{◌≡◌, ◌-◌, length, drop, length-drop, ap, ◌∙◌, arith}
use Rattle.alog_replay.proofs.Writing.{written_more, written_kept, take_all}
use Rattle.alog_replay.proofs.player.write_whole.Goals as goal
use Rattle.alog_replay.proofs.player.write_whole.Goals.{in-Ok, in-Err}

pub loop-preserved : goal.loop-preserved
loop-preserved g c =
    let new = g.W.Write.contents c.write.new.self in
    elim c.match-write.branch [
      | in-Ok w ↦
          let all = take_all (length c.loop.rest.now - w.in-Ok.n) (drop w.in-Ok.n c.loop.rest.now)
          (omega (arith, length-drop w.in-Ok.n c.loop.rest.now)) in
          let e : c.match-write.rest.now ≡ drop w.in-Ok.n c.loop.rest.now = ap (λ r. r.now) w.rest-is ∙ all in
          written_more new w.in-Ok.n c.loop.invariant w.in-Ok.ensures.bytes e
      | in-Err w ↦ written_kept new c.loop.invariant w.in-Err.ensures.bytes (ap (λ r. r.now) w.rest-is)
    ]
