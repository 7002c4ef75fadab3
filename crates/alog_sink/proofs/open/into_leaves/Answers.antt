use Rattle.std.proofs.Common.{◌++◌, ◌∷◌, [], length, length-append, ap, sym, ◌∙◌, arith}
use Rattle.std.specs.Vec.Iter.{into_iter_items}
use Rattle.alog_sink.specs.Opened.{leaves_of}
use Rattle.alog_sink.proofs.Opens.{given_front, leaves_within, leaves_more}
use Rattle.alog_sink.proofs.open.into_leaves.Goals as goal

pub keep_leaf-requires : goal.keep_leaf-requires
keep_leaf-requires g c =
    let yielded = c.loop-sink.yielded in
    let front = given_front c.into_iter-sink-iterator.result yielded c.loop-sink.sink-iterator c.loop-sink.yielded_by in
    let more = ap length (sym c.into_iter-sink-iterator.ensures.into_iter_gives.0 ∙ front)
    ∙ length-append yielded (into_iter_items c.loop-sink.sink-iterator) in
    let first = ap length c.in-Some.ensures.steps.0 in
    let so_far = ap length c.loop-sink.invariant.0 in
    let within = leaves_within yielded in
    let room = c.requires.room in
    let same = c.loop-sink.invariant.1 in
    omega (arith, more, first, so_far, within, room, same, c.loop-sink.leaves.ok.0)

pub loop-sink-preserved : goal.loop-sink-preserved
loop-sink-preserved g c = (
  c.keep_leaf.ensures.items
      ∙ (ap (λ ls. ls ++ leaves_of (c.in-Some.sink ∷ [])) c.loop-sink.invariant.0
      ∙ sym (leaves_more c.loop-sink.yielded c.in-Some.sink)),
  c.keep_leaf.ensures.capacity ∙ c.loop-sink.invariant.1,
)
