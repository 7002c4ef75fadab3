use Rattle.std.proofs.Common.{◌-◌, ◌++◌, length, take, drop, sym, ap, subst, ◌∙◌, arith, length-take}
use lib.Seq.{take-add, take-take}
use Rattle.std.specs.Io.KnownBytes.{Appends}
use Rattle.std.proofs.KnownBytes.{Appends-kept, Appends-trans}
use Rattle.alog_sink.proofs.folder_store.write_counted.Goals as goal
use Rattle.alog_sink.proofs.folder_store.write_counted.Goals.{in-Ok, in-Err}

pub loop-preserved : goal.loop-preserved
loop-preserved g c =
    let xs = c.args.bytes.now in
    let done = c.loop.taken in
    elim c.match-write.branch [
      | in-Ok w ↦
          let n = w.in-Ok.count in
          let fits = w.in-Ok.ensures.bound in
          let most = length-take (length xs - done) (drop done xs) in
          let joined = ap (λ l. take done xs ++ l) (take-take n (length xs - done) (drop done xs) (omega arith))
          ∙ sym (take-add done n xs) ∙ ap (λ k. take k xs) (sym w.taken-is) in
          (omega (arith, w.taken-is), subst (Appends _ _) joined (Appends-trans _ _ _ _ _ c.loop.invariant.1 w.in-Ok.ensures.bytes))
      | in-Err w ↦
          let same = ap (λ k. take k xs) (sym w.taken-is) in
          (omega (arith, w.taken-is, c.loop.invariant.0), subst (Appends _ _) same (Appends-kept _ _ _ _ c.loop.invariant.1 w.in-Err.ensures.bytes))
    ]
