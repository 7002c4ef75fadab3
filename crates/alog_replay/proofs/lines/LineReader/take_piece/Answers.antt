use Rattle.std.proofs.Common.{◌<◌, ◌++◌, length, refl, ◌∙◌, ap, arith}
use Rattle.std.specs.List.{slice_range}
use Rattle.alog_replay.proofs.PieceLemmas.{unbroken_take, too_long, whole, all_taken, ended, none_left}
use Rattle.alog_replay.proofs.lines.LineReader.take_piece.Goals as goal

pub returns-then-len-clause-piece : goal.returns-then-len-clause-piece
returns-then-len-clause-piece c =
    let found = rw c.deref.ensures.value at c.unbroken_len-len.ensures in
    let p = too_long _ c.self.inside.line.items _ found.within found.unbroken (omega arith) (omega arith) in
    rw (← c.self.view_is) (refl, p.0, p.1, p.2, p.3, p.4)

pub returns-then-len-pending-clause-piece : goal.returns-then-len-pending-clause-piece
returns-then-len-pending-clause-piece c =
    let found = rw c.deref.ensures.value at c.unbroken_len-len.ensures in
    let same = rw c.deref.ensures.value at c.if-len-pending.true in
    let grown = rw (c.unwrap.ensures, c.deref.ensures.value) at c.extend_from_slice.ensures.items in
    rw (← c.self.view_is) (
      none_left c.self.inside.chunk.items c.self.inside.end,
      grown
          ∙ ap (λ t. c.self.inside.line.items ++ t) (all_taken _ _ same),
      whole _ _ same found.unbroken,
    )

pub returns-else-len-pending-clause-piece : goal.returns-else-len-pending-clause-piece
returns-else-len-pending-clause-piece c =
    let found = rw c.deref.ensures.value at c.unbroken_len-len.ensures in
    let other = rw c.deref.ensures.value at c.if-len-pending.false in
    let grown = rw (c.unwrap.ensures, c.deref.ensures.value) at c.extend_from_slice.ensures.items in
    let items = c.self.inside.chunk.items in
    let before : c.unbroken_len-len.result < length (slice_range items c.self.inside.start c.self.inside.end) = omega
    (arith, other, found.within) in
    rw (← c.self.view_is) (
      _,
      ended items c.self.inside.start c.self.inside.end _ (omega arith) (omega arith) before (found.newline before),
      grown,
      unbroken_take _ _ found.within found.unbroken,
    )
