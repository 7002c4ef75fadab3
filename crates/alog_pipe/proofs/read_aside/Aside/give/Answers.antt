use Rattle.std.proofs.Common.{◌≡◌, ◌≤◌, ◌+◌, ℕ, min, List, length, arith, ap, ◌∙◌}
use Rattle.std.specs.List.{slice_range}
use Rattle.alog_pipe.proofs.Giving.{gives}
use Rattle.alog_pipe.proofs.read_aside.Aside.give.Goals as goal

pub returns-clause-given : goal.returns-clause-given
returns-clause-given g c =
    let aside = c.args.self.now in
    let part = c.in-Some.ensures.lookup in
    let is = part.0.2 ∙ ap (λ (l : List ℕ). slice_range l aside.start aside.end) c.as_slice.ensures.value in
    let size = part.0.3 in
    let same : c.in_ok-count.count ≡ min (length c.in-Some.brought.now) (length c.args.buf.now) = cc (c.in_ok-count.ensures.count) in
    let fits : c.in_ok-count.count ≤ length c.in-Some.brought.now = omega (arith, same) in
    let place : c.saturating_add-self.result ≡ aside.start + c.in_ok-count.count = omega (arith, size, fits, part.0.1, c.saturating_add-self.ensures) in
    gives aside.bytes.items c.in-Some.brought.now c.read.new.self.now c.read.new.buf aside.start c.in_ok-count.count aside.end c.saturating_add-self.result
    is size fits place c.in_ok-count.ensures.rest c.in_ok-count.ensures.bytes
