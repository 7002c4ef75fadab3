use Rattle.std.proofs.Common.{◌≡◌, ◌≤◌, ◌+◌, List, ℕ, length, take, ap, arith, length-take}
use Rattle.alog_format.specs.Buffer.{Buffer}
use Rattle.alog_format.proofs.Gaps.{take-gapped}
use Rattle.alog_format.proofs.line_buf.LineBuf.shift.Goals as goal

pub returns-clause-ok : goal.returns-clause-ok
returns-clause-ok c =
    let buf = c.self.inside in
    let items = buf.bytes.items in
    let had : length (take buf.len items) ≡ length c.args.self.now.bytes = ap (λ (b : Buffer). length b.bytes) c.self.view_is in
    let capacity : buf.limit ≡ c.args.self.now.capacity = ap (λ (b : Buffer). b.capacity) c.self.view_is in
    let inside : c.args.at ≤ buf.len = omega (arith, length-take buf.len items) in
    let fits : buf.len + c.args.by ≤ length items = omega (
      arith,
      length-take buf.len items,
      c.room.ensures,
      c.self.invariant.0,
      c.self.invariant.1,
    ) in
    let make : List ℕ → Buffer = λ bytes. record { bytes = bytes; capacity = buf.limit } in
    rw (c.open_gap.ensures.1, ← c.self.view_is) (ap make (take-gapped items buf.len c.args.at c.args.by inside fits))
