use Rattle.std.proofs.Common.{◌≡◌, ◌+◌, ◌-◌, ◌≤◌, length, length-take, length-drop, drop, take, ap, ◌∙◌, arith}
use Rattle.std.specs.Prelude.{slice_range}
use Rattle.alog_lines.specs.Cutting.{Cutting}
use Rattle.alog_lines.specs.Window.{held}
use Rattle.alog_lines.proofs.CutLemmas.{takes_line}
use Rattle.alog_lines.proofs.WindowLemmas.{front_part}
use Rattle.alog_lines.proofs.cutter.LineCutter.lend_line.Goals as goal

pub returns-clause-takes : goal.returns-clause-takes
returns-clause-takes c =
    let old = c.args.self.now in
    let len = c.args.len in
    let w = c.self.inside.window in
    let bytes = w.bytes.items in
    let is : held w ≡ old.pending = ap (λ (s : Cutting). s.pending) c.self.view_is in
    let size = ap length is in
    let within = c.requires.line.0 in
    let inside : w.start + len ≤ w.end =
    omega (arith, size, within, w.ordered, length-take (w.end - w.start) (drop w.start bytes), length-drop w.start bytes) in
    takes_line old _ len c.args.newline c.requires.line _
    (ap (λ xs. slice_range xs w.start (w.start + len)) (ap (λ v. v.items) c.consume.ensures.bytes) ∙ front_part bytes w.start w.end len inside
    ∙ ap (take len) is)
    c.requires.text (c.consume.ensures.held ∙ ap (drop (len + c.args.newline)) is)
