use Rattle.std.proofs.Common.{◌≡◌, ◌+◌, ℕ, List, drop, take, ap, sym, subst, ◌∙◌}
use Rattle.std.specs.Prelude.{slice_range, cond}
use Rattle.std.specs.String.{string_bytes}
use Rattle.alog_lines.specs.Building.{Builds, piece_built}
use Rattle.alog_lines.specs.Cutting.{Cutting}
use Rattle.alog_lines.specs.Window.{held}
use Rattle.alog_lines.proofs.CutLemmas.{takes_built, takes_part}
use Rattle.alog_lines.proofs.cutter.LineCutter.build_line.Goals as goal

pub invariant_of-self : goal.invariant_of-self
invariant_of-self c = rw c.consume.ensures.bytes c.self.invariant

pub invariant_of-self-2 : goal.invariant_of-self-2
invariant_of-self-2 c = rw c.consume-2.ensures.bytes c.self.invariant

pub returns-then-taken-len-clause-takes : goal.returns-then-taken-len-clause-takes
returns-then-taken-len-clause-takes c =
    let old = c.args.self.now in
    let len = c.args.len in
    let mid = c.build_first-taken.new.self in
    let built = c.build_first-taken.result in
    let in_it = c.self.inside in
    let is : held in_it.window ≡ old.pending = ap (λ (s : Cutting). s.pending) c.self.view_is ∙ c.build_first-taken.ensures.pending in
    takes_built old _ len c.args.newline c.requires _ mid.text built.mended
    (ap (λ (xs : List ℕ). cond in_it.is_built (string_bytes in_it.built) (slice_range xs in_it.start in_it.end)) (ap (λ v. v.items) c.consume.ensures.bytes)
    ∙ ap (λ (s : Cutting). s.text) c.self.view_is)
    (subst (λ k. Builds old.limit (take len old.pending) k (piece_built mid.text built)) c.if-taken-len.true c.build_first-taken.ensures.builds)
    (c.consume.ensures.held ∙ ap (drop (len + c.args.newline)) is)

pub returns-clause-takes : goal.returns-clause-takes
returns-clause-takes c =
    let old = c.args.self.now in
    let len = c.args.len in
    let mid = c.build_first-taken.new.self in
    let built = c.build_first-taken.result in
    let in_it = c.self.inside in
    let is : held in_it.window ≡ old.pending = ap (λ (s : Cutting). s.pending) c.self.view_is ∙ c.build_first-taken.ensures.pending in
    let same =
    ap (λ (xs : List ℕ). cond in_it.is_built (string_bytes in_it.built) (slice_range xs in_it.start in_it.end)) (ap (λ v. v.items) c.consume-2.ensures.bytes)
    ∙ ap (λ (s : Cutting). s.text) c.self.view_is in
    takes_part old _ len c.args.newline c.requires built.taken _
    (subst (λ (t : List ℕ). Builds old.limit (take len old.pending) built.taken (piece_built t built)) (sym same) c.build_first-taken.ensures.builds)
    c.if-taken-len.false (c.consume-2.ensures.held ∙ ap (drop built.taken) is)
