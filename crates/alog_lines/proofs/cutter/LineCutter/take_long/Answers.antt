use Rattle.std.proofs.Common.{◌≡◌, ◌+◌, ℕ, List, drop, take, ap, sym, subst, ◌∙◌}
use Rattle.std.specs.Prelude.{slice_range, cond}
use Rattle.std.specs.String.{string_bytes}
use Rattle.alog_lines.specs.Building.{Builds, piece_built}
use Rattle.alog_lines.specs.Cutting.{Cutting}
use Rattle.alog_lines.specs.Window.{held}
use Rattle.alog_lines.proofs.CutLemmas.{takes_long}
use Rattle.alog_lines.proofs.cutter.LineCutter.take_long.Goals as goal

pub invariant_of-self : goal.invariant_of-self
invariant_of-self c = rw c.consume.ensures.bytes c.self.invariant

pub returns-clause-takes : goal.returns-clause-takes
returns-clause-takes c =
    let old = c.args.self.now in
    let built = c.build_first-taken.result in
    let in_it = c.self.inside in
    let limit : c.build_first.inside.limit ≡ old.limit = ap (λ (s : Cutting). s.limit) c.build_first.view_is in
    let is : held in_it.window ≡ old.pending = ap (λ (s : Cutting). s.pending) c.self.view_is ∙ c.build_first-taken.ensures.pending in
    let same =
    ap (λ (xs : List ℕ). cond in_it.is_built (string_bytes in_it.built) (slice_range xs in_it.start in_it.end)) (ap (λ v. v.items) c.consume.ensures.bytes)
    ∙ ap (λ (s : Cutting). s.text) c.self.view_is in
    takes_long old _ c.requires built.taken _
    (subst (λ (t : List ℕ). Builds old.limit (take (old.limit + 1) old.pending) built.taken (piece_built t built)) (sym same)
    (subst (λ k. Builds old.limit (take (k + 1) old.pending) built.taken (piece_built c.build_first-taken.new.self.text built)) limit
    c.build_first-taken.ensures.builds))
    (c.consume.ensures.held ∙ ap (drop built.taken) is)
