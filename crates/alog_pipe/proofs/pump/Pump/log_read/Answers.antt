use Rattle.std.proofs.Common.{◌≡◌, [], ◌∷◌, ◌++◌, ℕ, List, length, sym, ap, ◌∙◌, w64, FitsSigned, rules, arith}
use Rattle.std.proofs.lemmas.Int.{to_z-of_z}
use Rattle.alog_lines.specs.Cutting.{piece_of}
use Rattle.alog_pipe.specs.Counted.{with_piece}
use Rattle.alog_pipe.specs.declared.counts.Counts.{Counts}
use Rattle.alog_pipe.proofs.Logging.{piece_logger, ready_on, same_on}
use Rattle.alog_pipe.proofs.Pumping.{counted_more, logged_as, one_more, takes_same}
use Rattle.alog_pipe.proofs.pump.Pump.log_read.Goals as goal

pub log-requires : goal.log-requires
log-requires g c =
    let i = c.loop-cut.invariant in
    let limit = (takes_same i.pieces _ _ i.taken).0 in
    let ready = ready_on c.args.self.now.log c.loop-cut.self.log c.requires i.logger i.same in
    let fits = c.in-Some.ensures.found.fits in
    let size = ap length c.text-text.ensures in
    (ready.0, omega (arith, ready.1, limit, fits, size))

pub loop-cut-preserved : goal.loop-cut-preserved
loop-cut-preserved g c =
    let i = c.loop-cut.invariant in
    let cut = c.in-Some.cut in
    let p = piece_of c.next.new.self cut in
    let text : c.text-text.result.now ≡ p.text = c.text-text.ensures in
    let fits : FitsSigned w64 c.loop-cut.self.time = search rules in
    let time = to_z-of_z w64 c.loop-cut.self.time fits in
    record {
      pieces = i.pieces ++ p ∷ [];
      taken = one_more _ i.pieces p _ _ _ i.taken (c.in-Some.ensures.found, c.in-Some.ensures.same);
      logged = one_more _ i.pieces p _ _ _ i.logged (logged_as time text c.log.ensures);
      counted_is = c.see.ensures
          ∙ ap (λ (t : List ℕ). with_piece c.loop-cut.self.counts (record { text = t; mended = cut.mended; ends = cut.ends })) text
          ∙ ap (λ (n : Counts). with_piece n p) i.counted_is ∙ sym (counted_more i.pieces p c.args.self.now.counts);
      logger = piece_logger c.log.ensures.logged ∙ i.logger;
      same = same_on i.same c.log.ensures.same;
    }
