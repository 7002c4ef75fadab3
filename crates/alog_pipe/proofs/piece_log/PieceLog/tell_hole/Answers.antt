use Rattle.std.proofs.Common.{◌≡◌, ◌∙◌, ◌≤◌, List, ℕ, length, refl, sym, ap, subst, inl, inr, Err, arith}
use Rattle.std.proofs.lemmas.Int.{to_z-of_z}
use Rattle.alog_msg.specs.declared.level.Level.TheVariants.{Warning}
use Rattle.alog_msg.specs.declared.limits.TheConstants.{TEXT_LIMIT_MIN}
use Rattle.alog_pipe.specs.Logged.{LogsText, by}
use Rattle.alog_pipe.proofs.Logging.{wants_memory}
use Rattle.alog_pool.specs.Gaps.{gap_text}
use Rattle.alog_pool.specs.Producer.{ProducerView}
use Rattle.alog_registry.proofs.SharedListing.{spec_there}
use Rattle.alog_pipe.proofs.piece_log.PieceLog.tell_hole.Goals as goal

pub returns-in-Posted-clause-tells : goal.returns-in-Posted-clause-tells
returns-in-Posted-clause-tells g c =
    let old = c.args.self.now in
    let s = spec_there old.producer.shared.loggers old.logger c.requires.0 in
    let text : c.as_str.result.now ≡ gap_text old.hole = c.as_str.ensures.value ∙ c.gap_text-text.ensures.text in
    let logged =
    subst (λ (t : List ℕ). LogsText old.logger Warning c.args.time t c.in-Ok.reply old.producer c.log.new.self) text (record {
      spec = s.0;
      found = s.1;
      log = simp (to_z-of_z, c.ranges.time) at (c.in-Ok.ensures.logs s.0 s.1);
      waits = c.in-Ok.ensures.blocks s.0 s.1;
      same = c.log.ensures.same;
    }) in
    inr (
      omega (arith, c.if-number-eq0.false),
      elim c.in-Posted.is [
        | inl posted ↦ inl (c.in-Ok.reply, logged, sym c.fate_of.ensures ∙ posted)
        | inr below ↦ inr (c.in-Ok.reply, logged, sym c.fate_of.ensures ∙ below)
      ],
      refl,
    )

pub returns-in-Missing-clause-tells : goal.returns-in-Missing-clause-tells
returns-in-Missing-clause-tells g c =
    let old = c.args.self.now in
    let s = spec_there old.producer.shared.loggers old.logger c.requires.0 in
    let text : c.as_str.result.now ≡ gap_text old.hole = c.as_str.ensures.value ∙ c.gap_text-text.ensures.text in (
      omega (arith, c.if-number-eq0.false),
      (
        c.in-Ok.reply,
        subst (λ (t : List ℕ). LogsText old.logger Warning c.args.time t c.in-Ok.reply old.producer c.log.new.self) text (record {
          spec = s.0;
          found = s.1;
          log = simp (to_z-of_z, c.ranges.time) at (c.in-Ok.ensures.logs s.0 s.1);
          waits = c.in-Ok.ensures.blocks s.0 s.1;
          same = c.log.ensures.same;
        }),
        sym c.fate_of.ensures ∙ c.in-Missing.is,
      ),
      refl,
    )

pub returns-in-Err-clause-tells : goal.returns-in-Err-clause-tells
returns-in-Err-clause-tells g c =
    let old = c.args.self.now in
    let s = spec_there old.producer.shared.loggers old.logger c.requires.0 in
    let text : c.as_str.result.now ≡ gap_text old.hole = c.as_str.ensures.value ∙ c.gap_text-text.ensures.text in
    let short : length c.as_str.result.now ≤ TEXT_LIMIT_MIN =
    subst (λ (t : List ℕ). length t ≤ TEXT_LIMIT_MIN) (sym text) c.gap_text-text.ensures.fits in
    let room = c.requires.1 in
    let reason = wants_memory old.producer.limit c.as_str.result.now c.in-Err.field-0 (omega (arith, short, room)) c.in-Err.ensures.reason in (
      omega (arith, c.if-number-eq0.false),
      (s.0, s.1, c.in-Err.ensures.memory s.0 s.1 (ap Err reason)),
      ap (λ (p : ProducerView). by p old) c.in-Err.ensures.err,
    )
