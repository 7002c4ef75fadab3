use Rattle.std.proofs.Common.{refl, ap, inr, Err}
use Rattle.std.proofs.lemmas.Int.{to_z-of_z}
use Rattle.alog_registry.proofs.SharedListing.{spec_there}
use Rattle.alog_pipe.proofs.Logging.{found_of, wants_memory}
use Rattle.alog_pipe.proofs.piece_log.PieceLog.log_found.Goals as goal

pub returns-in-Ok-clause-found : goal.returns-in-Ok-clause-found
returns-in-Ok-clause-found g c =
    let old = c.args.self.now in
    let s = spec_there old.producer.shared.loggers old.logger c.requires.0.0 in
    found_of c.args.time c.args.text.now old c.log.new.self c.in-Ok.reply c.fate_of.result c.fate_of.ensures (record {
      spec = s.0;
      found = s.1;
      log = simp (to_z-of_z, c.ranges.time) at (c.in-Ok.ensures.logs s.0 s.1);
      waits = c.in-Ok.ensures.blocks s.0 s.1;
      same = c.log.ensures.same;
    })

pub returns-in-Err-clause-found : goal.returns-in-Err-clause-found
returns-in-Err-clause-found g c =
    let old = c.args.self.now in
    let s = spec_there old.producer.shared.loggers old.logger c.requires.0.0 in
    let reason = wants_memory old.producer.limit c.args.text.now c.in-Err.field-0 c.requires.1 c.in-Err.ensures.reason in (
      inr (c.in-Err.ensures.err, (s.0, s.1, c.in-Err.ensures.memory s.0 s.1 (ap Err reason))),
      refl,
    )
