use Rattle.std.proofs.Common.{[], List, ℕ, Err, inr, sym, ap, subst, ◌∙◌, string_bytes}
use Rattle.std.proofs.lemmas.List.{append-nil}
use Rattle.alog_replay.specs.Script.{LineRefused}
use Rattle.alog_replay.proofs.player.play_and_write.Goals as goal

pub returns-in_ok-write_whole-in-Err-Refused-clause-front : goal.returns-in_ok-write_whole-in-Err-Refused-clause-front
returns-in_ok-write_whole-in-Err-Refused-clause-front g c =
    let scene = g.S.Playable.scene in
    let text = string_bytes c.play_line.new.out in
    let refused = subst (λ (b : List ℕ). LineRefused scene c.args.stage.now c.args.line.now b text) c.clear.ensures.bytes
    (c.in-Err-Refused.ensures.refused (ap Err c.in-Err-Refused.field-0-is)) in
    inr (
      text,
      inr refused,
      record {
        front = c.as_bytes-in-Err-Refused.result.now;
        back = [];
        split = sym c.as_bytes-in-Err-Refused.ensures.value ∙ sym (append-nil c.as_bytes-in-Err-Refused.result.now);
        writes = c.in_ok-write_whole-in-Err-Refused.ensures.whole;
      },
    )
