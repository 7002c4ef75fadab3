use Rattle.std.proofs.Common.{◌≡◌, ◌-◌, min, length, ap, ◌∙◌}
use Rattle.alog_format.proofs.Clips.{write_is}
use Rattle.alog_format.proofs.clip.write.Goals as goal

pub returns-clause-written : goal.returns-clause-written
returns-clause-written c =
    let n : c.min-count.result ≡ min (c.args.end - length c.args.line.now.bytes) (length c.args.bytes.now) =
    c.min-count.ensures ∙ ap (λ k. min (c.args.end - k) (length c.args.bytes.now)) c.len.ensures in
    write_is c.args.line.now c.put.new.self c.args.end c.args.bytes.now c.put.result c.requires (rw (← n) c.put.ensures.ok) (rw
    (← n) c.put.ensures.no_room)
