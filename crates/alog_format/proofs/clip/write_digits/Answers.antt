use Rattle.std.proofs.Common.{◌≡◌, ◌-◌, length, ◌∙◌, arith, length-set}
use Rattle.alog_format.proofs.Clips.{digits_more}
use Rattle.alog_format.proofs.clip.write_digits.Goals as goal

pub loop-left-preserved : goal.loop-left-preserved
loop-left-preserved c =
    let at = c.loop-left in
    let some = c.loop-left-test.true in
    let room : length at.text ≡ 9 = at.invariant.room in
    let less = at.invariant.less in
    let count = c.requires.count in
    record {
      room = omega (arith, length-set at.text (at.left - 1) c.digit.result);
      less = omega arith;
      digits = rw c.digit.ensures (digits_more at.text at.left c.args.count at.rest some less (omega arith) ∙ at.invariant.digits);
    }
