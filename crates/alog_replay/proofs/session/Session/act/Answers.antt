use Rattle.std.proofs.Common.{string_bytes}
use Rattle.alog_replay.proofs.PlainLemmas.{silently}
use Rattle.alog_replay.proofs.session.Session.act.Goals as goal

pub returns-in-Push-clause-done : goal.returns-in-Push-clause-done
returns-in-Push-clause-done g c =
    rw c.in-Push.is (silently _ (string_bytes c.args.out.now) _ _ (rw c.as_str.ensures at c.push.ensures.begun))

pub returns-in-Pop-clause-done : goal.returns-in-Pop-clause-done
returns-in-Pop-clause-done g c = rw c.in-Pop.is (silently _ (string_bytes c.args.out.now) _ _ c.pop.ensures.begun)

pub returns-in-Work-clause-done : goal.returns-in-Work-clause-done
returns-in-Work-clause-done g c = rw c.in-Work.is (silently _ (string_bytes c.args.out.now) _ _ c.pop-in-Work.ensures.begun)
