use Rattle.std.proofs.Common.{[], sym, string_bytes}
use Rattle.std.proofs.lemmas.List.{append-nil}
use Rattle.alog_replay.proofs.plain.OptionSessionMemStorePlayable.act.Goals as goal

pub returns-in_ok-opened_by-in-None-clause-done : goal.returns-in_ok-opened_by-in-None-clause-done
returns-in_ok-opened_by-in-None-clause-done c =
    rw c.in-None.is ([], c.in_ok-opened_by-in-None.ensures.opened, sym (append-nil (string_bytes c.args.out.now)))
