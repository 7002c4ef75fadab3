use Rattle.alog_pool.proofs.Logged as logged
use Rattle.alog_pool.proofs.laws.posted_logs_put_their_text_in.Goals as goal

pub returns : goal.returns
returns c = logged.posted_logs_put_their_text_in
