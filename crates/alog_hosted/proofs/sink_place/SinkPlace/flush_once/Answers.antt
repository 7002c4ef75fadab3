use Rattle.alog_hosted.proofs.Tries.{flushed_after, own_after}
use Rattle.alog_hosted.proofs.sink_place.SinkPlace.flush_once.Goals as goal

pub returns-clause-made : goal.returns-clause-made
returns-clause-made g c =
    own_after g.S.Store.tells g.S.Store.files g.S.Store.failures c.serve_once.result c.args.self.now c.serve_once.new.self
    c.serve_once.ensures.serves c.serve_once.ensures.held

pub returns-clause-flushed : goal.returns-clause-flushed
returns-clause-flushed g c =
    flushed_after g.S.Store.tells g.S.Store.files g.S.Store.failures c.serve_once.result c.args.self.now c.serve_once.new.self
    c.serve_once.ensures.serves
