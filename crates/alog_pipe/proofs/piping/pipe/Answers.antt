use Rattle.std.specs.Prelude.{Bool}
use Rattle.std.proofs.Common.{List, length, ap, subst, ◌∙◌, arith}
use Rattle.alog_lines.specs.Cutting.{Cutting}
use Rattle.alog_config.specs.Built.{IsLoggerOf}
use Rattle.alog_config.proofs.SharedPicking.{each_is_long}
use Rattle.alog_pipe.proofs.piping.pipe.Goals as goal
use Rattle.alog_pipe.specs.Pipes.{PipesThrough}
use Rattle.alog_pool.specs.Pool.{Starts}
use Rattle.alog_registry.specs.declared.logger.Logger.{Logger}

pub pipe_through-requires-clause-ready : goal.pipe_through-requires-clause-ready
pipe_through-requires-clause-ready g c κs within =
    let config = c.args.config.now in
    let setup = c.in_ok-setup.setup in
    let given = c.in_ok-setup.ensures.given in
    let started = c.in-Ok.ensures.started in
    let long = each_is_long (IsLoggerOf given.built.tops) config.loggers.items setup.loggers given.built.loggers in
    let same = ap (λ (l : List Logger). length l) started.loggers in
    let limit = ap (λ (s : Cutting). s.limit) c.in_ok-lines.ensures in
    let most = started.limit ∙ given.limit in
    let room = c.in_ok-setup.ensures.fits.limits.0 in
    (omega (arith, c.requires.known, long, same), omega (arith, room, started.limit), omega (arith, limit, most))

pub returns-in-Ok-pipe_through-clause-piped : goal.returns-in-Ok-pipe_through-clause-piped
returns-in-Ok-pipe_through-clause-piped g c =
    let limit = ap (λ (s : Cutting). s.limit) c.in_ok-lines.ensures in
    record {
      setup = c.in_ok-setup.setup;
      given = c.in_ok-setup.ensures.given;
      start = c.in-Ok.pool;
      starts = subst (λ (tells : Bool). Starts (record c.in_ok-setup.setup { workers = 1; tells_gaps = tells }) c.in-Ok.pool)
          c.overruns.ensures c.in-Ok.ensures.started;
      through = subst (λ n. PipesThrough g.S.Store.tells g.S.Store.files g.S.Store.failures n c.in-Ok.pool c.args.logger c.args.level
          (g.I.Read.remaining c.args.input.now) (g.I.Read.remaining c.pipe_through.new.input) c.in-Ok-pipe_through.piped) limit c.in-Ok-pipe_through.ensures.piped;
    }
