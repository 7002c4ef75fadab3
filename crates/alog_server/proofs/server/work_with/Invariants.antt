use Rattle.alog_server.specs.Homes.{IsHomeOf, loggers_of}
use Rattle.alog_server.proofs.server.work_with.Given as goal

abbrev pub ghosts-run_all : goal.ghosts-run_all
ghosts-run_all g a = record { is_home = IsHomeOf a.producers.items; loggers = loggers_of a.producers.items }
