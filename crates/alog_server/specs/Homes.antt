-- Which producers belong to a pool that a type stands for.
use Rattle.std.specs.Prelude.{◌≡◌, List, [], ◌∷◌}
use Rattle.alog_pool.specs.Producer.{ProducerView}
use Rattle.alog_pool.specs.declared.shared.Shared.{Shared}
use Rattle.alog_registry.specs.declared.logger.Logger.{Logger}
use Rattle.alog_server.specs.Making.{AreOf}

-- the producer belongs to the pool, which has these loggers
abbrev pub IsAtHome : (Shared → Type 0) → List Logger → ProducerView → Type 0
IsAtHome is_home loggers p = is_home p.shared × (p.shared.loggers ≡ loggers)

-- What is picked for the pool of these producers: it is what all of them share, and has the loggers of the first.
abbrev pub IsHomeOf : List ProducerView → Shared → Type 0
IsHomeOf producers shared = AreOf shared producers

abbrev pub loggers_of : List ProducerView → List Logger
loggers_of [] = []
loggers_of (p ∷ ps) = p.shared.loggers
