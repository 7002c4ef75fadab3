-- Producers at home: those of one pool, and those of what they share.
use Rattle.std.proofs.Common.{◌≡◌, ◌<◌, ◌∙◌, List, [], ◌∷◌, length, sym, ap, subst, arith}
use Rattle.std.specs.List.{AllByRecursion}
use Rattle.alog_pool.specs.Producer.{ProducerView}
use Rattle.alog_pool.specs.declared.shared.Shared.{Shared}
use Rattle.alog_server.specs.Homes.{IsAtHome, IsHomeOf, loggers_of}
use Rattle.alog_server.specs.Making.{AreOf}

loggers_are : (s : Shared) (all : List ProducerView) → 0 < length all → AreOf s all → s.loggers ≡ loggers_of all
loggers_are s [] some own = absurd (omega (arith, some))
loggers_are s (p ∷ all) some own = ap (λ (t : Shared). t.loggers) (sym own.0)

at_home_of : (s : Shared) (all ps : List ProducerView) → 0 < length all → AreOf s all → AreOf s ps
    → AllByRecursion (λ (p : ProducerView). IsAtHome (IsHomeOf all) (loggers_of all) p) ps
at_home_of s all [] some own own_ps = tt
at_home_of s all (p ∷ ps) some own own_ps = (
  (
    subst (λ (t : Shared). AreOf t all) (sym own_ps.0) own,
    ap (λ (t : Shared). t.loggers) own_ps.0 ∙ loggers_are s all some own,
  ),
  at_home_of s all ps some own own_ps.1,
)

-- the producers of one pool are at home there
pub at_home : (s : Shared) (all : List ProducerView) → 0 < length all → AreOf s all
    → AllByRecursion (λ (p : ProducerView). IsAtHome (IsHomeOf all) (loggers_of all) p) all
at_home s all some own = at_home_of s all all some own own

same_home : (s t : Shared) (all : List ProducerView) → 0 < length all → AreOf s all → AreOf t all → t ≡ s
same_home s t [] some own home = absurd (omega (arith, some))
same_home s t (p ∷ all) some own home = sym home.0 ∙ own.0

-- and those that are at home are of that pool
pub of_home : (s : Shared) (all back : List ProducerView) → 0 < length all → AreOf s all
    → AllByRecursion (λ (p : ProducerView). IsHomeOf all p.shared) back → AreOf s back
of_home s all [] some own home = tt
of_home s all (p ∷ back) some own home = (same_home s p.shared all some own home.0, of_home s all back some own home.1)
