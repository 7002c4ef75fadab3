-- Producers that a pool makes.
use Rattle.std.specs.Prelude.{◌≡◌, List, [], ◌∷◌}
use Rattle.std.specs.List.{AllByRecursion}
use Rattle.alog_pool.specs.Pool.{PoolView, Makes}
use Rattle.alog_pool.specs.Producer.{ProducerView}
use Rattle.alog_pool.specs.declared.shared.Shared.{Shared}

-- the pool made these producers, one after the other
abbrev pub MakesAll : {S : Type 0} → PoolView S → List ProducerView → PoolView S → Type 0
MakesAll old [] new = new ≡ old
MakesAll {S} old (p ∷ ps) new = (mid : PoolView S) × Makes old mid p × MakesAll mid ps new

-- these producers share this
abbrev pub AreOf : Shared → List ProducerView → Type 0
AreOf shared producers = AllByRecursion (λ (p : ProducerView). p.shared ≡ shared) producers
