use Rattle.std.proofs.Common.{◌≡◌, ◌<◌, ℕ, zero, suc, Some, List, [], ◌∷◌, length, refl, subst, arith}
use Rattle.alog_registry.specs.Listed.{name_at}
use Rattle.alog_registry.specs.declared.logger.Logger.{Logger}
use Rattle.example_host.proofs.serve.Goals as goal

-- where there is a name, there is a logger
named_below : (ls : List Logger) (n : ℕ) (name : List ℕ) → name_at ls n ≡ Some name → n < length ls
named_below [] n name at = absurd (cc at)
named_below (l ∷ ls) zero name at = omega arith
named_below (l ∷ ls) (suc n) name at = let below = named_below ls n name at in omega (arith, below)

pub say_all-said-requires-clause-logger : goal.say_all-said-requires-clause-logger
say_all-said-requires-clause-logger c =
    subst (λ (ls : List Logger). c.in-Some.net < length ls) c.loggers.ensures
    (named_below _ c.in-Some.net _ ((c.in-Some.ensures c.in-Some.net).0 refl))
