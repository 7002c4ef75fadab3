-- Which numbers are those of loggers of a list.
use Rattle.std.proofs.Common.{◌≡◌, ◌<◌, ℕ, zero, suc, List, [], ◌∷◌, length, Some, refl, arith}
use Rattle.alog_registry.specs.Listed.{name_at, spec_at}
use Rattle.alog_registry.specs.declared.logger.Logger.{Logger}
use Rattle.alog_registry.specs.declared.logger.Spec.{Spec}

-- a number that has a name is one of the list
pub named_within : (ls : List Logger) (n : ℕ) (name : List ℕ) → name_at ls n ≡ Some name → n < length ls
named_within [] n name e = absurd (cc e)
named_within (l ∷ ls) zero name e = omega arith
named_within (l ∷ ls) (suc n) name e = let h : n < length ls = named_within ls n name e in omega arith

-- a number that is one of the list has a spec
pub spec_there : (ls : List Logger) (n : ℕ) → n < length ls → (s : Spec) × (spec_at ls n ≡ Some s)
spec_there [] n below = absurd (omega (arith, below))
spec_there (l ∷ ls) zero below = (l.spec, refl)
spec_there (l ∷ ls) (suc n) below = spec_there ls n (omega (arith, below))
