-- A table has a key that is not its owner's exactly where one is found.
use Rattle.std.proofs.Common.{◌≡◌, ◌↔◌, Bor, List, ℕ, Option, Some, None, false, inl, inr, ap, refl, IsTrue, option_map, is_some}
use Rattle.alog_config.specs.Culprits.{IsOtherKey}
use Rattle.alog_config.specs.Keys.{HasOtherKey}
use Rattle.alog_config.specs.declared.keys.Owner.{Owner}
use Rattle.toml.specs.Data.{Members, no_members, member}

pub lent_some : (o : Option (Bor (List ℕ))) → is_some (option_map (λ (k : Bor (List ℕ)). k.now) o) ≡ is_some o
lent_some None = refl
lent_some (Some k) = refl

pub other_found : (owner : Owner) (t : Members) (found : Option (List ℕ)) → IsOtherKey owner t found
    → IsTrue (is_some found) ↔ HasOtherKey owner t
other_found owner no_members found h =
    let none : is_some found ≡ false = ap (λ (f : Option (List ℕ)). is_some f) h in
    (λ yes. absurd (cc), λ x. absurd x)
other_found owner (member key d rest) found h =
    elim h [
      | inl x ↦ (λ yes. inl x.0, λ other. ap (λ (f : Option (List ℕ)). is_some f) x.1)
      | inr x ↦
          let r = other_found owner rest found x.1 in
          (λ yes. inr (r.0 yes), λ other. elim other [ inl alien ↦ absurd (alien x.0) | inr has ↦ r.1 has ])
    ]
