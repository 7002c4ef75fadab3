-- The first key that is told, of keys that are told exactly where something holds of them.
use Rattle.std.proofs.Common.{◌↔◌, Bool, List, [], ◌∷◌, map, Option, inl, inr, IsTrue}
use Rattle.alog_config.specs.Culprits.{IsFirstTold}
use Rattle.alog_config.specs.Rules.{IsFirst}
use Rattle.alog_config.specs.declared.words.Key.{Key}

abbrev pub AreTold : (Key → Type 0) → List (Key × Bool) → Type 0
AreTold P [] = Unit {0}
AreTold P (k ∷ ks) = (IsTrue k.1 ↔ P k.0) × AreTold P ks

pub told_first : (ks : List (Key × Bool)) (P : Key → Type 0) (found : Option Key) → AreTold P ks → IsFirstTold ks found
    → IsFirst (map (λ k. k.0) ks) P found
told_first [] P found same h = h
told_first (k ∷ ks) P found same h =
    elim h [
      | inl x ↦ inl (same.0.0 x.0, x.1)
      | inr x ↦ inr (λ q. x.0 (same.0.1 q), told_first ks P found same.1 x.1)
    ]
