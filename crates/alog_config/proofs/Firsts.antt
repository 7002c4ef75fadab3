-- The first rule that is broken.
use Rattle.std.proofs.Common.{◌≡◌, ◌↔◌, ℕ, zero, suc, ◌+◌, ◌<◌, ◌≤◌, List, [], ◌∷◌, length, get_or, drop, Option}
use Rattle.std.proofs.Common.{Some, None, inl, inr, refl, subst, arith}
use Rattle.std.specs.Bool.{IsTrue}
use Rattle.alog_config.specs.Rules.{IsFirst, has, order}
use Rattle.alog_config.specs.declared.broken.Broken.{Broken}
use Rattle.alog_config.specs.declared.fault.Rule.TheVariants.{UnknownKey, BadValue, Missing, NameTaken, NoSuchSink}
use Rattle.alog_config.specs.declared.fault.Rule.{Rule}

-- rules that are broken exactly where others are
pub first_same : (rules : List Rule) (P Q : Rule → Type 0) (found : Option Rule) → ((r : Rule) → P r ↔ Q r)
    → IsFirst rules P found → IsFirst rules Q found
first_same [] P Q found same h = h
first_same (r ∷ rs) P Q found same h =
    elim h [
      | inl x ↦ inl ((same r).0 x.0, x.1)
      | inr x ↦ inr (λ q. x.0 ((same r).1 q), first_same rs P Q found same x.1)
    ]

-- each rule is marked as broken exactly where it is
pub record Marks (b : Broken) (P : Rule → Type 0) : Type 0 where
  pub unknown_key : IsTrue b.unknown_key ↔ P UnknownKey
  pub bad_value : IsTrue b.bad_value ↔ P BadValue
  pub missing : IsTrue b.missing ↔ P Missing
  pub name_taken : IsTrue b.name_taken ↔ P NameTaken
  pub no_such_sink : IsTrue b.no_such_sink ↔ P NoSuchSink

-- so the first that is marked is the first that is broken
pub first_marked : {b : Broken} {P : Rule → Type 0} (found : Option Rule) → Marks b P
    → IsFirst order (λ rule. IsTrue (has b rule)) found → IsFirst order P found
first_marked {b} {P} found marks h = first_same order (λ rule. IsTrue (has b rule)) P found (λ r. each r) h where
  each : (r : Rule) → IsTrue (has b r) ↔ P r
  each UnknownKey = marks.unknown_key
  each BadValue = marks.bad_value
  each Missing = marks.missing
  each NameTaken = marks.name_taken
  each NoSuchSink = marks.no_such_sink

-- a list of rules from one place on
pub first_at : (rules : List Rule) (i : ℕ) (d : Rule) (P : Rule → Type 0) → i < length rules → P (get_or rules i d)
    → IsFirst (drop i rules) P (Some (get_or rules i d))
first_at [] i d P h p = absurd (omega arith)
first_at (r ∷ rs) zero d P h p = inl (p, refl)
first_at (r ∷ rs) (suc i) d P h p = first_at rs i d P (omega arith) p

pub first_past : (rules : List Rule) (i : ℕ) (d : Rule) (P : Rule → Type 0) (found : Option Rule) → i < length rules
    → ¬ P (get_or rules i d)
    → IsFirst (drop (i + 1) rules) P found → IsFirst (drop i rules) P found
first_past [] i d P found h p f = absurd (omega arith)
first_past (r ∷ rs) zero d P found h p f = inr (p, f)
first_past (r ∷ rs) (suc i) d P found h p f =
    let e : suc i + 1 ≡ suc (i + 1) = omega arith in
    first_past rs i d P found (omega arith) p (subst (λ n. IsFirst (drop n (r ∷ rs)) P found) e f)

pub first_none : (rules : List Rule) (i : ℕ) (P : Rule → Type 0) → length rules ≤ i → IsFirst (drop i rules) P None
first_none [] zero P h = refl
first_none [] (suc i) P h = refl
first_none (r ∷ rs) zero P h = absurd (omega arith)
first_none (r ∷ rs) (suc i) P h = first_none rs i P (omega arith)
