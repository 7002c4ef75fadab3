-- The number of the first logger of a name.
use Rattle.std.proofs.Common.{◌≡◌, ◌<◌, ℕ, zero, suc, Bool, true, false, if◌then◌else◌, Option, Some, None, List, [], ◌∷◌, length, refl, sym, ap, subst, ◌∙◌}
use Rattle.std.specs.Prelude.{◌↔◌, IfSome, slice_get}
use Rattle.std.specs.Option.{option_map}
use Rattle.std.specs.Str.{bytes_eq}
use Rattle.std.proofs.lemmas.Bool.{false≢true}
use Rattle.std.proofs.lemmas.Option.{slice_get_within}
use Rattle.std.proofs.lemmas.Slice.Eq.{bytes_eq-Decides}
use Rattle.alog_registry.specs.Listed.{name_at}
use Rattle.alog_registry.specs.declared.logger.Logger.{Logger}
use Rattle.alog_replay.specs.Configured.{number_of}

after_first : (o : Option ℕ) (k : ℕ) → option_map suc o ≡ Some k → (j : ℕ) × (o ≡ Some j) × (suc j ≡ k)
after_first None k e = absurd (cc)
after_first (Some j) k e = (j, refl, cc)

none_after : (o : Option ℕ) → option_map suc o ≡ None → o ≡ None
none_after None e = refl
none_after (Some j) e = absurd (cc)

named_by : (l : Logger) (loggers : List Logger) (name : List ℕ) (k : ℕ) (b : Bool) → bytes_eq l.name name ≡ b
    → (if b then Some 0 else option_map suc (number_of loggers name)) ≡ Some k
    → ((j : ℕ) → number_of loggers name ≡ Some j → name_at loggers j ≡ Some name) → name_at (l ∷ loggers) k ≡ Some name
named_by l loggers name k true same e rest =
    let first : 0 ≡ k = cc in
    subst (λ (n : ℕ). name_at (l ∷ loggers) n ≡ Some name) first (ap Some ((bytes_eq-Decides l.name name).0 same))
named_by l loggers name k false other e rest =
    let found = after_first (number_of loggers name) k e in
    subst (λ (n : ℕ). name_at (l ∷ loggers) n ≡ Some name) found.2 (rest found.0 found.1)

-- a logger that is found has the name
named : (loggers : List Logger) (name : List ℕ) (k : ℕ) → number_of loggers name ≡ Some k → name_at loggers k ≡ Some name
named [] name k e = absurd (cc)
named (l ∷ loggers) name k e = named_by l loggers name k (bytes_eq l.name name) refl e (named loggers name)

unnamed_by : (l : Logger) (loggers : List Logger) {name : List ℕ} (n : ℕ) {b : Bool} → bytes_eq l.name name ≡ b
    → (if b then Some 0 else option_map suc (number_of loggers name)) ≡ None
    → ((m : ℕ) → number_of loggers name ≡ None → name_at loggers m ≡ Some name → ⊥) → name_at (l ∷ loggers) n ≡ Some name → ⊥
unnamed_by l loggers n {b = true} same e rest h = absurd (cc)
unnamed_by l loggers {name} zero {b = false} other e rest h =
    let one : l.name ≡ name = cc in
    false≢true (sym other ∙ (bytes_eq-Decides l.name name).1 one)
unnamed_by l loggers {name} (suc m) {b = false} other e rest h = rest m (none_after (number_of loggers name) e) h

-- where none is found, none has it
unnamed : (loggers : List Logger) (name : List ℕ) (n : ℕ) → number_of loggers name ≡ None → name_at loggers n ≡ Some name → ⊥
unnamed [] name n e h = absurd (cc)
unnamed (l ∷ loggers) name n e h = unnamed_by l loggers n {b = bytes_eq l.name name} refl e (λ m. unnamed loggers name m) h

found_by : (loggers : List Logger) (name : List ℕ) (found o : Option ℕ)
    → ((n : ℕ) → (found ≡ Some n) ↔ (name_at loggers n ≡ Some name)) → number_of loggers name ≡ o → found ≡ o
found_by loggers name found (Some k) h e = (h k).1 (named loggers name k e)
found_by loggers name None None h e = refl
found_by loggers name (Some n) None h e = absurd (unnamed loggers name n e ((h n).0 refl))

-- a number that tells whose the name is, is that of the first logger of the name
pub number_found : (loggers : List Logger) (name : List ℕ) (found : Option ℕ)
    → ((n : ℕ) → (found ≡ Some n) ↔ (name_at loggers n ≡ Some name)) → found ≡ number_of loggers name
number_found loggers name found h = found_by loggers name found (number_of loggers name) h refl

known_at : (loggers : List Logger) (name : List ℕ) (n : ℕ) (o : Option Logger) → slice_get loggers n ≡ o
    → option_map (λ (l : Logger). l.name) o ≡ Some name → n < length loggers
known_at loggers name n None e h = absurd (cc)
known_at loggers name n (Some l) e h = slice_get_within loggers n l e

-- and it is one of the numbers
pub number_within : (loggers : List Logger) (name : List ℕ) (found : Option ℕ)
    → ((n : ℕ) → (found ≡ Some n) ↔ (name_at loggers n ≡ Some name)) → IfSome found (λ n. n < length loggers)
number_within loggers name None h = tt
number_within loggers name (Some n) h = known_at loggers name n (slice_get loggers n) refl ((h n).0 refl)
