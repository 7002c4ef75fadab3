-- The sinks of a sound configuration have names of their own.
use Rattle.std.proofs.Common.{◌≡◌, ℕ, List, [], ◌∷◌, ◌++◌, inl, inr, refl, sym, subst}
use Rattle.alog_config.specs.declared.config.SinkConfig.{SinkConfig}
use Rattle.alog_config.specs.Sinks.{IsSinkName}
use Rattle.alog_config.specs.Sound.{AreSoundSinks}
use Rattle.alog_config.proofs.SharedPicking.{Apart, Has, has_any, has_left, has_right}

-- no later sink has an earlier one's name
none_earlier : (limit : ℕ) (earlier ss : List SinkConfig) (name : List ℕ) → AreSoundSinks limit earlier ss → Has (λ s. s.name ≡ name) ss
    → ¬ Has (λ (s : SinkConfig). s.name ≡ name) earlier
none_earlier limit earlier [] name h has before = has
none_earlier limit earlier (s ∷ ss) name h (inl e) before =
    h.0.free (subst (λ n. IsSinkName earlier n) (sym e) (has_any (λ (x : SinkConfig). x.name ≡ name) earlier before))
none_earlier limit earlier (s ∷ ss) name h (inr has) before =
    none_earlier limit (earlier ++ s ∷ []) ss name h.1 has (has_left (λ (x : SinkConfig). x.name ≡ name) earlier (s ∷ []) before)

pub names_apart : (limit : ℕ) (earlier ss : List SinkConfig) → AreSoundSinks limit earlier ss → Apart (λ (s : SinkConfig). s.name) ss
names_apart limit earlier [] h = tt
names_apart limit earlier (s ∷ ss) h = (
  λ has. none_earlier limit (earlier ++ s ∷ []) ss s.name h.1 has
      (has_right (λ (x : SinkConfig). x.name ≡ s.name) earlier (s ∷ []) (inl refl)),
  names_apart limit (earlier ++ s ∷ []) ss h.1,
)
