-- What is done for one thing after the other.
use Rattle.std.specs.Prelude.{◌≡◌, List, [], ◌∷◌}

-- each of these leads on from where the one before it led, the first from here, and the last to there
abbrev pub InTurn : {A S : Type 0} → (A → S → S → Type 0) → List A → S → S → Type 0
InTurn step [] s t = t ≡ s
InTurn {A} {S} step (x ∷ xs) s t = (mid : S) × step x s mid × InTurn step xs mid t
