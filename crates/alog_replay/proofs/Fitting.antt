-- Whether a log may begin.
use Rattle.std.proofs.Common.{◌≡◌, ◌<◌, ℕ, Bool, true, false, inl, inr, refl, sym}
use Rattle.std.specs.Prelude.{◌↔◌, ◌⊎◌, ◌&&◌, ◌||◌, nat_le}
use Rattle.std.proofs.lemmas.Bool.{false≢true, leb-false, lt-leb}

-- The actor is in a call, or its text is looked at and too long, exactly where it may not begin.
pub refused_log : (free unread : Bool) (limit len : ℕ)
    → ((free ≡ false) ⊎ ((limit < len) × (unread ≡ false))) ↔ ((free && (unread || nat_le len limit)) ≡ false)
refused_log false unread limit len = ((λ h. refl), (λ e. inl refl))
refused_log true true limit len = ((λ h. elim h [ inl p ↦ p | inr q ↦ q.1 ]), (λ e. inl e))
refused_log true false limit len = (
  (λ h. elim h [ inl p ↦ absurd (false≢true (sym p)) | inr q ↦ lt-leb len limit q.0 ]),
  (λ e. inr (leb-false len limit e, refl)),
)

pub iff_then : {P Q R : Type 0} → P ↔ Q → Q ↔ R → P ↔ R
iff_then f g = ((λ p. g.0 (f.0 p)), (λ r. f.1 (g.1 r)))
