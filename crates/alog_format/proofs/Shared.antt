-- The first bytes of those that are shared are shared, and nothing is lent at null. Assumes `Logic`.
use Rattle.std.proofs.Common.{ℕ, zero, suc, ◌+◌, List, [], ◌∷◌, take}
use seplogic.Ra.Ura.{Ura}
use base.Logic.{ent, never, mono_r}
use contract.Conj.{top}
use base.Fml.{Lft}
use types.Logic.{Logic, sem}
use denote.Builtin.{u8}
use denote.Memory.{shared_of}
use denote.RawPtr.{null_ptr}
use denote.Slice.{elements_shared}
use types.Kit.{‵, ◌$◌, ◌∵◌, !, qed, keep, fsplit, done}
use Rattle.alog_format.specs.Ownership.{bytes_lent}

module _ {M : Type 1} {𝓤 : Ura M} (𝓛 : Logic 𝓤) (b : ℕ) (κ : Lft) where
  pub first_shared : (n : ℕ) (xs : List ℕ) (o : ℕ)
      → ent 𝓤 (sem 𝓛 (elements_shared u8 xs b o κ)) (sem 𝓛 (elements_shared u8 (take n xs) b o κ))
  first_shared zero xs o = top 𝓤 _
  first_shared (suc n) [] o = top 𝓤 _
  first_shared (suc n) (x ∷ xs) o = mono_r 𝓤 (sem 𝓛 (shared_of u8 x b o κ)) (first_shared n xs (o + 1))

  pub never_at_null : (xs : List ℕ) → ent 𝓤 (sem 𝓛 (bytes_lent null_ptr xs κ)) (never 𝓤)
  never_at_null xs = qed 𝓛 (‵ (bytes_lent null_ptr xs κ) ∷ []) ∵ fsplit ! $ keep ! (0 ∷ []) $ done !
