-- A `&mut` to the bytes of a block is opened, and an owner is made of its bytes. Assumes `Logic`.
--     B           the row of `Bytes`
--     opens_at    [the bytes; what the fields own; the value's cell; the open borrow, in three entries]
--     made_at     an owner of the first three
use Rattle.std.proofs.Common.{◌≡◌, ℕ, List, [], ◌∷◌, length, refl, sym}
use seplogic.Ra.Ura.{Ura}
use base.Fraction.{full_share}
use base.Logic.{never, id⊢}
use base.Fml.{Lft, GName, Share, fsep, feq, flft, fobs, fauth, fbor, fobor}
use mir.Val.{Val}
use types.Logic.{Logic}
use types.Kit.{Goal, Soaks, Step, step, Seq, Item, ‵, ◌$◌, move, drop, use1, rewrite, fsplit, fjoin, fpack, feq_i}
use types.SemTy.{Body}
use denote.Array.{Array}
use denote.ArrayMemory.{Array-apart, Array-whole}
use denote.Builtin.{u8}
use denote.Index.{row}
use denote.Memory.{cell_at, mem, part_at, part_of}
use denote.RattleType.{RattleType}
use denote.RawPtr.{Ptr, block_ptr, in_a_block}
use denote.Steps.{opens}
use Rattle.alog_format.specs.Ownership.{bytes_own}
use Rattle.alog_format.specs.contracts.block.Bytes as C
use Rattle.alog_format.proofs.Steps.{Fields}

abbrev pub B : RattleType
B = C.the_row

module _ {M : Type 1} {𝓤 : Ura M} {𝓛 : Logic 𝓤} {K : Type 0} {Γ : List (Item 𝓤)} {G : Goal 𝓤 𝓛.H} where
  pub opens_at : K → Soaks G → {κ : Lft} {q : Share} {γ : GName} (d : B.Denot) (rb ro : ℕ)
      → ((b o : ℕ) → d.start ≡ block_ptr b o → (us : List Val)
      → Seq K 𝓛 (‵ (row u8 full_share d.items b o) ∷ ‵ ((Fields []).own_val tt us) ∷ ‵ (cell_at full_share B.mir us rb ro) ∷ ‵
      (fobor κ q (Body (mem B) rb ro γ)) ∷ ‵ (fobs γ (B.coded.code d)) ∷ ‵ (fauth γ (B.coded.code d)) ∷ Γ) G)
      → Seq K 𝓛 (‵ (fobs γ (B.coded.code d)) ∷ ‵ (fbor κ (Body (mem B) rb ro γ)) ∷ ‵ (flft κ q) ∷ Γ) G
  opens_at t z d rb ro k =
      opens t z B {h = d} rb ro (λ us. move t (1 ∷ []) $ fsplit t $ move t (1 ∷ []) $
      in_a_block t d.start (λ p. bytes_own p d.items) (id⊢ 𝓤 (never 𝓤)) (λ b o e.
      use1 𝓛 (‵ (fsep (feq ℕ (length d.items) (length d.items)) (row u8 full_share d.items b o))) (Array-apart 𝓛 u8 full_share tt
      (length d.items) d.items b o) $
      fsplit t $ drop t $ k b o e us))

  pub made_at : K → (d : B.Denot) (b o rb ro : ℕ) (us : List Val) → d.start ≡ block_ptr b o
      → Step K 𝓛 (‵ ((mem B).own_at d rb ro) ∷ Γ) G
      (‵ (row u8 full_share d.items b o) ∷ ‵ ((Fields []).own_val tt us) ∷ ‵ (cell_at full_share B.mir us rb ro) ∷ Γ) G
  unfolding part_of
  made_at t d b o rb ro us e = step (λ s.
      feq_i t ℕ (length d.items) (length d.items) refl $ fjoin t $
      use1 𝓛 (‵ (part_at (Array u8 (length d.items)) full_share d.items b o)) (Array-whole 𝓛 u8 full_share (length d.items) d.items b o) $
      rewrite t 0 (λ (p : Ptr). ‵ (bytes_own p d.items)) (sym e) refl $
      move t (1 ∷ 0 ∷ []) $ fjoin t $ move t (1 ∷ 0 ∷ []) $ fjoin t $
      fpack t (List Val) (λ vs. fsep (cell_at full_share B.mir vs rb ro) (B.own_val d vs)) us $ s)
