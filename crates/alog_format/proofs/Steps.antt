-- Steps that the walks of `src/block.rt` share: a struct is made of what its fields own, and taken apart. Assumes `Logic`.
--     Fields             a struct by its fields alone: what it owns does not read its name
--     as_struct              the machine value of a struct whose fields have these
--     wraps, unwraps     what its fields own is what it owns
use Rattle.std.proofs.Common.{◌≡◌, List, [], ◌∷◌, refl}
use lib.Dec.{T}
use seplogic.Ra.Ura.{Ura}
use mir.Syntax.{given as dict_at}
use mir.Val.{Val, vstruct, of_list, has_ty, WT}
use base.Fml.{ftrue}
use types.Logic.{Logic}
use types.Kit.{Goal, Seq, Step, step, Item, ‵, ◌$◌, fsplit, fjoin, fpick, fpack, feq_l, feq_i}
use denote.Builtin.{u8}
use denote.RattleType.{RattleType, Denots, Valss, flat, owns}
use denote.Param.{layout}
use denote.Param.Laws.{Laws, of_field}
use denote.Param.Shared.{copy_shared}
use denote.Struct.Field.{u8-field}
use denote.Struct.Laws.{u8-laws, u8-copy}
use denote.Struct.Struct.{Shape, Struct, within}
use Rattle.std.proofs.alloc.Calls.{handle_tells}

abbrev pub Good : RattleType → Val → Type 0
Good R v = T (has_ty (layout R) v) × WT v

abbrev pub alone : List RattleType → Shape
alone Rs = record { name = []; args = []; types = []; fields = Rs }

abbrev pub Fields : List RattleType → RattleType
Fields Rs = Struct (alone Rs)

abbrev pub as_struct : (Rs : List RattleType) → Valss Rs → List Val
as_struct Rs vss = vstruct (of_list (flat Rs vss)) ∷ []

abbrev pub byte_laws : Laws u8
byte_laws = of_field u8-field u8-laws refl (copy_shared u8-field u8-copy)

module _ {M : Type 1} {𝓤 : Ura M} {𝓛 : Logic 𝓤} {K : Type 0} {Γ : List (Item 𝓤)} {G : Goal 𝓤 𝓛.H} where
  -- what is owned of a value is one machine value, of its type
  pub lies : K → (R : RattleType) → Laws R → (x : R.Denot) (vs : List Val)
      → ((v : Val) → vs ≡ v ∷ [] → Good R v → Seq K 𝓛 (‵ (R.own_val x (v ∷ [])) ∷ Γ) G) → Seq K 𝓛 (‵ (R.own_val x vs) ∷ Γ) G
  lies t R L =
      handle_tells (record { row = R; laws = L; g = record { dealloc_token = λ a τ p. ftrue }; d = dict_at 0; drops = dict_at 0 }) t

  pub wraps : K → (Rs : List RattleType) (xs : Denots Rs) (vs : List Val) (vss : Valss Rs) → vs ≡ as_struct Rs vss
      → Step K 𝓛 (‵ ((Fields Rs).own_val xs vs) ∷ Γ) G (‵ (owns Rs xs vss) ∷ Γ) G
  wraps t Rs xs vs vss e = step (λ s.
      feq_i t (List Val) vs (as_struct Rs vss) e $ fjoin t $ fpack t (Valss Rs) (within (alone Rs) xs vs) vss $ s)

  pub unwraps : K → (Rs : List RattleType) (xs : Denots Rs) (vs : List Val)
      → ((vss : Valss Rs) → vs ≡ as_struct Rs vss → Seq K 𝓛 (‵ (owns Rs xs vss) ∷ Γ) G) → Seq K 𝓛 (‵ ((Fields Rs).own_val xs vs) ∷ Γ) G
  unwraps t Rs xs vs k = fpick t (λ vss. fsplit t $ feq_l t (λ e. k vss e))
