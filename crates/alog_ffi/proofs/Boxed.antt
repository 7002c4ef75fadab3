-- What `Box::into_raw` and `Box::from_raw` are called with at `ManuallyDrop<Part>` and `Global`.
use Rattle.alog_ffi.proofs.Steps.{[], ◌∷◌, refl, bare, no, layout, arg, Laws, arg_laws, RattleType}
use prog.Routine.{Env}
use prog.Wired.{Wired}
use denote.Param.NoDrop.{glues}
use denote.Param.Glue.{Bound}
use Rattle.alog_ffi.proofs.Destruct++none.drop.Code as none
use mir.Syntax.{Dict, impl, tcons, tnil, dnil}
use Rattle.std.specs.contracts.mem.ManuallyDrop as manually_drop
use Rattle.std.proofs.mem.ManuallyDrop.TheLaws as manually_drop_laws
use Rattle.std.specs.contracts.alloc.Global as global
use Rattle.std.proofs.alloc.Global.TheLaws as global_laws
use Rattle.std.specs.contracts.impls.GlobalAllocator.TheImpl as heap
use Rattle.std.specs.contracts.boxed.Box as box
use Rattle.std.proofs.BoxSteps.Form.{Bx}
use Rattle.alog_ffi.specs.contracts.part.Part as part
use Rattle.alog_ffi.proofs.part.Part.TheLaws as part_laws

-- the rows as the crate's own code names them
abbrev pub P : RattleType
P = part.the_row

abbrev pub R : RattleType
R = manually_drop.the_row P

abbrev pub Z : RattleType
Z = global.the_row

abbrev pub LR : Laws R
LR = manually_drop_laws.the_row_laws P part_laws.the_row_laws

abbrev pub LZ : Laws Z
LZ = global_laws.the_row_laws

abbrev pub B : RattleType
B = box.the_row R Z heap.ghosts

-- the rows that a call passes, at their raw layouts
abbrev pub T : RattleType
T = arg (bare (layout R)) no R

abbrev pub A : RattleType
A = arg (bare (layout Z)) no Z

abbrev pub LT : Laws T
LT = arg_laws (bare (layout R)) no R LR refl

abbrev pub LA : Laws A
LA = arg_laws (bare (layout Z)) no Z LZ refl

-- the drop of a type with none
abbrev pub no_drop : RattleType → Dict
no_drop X = impl ("alog_ffi::Destruct++none::drop" ∷ []) (tcons (layout X) tnil) dnil

-- a box, by the names of `BoxSteps`
abbrev pub E : Bx
E = record { row = R; laws = LR; al = record { row = Z; laws = LZ; g = heap.ghosts; d = heap.dict; drops = no_drop A } }

pub no_glue : (γ : Env) → Wired γ none.code → (X : RattleType) → Laws X → Bound γ X (no_drop X)
unfolding none.code
no_glue = glues "alog_ffi::Destruct++none::drop"
