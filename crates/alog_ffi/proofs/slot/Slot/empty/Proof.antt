-- `empty` makes a slot that owns nothing.
use Rattle.alog_ffi.proofs.Steps.{List, [], ◌∷◌, refl, proved_at, SProp, ftrue, Val, vstruct, vcons, vnil, tables, ‵, raw, ◌⊛◌, ◌$◌, ◌∵◌, !, qed, done, move, keep, split, fjoin, fpack, feq_i, suffices, group, enter, no_more, and_then, returns, alloc_all, pass_all, free_all, look_at, sets, Valss, RawPtr, null_ptr, nothing, within, shape, walk_of, says, ends_at}
use Rattle.std.proofs.Common.{lit<}
use types.Part.{agg}
use types.Run.{lit}
use mir.Val.{vnull}
use denote.Triple.Entry.{alive}
use Rattle.std.specs.Prelude.{None}
use Rattle.alog_ffi.specs.declared.slot.Slot.{Slot}
use Rattle.alog_ffi.specs.contracts.slot.Slot.empty as f
use Rattle.alog_ffi.proofs.slot.Slot.empty.Statement.{statement}
use Rattle.alog_ffi.proofs.slot.Slot.empty.Code as code
use Rattle.alog_ffi.specs.contracts.slot.Slot.{the_type as Held}

pub empty_spec : {M : Type 1} → statement M
empty_spec {M} 𝓤 𝓛 𝓜 𝓡 wired =
    let H = 𝓛.H in let 𝓣 = tables 𝓤 H 𝓜 𝓡 𝓡.env in let c = f.clauses 𝓛 𝓜.mem 𝓡.returns in let fn = code.function in
    proved_at 𝓛 f.ended tt c 𝓜 𝓡 tt f.Key.name fn (code.unfolded 𝓤 H 𝓜 𝓡 wired) (λ z are.
    let Post : Val → SProp 𝓤 = (walk_of 𝓛 f.ended tt c).post z in
    let W : Val = vstruct (vcons vnull vnil) in let h : Slot = record { at = null_ptr; part = None } in
    qed 𝓛 ((raw (alive 𝓛 f.ended.signature z.0.0 z.0.1) ⊛ ‵ ftrue) ∷ ‵ ftrue ∷ []) ∵ split ! $ keep ! (0 ∷ []) $
    enter ! 𝓣.C 𝓣.Λ fn [] Post $ alloc_all ! (λ l. pass_all ! refl tt $
    sets ! (agg ! (and_then ! (lit ! tt) (no_more !))) refl (tt, (record { fits = lit< tt }, tt)) $
    -- what it owns: nothing, and its pointer
    nothing ! $ nothing ! $ feq_i ! (List Val) (vnull ∷ []) (vnull ∷ []) refl $ fjoin ! $ feq_i ! (List Val) (W ∷ []) (W ∷ []) refl $ fjoin ! $
    fpack ! (Valss (RawPtr ∷ [])) (within (shape Held) (null_ptr, tt) (W ∷ [])) (vnull ∷ [], tt) $ fjoin ! $
    nothing ! $ move ! (2 ∷ 0 ∷ 1 ∷ []) $
    returns ! (look_at ! 0 refl) $ free_all ! refl $
    suffices ! _ (ends_at 𝓛 f.ended tt c z W h tt tt) $ says ! refl $ group ! 3 $ done !))
