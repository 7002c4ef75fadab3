-- `put` takes the box apart, and the slot owns what it owned.
use Rattle.alog_ffi.proofs.Steps.{◌≡◌, List, [], ◌∷◌, ◌++◌, refl, sym, ap, subst, ◌∙◌, proved_at, box_owns, full_share, SProp, id⊢, ent, emp, never, fst∗, ftrue, fsep, flft, Val, vunit, vptr, vstruct, vcons, vnil, bare, WpFn, ◌⊑◌, ⊑_static, fact, fact_i, tables, sem, ‵, raw, ◌⊛◌, some, later, ◌$◌, ◌∵◌, !, qed, done, move, drop, use0, use1, use2, split, split3, join, fsplit, fsplit3, fjoin, fpack, feq_i, feq_l, pick, await, rewrite, suffices, frame, group, enter, of_opd, unit_lit, stop, fld, no_more, and_then, assigns, returns, alloc_all, pass_all, free_all, look_at, get, through, sets, lands_as, whole, sub, store_in, yes, shows, cell_at, layout, owns, Valss, Ptr, RawPtr, block_ptr, null_ptr, ptr_val, in_a_block, types_at, plain, nothing, opens, closes, peeks, only, within, shape, calls_at, triple_of, framed, Stays, walk_of, says, stay_dropped, Goes-dropped, stay_ref, Goes-ref, ends_at}
use base.Share
use Rattle.alog_ffi.specs.Slots.{the_heap}
use Rattle.std.proofs.BoxSteps.Form as box
use Rattle.std.proofs.BoxSteps.Steps.{box_out, box_in}
use Rattle.std.specs.contracts.boxed.Box.into_raw as callee
use Rattle.std.proofs.boxed.Box.into_raw.Met.{met}
use Rattle.std.proofs.impls.GlobalAllocator.TheImpl.Met as heap_met
use Rattle.std.specs.contracts.impls.GlobalAllocator.TheImpl as heap
use Rattle.alog_ffi.proofs.Boxed.{R, B, T, A, LT, LA, no_drop, no_glue, E}
use Rattle.alog_ffi.specs.contracts.slot.Slot.put as f
use Rattle.alog_ffi.proofs.slot.Slot.put.Statement.{statement}
use Rattle.alog_ffi.proofs.slot.Slot.put.Code as code
use Rattle.alog_ffi.specs.contracts.slot.Slot.{the_row as S, the_type as Held}
use Rattle.alog_ffi.proofs.slot.Slot.TheLaws.{lowers}
use Rattle.std.specs.Prelude.{Some, None}
use Rattle.alog_ffi.specs.declared.slot.Slot.{Slot}

abbrev hs : Stays f.ended.signature.params f.ended.kept
hs = (stay_ref (0 ∷ []) tt (plain (λ _. S)), (stay_dropped (plain (λ _. B)) yes, tt))

pub put_spec : {M : Type 1} → statement M
put_spec {M} 𝓤 𝓛 𝓜 𝓡 wired =
    let H = 𝓛.H in let 𝓣 = tables 𝓤 H 𝓜 𝓡 𝓡.env in let c = f.clauses 𝓛 𝓜.mem 𝓡.returns in let fn = code.function in
    proved_at 𝓛 f.ended hs c 𝓜 𝓡 (Goes-ref 𝓛 1 0 tt (plain (λ _. S)), (Goes-dropped 𝓛 1 (plain (λ _. B)) yes (λ κs x f. refl), tt)) f.Key.name fn (code.unfolded 𝓤 H 𝓜 𝓡 wired) (λ z are.
    let κs = z.0.0 in let κ = κs.0 in let q = z.0.1.0 in let self = z.0.3.0 in let v = z.0.3.1.0 in let at = self.ref_ptr in let h = self.now in let vs = z.0.4.0 in let ws = z.0.4.1.0 in
    let Post : Val → SProp 𝓤 = (walk_of 𝓛 f.ended hs c).post z in let Run : List Val → List Val → SProp 𝓤 = λ us xs. WpFn 𝓤 H 𝓣.C 𝓣.Λ fn (us ++ (xs ++ [])) Post in
    qed 𝓛 (((‵ (flft κ q) ⊛ ‵ ftrue) ⊛ ‵ (owns (types_at f.ended.signature.params κs) z.0.3 z.0.4)) ∷ raw (fact 𝓤 (h.part ≡ None)) ∷ []) ∵
    split ! $ move ! (1 ∷ []) $ fsplit ! $ fsplit3 ! $ feq_l ! (λ us. move ! (2 ∷ []) $ fsplit ! $
    box_out E ! v ws (λ b o hv e xs fits. box_in E ! v b o v.value e refl $
    -- [the box; nothing; two parts of self; the token; what is asked]
    let w : Val = box.word E hv b o in let typed = box.box_typed E hv b o fits in
    let k = triple_of 𝓛 (callee.signature T A heap.ghosts heap.dict (no_drop A) (no_drop T)) (callee.spec T A heap.ghosts heap.dict (no_drop A) (no_drop T) 𝓛 𝓜.mem 𝓡.returns) in
    let y : k.Ghost = (((κ, (κ, tt)), (Share.left q, (Share.right q, tt)), tt, (v, tt), (w ∷ [], tt)), tt) in
    suffices ! (Run (vptr at.0 at.1 ∷ []) (w ∷ [])) (subst (λ (ps : List Val). ent 𝓤 (Run (vptr at.0 at.1 ∷ []) (w ∷ [])) (Run ps ws)) (sym us) (subst (λ (ps : List Val). ent 𝓤 (Run (vptr at.0 at.1 ∷ []) (w ∷ [])) (Run (vptr at.0 at.1 ∷ []) ps)) (sym xs) (id⊢ 𝓤 _))) $
    enter ! 𝓣.C 𝓣.Λ fn (vptr at.0 at.1 ∷ w ∷ []) Post $ alloc_all ! (λ l. pass_all ! refl ((tt, tt), (typed, tt)) $ sets ! (of_opd ! (get ! refl)) refl typed $
    -- into_raw's requires
    move ! (4 ∷ []) $ split ! $ use1 𝓛 (‵ (flft κ (Share.left q)) ⊛ ‵ (flft κ (Share.right q))) (𝓛.lfts.lft_split κ q) $ split ! $
    move ! (1 ∷ 2 ∷ 0 ∷ []) $ join ! $ move ! (1 ∷ 0 ∷ []) $ join ! $
    -- [the tokens; the box; nothing; two parts of self; what is asked]
    move ! (1 ∷ 2 ∷ []) $ fjoin ! $ move ! (1 ∷ 0 ∷ []) $ join ! $
    nothing ! $ use0 𝓛 (raw (fact 𝓤 (κ ⊑ A.lives))) (fact_i 𝓤 (κ ⊑ A.lives) (emp 𝓤) (⊑_static κ)) $ join ! $ use0 𝓛 (raw (fact 𝓤 (κ ⊑ T.lives))) (fact_i 𝓤 (κ ⊑ T.lives) (emp 𝓤) (⊑_static κ)) $ join ! $
    move ! (1 ∷ 0 ∷ []) $ join ! $ use1 𝓛 (raw (k.pre y)) (id⊢ 𝓤 _) $
    calls_at ! (framed 𝓤 H 𝓜 𝓣) k (met 𝓤 𝓛 𝓜 𝓡 (code.calls-std_alloc::boxed::Box::into_raw 𝓡.env wired) T A LT LA heap.ghosts heap.dict (no_drop A) (no_drop T)
    (heap_met.passed 𝓡.env (code.calls-std_heap::GlobalAllocator::allocate 𝓡.env wired) (code.calls-std_heap::GlobalAllocator::deallocate 𝓡.env wired) (code.calls-std_heap::GlobalAllocator::grow 𝓡.env wired) (code.calls-std_heap::GlobalAllocator::shrink 𝓡.env wired) M 𝓤 𝓛 𝓜 𝓡)
    (no_glue 𝓡.env (code.calls-alog_ffi::Destruct++none::drop 𝓡.env wired) A LA M 𝓤 𝓛 𝓜 𝓡)
    (no_glue 𝓡.env (code.calls-alog_ffi::Destruct++none::drop 𝓡.env wired) T LT M 𝓤 𝓛 𝓜 𝓡)) y (and_then ! (get ! refl) (no_more !)) (λ u.
    use1 𝓛 (later (some (λ (r : Ptr). ((‵ (flft κ (Share.left q)) ⊛ ‵ (flft κ (Share.right q)) ⊛ ‵ ftrue) ⊛ ‵ (RawPtr.own_val r (u ∷ [])))
    ⊛ some (λ (_ : (Unit {0} × (Unit {0} × Unit {0})) × Unit {0}). ‵ (fsep (fsep ftrue (fsep ftrue ftrue)) ftrue) ⊛ ‵ (box_owns (heap.ghosts.dealloc_token the_heap) R r v.value))))) (id⊢ 𝓤 _) $
    await ! tt $ pick ! (λ r. split ! $ move ! (1 ∷ []) $ pick ! (λ _. split ! $ drop ! $ move ! (1 ∷ []) $ split ! $ move ! (1 ∷ []) $ feq_l ! (λ eu. move ! (1 ∷ []) $
    in_a_block ! r (λ p. box_owns (heap.ghosts.dealloc_token the_heap) R p v.value) (fst∗ 𝓤 (never 𝓤) (sem 𝓛 (heap.ghosts.dealloc_token the_heap (bare (layout R)) null_ptr))) (λ b' o' e'.
    lands_as ! (ap only (eu ∙ ap (λ (p : Ptr). ptr_val p ∷ []) e')) refl (tt, tt) $ sets ! (of_opd ! (get ! refl)) refl (tt, tt) $
    -- self is opened, and its field is set
    move ! (1 ∷ []) $ split3 ! $ use2 𝓛 (‵ (flft κ q)) (𝓛.lfts.lft_join κ q) $ move ! (3 ∷ 4 ∷ 0 ∷ []) $ opens ! tt S at.0 at.1 (λ cs. move ! (1 ∷ []) $ peeks ! S _ (shows 𝓛 S) h cs (λ is. fsplit ! $ drop ! $ drop ! $
    let Cell = λ (ps : List Val). ‵ (cell_at full_share S.mir ps at.0 at.1) in let W : Val = vstruct (vcons (vptr b' o') vnil) in let h' : Slot = record { at = block_ptr b' o'; part = Some v.value.value } in
    rewrite ! 0 Cell (lowers.val_is h cs is) refl $
    -- [self's cell; the open borrow, in three entries; nothing; what the box owned; what was asked]
    assigns ! (of_opd ! (get ! refl)) (through ! refl (fld ! refl (stop !))) (store_in ! 0 (sub ! 0 refl (whole !)) (tt, tt)) $ sets ! (of_opd ! (unit_lit !)) refl (tt, tt) $
    move ! (5 ∷ []) $ nothing ! $ feq_i ! (List Val) (vptr b' o' ∷ []) (vptr b' o' ∷ []) refl $ fjoin ! $ feq_i ! (List Val) (W ∷ []) (W ∷ []) refl $ fjoin ! $
    fpack ! (Valss (RawPtr ∷ [])) (within (shape Held) (block_ptr b' o', tt) (W ∷ [])) (vptr b' o' ∷ [], tt) $ fjoin ! $ move ! (1 ∷ 0 ∷ []) $ closes ! tt S h' (W ∷ []) at.0 at.1 $
    -- [two parts of self; the token; nothing; what was asked]
    returns ! (look_at ! 0 refl) $ free_all ! refl $ suffices ! _ (ends_at 𝓛 f.ended hs c z vunit tt (h', (tt, tt)) (tt, (tt, tt))) $ says ! refl $
    feq_i ! (List Val) vs (vptr at.0 at.1 ∷ []) us $ group ! 3 $ nothing ! $ nothing ! $ join ! $ move ! (1 ∷ 0 ∷ []) $ join ! $ move ! (1 ∷ 2 ∷ []) $ join ! $ frame ! $ frame ! $ drop ! $ feq_i ! _ (vunit ∷ []) _ refl $ done !)))))))))))
