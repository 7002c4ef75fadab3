-- `take` makes a box of what the slot owned.
use Rattle.alog_ffi.proofs.Steps.{◌≡◌, List, [], ◌∷◌, ◌++◌, refl, sym, ap, subst, ◌∙◌, proved_at, box_owns, full_share, SProp, id⊢, ent, emp, never, fst∗, ftrue, fsep, flft, Val, vptr, vstruct, vcons, vnil, bare, WpFn, ◌⊑◌, ⊑_static, fact, fact_i, tables, sem, ‵, raw, ◌⊛◌, some, later, at_ret, ◌$◌, ◌∵◌, !, qed, done, move, keep, drop, use0, use1, use2, split, split3, join, fsplit, fsplit3, fjoin, fpack, feq_i, feq_l, pick, await, rewrite, suffices, frame, group, enter, of_opd, stop, fld, no_more, and_then, first, blocks, exec, load, returns, alloc_all, pass_all, free_all, look_at, get, through, sets, lands_last, env, whole, sub, look_in, yes, shows, cell_at, layout, owns, Valss, Ptr, RawPtr, block_ptr, null_ptr, in_a_block, types_at, plain, nothing, opens, closes, heard, peeks, only, within, shape, calls_at_last, triple_of, framed, Stays, walk_of, stay_dropped, Goes-dropped, stay_ref, Goes-ref, ends_at}
use base.Share
use lib.Dec.{T as True}
use mir.Val.{has_ty, WT}
use Rattle.alog_ffi.specs.Slots.{the_heap}
use Rattle.std.proofs.alloc.Calls.{handle_tells}
use Rattle.std.proofs.mem.Facts.{says_two}
use Rattle.std.proofs.BoxSteps.Form as box
use Rattle.std.proofs.BoxSteps.Steps.{box_out, box_in}
use Rattle.std.specs.contracts.boxed.Box.from_raw as callee
use Rattle.std.proofs.boxed.Box.from_raw.Met.{met}
use Rattle.std.proofs.impls.GlobalAllocator.TheImpl.Met as heap_met
use Rattle.std.specs.contracts.impls.GlobalAllocator.TheImpl as heap
use Rattle.std.specs.Prelude.{◌≢◌, Option, Some, None}
use Rattle.alog_ffi.specs.Slots.{held_at}
use Rattle.alog_ffi.specs.declared.slot.Slot.{Slot}
use Rattle.alog_ffi.proofs.Boxed.{P, R, Z, B, T, A, LT, LA, no_drop, no_glue, E}
use Rattle.alog_ffi.specs.contracts.slot.Slot.take as f
use Rattle.alog_ffi.proofs.slot.Slot.take.Statement.{statement}
use Rattle.alog_ffi.proofs.slot.Slot.take.Code as code
use Rattle.alog_ffi.specs.contracts.slot.Slot.{the_row as S, the_type as Held}
use Rattle.alog_ffi.proofs.slot.Slot.TheLaws.{lowers}

there : {X : Type 0} (o : Option X) → o ≢ None → (x : X) × (o ≡ Some x)
there None full = absurd (full refl)
there (Some x) full = (x, refl)

abbrev hs : Stays f.ended.signature.params f.ended.kept
hs = (stay_ref (0 ∷ []) tt (plain (λ _. S)), (stay_dropped (plain (λ _. Z)) yes, tt))

pub take_spec : {M : Type 1} → statement M
take_spec {M} 𝓤 𝓛 𝓜 𝓡 wired =
    let H = 𝓛.H in let 𝓣 = tables 𝓤 H 𝓜 𝓡 𝓡.env in let c = f.clauses 𝓛 𝓜.mem 𝓡.returns in let fn = code.function in
    proved_at 𝓛 f.ended hs c 𝓜 𝓡 (Goes-ref 𝓛 1 0 tt (plain (λ _. S)), (Goes-dropped 𝓛 1 (plain (λ _. Z)) yes (λ κs x f. refl), tt)) f.Key.name fn (code.unfolded 𝓤 H 𝓜 𝓡 wired) (λ z are.
    let κs = z.0.0 in let κ = κs.0 in let q = z.0.1.0 in let self = z.0.3.0 in let a = z.0.3.1.0 in let at = self.ref_ptr in let h = self.now in let vs = z.0.4.0 in let ws = z.0.4.1.0 in
    let Post : Val → SProp 𝓤 = (walk_of 𝓛 f.ended hs c).post z in let Run : List Val → List Val → SProp 𝓤 = λ us xs. WpFn 𝓤 H 𝓣.C 𝓣.Λ fn (us ++ (xs ++ [])) Post in
    qed 𝓛 (((‵ (flft κ q) ⊛ ‵ ftrue) ⊛ ‵ (owns (types_at f.ended.signature.params κs) z.0.3 z.0.4)) ∷ raw (fact 𝓤 (h.part ≢ None)) ∷ []) ∵
    split ! $ move ! (1 ∷ []) $ fsplit ! $ fsplit3 ! $ feq_l ! (λ us. move ! (2 ∷ []) $ fsplit ! $ handle_tells E.al ! a ws (λ hv xs fits. move ! (5 ∷ []) $ heard ! (h.part ≢ None) (λ full.
    -- [the handle; nothing; two parts of self; the token]
    let x = (there h.part full).0 in let m : R.Denot = record { value = x } in
    suffices ! (Run (vptr at.0 at.1 ∷ []) (hv ∷ [])) (subst (λ (ps : List Val). ent 𝓤 (Run (vptr at.0 at.1 ∷ []) (hv ∷ [])) (Run ps ws)) (sym us) (subst (λ (ps : List Val). ent 𝓤 (Run (vptr at.0 at.1 ∷ []) (hv ∷ [])) (Run (vptr at.0 at.1 ∷ []) ps)) (sym xs) (id⊢ 𝓤 _))) $
    enter ! 𝓣.C 𝓣.Λ fn (vptr at.0 at.1 ∷ hv ∷ []) Post $ alloc_all ! (λ l. pass_all ! refl ((tt, tt), (fits, tt)) $
    move ! (4 ∷ []) $ split ! $ move ! (4 ∷ 5 ∷ 0 ∷ []) $ opens ! tt S at.0 at.1 (λ cs. move ! (1 ∷ []) $ peeks ! S _ (shows 𝓛 S) h cs (λ is. fsplit ! $ drop ! $
    -- [what it owned; self's cell; the open borrow, in three entries; nothing; the handle; nothing]
    rewrite ! 0 (λ (p : Option P.Denot). ‵ (held_at P h.at p)) (there h.part full).1 refl $
    in_a_block ! h.at (λ p. box_owns (heap.ghosts.dealloc_token the_heap) R p m) (fst∗ 𝓤 (never 𝓤) (sem 𝓛 (heap.ghosts.dealloc_token the_heap (bare (layout R)) null_ptr))) (λ b o e.
    let Cell = λ (ps : List Val). ‵ (cell_at full_share S.mir ps at.0 at.1) in let W : Val = vstruct (vcons (vptr b o) vnil) in let h' : Slot = record { at = block_ptr b o; part = None } in
    rewrite ! 1 Cell (lowers.val_is h cs is ∙ ap (λ (p : Ptr). lowers.lowered (record h { at = p }) ∷ []) e) refl $
    first ! $ blocks ! $ sets ! (of_opd ! (load ! (through ! refl (fld ! refl (stop !))) (look_in ! 1 (sub ! 0 refl (whole !))))) refl (tt, tt) $ sets ! (of_opd ! (get ! refl)) refl (tt, tt) $
    -- self is closed, with nothing in it
    move ! (1 ∷ []) $ nothing ! $ nothing ! $ feq_i ! (List Val) (vptr b o ∷ []) (vptr b o ∷ []) refl $ fjoin ! $ feq_i ! (List Val) (W ∷ []) (W ∷ []) refl $ fjoin ! $
    fpack ! (Valss (RawPtr ∷ [])) (within (shape Held) (block_ptr b o, tt) (W ∷ [])) (vptr b o ∷ [], tt) $ nothing ! $ move ! (1 ∷ 0 ∷ []) $ fjoin ! $ move ! (2 ∷ 0 ∷ 4 ∷ 5 ∷ 6 ∷ []) $ closes ! tt S h' (W ∷ []) at.0 at.1 $
    -- from_raw's requires: [two parts of self; the token; nothing; what it owned; nothing; the handle; nothing]
    let k = triple_of 𝓛 (callee.signature T A heap.ghosts heap.dict (no_drop A)) (callee.spec T A heap.ghosts heap.dict (no_drop A) 𝓛 𝓜.mem 𝓡.returns) in
    let y : k.Ghost = (((κ, (κ, tt)), (Share.left q, (Share.right q, tt)), tt, (a, (block_ptr b o, tt)), (hv ∷ [], (vptr b o ∷ [], tt))), m) in
    move ! (2 ∷ []) $ use1 𝓛 (‵ (flft κ (Share.left q)) ⊛ ‵ (flft κ (Share.right q))) (𝓛.lfts.lft_split κ q) $ split ! $ nothing ! $ move ! (2 ∷ 0 ∷ []) $ join ! $ move ! (1 ∷ 0 ∷ []) $ join ! $
    nothing ! $ feq_i ! (List Val) (vptr b o ∷ []) (vptr b o ∷ []) refl $ fjoin ! $ move ! (7 ∷ 0 ∷ []) $ fjoin ! $ move ! (1 ∷ 0 ∷ []) $ join ! $
    move ! (4 ∷ []) $ use0 𝓛 (raw (fact 𝓤 (κ ⊑ A.lives))) (fact_i 𝓤 (κ ⊑ A.lives) (emp 𝓤) (⊑_static κ)) $ join ! $ use0 𝓛 (raw (fact 𝓤 (κ ⊑ T.lives))) (fact_i 𝓤 (κ ⊑ T.lives) (emp 𝓤) (⊑_static κ)) $ join ! $
    move ! (1 ∷ 0 ∷ []) $ join ! $ use1 𝓛 (raw (k.pre y)) (id⊢ 𝓤 _) $
    calls_at_last ! (framed 𝓤 H 𝓜 𝓣) k (met 𝓤 𝓛 𝓜 𝓡 (code.calls-std_alloc::boxed::Box::from_raw 𝓡.env wired) T A LT LA heap.ghosts heap.dict (no_drop A)
    (heap_met.passed 𝓡.env (code.calls-std_heap::GlobalAllocator::allocate 𝓡.env wired) (code.calls-std_heap::GlobalAllocator::deallocate 𝓡.env wired) (code.calls-std_heap::GlobalAllocator::grow 𝓡.env wired) (code.calls-std_heap::GlobalAllocator::shrink 𝓡.env wired) M 𝓤 𝓛 𝓜 𝓡)
    (no_glue 𝓡.env (code.calls-alog_ffi::Destruct++none::drop 𝓡.env wired) A LA M 𝓤 𝓛 𝓜 𝓡)) y (and_then ! (get ! refl) (and_then ! (get ! refl) (no_more !))) (λ u.
    use1 𝓛 (later (some (λ (r : B.Denot). ((‵ (flft κ (Share.left q)) ⊛ ‵ (flft κ (Share.right q)) ⊛ ‵ ftrue) ⊛ ‵ (B.own_val r (u ∷ [])))
    ⊛ some (λ (_ : Unit {0} × (Unit {0} × Unit {0})). ‵ (fsep ftrue (fsep ftrue ftrue)) ⊛ (raw (fact 𝓤 (r.value ≡ m)) ⊛ raw (fact 𝓤 (r.alloc ≡ a))))))) (id⊢ 𝓤 _) $
    await ! tt $ pick ! (λ r. split ! $ move ! (1 ∷ []) $ pick ! (λ _. split3 ! $ drop ! $ heard ! (r.value ≡ m) (λ same. drop ! $
    -- [the tokens and the box; two parts of self; ..]
    split ! $ move ! (1 ∷ []) $ box_out E ! r (u ∷ []) (λ b' o' hw e' wu fw. box_in E ! r b' o' r.value e' refl $ rewrite ! 0 (λ (ps : List Val). ‵ (B.own_val r ps)) (sym wu) refl $
    let good : True (has_ty (box.box_ty E) u) × WT u = subst (λ (s : Val). True (has_ty (box.box_ty E) s) × WT s) (sym (ap only wu)) (box.box_typed E hw b' o' fw) in
    lands_last ! refl good $ exec ! 𝓣.C 𝓣.Λ (env fn.locals l) code.Mir.t-2 (at_ret (env fn.locals l) Post) $ sets ! (of_opd ! (get ! refl)) refl good $ returns ! (look_at ! 0 refl) $ free_all ! refl $
    suffices ! _ (ends_at 𝓛 f.ended hs c z u r (h', (tt, tt)) (tt, (tt, tt))) $ says_two ! ((there h.part full).1 ∙ ap (λ (w : R.Denot). Some w.value) (sym same), refl) $
    move ! (1 ∷ []) $ split3 ! $ use2 𝓛 (‵ (flft κ q)) (𝓛.lfts.lft_join κ q) $ move ! (3 ∷ 4 ∷ []) $
    feq_i ! (List Val) vs (vptr at.0 at.1 ∷ []) us $ group ! 3 $ nothing ! $ nothing ! $ join ! $ move ! (1 ∷ 0 ∷ []) $ join ! $ move ! (1 ∷ 2 ∷ []) $ join ! $ frame ! $ frame ! $ keep ! (0 ∷ []) $ done !)))))))))))))
