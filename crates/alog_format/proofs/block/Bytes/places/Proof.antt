-- `places` lends a run of the bytes, and the block follows it. Assumes `Logic`.
use Rattle.std.proofs.Common.{◌≡◌, ℕ, zero, ◌+◌, ◌^◌, ◌<◌, ◌≤◌, ◌*◌, List, [], ◌∷◌, length, take, drop, sym, refl, ◌∙◌, arith, w64, MutBor}
use seplogic.Ra.Ura.{Ura}
use base.Fraction.{full_share}
use base.Logic.{SProp, ent, sep}
use base.Fml.{Lft, GName, Share, Fml, ftrue, fsep, fat, flft}
use mir.Syntax.{ty_ptr, named}
use mir.Val.{Val, vint, vptr}
use prog.Memory.{Memory}
use prog.Routine.{Routine}
use prog.Wp.{Env, WpFn, Tables}
use contract.Monad.{Fun, fact}
use contract.Running.{tables, tables_of}
use types.Logic.{Logic, sem}
use types.Kit.{‵, raw, ◌⊛◌, later, some, at_ret, ◌$◌, ◌∵◌, !, qed, by, move, keep, group, use1, use2, await, pick, split, join, fsplit, fsplit3, fjoin, fjoin3}
use types.Kit.{rewrite, suffices, frame, done}
use types.Part.{agg}
use types.Run.{of_opd, bin, and_then, no_more, first, blocks, exec, returns, enter}
use types.ByLocal.{alloc_all, pass_all, free_all, look_at, get, sets, sets_last, env, take_at, give_at}
use types.SemTy.{cells}
use denote.Array.{Array}
use denote.Builtin.{u8, usize}
use denote.Exit.{yes, no}
use denote.Follow.{follows}
use denote.FollowSlice.{Elements, lends_Elements}
use denote.Index.{row}
use denote.Memory.{cell_at, mem}
use denote.Plain.{uint_vals, uint_Tells}
use denote.RattleType.{owns}
use denote.RawPtr.{Ptr, RawPtr, block_ptr, ptr_val, rawptr_vals, rawptr_Tells, rawptr_Lawful}
use denote.Ref.{MutRef, mut_vals, mut_Tells}
use denote.Signature.{plain, mut_ref_to}
use denote.Slice.{MutSlice, slice_val}
use denote.Steps.{nothing, heard}
use denote.Triple.Clauses.{Clauses}
use denote.Triple.Walked.{says, Stays, stay_dropped, walk_of, ends_at, Goes-dropped, Goes-spent_ref}
use Rattle.std.proofs.raw_atomic.Walks.{proved}
use Rattle.alog_format.specs.Block.{overwritten}
use Rattle.alog_format.specs.Lends.{with_bytes}
use Rattle.alog_format.proofs.Blocks.{B, opens_at, made_at}
use Rattle.alog_format.proofs.Overwrites.{ends_overwritten}
use Rattle.alog_format.proofs.Places.{Around, length-run, run_out, run_in}
use Rattle.alog_format.proofs.Steps.{Fields}
use Rattle.alog_format.specs.contracts.block.Bytes.places as spec
use Rattle.alog_format.proofs.block.Bytes.places.Statement.{statement}
use Rattle.alog_format.proofs.block.Bytes.places.Code as code

abbrev stayed : Stays (spec.ended).signature.params (spec.ended).kept
stayed = (
  stay_dropped (mut_ref_to (0 ∷ []) tt (plain (λ _. B))) no,
  (
    stay_dropped (plain (λ _. RawPtr)) yes,
    (stay_dropped (plain (λ _. usize)) yes, (stay_dropped (plain (λ _. usize)) yes, tt)),
  ),
)

module _ {M : Type 1} {𝓤 : Ura M} (𝓛 : Logic 𝓤) (at_mem : Memory → SProp 𝓤) (run_of : Routine → Fun 𝓤) where
  open 𝓛 use {H, A}

  abbrev clauses : Clauses 𝓤 spec.ended
  clauses = spec.clauses 𝓛 at_mem run_of

  -- the owner d of the bytes lies at (rb, ro), is lent for κ and named γ
  module _ (κ : Lft) (q : Share) (rb ro : ℕ) (γ : GName) (d : B.Denot) (p : Ptr) (at count : ℕ) where
    abbrev self : MutBor B.Denot
    self = record { ref_ptr = (rb, ro); ghost_name = γ; now = d }

    abbrev words : List Val × (List Val × (List Val × (List Val × Unit {0})))
    words = (mut_vals self, (rawptr_vals p, (vint w64 at ∷ [], (vint w64 count ∷ [], tt))))

    abbrev bound : (walk_of 𝓛 spec.ended stayed clauses).Ghost
    bound = (((κ, tt), (q, tt), tt, (self, (p, (at, (count, tt)))), words), tt)

    abbrev Post : Val → SProp 𝓤
    Post = (walk_of 𝓛 spec.ended stayed clauses).post bound

    -- the block where the places end as ws
    abbrev new : List ℕ → B.Denot
    new ws = with_bytes d (overwritten d.items at ws)

    abbrev Fits : Type 0
    Fits = at + count ≤ length d.items

    module _ (fits : Fits) (b o : ℕ) (e : d.start ≡ block_ptr b o) (us : List Val) where
      abbrev xs : List ℕ
      xs = take count (drop at d.items)

      abbrev lent : GName → MutBor (List ℕ)
      lent δ = record { ref_ptr = (b, at + o); ghost_name = δ; now = xs }

      -- all but the places
      abbrev Rest : Fml
      Rest = fsep (Around 𝓛 b o d.items at count fits) (fsep ((Fields []).own_val tt us) (cell_at full_share B.mir us rb ro))

      back : (ws : List ℕ) → length ws ≡ length xs
          → ent 𝓤 (sep 𝓤 (sem 𝓛 (cells (mem u8) ws b (at + o))) (sem 𝓛 Rest)) (sem 𝓛 ((mem B).own_at (new ws) rb ro))
      back ws same =
          let long : length ws ≡ count = same ∙ length-run 𝓛 b o d.items at count fits in
          let kept : (new ws).items ≡ overwritten d.items at ws = ends_overwritten d.items at ws (omega arith) in
          qed 𝓛 (‵ (cells (mem u8) ws b (at + o)) ∷ ‵ Rest ∷ []) ∵ move ! (1 ∷ []) $ fsplit3 ! $ move ! (3 ∷ 0 ∷ []) $
          use2 𝓛 (‵ (row u8 full_share (overwritten d.items at ws) b o)) (run_in 𝓛 b o d.items at count fits ws long) $
          rewrite ! 0 (λ (l : List ℕ). ‵ (row u8 full_share l b o)) (sym kept) refl $
          made_at ! (new ws) b o rb ro us e $ done !

      exits : (δ : GName) → length xs ≡ count → ent 𝓤 (sep 𝓤 (sem 𝓛 ((MutSlice (named 0) κ u8).own_val (lent δ) (slice_val (b, at + o) (length xs) ∷ [])))
          (sep 𝓤 (A.lft κ q) (sem 𝓛 (follows B (Array u8 0) γ δ new)))) (Post (slice_val (b, at + o) count))
      exits δ long =
          qed 𝓛 (‵ ((MutSlice (named 0) κ u8).own_val (lent δ) (slice_val (b, at + o) (length xs) ∷ [])) ∷ ‵ (flft κ q) ∷ ‵ (follows B (Array u8 0) γ δ new) ∷ []) ∵
          rewrite ! 0 (λ (k : ℕ). ‵ ((MutSlice (named 0) κ u8).own_val (lent δ) (slice_val (b, at + o) k ∷ []))) long refl $
          suffices ! _ (ends_at 𝓛 spec.ended stayed clauses bound (slice_val (b, at + o) count) (lent δ) (tt, (tt, (tt, (tt, tt)))) (tt, (tt, (tt, (tt, tt))))) $
          nothing ! $ nothing ! $ fjoin ! $ nothing ! $ fjoin ! $ nothing ! $ fjoin ! $ nothing ! $ fjoin ! $ join ! $ nothing ! $
          move ! (2 ∷ 0 ∷ []) $ join ! $ join ! $ frame ! $ says ! refl $ done !

    walk : (𝓣 : Tables 𝓤 H) → at < 2 ^ 64 → count < 2 ^ 64
        → ent 𝓤 ((walk_of 𝓛 spec.ended stayed clauses).pre bound) (WpFn 𝓤 H 𝓣.C 𝓣.Λ code.function
        (vptr rb ro ∷ ptr_val p ∷ vint w64 at ∷ vint w64 count ∷ []) Post)
    walk 𝓣 fa fc =
        qed 𝓛 (((‵ (flft κ q) ⊛ ‵ ftrue) ⊛ ‵ (owns (MutRef (named 0) κ B ∷ RawPtr ∷ usize ∷ usize ∷ []) (self, (p, (at, (count, tt)))) words))
        ∷ (raw (fact 𝓤 (p ≡ d.start)) ⊛ raw (fact 𝓤 Fits)) ∷ []) ∵
        move ! (1 ∷ []) $ split ! $ heard ! (p ≡ d.start) (λ place. heard ! Fits (λ fits.
        split ! $ split ! $ move ! (2 ∷ []) $ fsplit ! $ fsplit3 ! $ keep ! (1 ∷ 2 ∷ 4 ∷ []) $
        enter ! 𝓣.C 𝓣.Λ code.function (vptr rb ro ∷ ptr_val p ∷ vint w64 at ∷ vint w64 count ∷ []) _ $
        alloc_all ! (λ l. pass_all ! refl ((tt, tt), (((rawptr_Lawful 𝓛).typed p (rawptr_vals p) refl).0, ((tt, record { fits = fa }), ((tt, record { fits = fc }), tt)))) $
        let En : Env 𝓤 H = env (code.function).locals l in
        opens_at ! tt d rb ro (λ b o e us.
        let run : List ℕ = xs fits b o e us in
        let long : length run ≡ count = length-run 𝓛 b o d.items at count fits in
        let small = d.small in
        let room : (length run < 2 ^ 64) × (length run * 1 < 2 ^ 63) = (omega arith, omega arith) in
        let Others : SProp 𝓤 = sem 𝓛 (Rest fits b o e us) in
        take_at ! 2 $ rewrite ! 0 (λ (z : Ptr). ‵ (fat full_share ty_ptr (l 2) zero (ptr_val z))) (place ∙ e) refl $ give_at ! 2 $
        first ! $ blocks ! $
        sets ! (bin ! (get ! refl) (get ! refl) tt) refl (tt, tt) $
        sets_last ! (agg ! (and_then ! (get ! refl) (and_then ! (get ! refl) (no_more !)))) refl (tt, (tt, (record { fits = fc }, tt))) $
        exec ! 𝓣.C 𝓣.Λ En code.Mir.t-2 (at_ret En Post) $
        sets ! (of_opd ! (get ! refl)) refl (tt, (tt, (record { fits = fc }, tt))) $
        use1 𝓛 (‵ (cells (mem u8) run b (at + o)) ⊛ ‵ (Around 𝓛 b o d.items at count fits)) (run_out 𝓛 b o d.items at count fits) $ split ! $
        -- [the places; those around; the owner's words and cell; the open borrow, in three entries]
        move ! (1 ∷ 2 ∷ 3 ∷ []) $ fjoin3 ! $ move ! (2 ∷ 3 ∷ 4 ∷ 1 ∷ 0 ∷ []) $ group ! 5 $
        use1 𝓛 (later (some (λ (δ : GName). raw (Elements 𝓛 B u8 new (named 0) κ q rb ro b (at + o) γ run room Others (back fits b o e us) δ))))
        (lends_Elements 𝓛 B u8 new (named 0) κ q rb ro b (at + o) γ run room Others (back fits b o e us) (B.coded.code d) (B.coded.code d)) $ await ! tt $ pick ! (λ δ.
        returns ! (look_at ! 0 refl) $ free_all ! refl $ keep ! (0 ∷ []) $ by ! (exits fits b o e us δ long))))))

pub places_spec : {M : Type 1} → statement M
unfolding tables_of
places_spec 𝓤 𝓛 𝓜 𝓡 wired =
    let mem' = 𝓜.mem in let run = 𝓡.returns in
    proved 𝓛 spec.ended stayed (clauses 𝓛 mem' run) 𝓜 𝓡 (
      Goes-spent_ref 𝓛 1 (0 ∷ []) tt (plain (λ _. B)),
      (
        Goes-dropped 𝓛 1 (plain (λ _. RawPtr)) yes (λ κs x w. refl),
        (Goes-dropped 𝓛 1 (plain (λ _. usize)) yes (λ κs x w. refl), (Goes-dropped 𝓛 1 (plain (λ _. usize)) yes (λ κs x w. refl), tt)),
      ),
    )
    spec.Key.name code.function (code.unfolded 𝓤 𝓛.H 𝓜 𝓡 wired)
    (λ κs. (mut_vals, (rawptr_vals, (uint_vals w64, (uint_vals w64, tt)))))
    (λ κs. (mut_Tells (named 0) κs.0 B, (rawptr_Tells, (uint_Tells w64, (uint_Tells w64, tt)))))
    (λ κs qs bounds a g are. walk 𝓛 mem' run κs.0 qs.0 a.0.ref_ptr.0 a.0.ref_ptr.1 a.0.ghost_name a.0.now a.1.0 a.1.1.0 a.1.1.1.0
    (tables_of 𝓤 𝓛.H 𝓜 (tables 𝓤 𝓛.H 𝓜 𝓡 𝓡.env)) are.1.1.0.1 are.1.1.1.0.1)
