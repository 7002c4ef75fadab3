-- `as_slice` shows the first bytes that a `&` to the bytes lends. Assumes `Logic`.
use Rattle.std.proofs.Common.{◌≡◌, ◌*◌, ◌^◌, ◌≤◌, List, [], ◌∷◌, ◌++◌, length, take, refl, sym, ap, ◌∙◌, arith, length-take-le}
use mir.Val.{Val, vptr}
use base.Fml.{Lft}
use prog.Wp.{WpFn}
use contract.Monad.{fact}
use contract.Running.{tables}
use types.Kit.{‵, raw, ◌⊛◌, prop, ◌$◌, ◌∵◌, !, qed, move, drop, use1, split, fsplit, fjoin, feq_l, feq_i, flt_l, flt_i, regoal, suffices}
use types.Kit.{done, at_ret}
use types.Part.{agg}
use types.Run.{enter, returns, of_opd, and_then, no_more, first, blocks, exec}
use types.ByLocal.{alloc_all, pass_all, free_all, look_at, get, sets, sets_last, env}
use denote.Builtin.{u8, RefOf, RawPtr, usize}
use denote.Exit.{yes}
use denote.Opens.{unhide, hide}
use denote.RattleType.{owns}
use denote.RawPtr.{Ptr, ptr_val, in_a_block}
use denote.Signature.{plain, types_at}
use denote.Slice.{slice_val, elements_shared}
use denote.Steps.{nothing, heard}
use denote.Triple.Entry.{alive}
use denote.Triple.Walked.{says, Stays, stay_dropped, Goes-dropped, walk_of, ends_at}
use Rattle.std.proofs.raw_atomic.Walks.{proved_at}
use Rattle.alog_format.specs.Ownership.{bytes_lent}
use Rattle.alog_format.proofs.Blocks.{B}
use Rattle.alog_format.proofs.Shared.{first_shared, never_at_null}
use Rattle.alog_format.specs.contracts.block.Bytes.as_slice as f
use Rattle.alog_format.proofs.block.Bytes.as_slice.Statement.{statement}
use Rattle.alog_format.proofs.block.Bytes.as_slice.Code as code

abbrev stayed : Stays f.ended.signature.params f.ended.kept
stayed = (
  stay_dropped (RefOf (0 ∷ []) tt (plain (λ _. B)) (λ _. tt)) yes,
  (
    stay_dropped (plain (λ _. RawPtr)) yes,
    (stay_dropped (plain (λ _. usize)) yes, tt),
  ),
)

pub as_slice_spec : {M : Type 1} → statement M
as_slice_spec 𝓤 𝓛 𝓜 𝓡 wired =
    let c = f.clauses 𝓛 𝓜.mem 𝓡.returns in let W = walk_of 𝓛 f.ended stayed c in let 𝓣 = tables 𝓤 𝓛.H 𝓜 𝓡 𝓡.env in
    proved_at 𝓛 f.ended stayed c 𝓜 𝓡 (
      Goes-dropped 𝓛 1 (RefOf (0 ∷ []) tt (plain (λ _. B)) (λ _. tt)) yes (λ κs x w. refl),
      (Goes-dropped 𝓛 1 (plain (λ _. RawPtr)) yes (λ κs x w. refl), (Goes-dropped 𝓛 1 (plain (λ _. usize)) yes (λ κs x w. refl), tt)),
    )
    f.Key.name code.function (code.unfolded 𝓤 𝓛.H 𝓜 𝓡 wired)
    (λ y are.
    let κ : Lft = y.0.0.0 in let vss = y.0.4 in let Post = W.post y in
    let r = y.0.3.0.ref_ptr in let d = y.0.3.0.now in let p = y.0.3.1.0 in let n = y.0.3.1.1.0 in let ys = take n d.items in
    qed 𝓛 ((raw (alive 𝓛 f.signature y.0.0 y.0.1) ⊛ ‵ (owns (types_at f.signature.params y.0.0) y.0.3 vss)) ∷
    (raw (fact 𝓤 (p ≡ d.start)) ⊛ raw (fact 𝓤 (n ≤ length d.items))) ∷ []) ∵
    move ! (1 ∷ []) $ split ! $ heard ! (p ≡ d.start) (λ same. heard ! (n ≤ length d.items) (λ within. split ! $ move ! (1 ∷ []) $
    let long : length ys ≡ n = length-take-le n d.items within in
    fsplit ! $ fsplit ! $ feq_l ! (λ is₀. unhide ! $ fsplit ! $ drop ! $
    in_a_block ! d.start (λ (z : Ptr). bytes_lent z d.items κ) (never_at_null 𝓛 0 κ d.items) (λ b o e. fsplit ! $ drop ! $ fsplit ! $
    drop ! $
    -- [the lent bytes; the other parameters; the tokens]
    move ! (1 ∷ []) $ fsplit ! $ feq_l ! (λ is₁. fsplit ! $ fsplit ! $ feq_l ! (λ is₂. flt_l ! (λ fits. drop ! $
    regoal ! (λ (us : List Val). prop (WpFn 𝓤 𝓛.H 𝓣.C 𝓣.Λ code.function (us ++ (vss.1.0 ++ (vss.1.1.0 ++ []))) Post)) is₀ refl $
    regoal ! (λ (us : List Val). prop (WpFn 𝓤 𝓛.H 𝓣.C 𝓣.Λ code.function ((vptr r.0 r.1 ∷ []) ++ (us ++ (vss.1.1.0 ++ []))) Post)) (is₁
    ∙ ap (λ (z : Ptr). ptr_val z ∷ []) (same ∙ e)) refl $
    regoal ! (λ (us : List Val). prop (WpFn 𝓤 𝓛.H 𝓣.C 𝓣.Λ code.function
    ((vptr r.0 r.1 ∷ []) ++ ((vptr b o ∷ []) ++ (us ++ []))) Post)) is₂ refl $
    enter ! _ _ _ _ _ $ alloc_all ! (λ l. pass_all ! refl ((tt, tt), ((tt, tt), ((tt, record { fits = fits }), tt))) $
    first ! $ blocks ! $
    sets_last ! (agg ! (and_then ! (get ! refl) (and_then ! (get ! refl) (no_more !)))) refl (tt, (tt, (record { fits = fits }, tt))) $
    exec ! 𝓣.C 𝓣.Λ (env code.Mir.locals l) code.Mir.t-2 (at_ret (env code.Mir.locals l) Post) $
    sets ! (of_opd ! (get ! refl)) refl (tt, (tt, (record { fits = fits }, tt))) $
    use1 𝓛 (‵ (elements_shared u8 ys b o κ)) (first_shared 𝓛 b κ n d.items o) $ hide ! $
    flt_i ! (length ys * 1) (2 ^ 63) (omega (arith, d.small)) $ flt_i ! (length ys) (2 ^ 64) (omega (arith, d.small)) $ fjoin ! $
    feq_i ! (List Val) (slice_val (b, o) n ∷ []) (slice_val (b, o) (length ys) ∷ []) (ap (λ k. slice_val (b, o) k ∷ []) (sym long)) $
    fjoin ! $ fjoin ! $
    returns ! (look_at ! 0 refl) $ free_all ! refl $
    suffices ! _ (ends_at 𝓛 f.ended stayed c y (slice_val (b, o) n) (record { ref_ptr = (b, o); now = ys }) (tt, (tt, (tt, tt))) (
      tt,
      (tt, (tt, tt)),
    )) $ says ! refl $
    nothing ! $ nothing ! $ fjoin ! $ nothing ! $ fjoin ! $ nothing ! $ fjoin ! $ move ! (2 ∷ 0 ∷ 1 ∷ []) $ done !)))))))))
