-- `reunite` puts the bytes back into the rest of the vector. Assumes `Logic`.
use Rattle.std.proofs.Common.{◌≡◌, List, [], ◌∷◌, ◌++◌, length, refl, sym, ◌∙◌, subst}
use mir.Val.{Val}
use prog.Wp.{WpFn}
use contract.Monad.{fact}
use contract.Running.{tables}
use types.Kit.{‵, raw, ◌⊛◌, prop, ◌$◌, ◌∵◌, !, qed, move, drop, use2, split, fsplit, fjoin, fpick, feq_l, regoal, rewrite, suffices, done}
use types.Part.{sub, whole}
use types.Run.{enter, returns, of_opd, fld, stop}
use types.ByLocal.{alloc_all, pass_all, free_all, look_at, get, get_in, sets}
use denote.Exit.{yes}
use denote.Laws.{Typed}
use denote.RattleType.{owns}
use denote.Signature.{plain}
use denote.Steps.{nothing, heard}
use denote.Triple.Entry.{alive}
use denote.Triple.Walked.{says, Stays, stay_dropped, walk_of, ends_at}
use Rattle.std.proofs.alloc.Calls.{Goes-blank}
use Rattle.std.proofs.lemmas.List.{with_items_is}
use Rattle.std.proofs.raw_atomic.Walks.{proved_at}
use Rattle.std.specs.Vec.{with_items}
use Rattle.alog_format.specs.Ownership.{V, bytes_own}
use Rattle.alog_format.specs.contracts.block.Bytes as Bytes
use Rattle.alog_format.specs.contracts.block.Deed as Deed
use Rattle.alog_format.proofs.Steps.{Fields, as_struct, lies, unwraps}
use Rattle.alog_format.proofs.Parted.{V-laws, joined}
use Rattle.alog_format.specs.contracts.block.reunite as f
use Rattle.alog_format.proofs.block.reunite.Statement.{statement}
use Rattle.alog_format.proofs.block.reunite.Code as code

abbrev stayed : Stays f.ended.signature.params f.ended.kept
stayed = (stay_dropped (plain (λ _. Bytes.the_row)) yes, (stay_dropped (plain (λ _. Deed.the_row)) yes, tt))

pub reunite_spec : {M : Type 1} → statement M
reunite_spec 𝓤 𝓛 𝓜 𝓡 wired =
    let c = f.clauses 𝓛 𝓜.mem 𝓡.returns in let W = walk_of 𝓛 f.ended stayed c in let 𝓣 = tables 𝓤 𝓛.H 𝓜 𝓡 𝓡.env in
    proved_at 𝓛 f.ended stayed c 𝓜 𝓡 (
      Goes-blank 𝓛 0 (plain (λ _. Bytes.the_row)) yes (λ κs x w. tt),
      (Goes-blank 𝓛 0 (plain (λ _. Deed.the_row)) yes (λ κs x w. tt), tt),
    )
    f.Key.name code.function (code.unfolded 𝓤 𝓛.H 𝓜 𝓡 wired)
    (λ y are.
    let vss = y.0.4 in let Post = W.post y in
    let xs = y.0.3.0.items in let deed = y.0.3.1.0 in
    let Asked = (y.0.3.0.start ≡ deed.start) × (length xs ≡ deed.len) in
    qed 𝓛 ((raw (alive 𝓛 f.signature y.0.0 y.0.1) ⊛ ‵ (owns (Bytes.the_row ∷ Deed.the_row ∷ []) y.0.3 vss)) ∷ raw (fact 𝓤 Asked) ∷ []) ∵
    move ! (1 ∷ []) $ heard ! Asked (λ asked. split ! $ move ! (1 ∷ []) $
    fsplit ! $ fsplit ! $ unwraps ! [] tt vss.0 (λ none is₀. drop ! $ move ! (1 ∷ []) $ fsplit ! $ fsplit ! $ fpick ! (λ typed. drop ! $
    fpick ! (λ v. fsplit ! $ feq_l ! (λ len. fsplit ! $ feq_l ! (λ place.
    -- [the rest of the vector; nothing; the bytes; the tokens]
    move ! (2 ∷ 0 ∷ []) $ rewrite ! 0 (λ p. ‵ (bytes_own p xs)) (asked.0 ∙ sym place) refl $
    use2 𝓛 (‵ ((Fields (V ∷ [])).own_val (with_items v.vec xs, tt) vss.1.0)) (joined 𝓛 v.vec xs vss.1.0 (asked.1 ∙ sym len)) $
    unwraps ! (V ∷ []) (with_items v.vec xs, tt) vss.1.0 (λ wss is. fsplit ! $ move ! (1 ∷ []) $ drop ! $
    lies ! V V-laws (with_items v.vec xs) wss.0 (λ u is_u good. move ! (1 ∷ []) $ drop ! $
    let is₁ : vss.1.0 ≡ as_struct (V ∷ []) (u ∷ [], tt) = rw is_u at is in
    regoal ! (λ (us : List Val). prop (WpFn 𝓤 𝓛.H 𝓣.C 𝓣.Λ code.function (us ++ (vss.1.0 ++ [])) Post)) is₀ refl $
    regoal ! (λ (us : List Val). prop (WpFn 𝓤 𝓛.H 𝓣.C 𝓣.Λ code.function (as_struct [] tt ++ (us ++ [])) Post)) is₁ refl $
    enter ! _ _ _ _ _ $ alloc_all ! (λ l. pass_all ! refl ((tt, tt), ((subst (Typed Deed.the_row.mir) is₁ typed).0, tt)) $
    sets ! (of_opd ! (get_in ! (fld ! refl (stop !)) (sub ! 0 refl (whole !)))) refl good $
    sets ! (of_opd ! (get ! refl)) refl good $
    returns ! (look_at ! 0 refl) $ free_all ! refl $
    suffices ! _ (ends_at 𝓛 f.ended stayed c y u (with_items v.vec xs) (tt, (tt, tt)) (tt, (tt, tt))) $
    says ! (with_items_is v.vec xs (asked.1 ∙ sym len)) $
    nothing ! $ nothing ! $ fjoin ! $ nothing ! $ fjoin ! $ move ! (2 ∷ 0 ∷ 1 ∷ []) $ done !))))))))))
