-- `part` takes the bytes out, and leaves the rest of the vector. Assumes `Logic`.
use Rattle.std.proofs.Common.{◌<◌, List, [], ◌∷◌, ◌++◌, refl, arith}
use mir.Val.{Val, vstruct, of_list}
use base.Fml.{ftrue}
use prog.Wp.{WpFn}
use contract.Monad.{fact}
use contract.Running.{tables}
use types.Kit.{‵, raw, ◌⊛◌, prop, ◌$◌, ◌∵◌, !, qed, move, drop, use1, split, fsplit, fjoin, fpack, regoal, suffices, done}
use types.Part.{agg}
use types.Run.{enter, returns, of_opd, and_then, no_more}
use types.ByLocal.{alloc_all, pass_all, free_all, look_at, get, sets}
use denote.Exit.{yes}
use denote.Laws.{Typed}
use denote.RattleType.{owns}
use denote.Param.{layout}
use denote.Signature.{plain}
use denote.Steps.{nothing, heard}
use denote.Struct.Struct.{as_fields}
use denote.Triple.Entry.{alive}
use denote.Triple.Walked.{says, Stays, stay_dropped, walk_of, ends_at}
use Rattle.std.proofs.alloc.Calls.{Goes-blank}
use Rattle.std.proofs.raw_atomic.Walks.{proved_at}
use Rattle.alog_format.specs.Ownership.{V, bytes_own}
use Rattle.alog_format.specs.contracts.block.Bytes as Bytes
use Rattle.alog_format.specs.contracts.block.Deed as Deed
use Rattle.alog_format.proofs.Steps.{lies, wraps}
use Rattle.alog_format.proofs.Parted.{V-laws, parted}
use Rattle.alog_format.specs.contracts.block.part as f
use Rattle.alog_format.proofs.block.part.Statement.{statement}
use Rattle.alog_format.proofs.block.part.Code as code

abbrev stayed : Stays f.ended.signature.params f.ended.kept
stayed = (stay_dropped (plain (λ _. V)) yes, tt)

pub part_spec : {M : Type 1} → statement M
part_spec 𝓤 𝓛 𝓜 𝓡 wired =
    let c = f.clauses 𝓛 𝓜.mem 𝓡.returns in let W = walk_of 𝓛 f.ended stayed c in let 𝓣 = tables 𝓤 𝓛.H 𝓜 𝓡 𝓡.env in
    proved_at 𝓛 f.ended stayed c 𝓜 𝓡 (Goes-blank 𝓛 0 (plain (λ _. V)) yes (λ κs x w. tt), tt)
    f.Key.name code.function (code.unfolded 𝓤 𝓛.H 𝓜 𝓡 wired)
    (λ y are.
    let v = y.0.3.0 in let vss = y.0.4 in let Post = W.post y in
    let bytes : Bytes.the_row.Denot = record { start = v.ptr; items = v.items; small = omega (arith, v.ok.0, v.ok.1, v.small) } in
    let deed : Deed.the_row.Denot = record { start = v.ptr; len = v.len } in
    qed 𝓛 ((raw (alive 𝓛 f.signature y.0.0 y.0.1) ⊛ ‵ (owns (V ∷ []) y.0.3 vss)) ∷ raw (fact 𝓤 (0 < v.len)) ∷ []) ∵
    move ! (1 ∷ []) $ heard ! (0 < v.len) (λ some. split ! $ move ! (1 ∷ []) $ fsplit ! $
    lies ! V V-laws v vss.0 (λ u is good. move ! (1 ∷ []) $ drop ! $
    let none : Val = vstruct (of_list []) in let shell : Val = vstruct (of_list (u ∷ [])) in
    let made : Val = vstruct (of_list (none ∷ shell ∷ [])) in
    let inner = as_fields (layout V ∷ []) (u ∷ []) (good, tt) in
    use1 𝓛 (‵ (bytes_own v.ptr v.items) ⊛ ‵ (Deed.the_own deed (shell ∷ []))) (parted 𝓛 v u some) $ split ! $
    nothing ! $ wraps ! [] tt (none ∷ []) tt refl $ fjoin ! $ move ! (1 ∷ []) $ nothing ! $
    fpack ! (Typed Deed.the_row.mir (shell ∷ [])) (λ _. ftrue) (inner, tt) $ fjoin ! $ move ! (1 ∷ 0 ∷ []) $
    nothing ! $ move ! (2 ∷ 0 ∷ []) $ fjoin ! $ move ! (1 ∷ 0 ∷ []) $ fjoin ! $
    wraps ! (Bytes.the_row ∷ Deed.the_row ∷ []) (bytes, (deed, tt)) (made ∷ []) (none ∷ [], (shell ∷ [], tt)) refl $
    regoal ! (λ (us : List Val). prop (WpFn 𝓤 𝓛.H 𝓣.C 𝓣.Λ code.function (us ++ []) Post)) is refl $
    enter ! _ _ _ _ _ $ alloc_all ! (λ l. pass_all ! refl (good, tt) $
    sets ! (agg ! (no_more !)) refl (tt, tt) $
    sets ! (of_opd ! (get ! refl)) refl good $
    sets ! (agg ! (and_then ! (get ! refl) (no_more !))) refl inner $
    sets ! (agg ! (and_then ! (get ! refl) (and_then ! (get ! refl) (no_more !)))) refl (as_fields
    (layout Bytes.the_row ∷ layout Deed.the_row ∷ []) (none ∷ shell ∷ []) ((tt, tt), (inner, tt))) $
    returns ! (look_at ! 0 refl) $ free_all ! refl $
    suffices ! _ (ends_at 𝓛 f.ended stayed c y made (bytes, deed) (tt, tt) (tt, tt)) $ says ! (refl, refl, refl, refl) $
    nothing ! $ nothing ! $ fjoin ! $ move ! (2 ∷ 0 ∷ 1 ∷ []) $ done !))))
