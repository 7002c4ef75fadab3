-- The names that the walks cite.
pub use Rattle.std.proofs.Common.{◌≡◌, ℕ, List, [], ◌∷◌, ◌++◌, refl, sym, ap, subst, ◌∙◌}
pub use Rattle.std.proofs.raw_atomic.Walks.{proved_at}
pub use Rattle.std.specs.Box.Ownership.{box_owns}
pub use Rattle.std.proofs.alloc.Calls.{Goes-blank}
pub use base.Fraction.{full_share}
pub use base.Share
pub use base.Logic.{SProp, id⊢, ent, emp, never, fst∗}
pub use base.Fml.{ftrue, fsep, feq, flft}
pub use mir.Val.{Val, vunit, vptr, vstruct, vcons, vnil}
pub use mir.Raw.{raw as bare}
pub use prog.Wp.{WpFn}
pub use contract.BorrowLft.{◌⊑◌, ⊑_static}
pub use contract.Monad.{fact, fact_i}
pub use contract.Running.{tables}
pub use types.Logic.{Logic, sem}
pub use types.Kit.{Item, ‵, raw, ◌⊛◌, some, later, at_ret, ◌$◌, ◌∵◌, !, qed, done, by, move, keep, drop, use0, use1, use2, split, split3, join, fsplit, fsplit3, fjoin, fpick, fpack, feq_i, feq_l, pick, await, rewrite, suffices, frame, group}
pub use types.Run.{enter, of_opd, unit_lit, stop, fld, no_more, and_then, assigns, first, blocks, exec, returns, load}
pub use types.ByLocal.{alloc_all, pass_all, free_all, look_at, get, through, sets, lands_as, lands_last, env}
pub use types.Part.{whole, sub, look_in, store_in}
pub use denote.Builtin.{unit}
pub use denote.Exit.{yes, no}
pub use denote.Laws.{shows, Is}
pub use denote.Memory.{cell_at}
pub use denote.Param.{arg, param, layout}
pub use denote.Param.Laws.{Laws, arg_laws}
pub use denote.RattleType.{RattleType, owns, Valss}
pub use denote.RawPtr.{Ptr, RawPtr, block_ptr, null_ptr, ptr_val, in_a_block}
pub use denote.Signature.{types_at, plain}
pub use denote.Steps.{nothing, opens, closes, heard, peeks, only}
pub use denote.Struct.Struct.{within}
pub use denote.Struct.Owning.{shape}
pub use denote.Triple.Call.{calls_at, calls_at_last}
pub use denote.Triple.Clauses.{Lasts, lasts}
pub use denote.Triple.Spec.{triple_of}
pub use denote.Triple.Table.{framed}
pub use denote.Triple.Walked.{Stays, walk_of, says, stay_dropped, Goes-dropped, stay_ref, Goes-ref, ends_at}
