-- A vector of bytes is its bytes and the rest of it. Assumes `Logic`.
--     parted     the bytes are taken out
--     joined    others of their number are put in
use Rattle.std.proofs.Common.{◌≡◌, ℕ, ◌<◌, List, [], ◌∷◌, Bool, length, true, false, refl, sym, arith}
use Rattle.std.proofs.lemmas.Bool.{ne_eqb, not_from_false}
use Rattle.std.proofs.lemmas.List.{with_items_is}
use seplogic.Ra.Ura.{Ura}
use mir.Val.{Val}
use base.Fraction.{full_share}
use base.Logic.{ent, sep, never, id⊢}
use base.Fml.{Fml, fsep, feq}
use types.Logic.{Logic, sem}
use types.Kit.{‵, ⋆, ◌$◌, ◌∵◌, !, qed, move, drop, frame, show, use2, fsplit, fjoin, feq_i, rewrite, done}
use denote.Builtin.{u8}
use denote.Array.{Array}
use denote.Param.Laws.{Laws}
use denote.RawPtr.{Ptr, block_ptr, lies_at, in_block, in_a_block}
use denote.Steps.{nothing}
use Rattle.std.specs.Allocator.{block_with_items}
use Rattle.std.specs.Vec.{with_items}
use Rattle.std.specs.contracts.alloc.Global as Global
use Rattle.std.specs.contracts.impls.GlobalAllocator.TheImpl.{ghosts}
use Rattle.std.specs.Vec.Ownership.{owns_if, has_block}
use Rattle.alog_format.specs.Ownership.{V, Words, words_of, bytes_own, room_own, rest_own}
use Rattle.alog_format.specs.contracts.block.Deed as Deed
use Rattle.std.proofs.vec.Vec.TheLaws as vec_laws
use Rattle.std.proofs.alloc.Global.TheLaws as global_laws
use Rattle.alog_format.proofs.Steps.{Fields, as_struct, wraps, unwraps, byte_laws}

abbrev pub V-laws : Laws V
V-laws = vec_laws.the_row_laws u8 Global.the_row ghosts byte_laws global_laws.the_row_laws

module _ {M : Type 1} {𝓤 : Ura M} (𝓛 : Logic 𝓤) (v : V.Denot) where
  -- the block where it has these bytes
  abbrev Whole : Ptr → List ℕ → Fml
  Whole p xs = block_with_items (ghosts.dealloc_token v.alloc) u8 p v.len v.cap xs

  pub parted : (u : Val) → 0 < v.len
      → ent 𝓤 (sem 𝓛 (V.own_val v (u ∷ []))) (sep 𝓤 (sem 𝓛 (bytes_own v.ptr v.items)) (sem 𝓛 (Deed.the_own (record {
        start = v.ptr;
        len = v.len;
      }) (as_struct (V ∷ []) (u ∷ [], tt)))))
  parted u some =
      let live : has_block v.cap ≡ true = not_from_false _ (ne_eqb v.cap 0 (λ e. omega (arith, v.ok.1))) in
      qed 𝓛 (‵ (V.own_val v (u ∷ [])) ∷ []) ∵ fsplit ! $ move ! (1 ∷ []) $ fsplit ! $ move ! (1 ∷ []) $
      in_a_block ! v.ptr (λ p. in_block p (owns_if (has_block v.cap) (Whole p v.items))) (id⊢ 𝓤 (never 𝓤)) (λ b o at.
      rewrite ! 0 (λ y. ‵ (owns_if y (Whole (block_ptr b o) v.items))) live refl $
      rewrite ! 0 (λ p. ‵ (Whole p v.items)) (sym at) refl $ fsplit ! $
      rewrite ! 0 (λ n. ‵ (lies_at (Array u8 n) full_share v.ptr v.items)) v.ok.0 refl $ frame ! $
      -- [the room and the right; the bound; the words]
      rewrite ! 0 (λ y. ‵ (owns_if y (room_own v))) (sym live) refl $
      rewrite ! 0 (λ p. ‵ (in_block p (owns_if (has_block v.cap) (room_own v)))) (sym at) refl $
      move ! (1 ∷ 0 ∷ []) $ fjoin ! $ move ! (1 ∷ 0 ∷ []) $
      nothing ! $ move ! (1 ∷ 0 ∷ []) $ fjoin ! $
      wraps ! (Words ∷ []) (words_of v, tt) (as_struct (V ∷ []) (u ∷ [], tt)) (u ∷ [], tt) refl $ fjoin ! $
      show ! (λ i. sem 𝓛 (fsep (feq ℕ i.vec.len v.len) (fsep (feq Ptr i.vec.ptr v.ptr) (rest_own i.vec (as_struct (V ∷ []) (
        u ∷ [],
        tt,
      )))))) (record { vec = v }) $
      feq_i ! Ptr v.ptr v.ptr refl $ fjoin ! $ feq_i ! ℕ v.len v.len refl $ fjoin ! $ done !)

  -- the bytes go back into the block, where there is one
  put_back : (y : Bool) (xs : List ℕ)
      → ent 𝓤 (⋆ 𝓛 (‵ (lies_at (Array u8 v.len) full_share v.ptr xs) ∷ ‵ (owns_if y (room_own v)) ∷ [])) (⋆ 𝓛
      (‵ (owns_if y (Whole v.ptr xs)) ∷ []))
  put_back true xs =
      qed 𝓛 (‵ (lies_at (Array u8 v.len) full_share v.ptr xs) ∷ ‵ (room_own v) ∷ []) ∵ fjoin ! $ done !
  put_back false xs =
      qed 𝓛 (‵ (lies_at (Array u8 v.len) full_share v.ptr xs) ∷ ‵ (owns_if false (room_own v)) ∷ []) ∵ drop ! $ done !

  pub joined : (xs : List ℕ) (vs : List Val) → length xs ≡ v.len
      → ent 𝓤 (⋆ 𝓛 (‵ (bytes_own v.ptr xs) ∷ ‵ (rest_own v vs) ∷ [])) (⋆ 𝓛 (‵ ((Fields (V ∷ [])).own_val (with_items v xs, tt) vs) ∷ []))
  joined xs vs long =
      let zs = (with_items v xs).items in
      qed 𝓛 (‵ (bytes_own v.ptr xs) ∷ ‵ (rest_own v vs) ∷ []) ∵
      rewrite ! 0 (λ n. ‵ (lies_at (Array u8 n) full_share v.ptr xs)) long refl $
      rewrite ! 0 (λ ys. ‵ (lies_at (Array u8 v.len) full_share v.ptr ys)) (sym (with_items_is v xs long)) refl $
      move ! (1 ∷ []) $ fsplit ! $ unwraps ! (Words ∷ []) (words_of v, tt) vs (λ vss is. fsplit ! $ move ! (1 ∷ []) $ drop ! $
      -- [the words; the bound and the room; the bytes]
      move ! (1 ∷ []) $ fsplit ! $ move ! (1 ∷ []) $
      in_a_block ! v.ptr (λ p. in_block p (owns_if (has_block v.cap) (room_own v))) (id⊢ 𝓤 (never 𝓤)) (λ b o at.
      move ! (3 ∷ 0 ∷ []) $ use2 𝓛 (‵ (owns_if (has_block v.cap) (Whole v.ptr zs))) (put_back (has_block v.cap) zs) $
      rewrite ! 0 (λ p. ‵ (owns_if (has_block v.cap) (Whole p zs))) at refl $
      rewrite ! 0 (λ p. ‵ (in_block p (owns_if (has_block v.cap) (Whole p zs)))) (sym at) refl $
      move ! (1 ∷ 0 ∷ []) $ fjoin ! $ move ! (1 ∷ 0 ∷ []) $ fjoin ! $
      nothing ! $ move ! (1 ∷ 0 ∷ []) $ fjoin ! $ wraps ! (V ∷ []) (with_items v xs, tt) vs vss is $ done !))
