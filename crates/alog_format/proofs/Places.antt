-- Places of a block are taken out of its bytes, and put back with other bytes in them. Assumes `Logic`.
--     run_out, run_in     the places, and those around them
use Rattle.std.proofs.Common.{◌≡◌, ℕ, ◌+◌, ◌≤◌, List, [], ◌∷◌, ◌++◌, length, take, drop, refl, sym, ap, ◌∙◌, arith}
use Rattle.std.proofs.Common.{length-take, length-drop}
use Rattle.std.proofs.Math.ListN.{take-append-drop}
use Rattle.std.proofs.lemmas.List.{drop-drop}
use seplogic.Ra.Ura.{Ura}
use base.Fraction.{full_share}
use base.Logic.{ent, sep, emp, via, mono_r, emp∗, snd∗, assoc∗, assoc'}
use base.Fml.{Fml, fsep}
use types.Logic.{Logic, sem}
use types.Kit.{‵, ◌⊛◌, ◌$◌, ◌∵◌, !, qed, by, move, use1, use2, split, fsplit, fjoin, rewrite, done}
use types.SemTy.{cells}
use denote.Builtin.{u8}
use denote.Index.{row, place, place_byte, whole_in, whole_out}
use denote.Memory.{mem, part_at}
use Rattle.alog_format.specs.Block.{overwritten}

module _ {M : Type 1} {𝓤 : Ura M} (𝓛 : Logic 𝓤) (b : ℕ) where
  abbrev Row : List ℕ → ℕ → Fml
  Row xs o = row u8 full_share xs b o

  row_cut : (xs ys : List ℕ) (o : ℕ) → ent 𝓤 (sem 𝓛 (Row (xs ++ ys) o)) (sep 𝓤 (sem 𝓛 (Row xs o)) (sem 𝓛 (Row ys (place 1 o (length xs)))))
  row_cut [] ys o = emp∗ 𝓤 (sem 𝓛 (Row ys o))
  row_cut (x ∷ xs) ys o =
      let one = sem 𝓛 (part_at u8 full_share x b o) in
      let more = sem 𝓛 (Row xs (o + 1)) in
      let rest = sem 𝓛 (Row ys (place 1 (o + 1) (length xs))) in
      via 𝓤 (sep 𝓤 one (sep 𝓤 more rest)) (mono_r 𝓤 one (row_cut xs ys (o + 1))) (assoc' 𝓤 one more rest)

  row_glue : (xs ys : List ℕ) (o : ℕ) → ent 𝓤 (sep 𝓤 (sem 𝓛 (Row xs o)) (sem 𝓛 (Row ys (place 1 o (length xs))))) (sem 𝓛 (Row (xs ++ ys) o))
  row_glue [] ys o = snd∗ 𝓤 (emp 𝓤) (sem 𝓛 (Row ys o))
  row_glue (x ∷ xs) ys o =
      let one = sem 𝓛 (part_at u8 full_share x b o) in
      let more = sem 𝓛 (Row xs (o + 1)) in
      let rest = sem 𝓛 (Row ys (place 1 (o + 1) (length xs))) in
      via 𝓤 (sep 𝓤 one (sep 𝓤 more rest)) (assoc∗ 𝓤 one more rest) (mono_r 𝓤 one (row_glue xs ys (o + 1)))

  module _ (o : ℕ) (xs : List ℕ) (at count : ℕ) (fits : at + count ≤ length xs) where
    abbrev front : List ℕ
    front = take at xs

    abbrev run : List ℕ
    run = take count (drop at xs)

    abbrev tail : List ℕ
    tail = drop (at + count) xs

    -- the bytes around the places
    abbrev pub Around : Fml
    Around = fsep (Row front o) (Row tail (place 1 (at + o) count))

    begins : place 1 o (length front) ≡ at + o
    begins = place_byte o (length front) ∙ ap (λ k. k + o) (omega (arith, length-take at xs))

    pub length-run : length run ≡ count
    length-run = omega (arith, length-take count (drop at xs), length-drop at xs)

    parts : xs ≡ front ++ (run ++ tail)
    parts = sym (ap (λ l. front ++ (run ++ l)) (sym (drop-drop count at xs)) ∙ ap (λ l. front ++ l) (take-append-drop count (drop at xs)) ∙ take-append-drop at xs)

    pub run_out : ent 𝓤 (sem 𝓛 (Row xs o)) (sep 𝓤 (sem 𝓛 (cells (mem u8) run b (at + o))) (sem 𝓛 Around))
    run_out =
        qed 𝓛 (‵ (Row xs o) ∷ []) ∵ rewrite ! 0 (λ (l : List ℕ). ‵ (Row l o)) parts refl $
        use1 𝓛 (‵ (Row front o) ⊛ ‵ (Row (run ++ tail) (place 1 o (length front)))) (row_cut front (run ++ tail) o) $ split ! $ move ! (1 ∷ []) $
        rewrite ! 0 (λ (k : ℕ). ‵ (Row (run ++ tail) k)) begins refl $
        use1 𝓛 (‵ (Row run (at + o)) ⊛ ‵ (Row tail (place 1 (at + o) (length run)))) (row_cut run tail (at + o)) $ split ! $
        rewrite ! 1 (λ (k : ℕ). ‵ (Row tail (place 1 (at + o) k))) length-run refl $
        use1 𝓛 (‵ (cells (mem u8) run b (at + o))) (whole_in 𝓛 u8 run b (at + o)) $ move ! (2 ∷ 1 ∷ []) $ fjoin ! $ move ! (1 ∷ 0 ∷ []) $ done !

    pub run_in : (ws : List ℕ) → length ws ≡ count
        → ent 𝓤 (sep 𝓤 (sem 𝓛 (cells (mem u8) ws b (at + o))) (sem 𝓛 Around)) (sem 𝓛 (Row (overwritten xs at ws) o))
    run_in ws same =
        let last : List ℕ = drop (at + length ws) xs in
        qed 𝓛 (‵ (cells (mem u8) ws b (at + o)) ∷ ‵ Around ∷ []) ∵
        use1 𝓛 (‵ (Row ws (at + o))) (whole_out 𝓛 u8 ws b (at + o)) $ move ! (1 ∷ []) $ fsplit ! $ move ! (1 ∷ []) $
        rewrite ! 0 (λ (k : ℕ). ‵ (Row (drop (at + k) xs) (place 1 (at + o) k))) (sym same) refl $ move ! (2 ∷ 0 ∷ []) $
        use2 𝓛 (‵ (Row (ws ++ last) (at + o))) (row_glue ws last (at + o)) $
        rewrite ! 0 (λ (k : ℕ). ‵ (Row (ws ++ last) k)) (sym begins) refl $ move ! (1 ∷ 0 ∷ []) $
        by ! (row_glue front (ws ++ last) o)
