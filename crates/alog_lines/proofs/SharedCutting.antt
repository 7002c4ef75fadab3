-- What was found of the bytes of a reader so far, while it is read and pieces are taken.
use Rattle.std.proofs.Common.{◌≡◌, ◌+◌, ℕ, Bool, true, List, [], ◌∷◌, ◌++◌, length, length-append, Option, refl, sym, ap, subst, ◌∙◌, arith, append_assoc}
use Rattle.std.specs.List.{flat_map}
use Rattle.std.proofs.lemmas.List.{append-nil}
use Rattle.alog_lines.specs.Cutting.{Cutting, HasCut, IsSame, LacksPiece, MayCome, Reads, Takes}
use Rattle.alog_lines.specs.Pieces.{Piece, pieces_in, pieces_of}
use Rattle.alog_lines.proofs.SharedLines.{lines_of-nil}

-- nothing was read
pub begins : (limit : ℕ) (s : Cutting) → s.limit ≡ limit → s.pending ≡ [] → HasCut limit [] [] s
begins limit s same none = record {
  taken = [];
  whole = sym none;
  same = same;
  others = λ more may. ap (λ t. pieces_of limit (t ++ more)) (sym none);
}

none_of : (bytes : List ℕ) → length bytes ≡ 0 → bytes ≡ []
none_of [] none = refl
none_of (b ∷ bytes) none = absurd (omega (arith, none))

module _ {limit : ℕ} {bytes : List ℕ} {pieces : List Piece} {old new : Cutting} (h : HasCut limit bytes pieces old) where
  -- a read brought more
  pub reads_on : {before after : Option (List ℕ)} (r : Reads before after old new) → (old.ended ≡ true → new ≡ old)
      → HasCut limit (bytes ++ r.came.bytes) pieces new
  reads_on r stays =
      let came = r.came.bytes in
      let behind = r.came.behind in
      record {
        taken = h.taken;
        whole = ap (λ t. t ++ came) h.whole ∙ append_assoc h.taken old.pending came ∙ ap (λ t. h.taken ++ t) (sym behind);
        same = r.limit ∙ h.same;
        others = λ more may.
            let nothing : MayCome old (came ++ more) =
            λ e.
            let is = stays e in
            let size = ap length (sym (ap (λ (s : Cutting). s.pending) is) ∙ behind) in
            let none = none_of came (omega (arith, size, length-append old.pending came)) in
            ap (λ t. t ++ more) none ∙ may (ap (λ (s : Cutting). s.ended) is ∙ e) in
            ap (pieces_of limit) (append_assoc bytes came more) ∙ h.others (came ++ more) nothing
            ∙ ap (λ t. pieces ++ pieces_of limit t) (sym (append_assoc old.pending came more) ∙ ap (λ t. t ++ more) (sym behind));
      }

  -- a piece was taken
  pub takes_on : {piece : Piece} → Takes old new piece → IsSame old new → HasCut limit bytes (pieces ++ piece ∷ []) new
  takes_on {piece} t same = record {
    taken = h.taken ++ t.taken;
    whole = h.whole ∙ ap (λ r. h.taken ++ r) t.whole ∙ sym (append_assoc h.taken t.taken new.pending);
    same = same.0 ∙ h.same;
    others = λ more may.
        let still : MayCome old more = λ e. may (same.1 ∙ e) in
        h.others more still
        ∙ ap (λ ps. pieces ++ ps) (subst (λ k. pieces_of k (old.pending ++ more) ≡ piece ∷ pieces_of k (new.pending ++ more)) h.same (t.first more still))
        ∙ sym (append_assoc pieces (piece ∷ []) (pieces_of limit (new.pending ++ more)));
  }

-- at the end of the reader, where no piece is left, these are all
pub ends_whole : {limit : ℕ} {bytes : List ℕ} {pieces : List Piece} {s : Cutting} → HasCut limit bytes pieces s → LacksPiece s
    → s.ended ≡ true → pieces ≡ pieces_of limit bytes
ends_whole {limit} {bytes} {pieces} {s} h lacks ended =
    let none : pieces_of limit (s.pending ++ []) ≡ [] =
    ap (λ t. pieces_of limit (t ++ [])) (lacks.none ended) ∙ ap (flat_map (pieces_in limit)) lines_of-nil in
    sym (ap (pieces_of limit) (sym (append-nil bytes)) ∙ h.others [] (λ _. refl) ∙ ap (λ ps. pieces ++ ps) none ∙ append-nil pieces)
