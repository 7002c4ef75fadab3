-- The files of a sink are determined by the files at its start and the lines that it was given.
use Rattle.std.proofs.Common.{◌≡◌, ◌≢◌, ℕ, ◌≤◌, Bool, true, false, Option, None, Some, List, [], ◌∷◌, ◌++◌, refl, sym, ap, subst, ◌∙◌, append_assoc, append-nil}
use Rattle.std.specs.Cmp.Lexicographic.{bytes_decides}
use Rattle.std.specs.List.{Contains, concat}
use Rattle.std.specs.Str.{bytes_eq}
use Rattle.std.proofs.lemmas.Bool.{false≢true}
use Rattle.std.proofs.lemmas.Option.{none-some, same_Some}
use Rattle.alog_sink.specs.Daily.{AreSegments, Entry, IsDaily, Segment, begun, gone_on, kept_names, none, opened_names, opens}
use Rattle.alog_sink.specs.Daily.{lines_of as lines_in}
use Rattle.alog_sink.specs.Files.{Files, AreSame, bytes_of}
use Rattle.alog_sink.specs.Rotation.{IsRotated, Limits, PiecesHaveOneCut, kept, pieces}
use Rattle.alog_sink.specs.Names.{numbered}

-- what is not known to differ is the same
same_bytes : (a b : List ℕ) → ¬ (Some a ≢ Some b) → (r : Bool) → bytes_eq a b ≡ r → Some a ≡ Some b
same_bytes a b h true e = ap Some ((bytes_decides a b).0 e)
same_bytes a b h false e = absurd (h (λ same. false≢true (sym e ∙ (bytes_decides a b).1 (same_Some a b same))))

pub stable : (x y : Option (List ℕ)) → ¬ (x ≢ y) → x ≡ y
stable None None h = refl
stable None (Some b) h = absurd (h (λ e. none-some b e))
stable (Some a) None h = absurd (h (λ e. none-some a (sym e)))
stable (Some a) (Some b) h = same_bytes a b h (bytes_eq a b) refl

-- files that are rotated
pub rotated_once : PiecesHaveOneCut → (l : Limits) (opening : Files) (lines : List (List ℕ)) (files others : Files)
    → IsRotated l opening lines files → IsRotated l opening lines others → AreSame files others
rotated_once law l opening lines files others h g name =
    let cut = law l.max_size (pieces (bytes_of opening l.file) lines) in
    let runs : g.runs ≡ h.runs = cut.2 g.runs g.cut ∙ sym (cut.2 h.runs h.cut) in
    stable (others name) (files name)
    (λ no.
    let apart : (i : ℕ) → i ≤ l.max_files → numbered l.file i ≢ name = λ i low is.
    let here : others (numbered l.file i) ≡ files (numbered l.file i) =
    g.numbers i low ∙ (ap (λ rs. kept l opening rs i) runs ∙ sym (h.numbers i low)) in
    no (subst (λ (n : List ℕ). others n ≡ files n) is here) in
    no (g.others name apart ∙ sym (h.others name apart)))

-- the segments of entries, one entry after another
with_line : List ℕ → Segment → Segment
with_line line s = record { name = s.name; lines = s.lines ++ line ∷ [] }

extended : List ℕ → List Segment → List Segment
extended line [] = []
extended line (s ∷ []) = with_line line s ∷ []
extended line (s ∷ t ∷ more) = s ∷ extended line (t ∷ more)

after_entry : Bool → Entry → List Segment → List Segment
after_entry true e segments = segments ++ record { name = e.name; lines = e.line ∷ [] } ∷ []
after_entry false e segments = extended e.line segments

segments_from : List Entry → List Segment → List Entry → List Segment
segments_from earlier segments [] = segments
segments_from earlier segments (e ∷ es) = segments_from (earlier ++ e ∷ []) (after_entry (opens earlier e) e segments) es

from_behind : (earlier : List Entry) (segments : List Segment) (es : List Entry) (e : Entry)
    → segments_from earlier segments (es ++ e ∷ []) ≡ after_entry (opens (earlier ++ es) e) e (segments_from earlier segments es)
unfolding segments_from
from_behind earlier segments [] e = ap (λ x. after_entry (opens x e) e segments) (sym (append-nil earlier))
from_behind earlier segments (f ∷ es) e =
    from_behind (earlier ++ f ∷ []) (after_entry (opens earlier f) f segments) es e
    ∙ ap (λ x. after_entry (opens x e) e (segments_from (earlier ++ f ∷ []) (after_entry (opens earlier f) f segments) es)) (append_assoc earlier (f ∷ []) es)

extended_last : (line : List ℕ) (segments : List Segment) (last : Segment)
    → extended line (segments ++ last ∷ []) ≡ segments ++ with_line line last ∷ []
unfolding extended
extended_last line [] last = refl
extended_last line (s ∷ []) last = refl
extended_last line (s ∷ t ∷ more) last = ap (λ l. s ∷ l) (extended_last line (t ∷ more) last)

are_from : (entries : List Entry) (segments : List Segment) → AreSegments entries segments → segments ≡ segments_from [] [] entries
unfolding segments_from after_entry with_line
are_from _ _ none = refl
are_from _ _ (begun entries segments e d o) =
    sym (from_behind [] [] entries e ∙ (ap (λ b. after_entry b e (segments_from [] [] entries)) o
    ∙ ap (after_entry true e) (sym (are_from entries segments d))))
are_from _ _ (gone_on entries segments last e d o) =
    sym (from_behind [] [] entries e ∙ (ap (λ b. after_entry b e (segments_from [] [] entries)) o
    ∙ (ap (extended e.line) (sym (are_from entries (segments ++ last ∷ []) d)) ∙ extended_last e.line segments last)))

-- files by days
pub daily_once : {max : ℕ} {names more : List (List ℕ)} {opening : Files} {entries : List Entry} {files others : Files}
    → IsDaily max names opening entries files → IsDaily max more opening entries others → AreSame files others
daily_once {max} {names} {more} {opening} {entries} {files} {others} h g name =
    let cut : g.segments ≡ h.segments = are_from entries g.segments g.cut ∙ sym (are_from entries h.segments h.cut) in
    let same : names ≡ more = sym h.opened ∙ (ap opened_names (sym cut) ∙ g.opened) in
    daily_at files others h g {name = name} cut same
  where
    daily_at : {max : ℕ} {names more : List (List ℕ)} {opening : Files} {entries : List Entry} (files others : Files)
        (h : IsDaily max names opening entries files) (g : IsDaily max more opening entries others) {name : List ℕ}
        → g.segments ≡ h.segments
        → names ≡ more → others name ≡ files name
    daily_at {max} {names} {more} {opening} files others h g {name} cut same =
        let over : Contains (kept_names max names) name → Contains (kept_names max more) name =
        subst (λ (ns : List (List ℕ)). Contains (kept_names max ns) name) same in
        let back : Contains (kept_names max more) name → Contains (kept_names max names) name =
        subst (λ (ns : List (List ℕ)). Contains (kept_names max ns) name) (sym same) in
        let there : Contains names name → Contains more name = subst (λ (ns : List (List ℕ)). Contains ns name) same in
        let home : Contains more name → Contains names name = subst (λ (ns : List (List ℕ)). Contains ns name) (sym same) in
        stable (others name) (files name)
        (λ no.
        let not_kept : ¬ Contains (kept_names max names) name = λ k.
        no (g.kept name (over k) ∙ (ap (λ segments. Some (bytes_of opening name ++ concat (lines_in name segments))) cut ∙ sym (h.kept name k))) in
        let out : ¬ Contains names name = λ c.
        no (g.gone name (there c) (λ k. not_kept (back k)) ∙ sym (h.gone name c not_kept)) in
        no (g.others name (λ c. out (home c)) ∙ sym (h.others name out)))
