-- Pieces are cut into runs in exactly one way; and the cut with one piece more.
use Rattle.std.proofs.Common.{◌≡◌, ℕ, ◌+◌, ◌<◌, ◌≤◌, List, [], ◌∷◌, ◌++◌, length, refl, sym, ap, ◌∙◌, subst, inl, inr, ◌⊎◌}
use Rattle.std.proofs.Common.{append_assoc, append-nil, length-append, arith}
use Rattle.std.proofs.lemmas.Bool.{cases_lt}
use Rattle.std.proofs.lemmas.List.{get_or-append-add, get_or_append_left}
use Rattle.std.proofs.lemmas.List.Concat.{flat_map-append}
use Rattle.std.proofs.lemmas.List.Elements.{All-head, All-tail, All-nil, All-push}
use Rattle.std.specs.List.{All, concat, flat_map}
use Rattle.alog_sink.specs.Rotation.{Run, size_of, IsRun, IsFull, AreFull, IsCut, PiecesHaveOneCut}

abbrev flat : List Run → List (List ℕ)
flat runs = flat_map (λ run. run) runs

pub concat-append : (xs ys : List (List ℕ)) → concat (xs ++ ys) ≡ concat xs ++ concat ys
concat-append [] ys = refl
concat-append (x ∷ xs) ys = ap (λ bytes. x ++ bytes) (concat-append xs ys) ∙ sym (append_assoc x (concat xs) (concat ys))

pub size_of-append : (xs ys : List (List ℕ)) → size_of (xs ++ ys) ≡ size_of xs + size_of ys
size_of-append xs ys = ap length (concat-append xs ys) ∙ length-append (concat xs) (concat ys)

pub all_left : {X : Type 0} (P : X → Type 0) (xs ys : List X) → All P (xs ++ ys) → All P xs
all_left P xs ys h k d less =
    subst P (get_or_append_left xs ys d k less) (h k d (omega (arith, length-append xs ys)))

pub all_right : {X : Type 0} (P : X → Type 0) (xs ys : List X) → All P (xs ++ ys) → All P ys
all_right P xs ys h k d less =
    subst P (get_or-append-add xs ys k d) (h (length xs + k) d (omega (arith, length-append xs ys)))

-- a list is empty, or has a last element
pub by_last : {X : Type 0} (xs : List X) → (xs ≡ []) ⊎ ((front : List X) × (last : X) × (xs ≡ front ++ last ∷ []))
by_last [] = inl refl
by_last (x ∷ xs) = elim (by_last xs) [
  | inl e ↦ inr ([], x, ap (λ r. x ∷ r) e)
  | inr w ↦ inr (x ∷ w.0, w.1, ap (λ r. x ∷ r) w.2)
]

module _ (max : ℕ) where
  same_next : (run next : Run) (xs ys : List Run) → IsFull max run (next ∷ xs) → IsFull max run (next ∷ ys)
  same_next run [] xs ys h = tt
  same_next run (piece ∷ pieces) xs ys h = h

  full_new : (front : List Run) (last : Run) (piece : List ℕ) → max < size_of last + length piece
      → AreFull max (front ++ last ∷ []) → AreFull max ((front ++ last ∷ []) ++ (piece ∷ []) ∷ [])
  full_new [] last piece more h = (more, (tt, tt))
  full_new (run ∷ []) last piece more h = (same_next run last _ _ h.0, full_new [] last piece more h.1)
  full_new (run ∷ next ∷ front) last piece more h = (same_next run next _ _ h.0, full_new (next ∷ front) last piece more h.1)

  grown_next : (run last : Run) (piece : List ℕ) → 1 ≤ length last → IsFull max run (last ∷ []) → IsFull max run ((last ++ piece ∷ []) ∷ [])
  grown_next run [] piece some h = absurd (omega arith)
  grown_next run (first ∷ pieces) piece some h = h

  full_grown : (front : List Run) (last : Run) (piece : List ℕ) → 1 ≤ length last
      → AreFull max (front ++ last ∷ []) → AreFull max (front ++ (last ++ piece ∷ []) ∷ [])
  full_grown [] last piece some h = (tt, tt)
  full_grown (run ∷ []) last piece some h = (grown_next run last piece some h.0, (tt, tt))
  full_grown (run ∷ next ∷ front) last piece some h =
      (same_next run next _ _ h.0, full_grown (next ∷ front) last piece some h.1)

  lone : (piece : List ℕ) → IsRun max (piece ∷ [])
  lone piece = record { some = omega arith; fits = λ more. absurd (omega arith) }

  -- the first piece
  pub cut_first : (pieces : List (List ℕ)) (piece : List ℕ) → IsCut max pieces [] → IsCut max (pieces ++ piece ∷ []) ((piece ∷ []) ∷ [])
  cut_first pieces piece cut = record {
    joined = ap (λ xs. xs ++ piece ∷ []) cut.joined;
    each = All-push (IsRun max) [] (piece ∷ []) (All-nil (IsRun max)) (lone piece);
    full = (tt, tt);
  }

  -- a piece that opens a run
  pub cut_new : (pieces : List (List ℕ)) (piece : List ℕ) (front : List Run) (last : Run) → IsCut max pieces (front ++ last ∷ [])
      → max < size_of last + length piece → IsCut max (pieces ++ piece ∷ []) ((front ++ last ∷ []) ++ (piece ∷ []) ∷ [])
  cut_new pieces piece front last cut more = record {
    joined = flat_map-append (λ (run : Run). run) (front ++ last ∷ []) ((piece ∷ []) ∷ []) ∙ ap (λ xs. xs ++ piece ∷ []) cut.joined;
    each = All-push (IsRun max) (front ++ last ∷ []) (piece ∷ []) cut.each (lone piece);
    full = full_new front last piece more cut.full;
  }

  pub last_run : (front : List Run) (last : Run) → All (IsRun max) (front ++ last ∷ []) → IsRun max last
  last_run front last runs = All-head (IsRun max) last [] (all_right (IsRun max) front (last ∷ []) runs)

  -- a piece that goes on with the last run
  pub cut_grown : (pieces : List (List ℕ)) (piece : List ℕ) (front : List Run) (last : Run) → IsCut max pieces (front ++ last ∷ [])
      → size_of last + length piece ≤ max → IsCut max (pieces ++ piece ∷ []) (front ++ (last ++ piece ∷ []) ∷ [])
  cut_grown pieces piece front last cut less =
      let some = (last_run front last cut.each).some in
      record {
        joined = joined;
        each = All-push (IsRun max) front (last ++ piece ∷ []) (all_left (IsRun max) front (last ∷ []) cut.each)
            (record {
              some = omega (arith, length-append last (piece ∷ []));
              fits = λ _. omega (arith, size_of-append last (piece ∷ []), ap length (append-nil piece));
            });
        full = full_grown front last piece some cut.full;
      }
    where
      joined : flat (front ++ (last ++ piece ∷ []) ∷ []) ≡ pieces ++ piece ∷ []
      joined =
          flat_map-append (λ (run : Run). run) front ((last ++ piece ∷ []) ∷ [])
          ∙ (ap (λ xs. flat front ++ xs) (append-nil (last ++ piece ∷ []))
          ∙ (sym (append_assoc (flat front) last (piece ∷ []))
          ∙ ap (λ xs. xs ++ piece ∷ []) (ap (λ xs. flat front ++ xs) (sym (append-nil last))
          ∙ (sym (flat_map-append (λ (run : Run). run) front (last ∷ [])) ∙ cut.joined))))

-- two lists that go on to the same list: they are the same, or one is a front of the other
pub fronts : {X : Type 0} (xs ys us vs : List X) → xs ++ us ≡ ys ++ vs
    → ((ys ≡ xs) × (us ≡ vs))
    ⊎ ((q : X) × (qs : List X) × (ys ≡ xs ++ q ∷ qs) × (us ≡ q ∷ qs ++ vs))
    ⊎ ((q : X) × (qs : List X) × (xs ≡ ys ++ q ∷ qs) × (vs ≡ q ∷ qs ++ us))
fronts [] [] us vs e = inl (refl, e)
fronts [] (y ∷ ys) us vs e = inr (inl (y, ys, refl, e))
fronts (x ∷ xs) [] us vs e = inr (inr (x, xs, refl, sym e))
fronts (x ∷ xs) (y ∷ ys) us vs e =
    let heads : x ≡ y = cc in
    let tails : xs ++ us ≡ ys ++ vs = cc in
    elim (fronts xs ys us vs tails) [
      | inl w ↦ inl (cc, w.1)
      | inr v ↦ elim v [
        | inl w ↦ inr (inl (w.0, w.1, cc, w.3))
        | inr w ↦ inr (inr (w.0, w.1, cc, w.3))
      ]
    ]

-- of the same pieces as a run and those behind it, another run takes more
record TakesMore (run other : Run) (runs : List Run) : Type 0 where
  piece : List ℕ
  pieces : List (List ℕ)
  tail : List (List ℕ)
  longer : other ≡ run ++ piece ∷ pieces
  behind : flat runs ≡ piece ∷ pieces ++ tail

module _ (max : ℕ) where
  -- a run cannot go on past where another of the same pieces ends
  too_long : (run : Run) {other : Run} (runs : List Run) → 1 ≤ length run → All (IsRun max) runs → IsFull max run runs → IsRun max other
      → TakesMore run other runs → ⊥
  too_long run [] some each full is more = absurd (let f = more.behind in cc)
  too_long run ([] ∷ runs) some each full is more =
      let one = (All-head (IsRun max) [] runs each).some in absurd (omega arith)
  too_long run {other} ((piece ∷ pieces) ∷ runs) some each full is more =
      let q = more.piece in
      let qs = more.pieces in
      let e = more.longer in
      let f = more.behind in
      let same : piece ≡ q = cc in
      let long : 1 < length other = omega (arith, ap length e, length-append run (q ∷ qs)) in
      let less = is.fits long in
      omega (arith, ap length same, ap size_of e, size_of-append run (q ∷ qs), length-append q (concat qs))

  same_runs : (runs others : List Run) → All (IsRun max) runs → AreFull max runs → All (IsRun max) others → AreFull max others
      → flat runs ≡ flat others → others ≡ runs
  same_runs [] [] _ _ _ _ _ = refl
  same_runs [] ([] ∷ others) _ _ each _ _ = let one = (All-head (IsRun max) [] others each).some in absurd (omega arith)
  same_runs [] ((piece ∷ pieces) ∷ others) _ _ _ _ e = absurd (cc)
  same_runs ([] ∷ runs) [] each _ _ _ _ = let one = (All-head (IsRun max) [] runs each).some in absurd (omega arith)
  same_runs ((piece ∷ pieces) ∷ runs) [] _ _ _ _ e = absurd (cc)
  same_runs (run ∷ runs) (other ∷ others) each full each' full' e =
      let is = All-head (IsRun max) run runs each in
      let is' = All-head (IsRun max) other others each' in
      let rest = All-tail (IsRun max) run runs each in
      let rest' = All-tail (IsRun max) other others each' in
      elim (fronts run other (flat runs) (flat others) e) [
        | inl w ↦ let same = same_runs runs others rest full.1 rest' full'.1 w.1 in
            ap (λ r. r ∷ others) w.0 ∙ ap (λ rs. run ∷ rs) same
        | inr v ↦ elim v [
          | inl w ↦ absurd (too_long run runs is.some rest full.0 is'
              (record { piece = w.0; pieces = w.1; tail = flat others; longer = w.2; behind = w.3 }))
          | inr w ↦ absurd (too_long other others is'.some rest' full'.0 is
              (record { piece = w.0; pieces = w.1; tail = flat runs; longer = w.2; behind = w.3 }))
        ]
      ]

  cut_more : (pieces : List (List ℕ)) (piece : List ℕ) → (runs : List Run) → IsCut max pieces runs
      → (more : List Run) × IsCut max (pieces ++ piece ∷ []) more
  cut_more pieces piece runs cut =
      elim (by_last runs) [
        | inl e ↦ ((piece ∷ []) ∷ [], cut_first max pieces piece (subst (IsCut max pieces) e cut))
        | inr w ↦ elim (cases_lt max (size_of w.1 + length piece)) [
          | inl more ↦ (
            (w.0 ++ w.1 ∷ []) ++ (piece ∷ []) ∷ [],
            cut_new max pieces piece w.0 w.1 (subst (IsCut max pieces) w.2 cut) more,
          )
          | inr less ↦ (
            w.0 ++ (w.1 ++ piece ∷ []) ∷ [],
            cut_grown max pieces piece w.0 w.1 (subst (IsCut max pieces) w.2 cut) less,
          )
        ]
      ]

  cut_all : (done rest : List (List ℕ)) (runs : List Run) → IsCut max done runs → (more : List Run) × IsCut max (done ++ rest) more
  cut_all done [] runs cut = (runs, subst (λ ps. IsCut max ps runs) (sym (append-nil done)) cut)
  cut_all done (piece ∷ rest) runs cut =
      let next = cut_more done piece runs cut in
      let all = cut_all (done ++ piece ∷ []) rest next.0 next.1 in
      (all.0, subst (λ ps. IsCut max ps all.0) (append_assoc done (piece ∷ []) rest) all.1)

pub one_cut : (max : ℕ) (pieces : List (List ℕ)) (runs others : List Run) → IsCut max pieces runs → IsCut max pieces others → others ≡ runs
one_cut max pieces runs others cut cut' =
    same_runs max runs others cut.each cut.full cut'.each cut'.full (cut.joined ∙ sym cut'.joined)

pub pieces_have_one_cut : PiecesHaveOneCut
pieces_have_one_cut max pieces =
    let all = cut_all max [] pieces [] (record { joined = refl; each = All-nil (IsRun max); full = tt }) in
    (all.0, all.1, λ others cut. one_cut max pieces all.0 others all.1 cut)
