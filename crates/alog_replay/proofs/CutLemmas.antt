-- A text is cut at a space in one way, and digits are a word.
use Rattle.std.proofs.Common.{◌≡◌, ◌<◌, ◌↔◌, ℕ, List, [], ◌∷◌, ◌++◌, length, Bool, true, false, cond, eqb, not, eq-eqb, refl, sym}
use Rattle.std.proofs.Common.{◌∙◌, ap, arith, subst, Option, Some, None}
use mathlib.Core.Logic.{dite}
use native.Mathlib.Decide.{ℕ_discrete}
use Rattle.std.proofs.lemmas.Bool.{false≢true, eqb-true}
use Rattle.std.proofs.lemmas.Option.{none-some, same_Some}
use Rattle.std.proofs.lemmas.List.{append-nil, take_all}
use Rattle.std.specs.Prelude.{◌==◌}
use Rattle.std.proofs.lemmas.List.Sums.{split_at_first, passes_at_first, take_while-cons}
use Rattle.std.proofs.lemmas.Str.Parse.{digit_from_value}
use Rattle.std.specs.List.{before_first, after_first, position_or_len}
use Rattle.std.specs.Str.Parse.{AllDigits}
use Rattle.alog_replay.specs.Cut.{tail_of, IsWord, IsCut}

-- no value is given where none fits
pub none_of : {X : Type 0} (P : X → Type 0) (r : Option X) → r ≡ None → ((x : X) → P x → ⊥) → (x : X) → (r ≡ Some x) ↔ P x
none_of P r e unfit x = (λ s. absurd (none-some x (sym e ∙ s)), λ p. absurd (unfit x p))

-- the one value that fits is given
pub one_of : {X : Type 0} (P : X → Type 0) (x : X) → P x → ((y : X) → P y → x ≡ y) → (y : X) → (Some x ≡ Some y) ↔ P y
one_of P x p unique y = (λ s. subst P (same_Some x y s) p, λ q. ap Some (unique y q))

-- digits have no space
pub digits_are_word : (ds : List ℕ) → AllDigits 10 ds → IsWord ds
digits_are_word [] h = tt
digits_are_word (d ∷ ds) h = let range = digit_from_value d h.0 in (λ e. absurd (omega (arith, range.0)), digits_are_word ds h.1)

word_step : (b : ℕ) (rest : List ℕ) (t : Bool) → eqb b 32 ≡ t → IsWord rest → IsWord (cond (not t) (b ∷ rest) [])
word_step b rest true e h = tt
word_step b rest false e h = ((λ same. false≢true (sym e ∙ eq-eqb b 32 same)), h)

-- what stands before the first space has no space
pub word_before : (s : List ℕ) → IsWord (before_first (λ b. eqb b 32) s)
word_before [] = tt
word_before (b ∷ s) = rw (take_while-cons (λ x. not (eqb x 32)) b s) (word_step b _ (eqb b 32) refl (word_before s))

-- a text with a space is cut at its first
pub cut_at_first : (s w r : List ℕ)
    → (w ≡ before_first (λ b. eqb b 32) s) × (r ≡ after_first (λ b. eqb b 32) s) × (position_or_len (λ b. eqb b 32) s < length s)
    → IsCut s w (Some r)
cut_at_first s w r h =
    let space = eqb-true _ _ (passes_at_first (λ b. eqb b 32) s 0 h.2) in
    let whole = split_at_first (λ b. eqb b 32) s 0 h.2 in
    rw (h.0, h.1) (rw space at whole, word_before s)

-- a text with no space is a word
pub uncut : (s : List ℕ) → position_or_len (λ b. eqb b 32) s ≡ length s → IsCut s s None
uncut s e = (sym (append-nil s), subst IsWord (take_all (position_or_len (λ b. eqb b 32) s) s (omega arith)) (word_before s))

-- a text is cut at a space in one way
pub cut_once : (w v : List ℕ) (r s : Option (List ℕ)) → IsWord w → IsWord v → w ++ tail_of r ≡ v ++ tail_of s → (w ≡ v) × (r ≡ s)
cut_once [] [] None None p q e = (refl, refl)
cut_once [] [] None (Some t) p q e = absurd cc
cut_once [] [] (Some t) None p q e = absurd cc
cut_once [] [] (Some t) (Some u) p q e = (refl, cc)
cut_once [] (y ∷ v) None s p q e = absurd cc
cut_once [] (y ∷ v) (Some t) s p q e = let h : y ≡ 32 = cc in absurd (q.0 h)
cut_once (x ∷ w) [] r None p q e = absurd cc
cut_once (x ∷ w) [] r (Some t) p q e = let h : x ≡ 32 = cc in absurd (p.0 h)
cut_once (x ∷ w) (y ∷ v) r s p q e =
    let more : w ++ tail_of r ≡ v ++ tail_of s = cc in
    let h = cut_once w v r s p.1 q.1 more in
    let same : x ≡ y = cc in
    (let front : w ≡ v = h.0 in cc, h.1)

-- a text with a minus is cut at its first
abbrev pub is_minus : ℕ → Bool
is_minus b = eqb b 45

pub minus_cut : (s w r : List ℕ) → (w ≡ before_first is_minus s) × (r ≡ after_first is_minus s) × (position_or_len is_minus s < length s)
    → s ≡ w ++ 45 ∷ r
minus_cut s w r h =
    let minus = eqb-true _ _ (passes_at_first is_minus s 0 h.2) in
    let whole = split_at_first is_minus s 0 h.2 in
    rw (h.0, h.1) (rw minus at whole)

-- nothing stands before a minus at its front
pub nothing_before : (s d : List ℕ) → s ≡ 45 ∷ d → before_first is_minus s ≡ []
nothing_before s d e = ap (before_first is_minus) e

-- a text without a minus does not begin with one
pub not_before : (s d : List ℕ) → position_or_len is_minus s ≡ length s → s ≡ 45 ∷ d → ⊥
not_before s d h e =
    let none : 0 ≡ length (45 ∷ d) = subst (λ x. position_or_len is_minus x ≡ length x) e h in omega (arith, none)

-- each text is cut somewhere
pub cut_of : (s : List ℕ) → (w : List ℕ) × (r : Option (List ℕ)) × IsCut s w r
cut_of [] = ([], None, (refl, tt))
cut_of (b ∷ s) =
    let more = cut_of s in
    dite (ℕ_discrete b 32) (λ e. ([], Some s, (ap (λ x. x ∷ s) e, tt)))
    (λ n. (b ∷ more.0, more.1, (ap (λ x. b ∷ x) more.2.0, (n, more.2.1))))

-- whether nothing stands before
pub filled : (xs : List ℕ) (b : Bool) → b ≡ (length xs == 0) → b ≡ false → xs ≡ [] → ⊥
filled xs b e fails n = false≢true (sym fails ∙ (e ∙ ap (λ (l : List ℕ). length l == 0) n))

pub emptied : (xs : List ℕ) (b : Bool) → b ≡ (length xs == 0) → b ≡ true → xs ≡ []
emptied [] b e is = refl
emptied (x ∷ xs) b e is = let none : length (x ∷ xs) ≡ 0 = eqb-true _ _ (sym e ∙ is) in absurd (omega (arith, none))
