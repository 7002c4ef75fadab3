-- Where the extension of a name begins.
use Rattle.std.proofs.Common.{◌≡◌, ◌≢◌, ℕ, ◌+◌, ◌-◌, ◌<◌, ◌≤◌, not, cond, eqb, ltb, ◌&&◌, List, [], ◌∷◌, ◌++◌}
use Rattle.std.proofs.Common.{zero, suc, ◌^◌, decimal, codes, append_assoc, length, get_or, take, drop, refl, sym, ap, ◌∙◌, ◌⊎◌, inl, inr}
use Rattle.std.proofs.Common.{arith, length-append}
use Rattle.std.proofs.lemmas.List.{drop_more, drop_all, length-drop, length-take-le, append_cancel_left, append_cancel_right}
use Rattle.std.proofs.lemmas.List.Sums.{suffix_len_is}
use Rattle.std.proofs.lemmas.Bool.{ne_eqb}
use Rattle.std.proofs.lemmas.Bool.Decides.{nat_tests}
use Rattle.std.specs.List.{suffix_len}
use Rattle.std.proofs.lemmas.Fmt.{decimal_injective}
use Rattle.alog_sink.specs.Names.{ending, extension, stem, numbered}

-- an extension by what stands after the last dot
extension_by : (name after : List ℕ) → ending name ≡ after
    → extension name ≡ cond (ltb 0 (length after) && ltb (length after + 1) (length name)) (46 ∷ after) []
extension_by name after e = ap (λ xs. cond (ltb 0 (length xs) && ltb (length xs + 1) (length name)) (46 ∷ xs) []) e

inner : (m n : ℕ) (xs : List ℕ) → 0 < m → m + 1 < n → cond (ltb 0 m && ltb (m + 1) n) xs [] ≡ xs
inner m n xs some less = grind (arith, nat_tests)

outer : (m n : ℕ) (xs : List ℕ) → (m ≡ 0) ⊎ (n ≤ m + 1) → cond (ltb 0 m && ltb (m + 1) n) xs [] ≡ []
outer m n xs (inl e) = grind (arith, nat_tests)
outer m n xs (inr l) = grind (arith, nat_tests)

from : (name : List ℕ) (n : ℕ) → n ≤ length name → suffix_len (λ b. not (eqb b 46)) name ≡ length name - n → ending name ≡ drop n name
from name n within e = ap (λ m. drop m name) (ap (λ s. length name - s) e ∙ omega arith)

-- in a name without a dot
module _ (name : List ℕ) (none : (i : ℕ) → i < length name → get_or name i 0 ≢ 46) where
  pub no_extension : extension name ≡ []
  no_extension = extension_by name name whole ∙ outer (length name) (length name) (46 ∷ name) (inr (omega arith))
    where
      whole : ending name ≡ name
      whole = from name 0 (omega arith)
          (suffix_len_is (λ b. not (eqb b 46)) name 0 0 (omega arith) (λ i _ less. ap not (ne_eqb (get_or name i 0) 46 (none i less)))
          (λ less. absurd (omega arith)))

-- in a name whose last dot is here
module _ (name : List ℕ) (k : ℕ) (inside : k < length name) (dot : get_or name k 0 ≡ 46)
    (last : (i : ℕ) → k < i → i < length name → get_or name i 0 ≢ 46) where
  after : ending name ≡ drop (k + 1) name
  after = from name (k + 1) (omega arith)
      (suffix_len_is (λ b. not (eqb b 46)) name (k + 1) 0 (omega arith)
      (λ i more less. ap not (ne_eqb (get_or name i 0) 46 (last i (omega arith) less)))
      (λ _. ap (λ b. not (eqb b 46)) (ap (λ i. get_or name i 0) (omega arith) ∙ dot)))

  tested : extension name ≡ cond (ltb 0 (length (drop (k + 1) name)) && ltb (length (drop (k + 1) name) + 1) (length name))
      (46 ∷ drop (k + 1) name) []
  tested = extension_by name (drop (k + 1) name) after

  pub extension_from : 0 < k → k + 1 < length name → extension name ≡ drop k name
  extension_from some less =
      tested ∙ inner (length (drop (k + 1) name)) (length name) _ (omega (arith, length-drop (k + 1) name))
      (omega (arith, length-drop (k + 1) name))
      ∙ (ap (λ b. b ∷ drop (k + 1) name) (sym dot) ∙ sym (drop_more name k 0 inside))

  pub no_extension_at : (k ≡ 0) ⊎ (length name ≤ k + 1) → extension name ≡ []
  no_extension_at (inl e) =
      tested ∙ outer (length (drop (k + 1) name)) (length name) _ (inr (omega (arith, length-drop (k + 1) name)))
  no_extension_at (inr l) =
      tested ∙ outer (length (drop (k + 1) name)) (length name) _ (inl (omega (arith, length-drop (k + 1) name)))

-- the two parts of a name, cut where its extension begins
pub parts : (name : List ℕ) (k : ℕ) → k ≤ length name → extension name ≡ drop k name
    → (take k name ≡ stem name) × (drop k name ≡ extension name)
parts name k within e =
    (ap (λ n. take n name) (sym (ap (λ xs. length name - length xs) e ∙ omega (arith, length-drop k name))), sym e)

pub whole : (name : List ℕ) → extension name ≡ [] → (take (length name) name ≡ stem name) × (drop (length name) name ≡ extension name)
whole name e = parts name (length name) (omega arith) (e ∙ sym (drop_all (length name) name (omega arith)))

-- the name with a number, of those parts
pub named : (name front back : List ℕ) (i : ℕ) → i ≢ 0 → front ≡ stem name → back ≡ extension name
    → front ++ (codes "." ++ (decimal i ++ back)) ≡ numbered name i
named name front back zero some e f = absurd (some refl)
named name front back (suc i) some e f =
    ap (λ s. s ++ (46 ∷ (decimal (suc i) ++ back))) e ∙ ap (λ x. stem name ++ (46 ∷ (decimal (suc i) ++ x))) f
    ∙ (sym (append_assoc (stem name) (46 ∷ []) (decimal (suc i) ++ extension name))
    ∙ sym (append_assoc (stem name ++ (46 ∷ [])) (decimal (suc i)) (extension name)))

short : (m n : ℕ) (xs : List ℕ) → length xs ≡ m → length (cond (ltb 0 m && ltb (m + 1) n) (46 ∷ xs) []) ≤ n
short m n xs e = grind (arith, nat_tests)

length_parts : (name : List ℕ) → length (stem name) + length (extension name) ≡ length name
length_parts name =
    let less = short (length (ending name)) (length name) (ending name) refl in
    omega (arith, length-take-le (length name - length (extension name)) name (omega arith))

longer : (name : List ℕ) (i : ℕ) → length name < length (numbered name (suc i))
longer name i =
    omega (
      arith,
      length_parts name,
      length-append (stem name ++ codes "." ++ decimal (suc i)) (extension name),
      length-append (stem name ++ codes ".") (decimal (suc i)),
      length-append (stem name) (codes "."),
    )

-- A name with a number is longer than the name, and with another number it is another name.
pub numbered_differ : (name : List ℕ) (i j : ℕ) → i < 2 ^ 64 → j < 2 ^ 64 → numbered name i ≡ numbered name j → i ≡ j
numbered_differ name zero zero _ _ _ = refl
numbered_differ name zero (suc j) _ _ e = absurd (omega (arith, longer name j, ap length e))
numbered_differ name (suc i) zero _ _ e = absurd (omega (arith, longer name i, ap length e))
numbered_differ name (suc i) (suc j) si sj e =
    decimal_injective (suc i) (suc j) si sj
    (append_cancel_left (stem name ++ codes ".") (decimal (suc i)) (decimal (suc j))
    (append_cancel_right (stem name ++ codes "." ++ decimal (suc i)) (stem name ++ codes "." ++ decimal (suc j)) (extension name) e))
