-- The file at a place of a list whose names differ, and what is left when it is written or removed.
use Rattle.std.proofs.Common.{◌≡◌, ℕ, zero, suc, ◌+◌, ◌<◌, true, false, true≢false, Option, MatchOption, is_none, None, Some, List, [], ◌∷◌, ◌++◌, String, Vec, ⊎_elim}
use Rattle.std.proofs.Common.{AllPairs, IsSorted, length, take, drop, remove, position, slice_get, option_map, string_bytes, string_cmp, string_eq, is_lt, bytes_eq, refl, sym, ap, ◌∙◌, subst, arith}
use Rattle.std.proofs.lemmas.List.{map-append, take-map, drop-map, length-map}
use Rattle.std.proofs.lemmas.List.Quantifiers.{all_pairs_remove, position-Some}
use Rattle.std.proofs.lemmas.List.Sorted.{sorted_far, ranks_by}
use Rattle.std.proofs.lemmas.Option.{none-some, same_Some, slice_get-map, slice_get_cases, slice_get_within, get_or_from_slice_get}
use Rattle.std.specs.Cmp.Lexicographic.{bytes_decides}
use Rattle.std.specs.List.{IsDistinct}
use Rattle.std.specs.Map.{keys_of, lookup}
use Rattle.std.specs.String.{string_cmp_total, string_eq_equiv}
use Rattle.indexmap.proofs.CallerLemmas.{keys-with_value_at, updates-with_value_at}
use Rattle.indexmap.specs.IndexMap.{IndexMap, Updates, set_value_at, values, with_value_at}
use Rattle.indexmap.specs.Layout.{hash_map}
use Rattle.alog_sink.specs.Files.{AreSame, removed, with_file}
use Rattle.alog_sink.specs.Listed.{files_in, AreInOrder, IsAt}
use Rattle.alog_sink.proofs.Filed.{files_follow}

set_same : {K V : Type 0} (es : List (K × V)) (i : ℕ) (k : K) (v : V) → slice_get es i ≡ Some (k, v) → set_value_at es i v ≡ es
set_same [] i k v there = refl
set_same (e ∷ es) zero k v there = ap (λ p. (e.0, p.1) ∷ es) (sym (same_Some _ _ there))
set_same (e ∷ es) (suc i) k v there = ap (λ l. e ∷ l) (set_same es i k v there)

module _ {Y Z : Type 0} (es : List (String Y × Vec ℕ Z)) (at : ℕ) (name : List ℕ) where
  -- an entry of this name is its file's
  pub is_at : IsDistinct string_eq (keys_of es) → (k : String Y) (v : Vec ℕ Z) → slice_get es at ≡ Some (k, v)
      → string_bytes k ≡ name → IsAt es at name
  is_at distinct k v there named = (
    k,
    v,
    there,
    named,
    ap (λ n. files_in es n) (sym named)
        ∙ ap (λ l. option_map (λ w. w.items) (lookup (string_eq k) l)) (sym (set_same es at k v there))
        ∙ ap (option_map (λ w. w.items)) (updates-with_value_at (hash_map es (tt {0}) 0) at v string_eq_equiv distinct k v there).1,
  )

  -- the place at which a search finds a name
  pub found_at : IsDistinct string_eq (keys_of es) → at < length es → position (λ k. bytes_eq name (string_bytes k)) (keys_of es) ≡ Some at
      → IsAt es at name
  found_at distinct within found = ⊎_elim
      (λ h. let here = position-Some _ (keys_of es) at h.0.0 found in
      let read = get_or_from_slice_get (keys_of es) at h.0.0 h.0.0 (slice_get-map (λ e. e.0) es at ∙ ap (option_map (λ e. e.0)) h.2) in
      is_at distinct h.0.0 h.0.1 h.2 (sym ((bytes_decides name (string_bytes h.0.0)).0
      (subst (λ k. bytes_eq name (string_bytes k) ≡ true) read here.1))))
      (λ h. absurd (omega (arith, h.0)))
      (slice_get_cases es at).1

  -- a place of a file is one of the list
  pub is_within : IsAt es at name → at < length es
  is_within here = slice_get_within es at (here.0, here.1) here.2

-- a file that has a place is there
pub is_there : {Y Z : Type 0} (es : List (String Y × Vec ℕ Z)) (name : List ℕ) (o : Option ℕ) → is_none o ≡ false
    → MatchOption o (files_in es name ≡ None) (λ at. IsAt es at name) → files_in es name ≡ None → ⊥
is_there es name None h place none = true≢false h
is_there es name (Some at) h place none = none-some _ (sym none ∙ place.4)

module _ {Y Z S : Type 0} (m : IndexMap (String Y) (Vec ℕ Z) S) (at : ℕ) (name : List ℕ) (here : IsAt m.entries at name) where
  -- the value at this place is what the file of this name has
  pub value_at : (v : Vec ℕ Z) → slice_get (values m) at ≡ Some v → files_in m.entries name ≡ Some v.items
  value_at v there = here.4 ∙ ap (option_map (λ w. w.items))
      (sym (slice_get-map (λ e. e.1) m.entries at ∙ ap (option_map (λ e. e.1)) here.2) ∙ there)

  -- the files with other bytes at this place
  pub written_at : IsDistinct string_eq (keys_of m.entries) → (w : Vec ℕ Z)
      → AreSame (with_file name w.items (files_in m.entries)) (files_in (with_value_at m at w).entries)
  written_at distinct w = files_follow m (with_value_at m at w) here.0 name here.3 (Some w)
      (updates-with_value_at m at w string_eq_equiv distinct here.0 here.1 here.2)

  -- the order is that of the names, which a write leaves
  pub in_order_written : AreInOrder m.entries → (w : Vec ℕ Z) → AreInOrder (with_value_at m at w).entries
  in_order_written order w = subst (λ ks. IsSorted string_cmp ks × IsDistinct string_eq ks) (sym (keys-with_value_at m at w)) order

  -- the files without that of this place
  pub removed_at : (new : IndexMap (String Y) (Vec ℕ Z) S) (p : String Y × Vec ℕ Z) → Some p ≡ slice_get m.entries at
      → Updates string_eq m new p.0 None → AreSame (removed name (files_in m.entries)) (files_in new.entries)
  removed_at new p there updates =
      files_follow m new p.0 name (ap (λ e. string_bytes e.0) (same_Some _ _ (there ∙ here.2)) ∙ here.3) None updates

module _ {Y Z : Type 0} (es : List (String Y × Vec ℕ Z)) (at : ℕ) (within : at < length es) where
  keys_removed : remove (keys_of es) at ≡ keys_of (remove es at)
  keys_removed =
      ap (λ l. l ++ drop (suc at) (keys_of es)) (take-map (λ e. e.0) at es)
      ∙ ap (λ l. keys_of (take at es) ++ l) (drop-map (λ e. e.0) (suc at) es)
      ∙ sym (map-append (λ e. e.0) (take at es) (drop (suc at) es))

  -- names without one of them ascend
  pub sorted_removed : IsSorted string_cmp (keys_of es) → IsSorted string_cmp (keys_of (remove es at))
  sorted_removed sorted = subst (IsSorted string_cmp) keys_removed (λ k d low in_bounds. pairs k (k + 1) d (omega arith) in_bounds)
    where
      all : AllPairs (λ a b. is_lt (string_cmp b a) ≡ false) (keys_of es)
      all i j d below inside = sorted_far _ (ranks_by string_cmp_total (λ a. a)) (keys_of es) sorted i j d (omega arith) inside

      pairs : AllPairs (λ a b. is_lt (string_cmp b a) ≡ false) (remove (keys_of es) at)
      pairs = all_pairs_remove (λ a b. is_lt (string_cmp b a) ≡ false) (keys_of es) at (omega (arith, length-map es (λ e. e.0))) all
