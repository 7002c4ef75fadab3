-- Rows of files whose names rise: a file more, and that the files determine the row.
use Rattle.std.proofs.Common.{◌≡◌, ℕ, suc, ◌+◌, Bool, true, false, if◌then◌else◌, cond, Ordering, Less, Equal, Greater, Option, None, Some, List, [], ◌∷◌}
use Rattle.std.proofs.Common.{refl, sym, ap, subst, ◌∙◌, String, Vec, string_bytes, string_cmp, IsSorted, arith, is_eq, is_lt}
use Rattle.std.specs.Prelude.{option_map, slice_index_or}
use Rattle.std.specs.Cmp.Lexicographic.{bytes_decides}
use Rattle.std.specs.List.{IsDistinct}
use Rattle.std.specs.Map.{keys_of, lookup}
use Rattle.std.specs.Ordering.{ordering_reverse}
use Rattle.std.specs.Str.{bytes_eq}
use Rattle.std.proofs.lemmas.Bool.{false≢true}
use Rattle.std.proofs.lemmas.Cmp.{nat_list_cmp_total}
use Rattle.std.proofs.lemmas.Map.Text.{is_eq-slice_cmp}
use Rattle.std.proofs.lemmas.Option.{none-some, same_Some}
use Rattle.alog_sink.specs.Files.{AreSame}
use Rattle.alog_sink.specs.Listed.{AreInOrder, entries_of, files_in}
use Rattle.alog_replay.specs.Rows.{File, Row, name_cmp, AreAbove, Rises, files_of, placed, put_in, in_order}

-- names by their order
same_name : (a b : List ℕ) → name_cmp a b ≡ Equal → a ≡ b
same_name a b e = (bytes_decides a b).0 (sym (is_eq-slice_cmp a b) ∙ ap is_eq e)

is_itself : (a : List ℕ) → bytes_eq a a ≡ true
is_itself a = (bytes_decides a a).1 refl

apart : (a b : List ℕ) → name_cmp a b ≡ Less → bytes_eq a b ≡ false
apart a b e = sym (is_eq-slice_cmp a b) ∙ ap is_eq e

above : (a b : List ℕ) → name_cmp a b ≡ Greater → name_cmp b a ≡ Less
above a b e = nat_list_cmp_total.antisymm b a ∙ ap ordering_reverse e

all_above : (a b : List ℕ) (row : Row) → name_cmp a b ≡ Less → AreAbove b row → AreAbove a row
all_above a b [] e h = tt
all_above a b (f ∷ row) e h = (nat_list_cmp_total.trans a b f.0 e h.0, all_above a b row e h.1)

-- a row that rises is in order
put_first : (f : File) (row : Row) → AreAbove f.0 row → put_in f row ≡ f ∷ row
put_first f [] h = refl
put_first f (g ∷ row) h = ap (λ o. placed o f g row (put_in f row)) h.0

rises_in_order : (row : Row) → Rises row → in_order row ≡ row
rises_in_order [] h = refl
rises_in_order (f ∷ row) h = ap (put_in f) (rises_in_order row h.1) ∙ put_first f row h.0

-- and what is in order rises
above_put : (a : List ℕ) (f : File) (row : Row) → name_cmp a f.0 ≡ Less → AreAbove a row → AreAbove a (put_in f row)
above_put a f [] e h = (e, tt)
above_put a f (g ∷ row) e h =
    let more = above_put a f row e h.1 in
    elim (name_cmp f.0 g.0) as (λ o. AreAbove a (placed o f g row (put_in f row))) [
      | Less ↦ (e, h)
      | Equal ↦ (e, h.1)
      | Greater ↦ (h.0, more)
    ]

rises_placed : (o : Ordering) (f g : File) (row : Row) → name_cmp f.0 g.0 ≡ o → Rises (g ∷ row) → Rises (put_in f row)
    → Rises (placed o f g row (put_in f row))
rises_placed Less f g row e h m = ((e, all_above f.0 g.0 row e h.0), h)
rises_placed Equal f g row e h m = (subst (λ (n : List ℕ). AreAbove n row) (sym (same_name f.0 g.0 e)) h.0, h.1)
rises_placed Greater f g row e h m = (above_put g.0 f row (above f.0 g.0 e) h.0, m)

rises_put : (f : File) (row : Row) → Rises row → Rises (put_in f row)
rises_put f [] h = (tt, tt)
rises_put f (g ∷ row) h = rises_placed (name_cmp f.0 g.0) f g row refl h (rises_put f row h.1)

pub in_order_rises : (row : Row) → Rises (in_order row)
in_order_rises [] = tt
in_order_rises (f ∷ row) = rises_put f (in_order row) (in_order_rises row)

-- with the same files
either_way : (b c : Bool) (x y z : Option (List ℕ)) → (b ≡ true → c ≡ false)
    → (if b then x else if c then y else z) ≡ (if c then y else if b then x else z)
either_way true true x y z h = absurd (false≢true (sym (h refl)))
either_way true false x y z h = refl
either_way false true x y z h = refl
either_way false false x y z h = refl

first_alone : (b c : Bool) (x y z : Option (List ℕ)) → b ≡ c → (if b then x else z) ≡ (if b then x else if c then y else z)
first_alone true c x y z e = refl
first_alone false true x y z e = absurd (false≢true e)
first_alone false false x y z e = refl

has_placed : (o : Ordering) (f g : File) (row : Row) (name : List ℕ) → name_cmp f.0 g.0 ≡ o
    → files_of (put_in f row) name ≡ files_of (f ∷ row) name → files_of (placed o f g row (put_in f row)) name ≡ files_of (f ∷ g ∷ row) name
has_placed Less f g row name e m = refl
has_placed Equal f g row name e m =
    first_alone (bytes_eq name f.0) (bytes_eq name g.0) (Some f.1) (Some g.1) (files_of row name) (ap (bytes_eq name) (same_name f.0 g.0 e))
has_placed Greater f g row name e m =
    ap (λ z. if bytes_eq name g.0 then Some g.1 else z) m
    ∙ either_way (bytes_eq name g.0) (bytes_eq name f.0) (Some g.1) (Some f.1) (files_of row name)
    (λ is. ap (λ n. bytes_eq n f.0) ((bytes_decides name g.0).0 is) ∙ apart g.0 f.0 (above f.0 g.0 e))

has_put : (f : File) (row : Row) (name : List ℕ) → files_of (put_in f row) name ≡ files_of (f ∷ row) name
has_put f [] name = refl
has_put f (g ∷ row) name = has_placed (name_cmp f.0 g.0) f g row name refl (has_put f row name)

in_order_has : (row : Row) → AreSame (files_of row) (files_of (in_order row))
in_order_has [] name = refl
in_order_has (f ∷ row) name = has_put f (in_order row) name ∙ ap (λ z. if bytes_eq name f.0 then Some f.1 else z) (in_order_has row name)

-- a row that rises is determined by its files
absent : (name : List ℕ) (row : Row) → AreAbove name row → files_of row name ≡ None
absent name [] h = refl
absent name (f ∷ row) h = ap (λ b. if b then Some f.1 else files_of row name) (apart name f.0 h.0) ∙ absent name row h.1

first_of : (f : File) (row : Row) → files_of (f ∷ row) f.0 ≡ Some f.1
first_of f row = ap (λ b. if b then Some f.1 else files_of row f.0) (is_itself f.0)

behind_first : (b : Bool) (x y z w : Option (List ℕ)) → b ≡ false → (if b then x else z) ≡ (if b then y else w) → z ≡ w
behind_first true x y z w e h = absurd (false≢true (sym e))
behind_first false x y z w e h = h

-- rows that begin with the same name, rise and have the same files
record BeginAlike (f g : File) (r s : Row) : Type 0 where
  name : f.0 ≡ g.0
  one : Rises (f ∷ r)
  other : Rises (g ∷ s)
  files : (n : List ℕ) → files_of (f ∷ r) n ≡ files_of (g ∷ s) n

rest_same_by : {f g : File} {r s : Row} → BeginAlike f g r s → (name : List ℕ) {b : Bool} → bytes_eq name f.0 ≡ b
    → files_of r name ≡ files_of s name
rest_same_by {f} {g} {r} {s} alike name {b = true} is =
    let here : name ≡ f.0 = (bytes_decides name f.0).0 is in
    absent name r (subst (λ (n : List ℕ). AreAbove n r) (sym here) alike.one.0)
    ∙ sym (absent name s (subst (λ (n : List ℕ). AreAbove n s) (sym (here ∙ alike.name)) alike.other.0))
rest_same_by {f} {g} {r} {s} alike name {b = false} is =
    behind_first (bytes_eq name f.0) (Some f.1) (Some g.1) (files_of r name) (files_of s name) is
    (alike.files name ∙ ap (λ n. if bytes_eq name n then Some g.1 else files_of s name) (sym alike.name))

one_first : {o : Ordering} {f g : File} {r s : Row} → name_cmp f.0 g.0 ≡ o → Rises (f ∷ r) → Rises (g ∷ s)
    → ((name : List ℕ) → files_of (f ∷ r) name ≡ files_of (g ∷ s) name)
    → (((name : List ℕ) → files_of r name ≡ files_of s name) → r ≡ s) → f ∷ r ≡ g ∷ s
one_first {o = Less} {f} {g} {r} {s} e h k all rest =
    absurd (none-some f.1 (sym (absent f.0 (g ∷ s) (e, all_above f.0 g.0 s e k.0)) ∙ (sym (all f.0) ∙ first_of f r)))
one_first {o = Equal} {f} {g} {r} {s} e h k all rest =
    let names = same_name f.0 g.0 e in
    let bytes : f.1 ≡ g.1 = same_Some f.1 g.1 (sym (first_of f r) ∙ (all f.0 ∙ (ap (files_of (g ∷ s)) names ∙ first_of g s))) in
    let alike : BeginAlike f g r s = record { name = names; one = h; other = k; files = all } in
    let tail = rest (λ name. rest_same_by alike name {b = bytes_eq name f.0} refl) in
    ap (λ n. (n, f.1) ∷ r) names ∙ (ap (λ x. (g.0, x) ∷ r) bytes ∙ ap (λ l. g ∷ l) tail)
one_first {o = Greater} {f} {g} {r} {s} e h k all rest =
    let low = above f.0 g.0 e in
    absurd (none-some g.1 (sym (absent g.0 (f ∷ r) (low, all_above g.0 f.0 r low h.0)) ∙ (all g.0 ∙ first_of g s)))

pub one_row : (r s : Row) → Rises r → Rises s → ((name : List ℕ) → files_of r name ≡ files_of s name) → r ≡ s
one_row [] [] h k all = refl
one_row [] (g ∷ s) h k all = absurd (none-some g.1 (all g.0 ∙ first_of g s))
one_row (f ∷ r) [] h k all = absurd (none-some f.1 (sym (all f.0) ∙ first_of f r))
one_row (f ∷ r) (g ∷ s) h k all = one_first {o = name_cmp f.0 g.0} {f = f} {g = g} refl h k all (one_row r s h.1 k.1)

-- The files of a store in memory.
looked_up : {Z : Type 0} (b : Bool) (v : Vec ℕ Z) (o : Option (Vec ℕ Z))
    → option_map (λ (v : Vec ℕ Z). v.items) (cond b (Some v) o) ≡ (if b then Some v.items else option_map (λ (v : Vec ℕ Z). v.items) o)
looked_up true v o = refl
looked_up false v o = refl

below : (o : Ordering) (a b : List ℕ) → name_cmp a b ≡ o → bytes_eq a b ≡ false → is_lt (name_cmp b a) ≡ false → o ≡ Less
below Less a b e n s = refl
below Equal a b e n s = absurd (false≢true (sym n ∙ (sym (is_eq-slice_cmp a b) ∙ ap is_eq e)))
below Greater a b e n s = absurd (false≢true (sym s ∙ ap is_lt (above a b e)))

module _ {Y Z : Type 0} where
  entries_have : (es : List (String Y × Vec ℕ Z)) → AreSame (files_in es) (files_of (entries_of es))
  entries_have [] name = refl
  entries_have (e ∷ es) name =
      ap (λ o. if bytes_eq name (string_bytes e.0) then Some e.1.items else o) (entries_have es name)
      ∙ sym (looked_up (bytes_eq name (string_bytes e.0)) e.1 (lookup (λ k. bytes_eq name (string_bytes k)) es))

  tail_sorted : (e : String Y × Vec ℕ Z) (es : List (String Y × Vec ℕ Z)) → IsSorted string_cmp (keys_of (e ∷ es)) → IsSorted string_cmp (keys_of es)
  tail_sorted e es h = λ k d low within.
      let next : suc k + 1 ≡ suc (k + 1) = omega arith in
      subst (λ (j : ℕ). is_lt (string_cmp (slice_index_or (keys_of (e ∷ es)) j d) (slice_index_or (keys_of es) k d)) ≡ false) next
      (h (suc k) d (omega arith) (omega (arith, within)))

  above_first : (e f : String Y × Vec ℕ Z) (es : List (String Y × Vec ℕ Z)) → AreInOrder (e ∷ f ∷ es)
      → name_cmp (string_bytes e.0) (string_bytes f.0) ≡ Less
  unfolding IsDistinct
  above_first e f es h =
      below (name_cmp (string_bytes e.0) (string_bytes f.0)) (string_bytes e.0) (string_bytes f.0) refl h.1.0.0 (h.0 0 e.0 (omega arith) (omega arith))

  entries_rise : (es : List (String Y × Vec ℕ Z)) → AreInOrder es → Rises (entries_of es)
  unfolding IsDistinct
  entries_rise [] h = tt
  entries_rise (e ∷ []) h = (tt, tt)
  entries_rise (e ∷ f ∷ es) h =
      let rest = entries_rise (f ∷ es) (tail_sorted e (f ∷ es) h.0, h.1.1) in
      let first = above_first e f es h in
      ((first, all_above (string_bytes e.0) (string_bytes f.0) (entries_of es) first rest.0), rest)

  pub row_has : (es : List (String Y × Vec ℕ Z)) → AreSame (files_in es) (files_of (in_order (entries_of es)))
  row_has es name = in_order_has (entries_of es) name ∙ entries_have es name

  pub listed_in_order : (es : List (String Y × Vec ℕ Z)) (row : Row) → AreInOrder es → entries_of es ≡ row → row ≡ in_order row
  listed_in_order es row h e = sym (rises_in_order row (subst Rises e (entries_rise es h)))

  pub same_row : (es fs : List (String Y × Vec ℕ Z)) → AreSame (files_in es) (files_in fs) → in_order (entries_of es) ≡ in_order (entries_of fs)
  same_row es fs h =
      one_row (in_order (entries_of es)) (in_order (entries_of fs)) (in_order_rises (entries_of es)) (in_order_rises (entries_of fs))
      (λ name. row_has es name ∙ (sym (h name) ∙ sym (row_has fs name)))
