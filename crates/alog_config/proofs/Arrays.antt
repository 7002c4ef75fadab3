-- Arrays whose items are of one type: as far as they were read, and where one is of another.
use Rattle.std.proofs.Common.{◌≡◌, ℕ, ◌<◌, zero, suc, List, [], ◌∷◌, Bool, true, false, length, get_or}
use Rattle.std.proofs.Common.{map, Some, None, refl, sym, ap, subst, ◌∙◌, arith}
use Rattle.std.proofs.Common.{◌≤◌}
use Rattle.std.proofs.lemmas.List.{length-map}
use Rattle.alog_config.specs.declared.TheConstants.{TABLES_MAX}
use Rattle.alog_config.specs.Values.{AreLent, AreNames, IsNameList, IsTableArray, IsTexts, LentTables, tables_in}
use Rattle.toml.specs.Data.{Data, Items, no_items, item, Members, no_members, as_array, string}
use Rattle.toml.specs.Data.{integer, float, boolean, datetime, array, table}
use Rattle.toml.specs.View.{items_of}

-- each item of one type passes its test
pub each_passes : {X : Type 0} (f : X → Data) (pass : Data → Bool) → ((x : X) → pass (f x) ≡ true)
    → (xs : List X) (i : ℕ) (d : Data) → i < length (map f xs) → pass (get_or (map f xs) i d) ≡ true
each_passes f pass each [] i d h = absurd (omega arith)
each_passes f pass each (x ∷ xs) zero d h = each x
each_passes f pass each (x ∷ xs) (suc i) d h = each_passes f pass each xs i d (omega arith)

pub get_of_map : {X : Type 0} (f : X → Data) (xs : List X) (i : ℕ) (x : X) → i < length xs → x ≡ get_or xs i x
    → get_or (map f xs) i (f x) ≡ f x
get_of_map f [] i x h e = absurd (omega arith)
get_of_map f (y ∷ xs) zero x h e = ap f (sym e)
get_of_map f (y ∷ xs) (suc i) x h e = get_of_map f xs i x (omega arith) e

-- an item that does not pass a test that all items of a type do
pub record Fails {X Y : Type 0} (f : X → Data) (g : Y → Data) (pass : Data → Bool) (xs : List X) (i : ℕ) (x : X) : Type 0 where
  pub each : (y : Y) → pass (g y) ≡ true
  pub within : i < length xs
  pub here : x ≡ get_or xs i x
  pub fails : pass (f x) ≡ false

-- so the items are not all of the type
pub not_all : {X Y : Type 0} {f : X → Data} {g : Y → Data} {pass : Data → Bool} {xs : List X} {i : ℕ} {x : X}
    → Fails f g pass xs i x → (ys : List Y) → ¬ (map f xs ≡ map g ys)
not_all {f} {g} {pass} {xs} {i} {x} h ys same =
    let here : get_or (map f xs) i (f x) ≡ f x = get_of_map f xs i x h.within h.here in
    let there : get_or (map g ys) i (f x) ≡ f x = subst (λ ds. get_or ds i (f x) ≡ f x) same here in
    let long : i < length (map g ys) = subst (λ ds. i < length ds) same (rw (length-map xs f) h.within) in
    let passes : pass (f x) ≡ true = subst (λ d. pass d ≡ true) there (each_passes g pass h.each ys i (f x) long) in
    let clash : true ≡ false = sym passes ∙ h.fails in
    absurd (cc)

-- the data are the array that is read from them
pub is_array : (d : Data) (is : Items) → as_array d ≡ Some is → d ≡ array is
is_array (array js) is e = let same : js ≡ is = cc in ap array same
is_array (string t) is e = absurd (cc e)
is_array (integer z) is e = absurd (cc e)
is_array (float x) is e = absurd (cc e)
is_array (boolean b) is e = absurd (cc e)
is_array (datetime t) is e = absurd (cc e)
is_array (table ms) is e = absurd (cc e)

-- what was put into items, into strings, into tables, comes back
abbrev list_of : Items → List Data
list_of no_items = []
list_of (item d ds) = d ∷ list_of ds

back_of_items : (ds : List Data) → list_of (items_of ds) ≡ ds
back_of_items [] = refl
back_of_items (d ∷ ds) = ap (λ t. d ∷ t) (back_of_items ds)

abbrev text_of : Data → List ℕ
text_of (string s) = s
text_of _ = []

abbrev members_in : Data → Members
members_in (table ms) = ms
members_in _ = no_members

back_of_map : {X : Type 0} (f : X → Data) (g : Data → X) → ((x : X) → g (f x) ≡ x) → (xs : List X) → map g (map f xs) ≡ xs
back_of_map f g back [] = refl
back_of_map f g back (x ∷ xs) = rw (back x) (ap (λ t. x ∷ t) (back_of_map f g back xs))

pub same_values : (ds es : List Data) → array (items_of ds) ≡ array (items_of es) → ds ≡ es
same_values ds es e =
    let some : Some (items_of ds) ≡ Some (items_of es) = ap as_array e in
    let items : items_of ds ≡ items_of es = cc in
    sym (back_of_items ds) ∙ ap list_of items ∙ back_of_items es

pub same_texts : (xs ys : List (List ℕ)) → map string xs ≡ map string ys → xs ≡ ys
same_texts xs ys e = sym (back_of_map string text_of (λ x. refl) xs) ∙ ap (map text_of) e ∙ back_of_map string text_of (λ x. refl) ys

pub same_tables : (xs ys : List Members) → map table xs ≡ map table ys → xs ≡ ys
same_tables xs ys e = sym (back_of_map table members_in (λ x. refl) xs) ∙ ap (map members_in) e
    ∙ back_of_map table members_in (λ x. refl) ys

-- an array that is no list of names
pub no_texts : (d : Data) (ds : List Data) → d ≡ array (items_of ds) → IsTexts ds None → (names : List (List ℕ)) → ¬ IsNameList d names
no_texts d ds is none names h = none names (same_values ds (map string names) (sym is ∙ h.0))

pub no_names : (d : Data) (ds : List Data) (texts : List (List ℕ)) → d ≡ array (items_of ds) → ds ≡ map string texts → ¬ AreNames texts
    → (names : List (List ℕ)) → ¬ IsNameList d names
no_names d ds texts is e bad names h =
    let same : texts ≡ names = same_texts texts names (sym e ∙ same_values ds (map string names) (sym is ∙ h.0)) in
    bad (subst AreNames (sym same) h.1)

-- an array that is none of tables
pub no_tables : (d : Data) (ds : List Data) → d ≡ array (items_of ds) → AreLent ds None → (v : LentTables) → ¬ IsTableArray d v
no_tables d ds is none v h = none (tables_in v) (same_values ds (map table (tables_in v)) (sym is ∙ h.0))

pub too_many : (d : Data) (ds : List Data) (v : LentTables) → d ≡ array (items_of ds) → ds ≡ map table (tables_in v)
    → ¬ (length (tables_in v) ≤ TABLES_MAX) → (w : LentTables) → ¬ IsTableArray d w
too_many d ds v is e many w h =
    let same : tables_in v ≡ tables_in w = same_tables (tables_in v) (tables_in w) (sym e
    ∙ same_values ds (map table (tables_in w)) (sym is ∙ h.0)) in
    many (subst (λ (ts : List Members). length ts ≤ TABLES_MAX) (sym same) h.1)
