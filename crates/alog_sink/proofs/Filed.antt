-- What files in memory are after one name was written, and what an append comes to.
use Rattle.std.proofs.Common.{◌≡◌, ℕ, Bool, true, false, cond, Option, None, Some, List, [], ◌++◌, String, Vec}
use Rattle.std.proofs.Common.{Result, Ok, Err, string_bytes, string_eq, refl, sym, ap, ◌∙◌, subst, is_ok, OnOk, OnErr}
use Rattle.std.specs.Map.{update}
use Rattle.std.specs.Option.{option_map, unwrap_or}
use Rattle.std.specs.Str.{bytes_eq}
use Rattle.std.specs.Cmp.Lexicographic.{bytes_decides, nat_list_eq_equiv}
use Rattle.alog_sink.specs.Files.{Files, AreSame, appended, with_file}
use Rattle.indexmap.specs.IndexMap.{IndexMap, Updates, get_by_text}
use Rattle.std.proofs.lemmas.Map.Text.{hash_map_updates_text}
use Rattle.alog_sink.specs.Listed.{files_in, HasOthers}

mapped : {A B : Type 0} (f : A → B) (b : Bool) (x y : Option A) → option_map f (cond b x y) ≡ cond b (option_map f x) (option_map f y)
mapped f true x y = refl
mapped f false x y = refl

module _ {Y Z S : Type 0} (old new : IndexMap (String Y) (Vec ℕ Z) S) (k : String Y) (name : List ℕ) (named : string_bytes k ≡ name) where
  -- the files follow the map
  pub files_follow : (w : Option (Vec ℕ Z)) → Updates string_eq old new k w
      → AreSame (update bytes_eq (files_in old.entries) name (option_map (λ v. v.items) w)) (files_in new.entries)
  files_follow w updates = subst
      (λ n. AreSame (update bytes_eq (files_in old.entries) n (option_map (λ v. v.items) w)) (files_in new.entries))
      named
      (λ n. ap (option_map (λ v. v.items)) (hash_map_updates_text (string_bytes k) old new w updates n)
      ∙ mapped (λ (v : Vec ℕ Z). v.items) (bytes_eq (string_bytes k) n) w (get_by_text old n))

-- the same bytes under the same name change nothing
pub unchanged : (files : Files) (name bytes : List ℕ) → files name ≡ Some bytes → AreSame (with_file name bytes files) files
unchanged files name bytes there n = at (bytes_eq name n) refl
  where
    at : (b : Bool) → bytes_eq name n ≡ b → files n ≡ cond b (Some bytes) (files n)
    at true e = ap files (sym ((bytes_decides name n).0 e)) ∙ there
    at false e = refl

-- the bytes that a file has now are those of its growth, or the old ones where that was refused
module _ {E : Type 0} (old new : Files) (name bytes was now : List ℕ) where
  pub extended : (r : Result (Unit {0}) E) → old name ≡ Some was → now ≡ cond (is_ok r) (was ++ bytes) was
      → AreSame (with_file name now old) new
      → OnOk r (AreSame (appended name bytes old) new) × OnErr r (AreSame old new)
  extended (Ok _) there grown same =
      (λ n. same n ∙ ap (λ o. cond (bytes_eq name n) (Some o) (old n)) (grown ∙ ap (λ o. unwrap_or o [] ++ bytes) (sym there)), tt)
  extended (Err _) there grown same =
      (tt, λ n. same n ∙ (ap (λ o. cond (bytes_eq name n) (Some o) (old n)) grown ∙ sym (unchanged old name was there n)))

-- an absent file has no bytes before those appended
pub made : {E : Type 0} (old new : Files) (name bytes : List ℕ) (r : Result (Unit {0}) E) → old name ≡ None
    → OnOk r (AreSame (with_file name bytes old) new) → OnOk r (AreSame (appended name bytes old) new)
made old new name bytes r none h = subst (λ o. OnOk r (AreSame (with_file name (unwrap_or o [] ++ bytes) old) new)) (sym none) h

-- room under the new name of a file leaves it
pub source_kept : (from to : List ℕ) (files roomy : Files) → bytes_eq from to ≡ false → HasOthers to files roomy → roomy from ≡ files from
source_kept from to files roomy apart others = others from (nat_list_eq_equiv.symm to from ∙ apart)
