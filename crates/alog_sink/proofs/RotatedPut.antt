-- The deeds of a line, by the calls that were made.
use Rattle.std.proofs.Common.{◌≡◌, ◌≢◌, ℕ, ◌+◌, ◌<◌, ◌^◌, cond, ltb, ◌&&◌, true, List, [], ◌∷◌, ◌++◌, refl, sym, ap, ◌∙◌, subst, inl, inr}
use Rattle.std.specs.Option.{option_map, unwrap_or}
use Rattle.std.proofs.Common.{Option, None, Some, String, string_bytes, length, map, length-append, arith}
use Rattle.std.proofs.lemmas.Bool.{cases_lt}
use Rattle.std.proofs.lemmas.Bool.Decides.{nat_tests}
use Rattle.std.proofs.lemmas.List.{get_or_append_left, get_or_push, length-map, map_push}
use Rattle.alog_sink.specs.Calls.{LeavesFront}
use Rattle.alog_sink.specs.Deeds.{Append, all_done, BreaksOff}
use Rattle.alog_sink.specs.Files.{Files, AreSame, appended}
use Rattle.alog_sink.specs.Names.{numbered}
use Rattle.alog_sink.specs.RotationDeeds.{Rotating, AreNumbersOf, StandsFor, gives_up, makes_room, deeds_of, size_left, with_line}
use Rattle.alog_sink.proofs.RotatedDoes.{HasDone, one_done, one_failed, breaks_off_before, all_are_done}
use Rattle.alog_sink.proofs.RotatedOn.{stands_alike, stands_for_more}

pub numbers_push : {Z : Type 0} (file : List ℕ) (names : List (String Z)) (name : String Z) (n : ℕ) → length names ≡ n
    → AreNumbersOf file (map string_bytes names) → string_bytes name ≡ numbered file n
    → AreNumbersOf file (map string_bytes (names ++ name ∷ []))
numbers_push file names name n count are e =
    subst (AreNumbersOf file) (sym (map_push string_bytes names name)) each
  where
    each : AreNumbersOf file (map string_bytes names ++ string_bytes name ∷ [])
    each i less = elim (cases_lt i (length (map string_bytes names))) [
      | inl l ↦ get_or_append_left (map string_bytes names) (string_bytes name ∷ []) [] i l ∙ are i l
      | inr l ↦
          let last : length (map string_bytes names) ≡ i = omega (arith, length-append (map string_bytes names) (string_bytes name ∷ [])) in
          get_or_push (map string_bytes names) (string_bytes name) [] i last
          ∙ (e ∙ ap (numbered file) (omega (arith, length-map names string_bytes)))
    ]

pub full_room : (r : Rotating) (bytes : ℕ) → r.size ≢ 0 → r.limits.max_size < r.size + bytes
    → makes_room r bytes ≡ gives_up r.limits.file r.limits.max_files
full_room r bytes some more = ap (λ f. cond f (gives_up r.limits.file r.limits.max_files) [])
    (full r.size r.limits.max_size bytes some more)
  where
    full : (size max bytes : ℕ) → size ≢ 0 → max < size + bytes → (ltb 0 size && ltb max (size + bytes)) ≡ true
    full size max bytes some more = grind (arith, nat_tests)

deeds_are : (r : Rotating) (line : List ℕ) → length line ≢ 0 → deeds_of r line
    ≡ makes_room r (length line) ++ Append r.limits.file line ∷ []
deeds_are r [] some = absurd (some refl)
deeds_are r (b ∷ line) some = refl

module _ (r : Rotating) (line : List ℕ) (some : length line ≢ 0) (old : Files) where
  pub room_breaks : (new : Files) → BreaksOff (makes_room r (length line)) old new → BreaksOff (deeds_of r line) old new
  room_breaks new broken =
      subst (λ deeds. BreaksOff deeds old new) (sym (deeds_are r line some))
      (breaks_off_before (makes_room r (length line)) (Append r.limits.file line ∷ []) old new broken)

  module _ (name : List ℕ) (named : name ≡ r.limits.file) (mid new : Files)
      (room : AreSame (all_done (makes_room r (length line)) old) mid) where
    at : HasDone (deeds_of r line) (Append name line ∷ []) old mid
    at = record {
      before = makes_room r (length line);
      are = deeds_are r line some ∙ ap (λ file. makes_room r (length line) ++ Append file line ∷ []) (sym named);
      same = room;
    }

    pub line_breaks : LeavesFront name line mid new → BreaksOff (deeds_of r line) old new
    line_breaks leaves = one_failed (deeds_of r line) [] (Append name line) old mid new at leaves

    pub line_does : AreSame (appended name line mid) new → AreSame (all_done (deeds_of r line) old) new
    line_does same = all_are_done (deeds_of r line) old new (one_done (deeds_of r line) [] (Append name line) old mid new at same)

    pub line_stands : r.limits.max_files < 2 ^ 64 → AreSame (appended name line mid) new → (opening : Files) (lines : List (List ℕ))
        → StandsFor r opening lines old → StandsFor (with_line r line) opening (lines ++ line ∷ []) new
    line_stands small same opening lines stands =
        stands_alike (with_line r line) opening (lines ++ line ∷ []) (all_done (deeds_of r line) old) new (line_does same)
        (stands_for_more r small opening lines old line stands)

pub with_line_is : (r : Rotating) (line : List ℕ) (left : ℕ) → length line ≢ 0 → left ≡ size_left r (length line)
    → with_line r line ≡ record { limits = r.limits; size = left + length line }
with_line_is r [] left some e = absurd (some refl)
with_line_is r (b ∷ line) left some e = ap (λ n. record r { size = n + length (b ∷ line) }) (sym e)

pub size_told : (file : Option (List ℕ)) → unwrap_or (option_map length file) 0 ≡ length (unwrap_or file [])
size_told None = refl
size_told (Some bytes) = refl
