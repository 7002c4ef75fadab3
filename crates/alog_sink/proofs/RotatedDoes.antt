-- Deeds that were done, and one more; deeds that broke off.
use Rattle.std.proofs.Common.{◌≡◌, ℕ, zero, suc, ◌-◌, ◌<◌, ◌≤◌, List, [], ◌∷◌, ◌++◌, Result, Ok, Err, refl, sym, ap, ◌∙◌, subst, inl, inr}
use Rattle.std.proofs.Common.{append_assoc, append-nil, OnOk, OnErr, String, string_bytes, length, map, get_or, arith}
use Rattle.std.proofs.lemmas.List.{get_or-map, length-map}
use Rattle.alog_sink.specs.Calls.{Counts}
use Rattle.alog_sink.specs.Deeds.{Deed, Append, Rename, Remove, done, all_done, Fails, BreaksOff, Does}
use Rattle.alog_sink.specs.Files.{Files, AreSame, appended, removed, renamed}
use Rattle.alog_sink.specs.Names.{numbered}
use Rattle.alog_sink.specs.RotationDeeds.{AreNumbersOf, renames, gives_up}
use Rattle.alog_sink.proofs.RotatedFiles.{done_alike, all_done-append}

pub same_then : (files others last : Files) → AreSame files others → AreSame others last → AreSame files last
same_then files others last same more n = more n ∙ same n

pub fails_alike : (deed : Deed) (files others new : Files) → AreSame files others → Fails deed others new → Fails deed files new
fails_alike (Append name bytes) files others new same (inl stays) = inl (same_then files others new same stays)
fails_alike (Append name bytes) files others new same (inr w) =
    inr (
      w.0,
      w.1,
      w.2,
      same_then (appended name w.0 files) (appended name w.0 others) new
          (done_alike (Append name w.0) files others same) w.3,
    )
fails_alike (Rename from to) files others new same stays = same_then files others new same stays
fails_alike (Remove name) files others new same stays = same_then files others new same stays

-- deeds of which the first failed
pub fails_same : (deed : Deed) {old new : Files} → AreSame old new → Fails deed old new
fails_same (Append name bytes) same = inl same
fails_same (Rename from to) same = same
fails_same (Remove name) same = same

pub unbegun : (deeds : List Deed) (last : Deed) {old new : Files} → AreSame old new → BreaksOff (deeds ++ last ∷ []) old new
unbegun [] last same = record { before = []; failed = last; after = []; are = refl; leaves = fails_same last same }
unbegun (deed ∷ deeds) last same = record {
  before = [];
  failed = deed;
  after = deeds ++ last ∷ [];
  are = refl;
  leaves = fails_same deed same;
}

-- Of some deeds a first part is done, and what is left of them.
pub record HasDone (deeds left : List Deed) (old new : Files) : Type 0 where
  pub before : List Deed
  pub are : deeds ≡ before ++ left
  pub same : AreSame (all_done before old) new

pub nothing_done : (deeds : List Deed) (old : Files) → HasDone deeds deeds old old
nothing_done deeds old = record { before = []; are = refl; same = λ n. refl }

module _ (deeds left : List Deed) (deed : Deed) (old files new : Files) (h : HasDone deeds (deed ∷ left) old files) where
  pub one_done : AreSame (done deed files) new → HasDone deeds left old new
  one_done same = record {
    before = h.before ++ deed ∷ [];
    are = h.are ∙ sym (append_assoc h.before (deed ∷ []) left);
    same = λ n.
        same n ∙ (done_alike deed (all_done h.before old) files h.same n
        ∙ sym (ap (λ f. f n) (all_done-append h.before (deed ∷ []) old)));
  }

  pub one_failed : Fails deed files new → BreaksOff deeds old new
  one_failed fails = record {
    before = h.before;
    failed = deed;
    after = left;
    are = h.are;
    leaves = fails_alike deed (all_done h.before old) files new h.same fails;
  }

pub all_are_done : (deeds : List Deed) (old new : Files) → HasDone deeds [] old new → AreSame (all_done deeds old) new
all_are_done deeds old new h n = h.same n ∙ ap (λ ds. all_done ds old n) (sym (h.are ∙ append-nil h.before))

pub breaks_off_before : (deeds more : List Deed) (old new : Files) → BreaksOff deeds old new → BreaksOff (deeds ++ more) old new
breaks_off_before deeds more old new b = record {
  before = b.before;
  failed = b.failed;
  after = b.after ++ more;
  are = ap (λ ds. ds ++ more) b.are ∙ append_assoc b.before (b.failed ∷ b.after) more;
  leaves = b.leaves;
}

module _ {A E : Type 0} (deeds : List Deed) (old new : Files) where
  pub does_ok : (x : A) → AreSame (all_done deeds old) new → Does {A = A} {E = E} deeds old new (Ok x)
  does_ok x same = record { done = same; failed = tt }

  pub does_err : (r : Result A E) (e : E) → r ≡ Err e → BreaksOff deeds old new → Does deeds old new r
  does_err r e is broken = subst (λ x. Does deeds old new x) (sym is) (record { done = tt; failed = broken })

-- a call whose failure is counted, after calls that did not fail
pub counts_err : {A B E : Type 0} {r : Result A E} {e : E} → r ≡ Err e → {e' : E} {old mid new : ℕ} → mid ≡ old
    → Counts {A = B} {E = E} mid new (Err e') → Counts old new r
counts_err {A} {B} {E} {e} is {old} {new} same counts =
    subst (λ x. Counts old new x) (sym is) (subst (λ m. Counts {A = A} {E = E} m new (Err e)) same
    (record { done = tt; failed = counts.failed }))

pub counts_ok : {A E : Type 0} (x : A) (old new : ℕ) → new ≡ old → Counts {A = A} {E = E} old new (Ok x)
counts_ok x old new same = record { done = same; failed = tt }

-- each name of a list of names is the number of its place
pub name_at : {Z : Type 0} (file : List ℕ) (names : List (String Z)) → AreNumbersOf file (map string_bytes names) → (k : ℕ) (s : String Z)
    → k < length names → s ≡ get_or names k s → string_bytes s ≡ numbered file k
name_at file names are k s less e =
    ap string_bytes e ∙ (sym (get_or-map string_bytes names k s [] less) ∙ are k (omega (arith, length-map names string_bytes)))

pub gives_up_is : (file : List ℕ) (n : ℕ) → 1 ≤ n → gives_up file n ≡ renames file n
gives_up_is file zero some = absurd (omega arith)
gives_up_is file (suc n) some = refl

none_left : (file : List ℕ) (n : ℕ) → n ≡ 0 → renames file n ≡ []
none_left file n e = ap (renames file) e

rename_next : (file : List ℕ) (m j : ℕ) → m ≡ suc j → renames file m ≡ Rename (numbered file j) (numbered file m) ∷ renames file j
rename_next file m j e = subst (λ n. renames file n ≡ Rename (numbered file j) (numbered file n) ∷ renames file j) (sym e) refl

-- the rename of the number before i - 1 to that, where those above are done
module _ (deeds : List Deed) (file : List ℕ) (i : ℕ) (more : 1 < i) (from to : List ℕ) (is_from : from ≡ numbered file (i - 1 - 1))
    (is_to : to ≡ numbered file (i - 1)) (old files new : Files) (h : HasDone deeds (renames file (i - 1)) old files) where
  next : renames file (i - 1) ≡ Rename from to ∷ renames file (i - 1 - 1)
  next =
      rename_next file (i - 1) (i - 1 - 1) (omega arith)
      ∙ (ap (λ f. Rename f (numbered file (i - 1)) ∷ renames file (i - 1 - 1)) (sym is_from)
      ∙ ap (λ t. Rename from t ∷ renames file (i - 1 - 1)) (sym is_to))

  at : HasDone deeds (Rename from to ∷ renames file (i - 1 - 1)) old files
  at = subst (λ left. HasDone deeds left old files) next h

  pub renamed_one : AreSame (renamed from to files) new → HasDone deeds (renames file (i - 1 - 1)) old new
  renamed_one same = one_done deeds (renames file (i - 1 - 1)) (Rename from to) old files new at same

  pub renamed_none : AreSame files new → BreaksOff deeds old new
  renamed_none same = one_failed deeds (renames file (i - 1 - 1)) (Rename from to) old files new at same

pub renamed_all : (file : List ℕ) (n i : ℕ) → i ≤ 1 → 1 ≤ n → (old new : Files) → HasDone (gives_up file n) (renames file (i - 1)) old new
    → AreSame (all_done (gives_up file n) old) new
renamed_all file n i less some old new h =
    all_are_done (gives_up file n) old new
    (subst (λ left. HasDone (gives_up file n) left old new) (none_left file (i - 1) (omega arith)) h)

pub renames_begin : (file : List ℕ) (n : ℕ) → 1 ≤ n → (old : Files) → HasDone (gives_up file n) (renames file n) old old
renames_begin file n some old =
    subst (λ left. HasDone (gives_up file n) left old old) (gives_up_is file n some) (nothing_done (gives_up file n) old)

-- the only file is removed
pub removed_only : {A E : Type 0} {file name : List ℕ} {n : ℕ} → n ≡ 0 → name ≡ file → {old new : Files} {r : Result A E}
    → OnOk r (AreSame (removed name old) new) → OnErr r (AreSame old new) → Does (gives_up file n) old new r
removed_only {A} {E} {file} none e {old} {new} {r = Ok x} done failed =
    subst (λ m. Does {A = A} {E = E} (gives_up file m) old new (Ok x)) (sym none)
    (does_ok (Remove file ∷ []) old new x (subst (λ f. AreSame (removed f old) new) e done))
removed_only {A} {E} {file} none e {old} {new} {r = Err x} done failed =
    subst (λ m. Does {A = A} {E = E} (gives_up file m) old new (Err x)) (sym none) (does_err (Remove file ∷ []) old new (Err x) x refl
    (one_failed (Remove file ∷ []) [] (Remove file) old old new (nothing_done (Remove file ∷ []) old) failed))
