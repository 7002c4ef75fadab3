-- What a turn of a sink does to files: one deed after another; and what it leaves where one of them fails.
use Rattle.std.specs.Prelude.{◌≡◌, ℕ, List, [], ◌∷◌, ◌++◌, Result, OnOk, OnErr}
use Rattle.alog_sink.specs.Calls.{LeavesFront}
use Rattle.alog_sink.specs.Files.{Files, AreSame, appended, renamed, removed}

-- one call of a store that changes files
pub data Deed : Type 0 where
  Append : (name : List ℕ) → (bytes : List ℕ) → Deed
  Rename : (from : List ℕ) → (to : List ℕ) → Deed
  Remove : (name : List ℕ) → Deed

-- the files after a deed, and after deeds in order
abbrev pub done : Deed → Files → Files
done (Append name bytes) files = appended name bytes files
done (Rename from to) files = renamed from to files
done (Remove name) files = removed name files

abbrev pub all_done : List Deed → Files → Files
all_done [] files = files
all_done (d ∷ deeds) files = all_done deeds (done d files)

-- what a failed deed leaves: of an append at most some first bytes, of another nothing
abbrev pub Fails : Deed → Files → Files → Type 0
Fails (Append name bytes) old new = LeavesFront name bytes old new
Fails (Rename from to) old new = AreSame old new
Fails (Remove name) old new = AreSame old new

-- Some first deeds are done, and the next one failed.
pub record BreaksOff (deeds : List Deed) (old new : Files) : Type 0 where
  pub before : List Deed
  pub failed : Deed
  pub after : List Deed
  pub are : deeds ≡ before ++ failed ∷ after
  pub leaves : Fails failed (all_done before old) new

-- By the answer: all deeds are done, or they broke off.
pub record Does {A E : Type 0} (deeds : List Deed) (old new : Files) (answer : Result A E) : Type 0 where
  pub done : OnOk answer (AreSame (all_done deeds old) new)
  pub failed : OnErr answer (BreaksOff deeds old new)
