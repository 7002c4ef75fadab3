-- Calls of who does the calls on files, on handles.
use Rattle.std.specs.Prelude.{◌≡◌, ◌⊎◌, ◌<◌, ◌≤◌, ◌++◌, ℕ, List, [], ◌∷◌, length, take, drop, slice_get, slice_set, All, IsSome, Some, None, Vec}
use Rattle.std.specs.Str.{IsUtf8}
use Rattle.std.specs.String.{string_bytes}
use Rattle.std.specs.declared.alloc.Global.{Global}
use Rattle.alog_ffi.specs.declared.answer.Answer.{Answer}
use Rattle.alog_ffi.specs.declared.answer.Answer.TheVariants as answer
use Rattle.alog_ffi.specs.declared.part.Part.{Part}
use Rattle.alog_ffi.specs.declared.part.Part.TheVariants.{Nothing, Found, Files}
use Rattle.alog_outbox.specs.Calls.{AreRecords}
use Rattle.alog_outbox.specs.Views.{DrainView, HasAll}
use Rattle.alog_outbox.specs.declared.TheConstants.{AREA}
use Rattle.alog_outbox.specs.declared.found.FoundFile.{FoundFile}

-- this file is in the list now, at its end
abbrev pub WithFile : List FoundFile → List ℕ → ℕ → List FoundFile → Type 0
WithFile old name size new = (f : FoundFile) × (string_bytes f.name ≡ name) × (f.size ≡ size) × (new ≡ old ++ f ∷ [])

-- a file was added to a list, or there was no memory
abbrev pub AddsTo : List FoundFile → List ℕ → ℕ → Answer → List FoundFile → Type 0
AddsTo old name size answer.Done new = WithFile old name size new
AddsTo old name size a new = (new ≡ old) × (a ≡ answer.NoMemory)

abbrev pub AnswersFirst : List ℕ → ℕ → Answer → Part → Type 0
AnswersFirst name size answer.Done new = (fs : List FoundFile) × WithFile [] name size fs × (new ≡ Found fs)
AnswersFirst name size a new = (new ≡ Nothing) × (a ≡ answer.NoMemory)

-- A file was told, behind those that were told before, if nothing else is there; or there was no memory.
abbrev pub AddsFile : Part → List ℕ → ℕ → Answer → Part → Type 0
AddsFile Nothing name size a new = AnswersFirst name size a new
AddsFile (Found fs) name size a new = (gs : List FoundFile) × (new ≡ Found gs) × AddsTo fs name size a gs
AddsFile old name size a new = (new ≡ old) × (a ≡ answer.WrongHandle)

-- A file was told; or it was not, which is the answer, and the handle holds what it held.
abbrev pub AnswersFound : Part → List ℕ → ℕ → Answer → Part → Type 0
AnswersFound old name size a new = ((a ≡ answer.NotUtf8) × (new ≡ old) × ¬ IsUtf8 name) ⊎ (IsUtf8 name × AddsFile old name size a new)

-- A call on what is to be done to files, and what is untouched where there is none of that.
abbrev pub OnFiles : Part → Type 0 → (List DrainView → Answer → List DrainView → Type 0) → Answer → Part → Type 0
OnFiles (Files ds) untouched f a new = (es : Vec DrainView Global) × (new ≡ Files es) × f ds.items a es.items
OnFiles Nothing untouched f a new = (new ≡ Nothing) × (a ≡ answer.NoHandle) × untouched
OnFiles old untouched f a new = (new ≡ old) × (a ≡ answer.WrongHandle) × untouched

-- nothing new is known of its store's end, or that it has all now
abbrev pub EndsSo : DrainView → DrainView → Type 0
EndsSo d e = (e.told ≡ d.told) ⊎ ((d.told ≡ None) × HasAll e)

-- Nothing was taken of these; of some it may be known now that their stores have ended, and that all of it was taken.
abbrev pub AreLeft : List DrainView → List DrainView → Type 0
AreLeft [] [] = Unit {0}
AreLeft (d ∷ ds) (e ∷ es) = (e.got ≡ d.got) × (e.line ≡ d.line) × EndsSo d e × AreLeft ds es
AreLeft _ _ = ⊥

-- These bytes were taken, which come next of one sink, whose end was not; what comes next of all others stays.
pub record TakesOne (old : List DrainView) (bytes : List ℕ) (new : List DrainView) : Type 0 where
  pub at : ℕ
  pub was : DrainView
  pub now : DrainView
  pub left : List DrainView
  pub others : AreLeft old left
  pub old_is : slice_get left at ≡ Some was
  pub new_is : new ≡ slice_set left at now
  pub line : now.line ≡ was.line
  pub got : now.got ≡ was.got ++ bytes
  pub goes_on : (was.told ≡ None) × (now.told ≡ None)

-- its store has ended, and the end was taken
abbrev pub IsOver : DrainView → Type 0
IsOver d = IsSome d.told

-- no bytes were told, and the memory is as it was
abbrev pub IsUntaken : List ℕ → List ℕ → ℕ → Type 0
IsUntaken to into count = (into ≡ to) × (count ≡ 0)

-- Whole records were taken, and lie at the front of the memory, whose rest is as it was.
abbrev pub AreTaken : List ℕ → List ℕ → ℕ → List DrainView → List DrainView → Type 0
AreTaken to into count old new =
    TakesOne old (take count into) new × AreRecords (take count into) × (drop count into ≡ drop count to) × (0 < count) × (count ≤ AREA)

-- Bytes were taken; or none were, and of some the end was not; or the stores of all have ended, and what was taken are the records of all that they were
-- told; or the memory has no room for an area.
abbrev pub AnswersTake : List ℕ → List ℕ → ℕ → List DrainView → Answer → List DrainView → Type 0
AnswersTake to into count old a new = ((a ≡ answer.Done) × (AREA ≤ length to) × AreTaken to into count old new)
    ⊎ ((a ≡ answer.Idle) × (AREA ≤ length to) × AreLeft old new × (¬ All IsOver new) × IsUntaken to into count)
    ⊎ ((a ≡ answer.Ended) × (AREA ≤ length to) × AreLeft old new × All HasAll new × IsUntaken to into count)
    ⊎ ((a ≡ answer.TooShort) × (length to < AREA) × (new ≡ old) × IsUntaken to into count)

-- Files were let go, and the handle is empty; or it held something else, and still does.
abbrev pub AnswersClose : Part → Answer → Part → Type 0
AnswersClose (Found fs) a new = (a ≡ answer.Done) × (new ≡ Nothing)
AnswersClose (Files ds) a new = (a ≡ answer.Done) × (new ≡ Nothing)
AnswersClose Nothing a new = (a ≡ answer.NoHandle) × (new ≡ Nothing)
AnswersClose old a new = (a ≡ answer.WrongHandle) × (new ≡ old)
