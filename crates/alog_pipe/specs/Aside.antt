-- What is known of a reader that a thread reads at times.
use Rattle.std.specs.Prelude.{◌≡◌, ℕ, Bool, true, false, List, Option, None, Some}
use Rattle.std.specs.List.{slice_range}
use Rattle.std.specs.declared.time.Duration.{Duration}
use Rattle.alog_pipe.specs.declared.read_aside.Aside.{Aside}

-- What is seen of it: the reader, unless the thread has it; whether a thread was started; how long a read may wait.
pub record AsideView (I : Type 0) : Type 0 where
  pub reader : Option I
  pub has_thread : Bool
  pub timeout : Option Duration

-- the bytes that are left to a reader, as far as they are known: not those of one that a thread has
abbrev pub left_here : {I : Type 0} → (I → Option (List ℕ)) → Option I → Option (List ℕ)
left_here remaining None = None
left_here remaining (Some input) = remaining input

-- they are those of the reader as long as no thread was started, and then they are not known
abbrev pub left_by : {I : Type 0} → (I → Option (List ℕ)) → Bool → Option I → Option (List ℕ)
left_by remaining false input = left_here remaining input
left_by remaining true input = None

abbrev pub left_of : {I : Type 0} → (I → Option (List ℕ)) → AsideView I → Option (List ℕ)
left_of remaining v = left_by remaining v.has_thread v.reader

-- what the thread brought, and no read gave yet
abbrev pub brought : {I : Type 0} → Aside I → List ℕ
brought a = slice_range a.bytes.items a.start a.end

-- all that it brought was given
abbrev pub GaveAll : {I : Type 0} → Aside I → Type 0
GaveAll a = a.start ≡ a.end
