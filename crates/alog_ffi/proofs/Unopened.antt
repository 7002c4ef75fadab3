-- How a refusal of an open is answered.
use Rattle.std.proofs.Common.{◌≡◌, List, refl}
use Rattle.alog_ffi.specs.Opening.{AnswersOpen, IsTold, IsUnopenedFor}
use Rattle.alog_ffi.specs.declared.answer.Answer.{Answer}
use Rattle.alog_ffi.specs.declared.answer.Answer.TheVariants as answer
use Rattle.alog_ffi.specs.declared.opening.Asked.{Asked}
use Rattle.alog_ffi.specs.declared.part.Part.{Part}
use Rattle.alog_ffi.specs.declared.part.Part.TheVariants.{Nothing}
use Rattle.alog_outbox.specs.declared.found.FoundFile.{FoundFile}

-- Where no pool was opened for a reason that is said of the document, both handles hold what they held.
pub answers_unopened : (files : Part) (asked : Asked) (found : List FoundFile) (a : Answer) (new left : Part) → IsTold files found
    → IsUnopenedFor asked found a → new ≡ Nothing → left ≡ files → AnswersOpen Nothing files asked a new left
answers_unopened files asked found answer.BadConfig new left told why n l = (n, l, (refl, (found, told, why)))
answers_unopened files asked found answer.NoStore new left told why n l = (n, l, (refl, (found, told, why)))
answers_unopened files asked found answer.NoMemory new left told why n l = (n, l, (refl, (found, told, why)))
answers_unopened files asked found a new left told why n l = absurd why
