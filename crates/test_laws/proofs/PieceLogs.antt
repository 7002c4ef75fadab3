-- What a pipe logs with, and what is done for the line that says what is missing.
use Rattle.std.proofs.Common.{◌≡◌, ◌⊎◌, ◌<◌, ℤ, Some, inl, inr, ap, ◌∙◌}
use Rattle.alog_pipe.specs.Logged.{HasNoRoom, KeepsCopies, TellsHole, by, told_by}
use Rattle.alog_pipe.specs.Piped.{Finishes}
use Rattle.alog_registry.specs.Listed.{spec_at}
use Rattle.alog_registry.specs.declared.logger.Spec.{Spec}

-- What a pipe logs with. Its crate has no name for others to call this type by: it is the one that `by` takes.
abbrev second_of : {A B C : Type 0} → (A → B → C) → Type 0
second_of {A} {B} {C} f = B

abbrev pub PieceLog : Type 0
PieceLog = second_of by

-- what `Tells` says where all is told, and where there was no room or no memory for it
abbrev pub TellsAll : ℤ → PieceLog → PieceLog → Type 0
TellsAll time old new = ((old.hole ≡ 0) × (new ≡ old)) ⊎ ((0 < old.hole) × TellsHole time old new.producer × (new ≡ told_by new.producer old))

abbrev pub LacksRoom : ℤ → PieceLog → PieceLog → Type 0
LacksRoom time old new = (0 < old.hole) × HasNoRoom time old new.producer × (new ≡ by new.producer old)

abbrev pub LacksMemory : PieceLog → PieceLog → Type 0
LacksMemory old new = (0 < old.hole) × KeepsCopies old.logger old.producer × (new ≡ old)

-- at the end all is told, where the logger keeps no copies
ends_told : {spec : Spec} (time : ℤ) (mid new : PieceLog) → TellsAll time mid new ⊎ LacksMemory mid new
    → spec_at new.producer.shared.loggers new.logger ≡ Some spec → spec.backtrace ≡ 0 → new.hole ≡ 0
ends_told time mid new (inl (inl h)) found none = ap (λ (l : PieceLog). l.hole) h.1 ∙ h.0
ends_told time mid new (inl (inr h)) found none = ap (λ (l : PieceLog). l.hole) h.2
ends_told {spec} time mid new (inr h) found none =
    let at : spec_at new.producer.shared.loggers new.logger ≡ Some h.1.0 =
    ap (λ (l : PieceLog). spec_at l.producer.shared.loggers l.logger) h.2 ∙ h.1.1 in
    let same : h.1.0 ≡ spec = cc in
    absurd (h.1.2 (ap (λ (s : Spec). s.backtrace) same ∙ none))

pub finish_told : {spec : Spec} {time : ℤ} {old new : PieceLog} → Finishes time old new
    → spec_at new.producer.shared.loggers new.logger ≡ Some spec → spec.backtrace ≡ 0 → new.hole ≡ 0
finish_told {spec} {time} {old} {new} f found none = ends_told {spec = spec} time f.mid new f.last found none
