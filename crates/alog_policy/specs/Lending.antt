-- The loan of a desk to the outlet of one of its actors.
use Rattle.std.specs.Prelude.{◌≡◌, Result}
use Rattle.std.specs.Borrow.{RestsIfErr, RattleType, MutBor, Fml}
use Rattle.alog_core.specs.declared.error.BeginError.{BeginError}
use Rattle.alog_policy.specs.Desk.{DeskView}
use Rattle.alog_policy.specs.contracts.desk.Desk.{the_row}
use Rattle.alog_policy.specs.declared.desk_outlet.DeskOutlet.{DeskOutlet}

-- The desk ends as what the outlet leaves behind its reference; where there is no outlet, it stays as it is.
abbrev pub LendsDesk : (T : RattleType) → MutBor (DeskView T.Denot) → Result (DeskOutlet T.Denot) BeginError → Fml
LendsDesk T d r = RestsIfErr (the_row T) d (λ o. o.desk.ghost_name) r (λ n. n ≡ d.now)
