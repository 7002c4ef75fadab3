use Rattle.std.proofs.Common.{◌≡◌, Some, List, [], ◌∷◌, ◌++◌, refl, sym, ap, subst, ◌∙◌}
use Rattle.atomic_table.specs.Table.{opening}
use Rattle.alog_lane.specs.declared.view.LockedValue.{LockedValue}
use Rattle.alog_lane.specs.Roster.{first_sight}
use Rattle.alog_lane.specs.Rule.{Ruled}
use Rattle.alog_lane.proofs.SharedSteps.{starts}
use Rattle.alog_lane.proofs.lane.Lane.new.Goals as goal

pub new-requires : goal.new-requires
new-requires g c =
    let Slot : Type 0 = LockedValue g.row.T.Denot g.row.T-Item.Denot g.row.T-Reply.Denot g.row.T-Scratch.Denot
    in let value : g.row.T.Denot = c.of-first.result.value
    in let made : Slot = record { value = c.args.value; turns = 0; last = c.of.result }
    in let C : List Slot → Type 0 = λ slots. Ruled g.T.Turn.turns g.T.Turn.may_turn value (opening (0 ∷ []) slots
    (first_sight (Some value)))
    in let slots : c.push_reserved.new.self.items ≡ made ∷ [] = c.push_reserved.ensures.items
    ∙ ap (λ (l : List Slot). l ++ made ∷ []) c.in-Ok.ensures.items
    in subst C (sym slots) (starts g.T.Turn.turns g.T.Turn.may_turn value made (sym c.of-first.ensures) refl)
