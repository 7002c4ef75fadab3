use Rattle.std.proofs.Common.{◌≡◌, ℕ, None, Some, set, refl, sym, ap, subst, ◌∙◌}
use Rattle.alog_core.specs.Table.{held, Advances}
use Rattle.alog_core.specs.declared.round.Round.TheVariants as round
use Rattle.alog_core.specs.declared.said.Said.TheVariants as said
use Rattle.alog_core.specs.declared.table.Held.{Held}
use Rattle.alog_core.specs.declared.table.Table.{Table}
use Rattle.alog_core.proofs.Advancing.{slot_is, grabs}
use Rattle.alog_core.proofs.play.grab.Goals.{in-Some, in_default}
use Rattle.alog_core.proofs.play.grab.Goals as goal

pub returns : goal.returns
returns g c =
    let t = c.args.table.now
    in let p : ℕ = c.args.ticket
    in let a : ℕ = c.args.actor
    in let place = c.place_of.ensures
    in let is = slot_is t c.requires.table p c.place_of.result c.index_mut.result.now place c.index_mut.ensures.value
    in let P : Table g.row.T.Denot → Type 0 = λ k. Advances t k a (round.PopReady p) (said.Grab p, round.PopGrabbed p)
    in elim c.match-index_mut.branch [
      | in-Some w ↦
          subst P (sym w.table-is)
          (grabs t _ c.requires.table a refl p c.requires.staged c.if-table-ticket.false refl refl refl
          (λ h there.
          let both : Some w.in-Some.held ≡ Some h = sym w.in-Some.is ∙ (is ∙ there)
          in let same : w.in-Some.held ≡ h = cc
          in ap (λ (k : Held g.row.T.Denot). set t.slots.items c.place_of.result (Some (held k.item a))) same
          ∙ ap (λ i. set t.slots.items i (Some (held h.item a))) place))
      | in_default w ↦
          let written = c.requires.staged.1 (sym c.if-table-ticket.false)
          in let there = c.requires.table.shows.slots.places.cells p _ written.2
          in let bad : None ≡ Some (held written.0 written.1) = sym w.in_default.is ∙ (is ∙ there)
          in absurd (cc)
    ]
