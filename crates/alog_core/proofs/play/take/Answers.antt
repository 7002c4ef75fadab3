use Rattle.std.proofs.Common.{◌≡◌, ℕ, ◌+◌, Option, None, Some, set, refl, sym, ap, subst, ◌∙◌}
use Rattle.std.specs.Vec.{with_item}
use Rattle.alog_core.specs.Table.{places_of, held, Advances}
use Rattle.alog_core.specs.declared.round.Round.TheVariants as round
use Rattle.alog_core.specs.declared.said.Said.TheVariants as said
use Rattle.alog_core.specs.declared.table.Held.{Held}
use Rattle.alog_core.specs.declared.table.Table.{Table}
use Rattle.alog_core.proofs.Advancing.{slot_is, takes}
use Rattle.alog_core.proofs.play.take.Goals as goal

pub returns : goal.returns
returns g c a staged =
    let t = c.args.table.now
    in let p : ℕ = c.args.ticket
    in let place = c.place_of-place.ensures
    in let there = c.requires.table.shows.slots.places.cells p _ staged.1
    in let found : Some (held staged.0 a) ≡ Some c.in-Some.field-0 =
    sym there
    ∙ (sym (slot_is t c.requires.table p c.place_of-place.result c.index_mut.result.now place c.index_mut.ensures.value)
    ∙ (sym c.take.ensures.value ∙ c.in-Some.is))
    in let same : held staged.0 a ≡ c.in-Some.field-0 = cc
    in let new : Table g.row.T.Denot = record {
      mask = t.mask;
      next = t.next;
      front = t.front;
      sequences = with_item t.sequences c.place_of-place.result (p + places_of t);
      slots = with_item t.slots c.place_of-place.result c.take.new.self;
    }
    in let P : g.row.T.Denot → Type 0 = λ x. Advances t new a (round.PopGrabbed p) (said.Take p x, round.Idle)
    in subst P (ap (λ (h : Held g.row.T.Denot). h.item) same)
    (takes t new c.requires.table a refl p staged.0 staged.1 refl refl
    (ap (λ i. set t.sequences.items i (p + places_of t)) place)
    (ap (λ (v : Option (Held g.row.T.Denot)). set t.slots.items c.place_of-place.result v) c.take.ensures.after
    ∙ ap (λ i. set t.slots.items i None) place))
