use Rattle.std.proofs.Common.{◌∙◌, List, ap, sym, subst}
use Rattle.std.specs.List.{All}
use Rattle.alog_sink.specs.Lines.{FaceSuits}
use Rattle.alog_sink.specs.Opened.{AreNoMembers}
use Rattle.alog_sink.specs.Turn.{FanView, LeafView}
use Rattle.alog_sink.specs.declared.sink.Sink.{Sink}
use Rattle.alog_sink.proofs.FanSuits.{leaves_suit}
use Rattle.alog_sink.proofs.sink.Sink.fan.Goals as goal

pub returns-clause-suits : goal.returns-clause-suits
returns-clause-suits g c = λ limit capacity all.
    let members = ap (λ (f : FanView g.row.S.Denot). f.members) c.of.ensures ∙ c.into_leaves.ensures in
    subst (λ (ls : List (LeafView g.row.S.Denot)). All (λ (l : LeafView g.row.S.Denot). FaceSuits limit capacity l.face) ls) (sym members)
    (leaves_suit limit capacity c.args.members.items all)

pub returns-clause-bad_limit : goal.returns-clause-bad_limit
returns-clause-bad_limit g c = (
  λ never. absurd never,
  λ no.
      let refused = c.are_no_members.ensures.1 (subst (λ (ss : List (Sink g.row.S.Denot)). AreNoMembers ss) (sym c.as_slice.ensures.value) no) in
      let taken = c.if-are_no_members.false in
      cc,
)
