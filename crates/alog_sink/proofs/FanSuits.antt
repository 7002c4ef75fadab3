-- Sinks that suit a text limit suit it as the members of a fan too.
use Rattle.std.proofs.Common.{ℕ, List, [], ◌∷◌}
use Rattle.std.proofs.lemmas.List.Elements.{All-cons, All-head, All-nil, All-tail}
use Rattle.std.specs.List.{All}
use Rattle.alog_sink.specs.Lines.{FaceSuits}
use Rattle.alog_sink.specs.Opened.{leaves_of}
use Rattle.alog_sink.specs.Sinks.{Suits}
use Rattle.alog_sink.specs.Turn.{LeafView}
use Rattle.alog_sink.specs.declared.sink.Sink.{Sink}
use Rattle.alog_sink.specs.declared.sink.Sink.TheVariants.{Leaf, Fan}

module _ (limit capacity : ℕ) {S : Type 0} where
  abbrev LeafSuits : LeafView S → Type 0
  LeafSuits l = FaceSuits limit capacity l.face

  abbrev SinkSuits : Sink S → Type 0
  SinkSuits s = Suits limit capacity s

  pub leaves_suit : (sinks : List (Sink S)) → All SinkSuits sinks → All LeafSuits (leaves_of sinks)
  leaves_suit [] all = All-nil LeafSuits
  leaves_suit (Leaf l ∷ sinks) all =
      All-cons LeafSuits l (leaves_of sinks) (All-head SinkSuits (Leaf l) sinks all) (leaves_suit sinks (All-tail SinkSuits (Leaf l) sinks all))
  leaves_suit (Fan f ∷ sinks) all = leaves_suit sinks (All-tail SinkSuits (Fan f) sinks all)
