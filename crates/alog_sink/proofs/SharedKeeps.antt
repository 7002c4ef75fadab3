-- A turn changes nothing of what a turn asks: each sink keeps its faces, and the buffer its capacity.
use Rattle.std.proofs.Common.{◌≡◌, ℕ, Bool, true, false, List, [], ◌∷◌, Result, refl, sym, subst}
use Rattle.std.proofs.lemmas.List.Elements.{All-cons, All-head, All-tail}
use Rattle.std.specs.List.{All}
use Rattle.alog_format.specs.Buffer.{Buffer}
use Rattle.alog_lane.specs.Calls.{TakesTurn}
use Rattle.alog_lane.specs.Seats.{Known}
use Rattle.alog_lane.specs.Turns.{Turned}
use Rattle.alog_lane.proofs.SharedSteps.{its_turn}
use Rattle.alog_msg.specs.declared.item.Item.{Item}
use Rattle.alog_msg.specs.declared.item.Item.TheVariants.{Text, Flush, Stop}
use Rattle.alog_msg.specs.declared.message.Message.{Message}
use Rattle.alog_sink.specs.Files.{Files}
use Rattle.alog_sink.specs.Lines.{MayWrite, admits}
use Rattle.alog_sink.specs.Sinks.{EachFace, MayTake, MayTurn, SinkTakes, SinkFlushes, Turns}
use Rattle.alog_sink.specs.Turn.{Answer, LeafView, FanView, EachDoes, Takes, Flushes, FanTakes}
use Rattle.alog_sink.specs.declared.face.Face.{Face}
use Rattle.alog_sink.specs.declared.leaf.SinkError.{SinkError}
use Rattle.alog_sink.specs.declared.turn.Served.{Served}
use Rattle.alog_sink.specs.declared.sink.Sink.{Sink}
use Rattle.alog_sink.specs.declared.sink.Sink.TheVariants.{Leaf, Fan}

module _ {S : Type 0} (IsSuch : Face → Type 0) where
  abbrev HasSuch : LeafView S → Type 0
  HasSuch l = IsSuch l.face

  each_keeps : {A : Type 0} (Does : LeafView S → A → LeafView S → Type 0)
      → ((o : LeafView S) (a : A) (n : LeafView S) → Does o a n → n.face ≡ o.face) → (olds : List (LeafView S)) (answers : List A)
      (news : List (LeafView S)) → EachDoes Does olds answers news → All HasSuch olds → All HasSuch news
  each_keeps Does faces [] [] [] all such = such
  each_keeps Does faces (o ∷ olds) (a ∷ answers) (n ∷ news) all such =
      All-cons HasSuch n news (subst IsSuch (sym (faces o a n all.0)) (All-head HasSuch o olds such))
      (each_keeps Does faces olds answers news all.1 (All-tail HasSuch o olds such))
  each_keeps Does faces [] (a ∷ answers) news all such = absurd all
  each_keeps Does faces [] [] (n ∷ news) all such = absurd all
  each_keeps Does faces (o ∷ olds) [] news all such = absurd all
  each_keeps Does faces (o ∷ olds) (a ∷ answers) [] all such = absurd all

  module _ (tells : Bool) (files : S → Files) (failures : S → ℕ) where
    fan_keeps : (old new : FanView S) (given : Message) (answer : Answer) → FanTakes tells files failures old given answer new
        → All HasSuch old.members → All HasSuch new.members
    fan_keeps old new given answer takes such = at (admits old.level given.level) refl
      where
        at : (b : Bool) → admits old.level given.level ≡ b → All HasSuch new.members
        at false e = subst (λ (f : FanView S). All HasSuch f.members) (sym (takes.below e).1) such
        at true e =
            let all = takes.given e
            in each_keeps (λ o a n. Takes tells files failures o given a n) (λ o a n t. t.face) old.members all.0 new.members all.1 such

    -- what is so of each face is so after a text, and after a flush
    pub take_keeps : (old new : Sink S) (given : Message) (answer : Answer) → SinkTakes tells files failures old given answer new
        → EachFace IsSuch old → EachFace IsSuch new
    take_keeps (Leaf o) (Leaf n) given answer takes such = subst IsSuch (sym takes.face) such
    take_keeps (Fan o) (Fan n) given answer takes such = fan_keeps o n given answer takes such
    take_keeps (Leaf o) (Fan n) given answer takes such = absurd takes
    take_keeps (Fan o) (Leaf n) given answer takes such = absurd takes

    pub flush_keeps : (old new : Sink S) (answer : Result Unit SinkError) → SinkFlushes tells files failures old answer new
        → EachFace IsSuch old → EachFace IsSuch new
    flush_keeps (Leaf o) (Leaf n) answer does such = subst IsSuch (sym does.face) such
    flush_keeps (Fan o) (Fan n) answer does such =
        each_keeps (Flushes tells files failures) (λ o a n f. f.face) o.members does.answers n.members does.given such
    flush_keeps (Leaf o) (Fan n) answer does such = absurd does
    flush_keeps (Fan o) (Leaf n) answer does such = absurd does

module _ {S : Type 0} where
  kept : (old new : Sink S) → ((IsSuch : Face → Type 0) → EachFace IsSuch old → EachFace IsSuch new) → (i : Item) (line : Buffer)
      → MayTurn old i line → MayTurn new i line
  kept old new keeps (Text m) line may = keeps (λ f. MayWrite f m line.capacity) may
  kept old new keeps (Flush logger) line may = tt
  kept old new keeps Stop line may = may

  module _ (tells : Bool) (files : S → Files) (failures : S → ℕ) where
    pub take_may : (old new : Sink S) (given : Message) (answer : Answer) → SinkTakes tells files failures old given answer new → (i : Item)
        (b : Buffer) → MayTurn old i b → MayTurn new i b
    take_may old new given answer takes = kept old new (λ IsSuch. take_keeps IsSuch tells files failures old new given answer takes)

    pub flush_may : (old new : Sink S) (answer : Result Unit SinkError) → SinkFlushes tells files failures old answer new → (i : Item)
        (b : Buffer) → MayTurn old i b → MayTurn new i b
    flush_may old new answer does = kept old new (λ IsSuch. flush_keeps IsSuch tells files failures old new answer does)

    -- the same turn may be had again after a turn under a lock, with the buffer as the turn left it
    pub took_again : (first : Sink S) (old new : Known (Turned Item Buffer (Result Served SinkError)))
        (deed : Turned Item Buffer (Result Served SinkError)) (index : ℕ) → TakesTurn (Turns tells files failures) first old new deed index
        → MayTurn first deed.item deed.before → MayTurn first deed.item deed.after
    took_again first old new deed index took may =
        let turn = its_turn (Turns tells files failures) first old new deed index took in
        again turn.0 turn.1 deed.item turn.2 may
      where
        again : (v w : Sink S) (i : Item) → Turns tells files failures v deed.before i deed.reply w deed.after → MayTurn first i deed.before
            → MayTurn first i deed.after
        again v w (Text m) turn may = subst (λ n. MayTake first m n) (sym turn.3) may
        again v w (Flush logger) turn may = tt
        again v w Stop turn may = may
