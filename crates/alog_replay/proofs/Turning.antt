-- What a turn of the sink `memory` does to its file.
use Rattle.std.proofs.Common.{◌≡◌, ◌≤◌, ℕ, ℤ, Bool, true, false, Option, None, List, [], ◌∷◌, ◌++◌, length}
use Rattle.std.proofs.Common.{Ok, Err, refl, sym, ap, subst, ◌∙◌, inl, inr, arith}
use Rattle.std.specs.Prelude.{is_ok}
use Rattle.std.proofs.lemmas.List.{append-nil}
use Rattle.alog_msg.specs.declared.level.Level.{Level}
use Rattle.alog_msg.specs.declared.level.Level.TheVariants.{Trace, Debug, Info, Warning, Error, Critical, Off}
use Rattle.alog_msg.specs.declared.limits.TheConstants.{DEFAULT_TEXT_LIMIT}
use Rattle.alog_msg.specs.declared.message.Message.{Message}
use Rattle.alog_pattern.specs.Compiled.{longest}
use Rattle.alog_pattern.specs.declared.flags.Flag.TheVariants.{Text}
use Rattle.alog_pattern.specs.declared.items.Item.TheVariants.{Flag}
use Rattle.alog_format.specs.Line.{line_text}
use Rattle.alog_format.specs.Text.{Shown, flag_text}
use Rattle.alog_sink.specs.Calls.{LeavesFront}
use Rattle.alog_sink.specs.Deeds.{Deed, Append, BreaksOff, Fails, all_done}
use Rattle.alog_sink.specs.Files.{Files, AreSame}
use Rattle.alog_sink.specs.Kept.{IsSameTarget, deeds_of}
use Rattle.alog_sink.specs.Lines.{Written, IsWrittenOf, admits}
use Rattle.alog_sink.specs.Sinks.{MayTake, SinkTakes}
use Rattle.alog_sink.specs.Turn.{Answer, LeafView, Takes}
use Rattle.alog_sink.specs.declared.face.Face.{Face}
use Rattle.alog_sink.specs.declared.leaf.SinkError.TheVariants as errors
use Rattle.alog_sink.specs.declared.leaf.Taken.TheVariants.{Below, Written as Wrote}
use Rattle.alog_sink.specs.declared.sink.Sink.{Sink}
use Rattle.alog_sink.specs.declared.sink.Sink.TheVariants.{Leaf, Fan}
use Rattle.alog_sink.specs.declared.target.Target.{Target}
use Rattle.alog_sink.specs.declared.target.Target.TheVariants.{Memory, Rotating, Daily}
use Rattle.alog_replay.specs.Memory.{memory_name, line, Turns, HasFront, with_bytes}
use Rattle.alog_replay.specs.MemorySink.{file_of, IsMemoryLeaf, IsMemorySink}
use Rattle.alog_replay.proofs.Stepping.{where_true, where_false, true_or_not}

pub may_take : {S : Type 0} (tells : Bool) (sink : Sink S) (m : Message) (capacity : ℕ) → IsMemorySink tells sink capacity
    → length m.text ≤ DEFAULT_TEXT_LIMIT → MayTake sink m capacity
may_take tells (Leaf l) m capacity is fits = (let limit = is.limit in omega (arith, limit, fits), let room = is.room in omega (arith, room))
may_take tells (Fan f) m capacity is fits = absurd is

takes_all : (level : Level) → admits Trace level ≡ true
takes_all Trace = refl
takes_all Debug = refl
takes_all Info = refl
takes_all Warning = refl
takes_all Error = refl
takes_all Critical = refl
takes_all Off = refl

-- the line of a message by the pattern `%v`
text_line : (s : Shown) → line_text s (Flag Text None ∷ []) ≡ line s.message.text
unfolding flag_text
text_line s = ap (λ bs. bs ++ 10 ∷ []) (append-nil s.message.text)

the_line : (face : Face) (previous : Option ℤ) (m : Message) (w : Written) → face.pattern.items ≡ Flag Text None ∷ []
    → IsWrittenOf face previous m w → w.line ≡ line m.text
the_line face previous m w items is =
    let shown = is.0 in
    shown.2 ∙ (ap (line_text shown.0) items ∙ (text_line shown.0 ∙ ap (λ (s : Shown). line s.message.text) shown.1.2))

same_memory : {name : List ℕ} (t : Target) → IsSameTarget (Memory (record { file = name })) t → t ≡ Memory (record { file = name })
same_memory (Memory k) e = ap Memory e
same_memory (Rotating r) e = absurd e
same_memory (Daily d) e = absurd e

-- one append broke off
one_append : (name : List ℕ) {bytes : List ℕ} (old new : Files) (before : List Deed) (failed : Deed) (after : List Deed)
    → Append name bytes ∷ [] ≡ before ++ failed ∷ after → Fails failed (all_done before old) new → LeavesFront name bytes old new
one_append name {bytes} old new [] failed after e leaves =
    let same : failed ≡ Append name bytes = cc in subst (λ d. Fails d old new) same leaves
one_append name old new (d ∷ []) failed after e leaves = absurd cc
one_append name old new (d ∷ x ∷ ds) failed after e leaves = absurd cc

front_left : (old new : Files) (bytes text : List ℕ) → bytes ≡ line text → LeavesFront memory_name bytes old new
    → HasFront (line text) (old memory_name) (new memory_name)
front_left old new bytes text is (inl same) = inl (same memory_name)
front_left old new bytes text is (inr h) = inr (h.0, h.1, sym is ∙ h.2, h.3 memory_name)

module _ {S : Type 0} (tells : Bool) (files : S → Files) (failures : S → ℕ) where
  module _ (o n : LeafView S) (m : Message) (capacity : ℕ) (is : IsMemoryLeaf tells o capacity) where
    admitted_all : admits o.face.level m.level ≡ true
    admitted_all = ap (λ l. admits l m.level) is.level ∙ takes_all m.level

    whole : (answer : Answer) → Takes tells files failures o m answer n → (answer ≡ Err errors.Broken → ⊥) → o.broken ≡ false
    whole answer takes not = true_or_not o.broken (λ e. not (takes.broken.1 (admitted_all, e)))

    target_stays : (answer : Answer) → Takes tells files failures o m answer n → n.target ≡ Memory (record { file = memory_name })
    target_stays answer takes = same_memory n.target (subst (λ t. IsSameTarget t n.target) is.target takes.target)

    kept : (answer : Answer) → Takes tells files failures o m answer n → IsMemoryLeaf tells n capacity
    kept answer takes = record {
      tells_all = is.tells_all;
      target = target_stays answer takes;
      level = ap (λ (f : Face). f.level) takes.face ∙ is.level;
      items = ap (λ (f : Face). f.pattern.items) takes.face ∙ is.items;
      limit = ap (λ (f : Face). f.pattern.text_limit) takes.face ∙ is.limit;
      room = subst (λ (f : Face). longest f.pattern ≡ capacity) (sym takes.face) is.room;
    }

    wrote : Takes tells files failures o m (Ok Wrote) n → Turns true (file_of files (Leaf o)) m.text true (file_of files (Leaf n))
    wrote takes =
        let sound : o.broken ≡ false = whole (Ok Wrote) takes (λ e. cc) in
        let w = takes.writes is.tells_all refl in
        let has = subst (λ t. AreSame (all_done (deeds_of t w.0) (files o.store)) (files n.store)) is.target w.2 in
        let text : w.0.line ≡ line m.text = the_line o.face o.previous m w.0 is.items w.1 in
        (sound, turned (has memory_name ∙ ap (with_bytes (files o.store memory_name)) text) (takes.wrote refl ∙ sym sound))
      where
        turned : {bytes : Option (List ℕ)} → files n.store memory_name ≡ bytes → n.broken ≡ o.broken
            → file_of files (Leaf n) ≡ record { bytes = bytes; broken = o.broken }
        turned b e = cc

    failed : Takes tells files failures o m (Err errors.Store) n → Turns true (file_of files (Leaf o)) m.text false (file_of files (Leaf n))
    failed takes =
        let broke = takes.breaks is.tells_all refl in
        let w = broke.0 in
        let b = subst (λ t. BreaksOff (deeds_of t w) (files o.store) (files n.store)) is.target broke.2 in
        let left = one_append memory_name {bytes = w.line} (files o.store) (files n.store) b.before b.failed b.after b.are b.leaves in (
          refl,
          takes.failed refl,
          where_false o.broken _ _ (whole (Err errors.Store) takes (λ e. cc))
              (front_left (files o.store) (files n.store) w.line m.text (the_line o.face o.previous m w is.items broke.1) left),
        )

    again : Takes tells files failures o m (Err errors.Broken) n → Turns true (file_of files (Leaf o)) m.text false (file_of files (Leaf n))
    again takes =
        let was = takes.broken.0 refl in
        let same = takes.nothing (inr refl) in (
          refl,
          ap (λ (l : LeafView S). l.broken) same ∙ was.1,
          where_true o.broken _ _ was.1 (ap (λ (l : LeafView S). files l.store memory_name) same),
        )

    leaf_turned : (answer : Answer) → Takes tells files failures o m answer n
        → Turns true (file_of files (Leaf o)) m.text (is_ok answer) (file_of files (Leaf n))
    leaf_turned (Ok Below) takes = let low = takes.below.0 refl in let high = admitted_all in absurd cc
    leaf_turned (Ok Wrote) takes = wrote takes
    leaf_turned (Err errors.Store) takes = failed takes
    leaf_turned (Err errors.Broken) takes = again takes

  pub turned : (o n : Sink S) (m : Message) (capacity : ℕ) (answer : Answer) → IsMemorySink tells o capacity
      → SinkTakes tells files failures o m answer n → Turns true (file_of files o) m.text (is_ok answer) (file_of files n)
  turned (Leaf o) (Leaf n) m capacity answer is takes = leaf_turned o n m capacity is answer takes
  turned (Leaf o) (Fan n) m capacity answer is takes = absurd takes
  turned (Fan o) n m capacity answer is takes = absurd is

  pub stays : (o n : Sink S) (m : Message) (capacity : ℕ) (answer : Answer) → IsMemorySink tells o capacity
      → SinkTakes tells files failures o m answer n → IsMemorySink tells n capacity
  stays (Leaf o) (Leaf n) m capacity answer is takes = kept o n m capacity is answer takes
  stays (Leaf o) (Fan n) m capacity answer is takes = absurd takes
  stays (Fan o) n m capacity answer is takes = absurd is
