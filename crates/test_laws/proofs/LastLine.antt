-- The last line of a memory sink's file.
use Rattle.std.proofs.Common.{◌≡◌, ℕ, ℤ, Bool, true, false, cond, None, Some, Option, List, [], ◌∷◌, ◌++◌, refl, sym, ap, subst, ◌∙◌, append_assoc}
use Rattle.std.specs.Option.{unwrap_or}
use Rattle.alog_format.specs.Buffer.{Buffer}
use Rattle.alog_lane.specs.Seats.{Entry}
use Rattle.alog_lane.specs.Turns.{Turned, Leads}
use Rattle.alog_msg.specs.declared.item.Item.{Item}
use Rattle.alog_msg.specs.declared.item.Item.TheVariants.{Text, Flush, Stop}
use Rattle.alog_msg.specs.declared.level.Level.{Level}
use Rattle.alog_msg.specs.declared.message.Message.{Message}
use Rattle.alog_pool.specs.OneWorker.{HoldsMore}
use Rattle.alog_pool.specs.SinkSeat.{Answer}
use Rattle.alog_sink.specs.Files.{Files, bytes_of}
use Rattle.alog_sink.specs.Kept.{IsKept, IsSameTarget}
use Rattle.alog_sink.specs.Lines.{AreWrittenOf, IsWrittenOf, Written, admits, admitted, lines_of}
use Rattle.alog_sink.specs.OneFile.{joined, one_file}
use Rattle.alog_sink.proofs.SharedOneFiles.{joined_more, lines_more, one_file_has}
use Rattle.alog_sink.specs.Sinks.{Turns}
use Rattle.alog_sink.specs.Turn.{LeafView, StandsFor}
use Rattle.alog_sink.specs.declared.face.Face.{Face}
use Rattle.alog_sink.specs.declared.sink.Sink.{Sink}
use Rattle.alog_sink.specs.declared.sink.Sink.TheVariants.{Fan, Leaf}
use Rattle.alog_sink.specs.declared.target.Target.{Target}
use Rattle.alog_sink.specs.declared.target.Target.TheVariants.{Daily, Memory, Rotating}
use Rattle.test_laws.specs.Written.{EndsInLine, EndsWith}

-- the last of some messages passes the level
admitted_last : (own : Level) (ms : List Message) (m : Message) → admits own m.level ≡ true
    → admitted own (ms ++ m ∷ []) ≡ admitted own ms ++ m ∷ []
admitted_last own [] m e = ap (λ c. cond c (m ∷ []) []) e
admitted_last own (l ∷ ms) m e = at (admits own l.level) (admitted_last own ms m e)
  where
    at : (c : Bool) → admitted own (ms ++ m ∷ []) ≡ admitted own ms ++ m ∷ []
        → cond c (l ∷ admitted own (ms ++ m ∷ [])) (admitted own (ms ++ m ∷ []))
        ≡ cond c (l ∷ admitted own ms) (admitted own ms) ++ m ∷ []
    at true more = ap (λ x. l ∷ x) more
    at false more = more

-- what was written last is the line of the last message
record Last (face : Face) (m : Message) (ws : List Written) : Type 0 where
  before : List Written
  last : Written
  are : ws ≡ before ++ last ∷ []
  previous : Option ℤ
  is : IsWrittenOf face previous m last

written_last : (face : Face) (previous : Option ℤ) (ms : List Message) (m : Message) (ws : List Written)
    → AreWrittenOf face previous (ms ++ m ∷ []) ws → Last face m ws
written_last face previous [] m [] are = absurd are
written_last face previous [] m (w ∷ []) are = record { before = []; last = w; are = refl; previous = previous; is = are.0 }
written_last face previous [] m (w ∷ v ∷ ws) are = absurd are.1
written_last face previous (l ∷ ms) m [] are = absurd are
written_last face previous (l ∷ ms) m (w ∷ ws) are =
    let rest = written_last face (Some l.time) ms m ws are.1 in
    record {
      before = w ∷ rest.before;
      last = rest.last;
      are = ap (λ x. w ∷ x) rest.are;
      previous = rest.previous;
      is = rest.is;
    }

-- the bytes of the one file behind these lines
module _ (file : List ℕ) (opening : Files) where
  file_last : (ws : List Written) (w : Written) (files : Files) → files file ≡ one_file file opening (lines_of (ws ++ w ∷ [])) file
      → bytes_of files file ≡ (bytes_of opening file ++ joined (lines_of ws)) ++ w.line
  file_last ws w files are = ap (λ o. unwrap_or o []) are ∙ one_file_has file opening (lines_of (ws ++ w ∷ []))
      ∙ ap (λ ls. bytes_of opening file ++ joined ls) (lines_more ws w)
      ∙ ap (λ bs. bytes_of opening file ++ bs) (joined_more (lines_of ws) w.line)
      ∙ sym (append_assoc (bytes_of opening file) (joined (lines_of ws)) w.line)

module _ {S : Type 0} (tells : Bool) (files : S → Files) (failures : S → ℕ) where
  -- what stays of a sink over its turns
  abbrev Stays : LeafView S → LeafView S → Type 0
  Stays old new = (new.face ≡ old.face) × ((file : List ℕ) → old.target ≡ Memory (record { file = file }) → new.target ≡ old.target)

  same_memory : (t u : Target) (file : List ℕ) → IsSameTarget t u → t ≡ Memory (record { file = file }) → u ≡ t
  same_memory (Memory j) (Memory k) file same is = ap (λ x. Memory x) same
  same_memory (Memory j) (Rotating k) file same is = absurd same
  same_memory (Memory j) (Daily k) file same is = absurd same
  same_memory (Rotating j) u file same is = absurd (cc is)
  same_memory (Daily j) u file same is = absurd (cc is)

  turn_stays : (old new : LeafView S) (line after : Buffer) (i : Item) (reply : Answer)
      → Turns tells files failures (Leaf old) line i reply (Leaf new) after → Stays old new
  turn_stays old new line after (Text m) reply turn =
      (turn.1.face, λ file is. same_memory old.target new.target file turn.1.target is)
  turn_stays old new line after (Flush logger) reply turn = (turn.1.face, λ file is. turn.1.target)
  turn_stays old new line after Stop reply turn = absurd turn

  fan_never : (old : LeafView S) (fan : Sink S) (line after : Buffer) (i : Item) (reply : Answer)
      → Turns tells files failures (Leaf old) line i reply fan after → (new : LeafView S) × (fan ≡ Leaf new)
  fan_never old (Leaf new) line after i reply turn = (new, refl)
  fan_never old (Fan f) line after (Text m) reply turn = absurd turn.1
  fan_never old (Fan f) line after (Flush logger) reply turn = absurd turn.1
  fan_never old (Fan f) line after Stop reply turn = absurd turn

  leads_stays : (old new : LeafView S) (history : List (Entry (Turned Item Buffer Answer)))
      → Leads (Turns tells files failures) (Leaf old) history (Leaf new) → Stays old new
  leads_stays old new [] leads = let same : old ≡ new = cc leads in
      (ap (λ (l : LeafView S). l.face) (sym same), λ file is. ap (λ (l : LeafView S). l.target) (sym same))
  leads_stays old new (x ∷ history) leads =
      let next = fan_never old leads.0 x.deed.before x.deed.after x.deed.item x.deed.reply leads.1 in
      let turn = subst (λ (k : Sink S). Turns tells files failures (Leaf old) x.deed.before x.deed.item x.deed.reply k x.deed.after)
      next.1 leads.1 in
      let one = turn_stays old next.0 x.deed.before x.deed.after x.deed.item x.deed.reply turn in
      let rest = leads_stays next.0 new history (subst (λ (k : Sink S). Leads (Turns tells files failures) k history (Leaf new)) next.1 leads.2) in
      (rest.0 ∙ one.0, λ file is. rest.1 file (one.1 file is ∙ is) ∙ one.1 file is)

  -- a memory sink that stands for messages of which the last passes its level
  ends_in_line : (leaf : LeafView S) (file : List ℕ) (opening : Files) (before : List Message) (m : Message)
      → leaf.target ≡ Memory (record { file = file }) → admits leaf.face.level m.level ≡ true
      → StandsFor files leaf opening (before ++ m ∷ []) → EndsInLine leaf.face (files leaf.store) file m
  ends_in_line leaf file opening before m is passes stands =
      let these = subst (λ (ms : List Message). AreWrittenOf leaf.face None ms stands.written) (admitted_last leaf.face.level before m passes)
      stands.lines in
      let last = written_last leaf.face None (admitted leaf.face.level before) m stands.written these in
      let kept = subst (λ (t : Target). IsKept t opening stands.written (files leaf.store)) is stands.kept in
      let there = kept file ∙ ap (λ (ws : List Written). one_file file opening (lines_of ws) file) last.are in
      record {
        before = bytes_of opening file ++ joined (lines_of last.before);
        line = last.last.line;
        bytes = file_last file opening last.before last.last (files leaf.store) there;
        previous = last.previous;
        is_line = last.is.0;
      }

  pub ends_with : (first last : Sink S) (m : Message) (history : List (Entry (Turned Item Buffer Answer)))
      → Leads (Turns tells files failures) first history last → HoldsMore files first last (m ∷ []) → EndsWith files first last m
  ends_with first last m history leads holds old new file opening before one two is stood passes =
      let led = subst (λ (p : Sink S × Sink S). Leads (Turns tells files failures) p.0 history p.1) (λ i. (one i, two i)) leads in
      let more = subst (λ (p : Sink S × Sink S). HoldsMore files p.0 p.1 (m ∷ [])) (λ i. (one i, two i)) holds in
      let stays = leads_stays old new history led in
      let level = ap (λ (f : Face). admits f.level m.level) stays.0 ∙ passes in
      subst (λ (f : Face). EndsInLine f (files new.store) file m) stays.0
      (ends_in_line new file opening before m (stays.1 file is ∙ is) level (more opening before stood))
