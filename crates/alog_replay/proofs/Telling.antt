-- How far a replay has come.
use Rattle.std.proofs.Common.{◌≡◌, ℕ, ◌+◌, Option, List, [], ◌∷◌, ◌++◌, inl, refl, sym, ap, subst, ◌∙◌, append_assoc, arith}
use Rattle.std.specs.Io.KnownBytes.{Appends}
use Rattle.alog_replay.specs.Known.{WhereKnown}
use Rattle.alog_lines.proofs.SharedLines.{lines_of-nil}
use Rattle.alog_replay.specs.Lines.{lines_of, TakesLine, BeginsTooLong}
use Rattle.alog_replay.specs.Reading.{FindsLine}
use Rattle.alog_replay.specs.Scene.{Scene, Done, Refused}
use Rattle.alog_replay.specs.Script.{Told, Whole, RefusedAt, told_behind, text_of, Tells, TellsLine, ScriptTells}
use Rattle.alog_replay.specs.Script.{LineDone, LineRefused, EntryDone, EntryRefused, WritesLine}
use Rattle.alog_replay.specs.declared.entry.Entry.{Entry}
use Rattle.alog_replay.specs.declared.entry.Entry.TheVariants.{Skipped, Does}
use Rattle.alog_replay.specs.declared.entry.Entry.TheVariants as entry
use Rattle.alog_replay.specs.declared.lines.Line.TheVariants as found
use Rattle.alog_replay.proofs.KnownBytes.{known_then, known_same}
use Rattle.alog_replay.proofs.Writing.{appends_nothing, appends_more}

-- Where a replay stands: the bytes that are in no line yet, the stage, the number of lines, and what the writer holds.
pub record Point (S : Type 0) : Type 0 where
  pub rest : Option (List ℕ)
  pub stage : S
  pub count : ℕ
  pub held : Option (List ℕ)

abbrev pub point : {S : Type 0} → Option (List ℕ) → S → ℕ → Option (List ℕ) → Point S
point rest stage count held = record { rest = rest; stage = stage; count = count; held = held }

behind_nothing : (t : Told) → told_behind [] t ≡ t
behind_nothing (Whole text n) = refl
behind_nothing (RefusedAt n text) = refl

behind_twice : (x y : List ℕ) (t : Told) → told_behind x (told_behind y t) ≡ told_behind (x ++ y) t
behind_twice x y (Whole text n) = ap (λ z. Whole z n) (sym (append_assoc x y text))
behind_twice x y (RefusedAt n text) = ap (RefusedAt n) (sym (append_assoc x y text))

pub text_behind : (x : List ℕ) (t : Told) → text_of (told_behind x t) ≡ x ++ text_of t
text_behind x (Whole text n) = refl
text_behind x (RefusedAt n text) = refl

module _ {S : Type 0} (scene : Scene S) where
  -- The script is what was read and this rest; what was written is this text; and whatever front of the rest is told
  -- from this stage on, the script up to there tells the same behind the text.
  pub record Progress (from to : Point S) (script rest : List ℕ) : Type 0 where
    pub read : List ℕ
    pub split : script ≡ read ++ rest
    pub text : List ℕ
    pub writes : Appends from.held to.held text
    pub goes_on : (x y : List ℕ) (t : Told) → rest ≡ x ++ y → Tells scene to.stage to.count (lines_of x) t
        → ScriptTells scene from.stage (read ++ x) (told_behind text t)

  -- the same, where the reader tells its bytes
  abbrev pub HasTold : Point S → Point S → Type 0
  HasTold from to = WhereKnown from.rest to.rest (λ script rest. Progress from to script rest)

  -- at the start nothing is read and nothing written
  pub told_start : (from : Point S) → from.count ≡ 0 → HasTold from from
  told_start from first = known_same from.rest (λ script rest. Progress from from script rest) (λ script. record {
    read = [];
    split = refl;
    text = [];
    writes = appends_nothing from.held;
    goes_on = λ x y t e h. subst (ScriptTells scene from.stage x) (sym (behind_nothing t))
        (subst (λ (n : ℕ). Tells scene from.stage n (lines_of x) t) first h);
  })

  entry_told : (s : S) {next : S} (n : ℕ) (e : Entry) (text : List ℕ) (rest : S → Told → Type 0) {u : Told}
      → EntryDone scene s e [] text next
      → rest next u
      → TellsLine scene s n e rest (told_behind text u)
  entry_told s n Skipped text rest {u} d h =
      let same : u ≡ told_behind text u = sym (ap (λ x. told_behind x u) d.1 ∙ behind_nothing u) in
      subst (λ (t : Told). rest s t) same (subst (λ (t : S). rest t u) d.0 h)
  entry_told s {next} n (Does command) text rest {u} d h =
      subst (λ (x : List ℕ). TellsLine scene s n (Does command) rest (told_behind x u)) (sym d.2) (Done d.0 next, d.1, (u, h, refl))
  entry_told s n entry.Refused text rest d h = absurd d

  entry_refused : (s : S) (n : ℕ) (e : Entry) (text : List ℕ) (rest : S → Told → Type 0) → EntryRefused scene s e [] text
      → TellsLine scene s n e rest (RefusedAt (n + 1) text)
  entry_refused s n Skipped text rest d = absurd d
  entry_refused s n (Does command) text rest d =
      subst (λ (x : List ℕ). TellsLine scene s n (Does command) rest (RefusedAt (n + 1) x)) (sym d.2) (Refused d.0, d.1, refl)
  entry_refused s n entry.Refused text rest d = ap (RefusedAt (n + 1)) d

  -- what a line and the lines after it tell, where the line was carried out
  pub done_told : {s next : S} (n : ℕ) {line text : List ℕ} (lines : List (List ℕ)) (u : Told) → LineDone scene s line [] text next
      → Tells scene next (n + 1) lines u
      → Tells scene s n (line ∷ lines) (told_behind text u)
  unfolding Tells
  done_told {s} n {line} {text} lines u d h = (d.0, d.1, entry_told s n d.0 text (λ t v. Tells scene t (n + 1) lines v) d.2 h)

  -- and where it was refused
  pub refused_told : (s : S) (n : ℕ) (line text : List ℕ) (lines : List (List ℕ)) → LineRefused scene s line [] text
      → Tells scene s n (line ∷ lines) (RefusedAt (n + 1) text)
  unfolding Tells
  refused_told s n line text lines d = (d.0, d.1, entry_refused s n d.0 text (λ t v. Tells scene t (n + 1) lines v) d.2)

  no_line_told : (s : S) (n : ℕ) → Tells scene s n [] (Whole (scene.files s) n)
  unfolding Tells
  no_line_told s n = refl

  -- nothing is left
  pub no_lines : (s : S) (n : ℕ) → Tells scene s n (lines_of []) (Whole (scene.files s) n)
  no_lines s n = subst (λ (ls : List (List ℕ)). Tells scene s n ls (Whole (scene.files s) n)) (sym lines_of-nil) (no_line_told s n)

  -- a line too long, first of what is left
  pub too_long_told : (s : S) (n : ℕ) (rest : List ℕ) → BeginsTooLong rest → Tells scene s n (lines_of rest) (RefusedAt (n + 1) [])
  unfolding Tells
  too_long_told s n rest b =
      subst (λ (ls : List (List ℕ)). Tells scene s n ls (RefusedAt (n + 1) [])) (sym b.2)
      (entry.Refused, inl (λ readable. absurd (omega (arith, readable.0, b.3))), refl)

  -- A line was read and carried out.
  progress_line : {line script rest after : List ℕ} (from mid to : Point S) → to.count ≡ mid.count + 1
      → WritesLine scene mid.stage line to.stage mid.held to.held
      → Progress from mid script rest → TakesLine rest line after → Progress from to script after
  progress_line {line} {script} {rest} {after} from mid to one w p k =
      record {
        read = p.read ++ k.taken;
        split = p.split ∙ (ap (λ xs. p.read ++ xs) k.whole ∙ sym (append_assoc p.read k.taken after));
        text = p.text ++ w.text;
        writes = appends_more from.held mid.held to.held p.text w.text p.writes w.writes;
        goes_on = λ x y t e h.
            let taken : rest ≡ (k.taken ++ x) ++ y = k.whole ∙ (ap (λ xs. k.taken ++ xs) e ∙ sym (append_assoc k.taken x y)) in
            let then = subst (λ (n : ℕ). Tells scene to.stage n (lines_of x) t) one h in
            let next = done_told mid.count (lines_of x) t w.done then in
            let line_told : Tells scene mid.stage mid.count (lines_of (k.taken ++ x)) (told_behind w.text t) =
            subst (λ (ls : List (List ℕ)). Tells scene mid.stage mid.count ls (told_behind w.text t)) (sym (k.fronts x y e)) next in
            let told = p.goes_on (k.taken ++ x) y (told_behind w.text t) taken line_told in
            subst (ScriptTells scene from.stage ((p.read ++ k.taken) ++ x)) (behind_twice p.text w.text t)
            (subst (λ (xs : List ℕ). ScriptTells scene from.stage xs (told_behind p.text (told_behind w.text t)))
            (sym (append_assoc p.read k.taken x)) told);
      }

  pub told_line : (from mid to : Point S) (line : List ℕ) → to.count ≡ mid.count + 1
      → WritesLine scene mid.stage line to.stage mid.held to.held → HasTold from mid
      → FindsLine found.Found mid.rest to.rest line → HasTold from to
  told_line from mid to line one w h f =
      known_then from.rest mid.rest to.rest {P = Progress from mid} {Q = λ rest after. TakesLine rest line after} {R = Progress from to}
      (λ script rest after p k. progress_line from mid to one w p k) h f
