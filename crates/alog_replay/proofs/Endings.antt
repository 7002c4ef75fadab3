-- What a replay has written where it ends.
use Rattle.std.proofs.Common.{◌≡◌, ℕ, ◌+◌, Option, List, [], ◌∷◌, ◌++◌, Result, Ok, Err, inl, inr, refl, sym, ap}
use Rattle.std.proofs.Common.{subst, ◌∙◌, append_assoc}
use Rattle.std.specs.Prelude.{IfSome, OnErr}
use Rattle.std.proofs.lemmas.List.{append-nil}
use Rattle.std.specs.Io.KnownBytes.{Appends, prepend_known}
use Rattle.alog_replay.specs.Known.{WhereKnown}
use Rattle.alog_replay.specs.Lines.{lines_of, TakesLine}
use Rattle.alog_replay.specs.Reading.{FindsLine, IsNextLine}
use Rattle.alog_replay.specs.Scene.{Scene, GoesOn}
use Rattle.alog_replay.specs.Script.{Told, Whole, RefusedAt, told_behind, text_of, Tells, ScriptTells, WritesRefused}
use Rattle.alog_replay.specs.Script.{WritesLineFront, WritesFrontOf, WritesText, WritesFront, WasRead}
use Rattle.alog_replay.specs.declared.lines.Line.TheVariants as found
use Rattle.alog_replay.proofs.KnownBytes.{known_then, known_first, known_pending, IsRead}
use Rattle.alog_replay.proofs.Writing.{appends_nothing, appends_more}
use Rattle.alog_replay.proofs.Going.{some_told}
use Rattle.alog_replay.proofs.Telling.{Point, Progress, HasTold, no_lines, too_long_told, done_told, refused_told}
use Rattle.alog_replay.proofs.Telling.{text_behind}

pub on_any_err : {T E P : Type 0} (r : Result T E) → P → OnErr r P
on_any_err (Ok x) p = tt
on_any_err (Err e) p = p

-- a front of what may follow was written behind the text so far
front_of : (text : List ℕ) (t : Told) (old mid new : Option (List ℕ)) → Appends old mid text → WritesFrontOf (text_of t) mid new
    → WritesFrontOf (text_of (told_behind text t)) old new
front_of text t old mid new a w =
    record {
      front = text ++ w.front;
      back = w.back;
      split = text_behind text t ∙ (ap (λ xs. text ++ xs) w.split ∙ sym (append_assoc text w.front w.back));
      writes = appends_more old mid new text w.front a w.writes;
    }

-- nothing more was written
nothing_of : (text : List ℕ) (old new : Option (List ℕ)) → Appends old new [] → WritesFrontOf text old new
nothing_of text old new a = record { front = []; back = text; split = refl; writes = a }

-- more text behind leaves a front a front
front_longer : (text : List ℕ) (t : Told) (old new : Option (List ℕ)) → WritesFrontOf text old new
    → WritesFrontOf (text_of (told_behind text t)) old new
front_longer text t old new w =
    record {
      front = w.front;
      back = w.back ++ text_of t;
      split = text_behind text t
          ∙ (ap (λ xs. xs ++ text_of t) w.split ∙ append_assoc w.front w.back (text_of t));
      writes = w.writes;
    }

none_after : (x y : List ℕ) → x ++ y ≡ [] → y ≡ []
none_after [] y e = e
none_after (b ∷ x) y e = absurd cc

module _ {S : Type 0} (scene : Scene S) where
  -- what was written is a front of what these bytes tell that were read
  abbrev pub HasFront : Point S → Option (List ℕ) → Option (List ℕ) → Type 0
  HasFront from left new = WasRead from.rest left (λ read. WritesFront scene from.stage read from.held new)

  abbrev pub Front : Point S → Option (List ℕ) → List ℕ → List ℕ → Type 0
  Front from new script left = (read : List ℕ) × (script ≡ read ++ left) × WritesFront scene from.stage read from.held new

  -- this much of the rest was read, and tells this
  front_at : {script rest : List ℕ} {new : Option (List ℕ)} {from to : Point S} (x left : List ℕ) (t : Told)
      → Progress scene from to script rest → rest ≡ x ++ left
      → Tells scene to.stage to.count (lines_of x) t → WritesFrontOf (text_of t) to.held new → Front from new script left
  front_at {script} {rest} {new} {from} {to} x left t p e h w = (
    p.read ++ x,
    p.split ∙ (ap (λ xs. p.read ++ xs) e ∙ sym (append_assoc p.read x left)),
    record {
      told = told_behind p.text t;
      tells = p.goes_on x left t e h;
      writes = front_of p.text t from.held to.held new p.writes w;
    },
  )

  -- all of the rest tells this
  whole_text : {script rest : List ℕ} {from to : Point S} {new : Option (List ℕ)} (ended : List ℕ → Told) (more : List ℕ)
      → ((text : List ℕ) → told_behind text (ended more) ≡ ended (text ++ more))
      → Tells scene to.stage to.count (lines_of rest) (ended more) → Appends to.held new more
      → Progress scene from to script rest → WritesText scene from.stage script ended from.held new
  whole_text {script} {rest} {from} {to} {new} ended more same h a p =
      record {
        text = p.text ++ more;
        tells = subst (λ (xs : List ℕ). ScriptTells scene from.stage xs (ended (p.text ++ more))) (sym p.split)
            (subst (ScriptTells scene from.stage (p.read ++ rest)) (same p.text)
            (p.goes_on rest [] (ended more) (sym (append-nil rest)) h));
        writes = appends_more from.held to.held new p.text more p.writes a;
      }

  -- what is known of the script, once the next line is
  at_line : (from to : Point S) (after : Option (List ℕ)) (Q : List ℕ → List ℕ → Type 0) (R : List ℕ → Type 0)
      → ((script rest left : List ℕ) → Progress scene from to script rest → Q rest left → R script) → HasTold scene from to
      → WhereKnown to.rest after Q → IfSome from.rest R
  at_line from to after Q R both h f =
      known_first from.rest after R
      (known_then from.rest to.rest after {P = λ script rest. Progress scene from to script rest} {Q = Q} {R = λ script left. R script} both h f)

  -- the script is at its end
  pub end_whole : (from to : Point S) (after new : Option (List ℕ)) (line : List ℕ) → HasTold scene from to
      → FindsLine found.End to.rest after line → Appends to.held new (scene.files to.stage)
      → IfSome from.rest (λ s. WritesText scene from.stage s (λ text. Whole text to.count) from.held new)
  end_whole from to after new line h f a =
      at_line from to after (λ rest left. IsNextLine found.End rest line left)
      (λ s. WritesText scene from.stage s (λ text. Whole text to.count) from.held new)
      (λ script rest left p k. whole_text {new = new} (λ text. Whole text to.count) (scene.files to.stage) (λ text. refl)
      (subst (λ (xs : List ℕ). Tells scene to.stage to.count (lines_of xs) (Whole (scene.files to.stage) to.count)) (sym k.0)
      (no_lines scene to.stage to.count)) a p) h f

  -- the next line is too long
  pub too_long_refused : (from to : Point S) (after : Option (List ℕ)) (line : List ℕ) → HasTold scene from to
      → FindsLine found.TooLong to.rest after line
      → IfSome from.rest (λ s. WritesText scene from.stage s (RefusedAt (to.count + 1)) from.held to.held)
  too_long_refused from to after line h f =
      at_line from to after (λ rest left. IsNextLine found.TooLong rest line left)
      (λ s. WritesText scene from.stage s (RefusedAt (to.count + 1)) from.held to.held)
      (λ script rest left p k. whole_text {new = to.held} (RefusedAt (to.count + 1)) [] (λ text. refl)
      (too_long_told scene to.stage to.count rest k.1) (appends_nothing to.held) p) h f

  -- the next line is refused
  pub line_refused : (from to : Point S) (after new : Option (List ℕ)) (line : List ℕ) → HasTold scene from to
      → FindsLine found.Found to.rest after line → WritesRefused scene to.stage line to.held new
      → IfSome from.rest (λ s. WritesText scene from.stage s (RefusedAt (to.count + 1)) from.held new)
  line_refused from to after new line h f w =
      at_line from to after (λ rest left. TakesLine rest line left)
      (λ s. WritesText scene from.stage s (RefusedAt (to.count + 1)) from.held new)
      (λ script rest left p k. whole_text {new = new} (RefusedAt (to.count + 1)) w.text (λ text. refl)
      (subst (λ (ls : List (List ℕ)). Tells scene to.stage to.count ls (RefusedAt (to.count + 1) w.text)) (sym k.lines)
      (refused_told scene to.stage to.count line w.text (lines_of left) w.refused)) w.writes p) h f

  -- up to a place in the rest
  at_place : (from to : Point S) (left new : Option (List ℕ)) (Q : List ℕ → List ℕ → Type 0)
      → ((script rest left : List ℕ) → Progress scene from to script rest → Q rest left → Front from new script left)
      → HasTold scene from to → WhereKnown to.rest left Q → HasFront from left new
  at_place from to left new Q both h f =
      known_then from.rest to.rest left {P = λ script rest. Progress scene from to script rest} {Q = Q} {R = Front from new} both h f

  -- the files, or a front of them, were written at the end
  pub finish_front : (from to : Point S) (left : Option (List ℕ)) {new : Option (List ℕ)} (pending line : List ℕ) → HasTold scene from to
      → FindsLine found.End to.rest (prepend_known pending left) line → WritesFrontOf (scene.files to.stage) to.held new
      → HasFront from left new
  finish_front from to left {new} pending line h f w =
      at_place from to left new (λ rest xs. IsNextLine found.End rest line (pending ++ xs))
      (λ script rest xs p k. front_at [] xs (Whole (scene.files to.stage) to.count) p (k.0
      ∙ sym (none_after pending xs k.3)) (no_lines scene to.stage to.count) w)
      h (known_pending to.rest left pending (λ rest xs. IsNextLine found.End rest line xs) f)

  module _ (goes : GoesOn scene) where
    -- nothing more was written
    pub nothing_front : (from to : Point S) (left : Option (List ℕ)) → HasTold scene from to → WhereKnown to.rest left IsRead
        → HasFront from left to.held
    nothing_front from to left h r =
        at_place from to left to.held IsRead
        (λ script rest xs p k.
        let t = some_told scene goes (lines_of k.0) to.stage to.count in
        front_at k.0 xs t.0 p k.1 t.1 (nothing_of (text_of t.0) to.held to.held (appends_nothing to.held))) h r

    -- what was read of the rest is a line and these bytes
    line_read : {script rest line : List ℕ} {new : Option (List ℕ)} {from to : Point S} (pending xs : List ℕ)
        → Progress scene from to script rest
        → TakesLine rest line (pending ++ xs) → (t : Told) → Tells scene to.stage to.count (line ∷ lines_of pending) t
        → WritesFrontOf (text_of t) to.held new
        → Front from new script xs
    line_read {script} {rest} {from} {to} pending xs p k t h w =
        let split : rest ≡ (k.taken ++ pending) ++ xs = k.whole ∙ sym (append_assoc k.taken pending xs) in
        front_at (k.taken ++ pending) xs t p split
        (subst (λ (ls : List (List ℕ)). Tells scene to.stage to.count ls t) (sym (k.fronts pending xs refl)) h) w

    printed_read : {script rest line : List ℕ} (from to : Point S) (pending xs : List ℕ) (new : Option (List ℕ))
        → Progress scene from to script rest
        → TakesLine rest line (pending ++ xs) → WritesLineFront scene to.stage line to.held new → Front from new script xs
    printed_read {script} {rest} {line} from to pending xs new p k w =
        elim w [
          | inl a ↦ let t = some_told scene goes (line ∷ lines_of pending) to.stage to.count in
              line_read pending xs p k t.0 t.1 (nothing_of (text_of t.0) to.held new a)
          | inr d ↦ elim d.1 [
            | inl e ↦ let t = some_told scene goes (lines_of pending) e.0 (to.count + 1) in
                line_read pending xs p k (told_behind d.0 t.0)
                (done_told scene to.count (lines_of pending) t.0 e.1 t.1) (front_longer d.0 t.0 to.held new d.2)
            | inr e ↦ line_read pending xs p k (RefusedAt (to.count + 1) d.0)
                (refused_told scene to.stage to.count line d.0 (lines_of pending) e) d.2
          ]
        ]

    -- the next line, or a front of what it printed, was written
    pub line_front : (from to : Point S) (left : Option (List ℕ)) {new : Option (List ℕ)} (pending line : List ℕ) → HasTold scene from to
        → FindsLine found.Found to.rest (prepend_known pending left) line → WritesLineFront scene to.stage line to.held new
        → HasFront from left new
    line_front from to left {new} pending line h f w =
        at_place from to left new (λ rest xs. TakesLine rest line (pending ++ xs))
        (λ script rest xs p k. printed_read from to pending xs new p k w)
        h (known_pending to.rest left pending (λ rest xs. TakesLine rest line xs) f)
