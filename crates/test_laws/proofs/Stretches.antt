-- What the producer of a pipe put in: for each stretch of the pieces that were read what tells it.
use Rattle.std.proofs.Common.{◌≡◌, ◌⊎◌, ◌<◌, ◌≤◌, ◌+◌, ◌-◌, ◌%◌, ◌^◌, ℕ, zero, suc, ℤ, None, List, [], ◌∷◌, ◌++◌, length}
use Rattle.std.proofs.Common.{refl, sym, ap, subst, ◌∙◌, append_assoc, append-nil, inl, inr, mod-eq_of_lt, arith}
use Rattle.std.specs.Prelude.{min}
use Rattle.std.specs.List.{AllByRecursion, flat_map}
use Rattle.std.proofs.lemmas.List.{length-append}
use Rattle.std.proofs.lemmas.List.Concat.{flat_map-append}
use Rattle.alog_config.specs.Built.{EachIs}
use Rattle.alog_lines.specs.Pieces.{Piece}
use Rattle.alog_msg.specs.declared.item.Item.TheVariants.{Text}
use Rattle.alog_msg.specs.declared.level.Level.{Level}
use Rattle.alog_msg.specs.declared.level.Level.TheVariants.{Warning}
use Rattle.alog_msg.specs.declared.message.Message.{Message}
use Rattle.alog_pipe.specs.Logged.{HidesPiece, LogsPieceAt, LosesPiece, PostsPiece, below_by, by, missed_by}
use Rattle.alog_pipe.specs.InTurn.{InTurn}
use Rattle.alog_pipe.specs.Piped.{Finishes, LogsAll, LogsNext, Naps, Rests, TriesToTell}
use Rattle.alog_pool.specs.Gaps.{gap_text}
use Rattle.alog_pool.specs.OneWorker.{texts_in}
use Rattle.alog_pool.specs.Producer.{ProducerView, IsSame}
use Rattle.alog_registry.specs.Given.{message_with}
use Rattle.alog_registry.specs.Logging.{IsBelow}
use Rattle.alog_ring.proofs.SharedLists.{each_append}
use Rattle.test_laws.specs.PipedLines.{IsOf}
use Rattle.test_laws.specs.Stretches.{Stretch, Kept, Below, Told, Hidden, Tells, below_in, missing_in, pieces_of_stretch}
use Rattle.test_laws.proofs.Answered.{Hides, Puts, PutsNothing, hidden_piece, lost_hole, lost_piece, posted_piece, puts_of, same_puts, told_hole}
use Rattle.test_laws.proofs.Claims.{Given}
use Rattle.test_laws.proofs.Dues.{IsFor, texts_more}
use Rattle.test_laws.proofs.PieceLogs.{LacksMemory, LacksRoom, PieceLog, TellsAll}

-- a piece before which all is said that is missing
abbrev Found : ℤ → Piece → PieceLog → PieceLog → Type 0
Found time p mid new =
    (PostsPiece time p.text mid new.producer × (new ≡ by new.producer mid))
    ⊎ (HidesPiece time p.text mid new.producer × (new ≡ below_by new.producer mid))
    ⊎ (LosesPiece time p.text mid new.producer × (new ≡ missed_by new.producer mid))

-- stretches behind others
missing_more : (ss ts : List Stretch) → missing_in (ss ++ ts) ≡ missing_in ss + missing_in ts
missing_more [] ts = omega arith
missing_more (Kept p ∷ ss) ts = missing_more ss ts
missing_more (Below own p ∷ ss) ts = missing_more ss ts
missing_more (Told ps ∷ ss) ts = let rest = missing_more ss ts in omega (arith, rest)
missing_more (Hidden own ps ∷ ss) ts = let rest = missing_more ss ts in omega (arith, rest)

below_more : (ss ts : List Stretch) → below_in (ss ++ ts) ≡ below_in ss + below_in ts
below_more [] ts = omega arith
below_more (Kept p ∷ ss) ts = below_more ss ts
below_more (Below own p ∷ ss) ts = let rest = below_more ss ts in omega (arith, rest)
below_more (Told ps ∷ ss) ts = below_more ss ts
below_more (Hidden own ps ∷ ss) ts = below_more ss ts

module _ (logger : ℕ) (level : Level) where
  tells_more : (ss ts : List Stretch) (ms ns : List Message) → Tells logger level ss ms → Tells logger level ts ns
      → Tells logger level (ss ++ ts) (ms ++ ns)
  tells_more [] ts [] ns first then = then
  tells_more [] ts (m ∷ ms) ns first then = absurd first
  tells_more (Kept p ∷ ss) ts [] ns first then = absurd first
  tells_more (Kept p ∷ ss) ts (m ∷ ms) ns first then = (first.0, tells_more ss ts ms ns first.1 then)
  tells_more (Told ps ∷ ss) ts [] ns first then = absurd first
  tells_more (Told ps ∷ ss) ts (m ∷ ms) ns first then = (first.0, first.1, tells_more ss ts ms ns first.2 then)
  tells_more (Below own p ∷ ss) ts ms ns first then = (first.0, tells_more ss ts ms ns first.1 then)
  tells_more (Hidden own ps ∷ ss) ts ms ns first then = (first.0, first.1, tells_more ss ts ms ns first.2 then)

  -- a pipe logs to this logger at this level, with a pool's first producer
  pub record Stands (log : PieceLog) : Type 0 where
    pub logger_is : log.logger ≡ logger
    pub level_is : log.level ≡ level
    pub number_is : log.producer.number ≡ 0

  stands_on : {old new : PieceLog} → Stands old → IsSame old.producer new.producer → new.logger ≡ old.logger → new.level ≡ old.level → Stands new
  stands_on st same logger_is level_is = record {
    logger_is = logger_is ∙ st.logger_is;
    level_is = level_is ∙ st.level_is;
    number_is = same.number ∙ st.number_is;
  }

  -- These are missing, and no line tells of them yet; and the counts have room for so many more.
  pub record HasRun (run : List Piece) (n : ℕ) (log : PieceLog) : Type 0 where
    pub stands : Stands log
    pub hole_is : log.hole ≡ length run
    pub counted : length run ≤ log.missing
    pub missing : log.missing + n < 2 ^ 64
    pub below : log.below + n < 2 ^ 64

  -- From there on these pieces were logged. Stretches, and a run that no line tells of yet, are the run that there was and these pieces.
  pub record Goes (run ps : List Piece) (old new : PieceLog) : Type 0 where
    pub stands : Stands new
    pub stretches : List Stretch
    pub rest : List Piece
    pub pieces_are : run ++ ps ≡ flat_map pieces_of_stretch stretches ++ rest
    pub hole_is : new.hole ≡ length rest
    pub missing_is : new.missing + length run ≡ old.missing + missing_in stretches + length rest
    pub missing_few : new.missing ≤ old.missing + length ps
    pub below_is : new.below ≡ old.below + below_in stretches
    pub below_few : new.below ≤ old.below + length ps
    pub puts : List Given
    pub puts_are : puts_of new.producer ≡ puts_of old.producer ++ puts
    pub tells : Tells logger level stretches (texts_in puts)
    pub own : AllByRecursion (λ (i : Given). IsFor logger i.1) puts

  pub run_behind : {run ps : List Piece} {m : ℕ} (n : ℕ) {old new : PieceLog} → HasRun run m old → (g : Goes run ps old new) → length ps + n ≤ m
      → HasRun g.rest n new
  run_behind n has g less =
      let a = g.missing_is in
      let b = g.missing_few in
      let c = g.below_few in
      let d = has.counted in
      let e = has.missing in
      let f = has.below in
      record {
        stands = g.stands;
        hole_is = g.hole_is;
        counted = omega (arith, a, d);
        missing = omega (arith, b, e, less);
        below = omega (arith, c, f, less);
      }

  pub goes_on : {run ps qs : List Piece} {a b c : PieceLog} → (g : Goes run ps a b) → Goes g.rest qs b c → Goes run (ps ++ qs) a c
  goes_on {run} {ps} {qs} {a} {b} {c} g h =
      let mg = g.missing_is in
      let mh = h.missing_is in
      let ms = missing_more g.stretches h.stretches in
      let bg = g.below_is in
      let bh = h.below_is in
      let bs = below_more g.stretches h.stretches in
      let len = length-append ps qs in
      let fg = g.missing_few in
      let fh = h.missing_few in
      let lg = g.below_few in
      let lh = h.below_few in
      record {
        stands = h.stands;
        stretches = g.stretches ++ h.stretches;
        rest = h.rest;
        pieces_are = sym (append_assoc run ps qs) ∙ ap (λ (l : List Piece). l ++ qs) g.pieces_are
            ∙ append_assoc (flat_map pieces_of_stretch g.stretches) g.rest qs
            ∙ ap (λ (l : List Piece). flat_map pieces_of_stretch g.stretches ++ l) h.pieces_are
            ∙ sym (append_assoc (flat_map pieces_of_stretch g.stretches) (flat_map pieces_of_stretch h.stretches) h.rest)
            ∙ ap (λ (l : List Piece). l ++ h.rest) (sym (flat_map-append pieces_of_stretch g.stretches h.stretches));
        hole_is = h.hole_is;
        missing_is = omega (arith, mg, mh, ms);
        missing_few = omega (arith, fg, fh, len);
        below_is = omega (arith, bg, bh, bs);
        below_few = omega (arith, lg, lh, len);
        puts = g.puts ++ h.puts;
        puts_are = h.puts_are ∙ ap (λ (is : List Given). is ++ h.puts) g.puts_are ∙ append_assoc (puts_of a.producer) g.puts h.puts;
        tells = subst (λ (ms : List Message). Tells logger level (g.stretches ++ h.stretches) ms) (sym (texts_more g.puts h.puts))
            (tells_more g.stretches h.stretches (texts_in g.puts) (texts_in h.puts) g.tells h.tells);
        own = each_append (λ (i : Given). IsFor logger i.1) g.puts h.puts g.own h.own;
      }

  -- nothing was logged, or nothing was put in: the run is as it was
  pub record Idles (run : List Piece) (old new : PieceLog) : Type 0 where
    pub goes : Goes run [] old new
    pub still : goes.rest ≡ run

  idles_by : {run : List Piece} {n : ℕ} {old new : PieceLog} → HasRun run n old → PutsNothing old.producer new.producer → new ≡ by new.producer old
      → Idles run old new
  idles_by {run} {n} {old} {new} has none is =
      let m : new.missing ≡ old.missing = ap (λ (l : PieceLog). l.missing) is in
      let b : new.below ≡ old.below = ap (λ (l : PieceLog). l.below) is in
      record {
        goes = record {
          stands = stands_on has.stands none.same (ap (λ (l : PieceLog). l.logger) is) (ap (λ (l : PieceLog). l.level) is);
          stretches = [];
          rest = run;
          pieces_are = append-nil run;
          hole_is = ap (λ (l : PieceLog). l.hole) is ∙ has.hole_is;
          missing_is = omega (arith, m);
          missing_few = omega (arith, m);
          below_is = omega (arith, b);
          below_few = omega (arith, b);
          puts = [];
          puts_are = none.puts ∙ sym (append-nil (puts_of old.producer));
          tells = tt;
          own = tt;
        };
        still = refl;
      }

  idles_at : {run : List Piece} {n : ℕ} {old new : PieceLog} → HasRun run n old → new ≡ old → Idles run old new
  idles_at {run} {n} {old} {new} has is =
      subst (λ (l : PieceLog). Idles run old l) (sym is) (idles_by has (same_puts old.producer old.producer refl) refl)

  -- What a line that says how many are missing leaves: no run.
  pub record TellsRun (run : List Piece) (old new : PieceLog) : Type 0 where
    pub goes : Goes run [] old new
    pub none : goes.rest ≡ []

  tells_run : {n : ℕ} (time : ℤ) (run : List Piece) (old new : PieceLog) → HasRun run n old → TellsAll time old new → TellsRun run old new
  tells_run time [] old new has (inl h) = let idles = idles_at has h.1 in record { goes = idles.goes; none = idles.still }
  tells_run time (p ∷ run) old new has (inl h) =
      let long = has.hole_is in absurd (omega (arith, h.0, long))
  tells_run time run old new has (inr (some, told, is)) =
      let m : new.missing ≡ old.missing = ap (λ (l : PieceLog). l.missing) is in
      let b : new.below ≡ old.below = ap (λ (l : PieceLog). l.below) is in
      let long = has.hole_is in
      let full : 0 < length run = omega (arith, some, long) in
      elim (told_hole time old new.producer told) [
        | inl put ↦ record {
          goes = record {
            stands = stands_on has.stands put.same (ap (λ (l : PieceLog). l.logger) is) (ap (λ (l : PieceLog). l.level) is);
            stretches = Told run ∷ [];
            rest = [];
            pieces_are = sym (append-nil (run ++ []));
            hole_is = ap (λ (l : PieceLog). l.hole) is;
            missing_is = omega (arith, m);
            missing_few = omega (arith, m);
            below_is = omega (arith, b);
            below_few = omega (arith, b);
            puts = (put.ticket, Text (message_with old.logger Warning time old.producer.number (gap_text old.hole) None)) ∷ [];
            puts_are = put.puts;
            tells = (full, (time, λ i. message_with (has.stands.logger_is i) Warning time (has.stands.number_is i) (gap_text (has.hole_is i)) None), tt);
            own = (has.stands.logger_is, tt);
          };
          none = refl;
        }
        | inr none ↦ record {
          goes = record {
            stands = stands_on has.stands none.same (ap (λ (l : PieceLog). l.logger) is) (ap (λ (l : PieceLog). l.level) is);
            stretches = Hidden none.own run ∷ [];
            rest = [];
            pieces_are = sym (append-nil (run ++ []));
            hole_is = ap (λ (l : PieceLog). l.hole) is;
            missing_is = omega (arith, m);
            missing_few = omega (arith, m);
            below_is = omega (arith, b);
            below_few = omega (arith, b);
            puts = [];
            puts_are = none.puts ∙ sym (append-nil (puts_of old.producer));
            tells = (full, none.below, tt);
            own = tt;
          };
          none = refl;
        }
      ]

  -- there was no room or no memory for that line: the run is as it was
  keeps_run : {n : ℕ} (time : ℤ) (run : List Piece) (old new : PieceLog) → HasRun run n old → LacksRoom time old new ⊎ LacksMemory old new
      → Goes run [] old new
  keeps_run time run old new has (inl h) = (idles_by has (lost_hole time old new.producer h.1) h.2).goes
  keeps_run time run old new has (inr h) = (idles_at has h.2).goes

  -- a piece of which nothing was logged: the run is longer
  missed : {n : ℕ} (p : Piece) (run : List Piece) (old new : PieceLog) → HasRun run (suc n) old → PutsNothing old.producer new.producer
      → new ≡ missed_by new.producer old → Goes run (p ∷ []) old new
  missed p run old new has none is =
      let h : new.hole ≡ min (old.hole + 1) (2 ^ 64 - 1) = ap (λ (l : PieceLog). l.hole) is in
      let m : new.missing ≡ (old.missing + 1) % 2 ^ 64 = ap (λ (l : PieceLog). l.missing) is in
      let b : new.below ≡ old.below = ap (λ (l : PieceLog). l.below) is in
      let long = has.hole_is in
      let fit = has.counted in
      let room = has.missing in
      let low : old.missing + 1 < 2 ^ 64 = omega (arith, room) in
      let next : (old.missing + 1) % 2 ^ 64 ≡ old.missing + 1 = mod-eq_of_lt low in
      let len = length-append run (p ∷ []) in
      record {
        stands = stands_on has.stands none.same (ap (λ (l : PieceLog). l.logger) is) (ap (λ (l : PieceLog). l.level) is);
        stretches = [];
        rest = run ++ p ∷ [];
        pieces_are = refl;
        hole_is = omega (arith, h, long, fit, low, len);
        missing_is = omega (arith, m, next, len);
        missing_few = omega (arith, m, next);
        below_is = omega (arith, b);
        below_few = omega (arith, b);
        puts = [];
        puts_are = none.puts ∙ sym (append-nil (puts_of old.producer));
        tells = tt;
        own = tt;
      }

  -- a piece where no run is before it: it was posted; it is below the level
  kept : {n : ℕ} (time : ℤ) (p : Piece) (old new : PieceLog) → HasRun [] n old → Puts old.logger old.level time p.text old.producer new.producer
      → new ≡ by new.producer old → Goes [] (p ∷ []) old new
  kept time p old new has put is =
      let m : new.missing ≡ old.missing = ap (λ (l : PieceLog). l.missing) is in
      let b : new.below ≡ old.below = ap (λ (l : PieceLog). l.below) is in
      record {
        stands = stands_on has.stands put.same (ap (λ (l : PieceLog). l.logger) is) (ap (λ (l : PieceLog). l.level) is);
        stretches = Kept p ∷ [];
        rest = [];
        pieces_are = refl;
        hole_is = ap (λ (l : PieceLog). l.hole) is ∙ has.hole_is;
        missing_is = omega (arith, m);
        missing_few = omega (arith, m);
        below_is = omega (arith, b);
        below_few = omega (arith, b);
        puts = (put.ticket, Text (message_with old.logger old.level time old.producer.number p.text None)) ∷ [];
        puts_are = put.puts;
        tells = ((time, λ i. message_with (has.stands.logger_is i) (has.stands.level_is i) time (has.stands.number_is i) p.text None), tt);
        own = (has.stands.logger_is, tt);
      }

  below : {n : ℕ} (p : Piece) (old new : PieceLog) → HasRun [] (suc n) old → Hides old.level old.producer new.producer
      → new ≡ below_by new.producer old → Goes [] (p ∷ []) old new
  below p old new has none is =
      let m : new.missing ≡ old.missing = ap (λ (l : PieceLog). l.missing) is in
      let b : new.below ≡ (old.below + 1) % 2 ^ 64 = ap (λ (l : PieceLog). l.below) is in
      let room = has.below in
      let low : old.below + 1 < 2 ^ 64 = omega (arith, room) in
      let next : (old.below + 1) % 2 ^ 64 ≡ old.below + 1 = mod-eq_of_lt low in
      record {
        stands = stands_on has.stands none.same (ap (λ (l : PieceLog). l.logger) is) (ap (λ (l : PieceLog). l.level) is);
        stretches = Below none.own p ∷ [];
        rest = [];
        pieces_are = refl;
        hole_is = ap (λ (l : PieceLog). l.hole) is ∙ has.hole_is;
        missing_is = omega (arith, m);
        missing_few = omega (arith, m);
        below_is = omega (arith, b, next);
        below_few = omega (arith, b, next);
        puts = [];
        puts_are = none.puts ∙ sym (append-nil (puts_of old.producer));
        tells = (subst (λ (l : Level). IsBelow l none.own) has.stands.level_is none.below, tt);
        own = tt;
      }

  -- a piece where all is said that is missing before it
  found_goes : {n : ℕ} (time : ℤ) (p : Piece) (mid new : PieceLog) → HasRun [] (suc n) mid → Found time p mid new → Goes [] (p ∷ []) mid new
  found_goes time p mid new has (inl (posted, is)) = kept time p mid new has (posted_piece time p.text mid new.producer posted) is
  found_goes time p mid new has (inr (inl (hidden, is))) = below p mid new has (hidden_piece time p.text mid new.producer hidden) is
  found_goes time p mid new has (inr (inr (lost, is))) = missed p [] mid new has (lost_piece time p.text mid new.producer lost) is

  piece_goes : {n : ℕ} (time : ℤ) (p : Piece) (run : List Piece) (old mid new : PieceLog) → HasRun run (suc n) old
      → LogsPieceAt time p.text old mid new → Goes run (p ∷ []) old new
  piece_goes {n} time p run old mid new has (inl (tells, found)) =
      let told = tells_run time run old mid has tells in
      let has_mid = subst (λ (rest : List Piece). HasRun rest (suc n) mid) told.none (run_behind {ps = []} (suc n) has told.goes (omega arith)) in
      goes_on {ps = []} {qs = p ∷ []} told.goes
      (subst (λ (rest : List Piece). Goes rest (p ∷ []) mid new) (sym told.none) (found_goes time p mid new has_mid found))
  piece_goes {n} time p run old mid new has (inr (untold, is)) =
      let kept_run = keeps_run time run old mid has untold in
      let same : new.producer ≡ mid.producer = ap (λ (l : PieceLog). l.producer) is in
      goes_on {ps = []} {qs = p ∷ []} kept_run
      (missed p kept_run.rest mid new (run_behind {ps = []} (suc n) has kept_run (omega arith)) (same_puts mid.producer new.producer same)
      (is ∙ ap (λ (q : ProducerView). missed_by q mid) (sym same)))

  -- while nothing came
  tries_go : {n : ℕ} (time : ℤ) (run : List Piece) (old new : PieceLog) → TriesToTell time old new → HasRun run n old → Goes run [] old new
  tries_go time run old new (inl all) has = (tells_run time run old new has all).goes
  tries_go time run old new (inr none) has = keeps_run time run old new has none

  rests_go : {k : ℕ} (n : ℕ) (run : List Piece) (old new : PieceLog) → Rests n old new → HasRun run k old → Goes run [] old new
  rests_go zero run old new same has = (idles_at has same).goes
  rests_go {k} (suc n) run old new all has =
      let before = rests_go n run old all.0 all.1 has in
      goes_on {ps = []} {qs = []} before
      (tries_go all.2.0 before.rest all.0 new all.2.1 (run_behind {ps = []} k has before (omega arith)))

  -- all that was read
  next_go : (ps run : List Piece) (old new : PieceLog) → InTurn LogsNext ps old new → HasRun run (length ps) old → Goes run ps old new
  next_go [] run old new same has = (idles_at has same).goes
  next_go (p ∷ ps) run old new all has =
      let next = all.1 in
      let rested = rests_go next.1.0 run old next.0 next.1.1 has in
      let piece = piece_goes {n = length ps} next.2.0 p rested.rest next.0 next.2.1.mid all.0
      (run_behind {ps = []} (suc (length ps)) has rested (omega arith)) next.2.1.logged in
      let first = goes_on {ps = []} {qs = p ∷ []} rested piece in
      goes_on {ps = p ∷ []} {qs = ps} first (next_go ps first.rest all.0 new all.2 (run_behind {ps = p ∷ []} (length ps) has first (omega arith)))

  pub pieces_go : (ps run : List Piece) (old new : PieceLog) → LogsAll ps old new → HasRun run (length ps) old → Goes run ps old new
  pieces_go ps run old new l has =
      let pieces = next_go ps run old l.mid l.pieces has in
      subst (λ (qs : List Piece). Goes run qs old new) (append-nil ps)
      (goes_on {ps = ps} {qs = []} pieces (rests_go l.rests pieces.rest l.mid new l.rested (run_behind {ps = ps} 0 has pieces (omega arith))))

  -- while the end waits for room, and what its last line leaves
  naps_go : (n : ℕ) (time : ℤ) (run : List Piece) (old new : PieceLog) → Naps n time old new → HasRun run 0 old → Goes run [] old new
  naps_go zero time run old new same has = (idles_at has same).goes
  naps_go (suc n) time run old new all has =
      let before = naps_go n time run old all.0 all.1 has in
      goes_on {ps = []} {qs = []} before
      (keeps_run time before.rest all.0 new (run_behind {ps = []} 0 has before (omega arith)) (inl all.2))

  ends_go : (time : ℤ) (run : List Piece) (mid new : PieceLog) → TellsAll time mid new ⊎ LacksMemory mid new → HasRun run 0 mid → Goes run [] mid new
  ends_go time run mid new (inl all) has = (tells_run time run mid new has all).goes
  ends_go time run mid new (inr none) has = keeps_run time run mid new has (inr none)

  pub finish_goes : {time : ℤ} {run : List Piece} {old new : PieceLog} → Finishes time old new → HasRun run 0 old → Goes run [] old new
  finish_goes {time} {run} {old} {new} f has =
      let naps = naps_go f.tries time run old f.mid f.naps has in
      goes_on {ps = []} {qs = []} naps
      (ends_go time naps.rest f.mid new f.last (run_behind {ps = []} 0 has naps (omega arith)))

  -- there are no more messages than pieces
  pub tells_few : (ss : List Stretch) (ms : List Message) → Tells logger level ss ms → length ms ≤ length (flat_map pieces_of_stretch ss)
  tells_few [] [] tells = omega arith
  tells_few [] (m ∷ ms) tells = absurd tells
  tells_few (Kept p ∷ ss) [] tells = absurd tells
  tells_few (Kept p ∷ ss) (m ∷ ms) tells = let rest = tells_few ss ms tells.1 in omega (arith, rest)
  tells_few (Told ps ∷ ss) [] tells = absurd tells
  tells_few (Told ps ∷ ss) (m ∷ ms) tells =
      let rest = tells_few ss ms tells.2 in
      let both = length-append ps (flat_map pieces_of_stretch ss) in omega (arith, tells.0, rest, both)
  tells_few (Below own p ∷ ss) ms tells = let rest = tells_few ss ms tells.1 in omega (arith, rest)
  tells_few (Hidden own ps ∷ ss) ms tells =
      let rest = tells_few ss ms tells.2 in
      let both = length-append ps (flat_map pieces_of_stretch ss) in omega (arith, rest, both)

  -- where nothing is missing or below the level there is a message for each piece
  pub none_lost : (ss : List Stretch) (ms : List Message) → Tells logger level ss ms → missing_in ss ≡ 0 → below_in ss ≡ 0
      → EachIs (IsOf logger level) (flat_map pieces_of_stretch ss) ms
  none_lost [] [] tells none low = tt
  none_lost [] (m ∷ ms) tells none low = absurd tells
  none_lost (Kept p ∷ ss) [] tells none low = absurd tells
  none_lost (Kept p ∷ ss) (m ∷ ms) tells none low = (tells.0, none_lost ss ms tells.1 none low)
  none_lost (Told ps ∷ ss) [] tells none low = absurd tells
  none_lost (Told ps ∷ ss) (m ∷ ms) tells none low = absurd (omega (arith, tells.0, none))
  none_lost (Below own p ∷ ss) ms tells none low = absurd (omega (arith, low))
  none_lost (Hidden own ps ∷ ss) ms tells none low = absurd (omega (arith, tells.0, none))
