-- From what a pipe logged to what its sink holds.
use Rattle.std.proofs.Common.{◌≡◌, ◌≢◌, ◌<◌, ◌^◌, ℕ, Bool, Option, Some, Result, Ok, Err, List, [], ◌++◌, map, length}
use Rattle.std.proofs.Common.{◌+◌, ◌≤◌, ◌∷◌, refl, sym, ap, subst, ◌∙◌, append-nil, inl, inr, arith}
use Rattle.std.proofs.KnownBytes.{Consumes-whole}
use Rattle.std.specs.Prelude.{◌&&◌, ◌==◌, if◌then◌else◌, true, None, IfOk, IfSome, slice_get}
use Rattle.std.specs.List.{AllByRecursion, flat_map}
use Rattle.std.proofs.lemmas.List.{length-append}
use Rattle.alog_config.specs.Built.{EachIs}
use Rattle.alog_config.specs.declared.config.Config.{Config}
use Rattle.alog_core.specs.Accounts.{claims, takes}
use Rattle.alog_core.specs.History.{Entry}
use Rattle.alog_lane.specs.Calls.{LaneId}
use Rattle.alog_lines.specs.Laws.{ShortLinesAreWhole}
use Rattle.alog_lines.specs.Pieces.{Piece, pieces_of}
use Rattle.alog_msg.specs.declared.item.Item.{Item}
use Rattle.alog_msg.specs.declared.level.Level.{Level}
use Rattle.alog_msg.specs.declared.message.Message.{Message}
use Rattle.alog_pipe.specs.Pipes.{Pipes, for_pipe, overruns, overruns_of}
use Rattle.alog_pipe.specs.declared.piping.Piped.{Piped}
use Rattle.alog_policy.specs.declared.policy.Policy.{Policy}
use Rattle.alog_policy.specs.declared.policy.Policy.TheVariants.{Block, DiscardNew, OverrunOldest}
use Rattle.alog_pool.specs.Gaps.{told_from}
use Rattle.alog_pool.specs.OneWorker.{OneWorkerWritesInOrder, texts_in}
use Rattle.alog_pool.specs.Pool.{lanes_of}
use Rattle.alog_pool.specs.declared.shared.Shared.{Shared}
use Rattle.alog_pool.specs.declared.worker.Worker.{Worker}
use Rattle.alog_registry.specs.BlockPort.{block_note}
use Rattle.alog_registry.specs.Listed.{spec_at}
use Rattle.alog_registry.specs.declared.logger.Logger.{Logger}
use Rattle.alog_registry.specs.declared.logger.Spec.{Spec}
use Rattle.alog_sink.specs.Files.{Files}
use Rattle.alog_sink.specs.declared.sink.Sink.{Sink}
use Rattle.test_laws.specs.PipedLines.{BlocksLoseNone, FlowsTo, HoldsPieces, IsOf, KeepsAll, LeavesNone, LosesNone, OverrunsNone}
use Rattle.test_laws.specs.Stretches.{AreTold, Holds, HoldsKept, HoldsStretches, TellsLost, below_in, missing_in, pieces_of_stretch}
use Rattle.test_laws.proofs.Answered.{puts_of}
use Rattle.test_laws.proofs.Bounds.{none_overrun, took_none}
use Rattle.test_laws.proofs.Claims.{Given}
use Rattle.test_laws.proofs.Gaps.{IsFirsts, all_kept, firsts_of, tells_firsts, texts_length}
use Rattle.test_laws.proofs.Held.{EndsAlone, Held, texts_are, texts_held, texts_kept, written}
use Rattle.test_laws.proofs.Opening.{Fills, at_map, stands_on}
use Rattle.test_laws.proofs.Overruns.{finish_spares, pieces_spare, takes_by_now}
use Rattle.test_laws.proofs.PieceLogs.{PieceLog, finish_told}
use Rattle.test_laws.proofs.Spent.{finish_seen, pieces_seen}
use Rattle.test_laws.proofs.Stretches.{Goes, HasRun, finish_goes, goes_on, none_lost, pieces_go, run_behind, tells_few}
use Rattle.test_laws.proofs.Texts.{copied, files_have}
use Rattle.test_laws.proofs.Throughout.{IsWith}
use Rattle.test_laws.proofs.Tickets.{nearly_all}

none_left : (ps : List Piece) → length ps ≡ 0 → ps ≡ []
none_left [] none = refl
none_left (p ∷ ps) none = absurd (omega (arith, none))

-- what is so under the policy that overruns the oldest, and under each other one
by_policy : {P : Type 0} (q : Policy) → (q ≡ OverrunOldest → P) → (q ≢ OverrunOldest → P) → P
by_policy Block over other = other (λ e. absurd (cc e))
by_policy OverrunOldest over other = over refl
by_policy DiscardNew over other = other (λ e. absurd (cc e))

module _ {S : Type 0} (tells : Bool) (files : S → Files) (failures : S → ℕ) {c : Config} {stores : List S} {logger : ℕ} {level : Level}
    {before after : Option (List ℕ)} {p : Piped S} (h : Pipes tells files failures c stores logger level before after p) where
  abbrev pieces : List Piece
  pieces = h.through.pumps.pumps.pieces

  begins : length pieces < 2 ^ 64 → HasRun logger level [] (length pieces) h.through.pumps.start.log
  begins few = subst (λ (l : PieceLog). HasRun logger level [] (length pieces) l) (sym h.through.pumps.log_is) (record {
    stands = record { logger_is = refl; level_is = refl; number_is = h.through.makes.number ∙ h.starts.made };
    hole_is = refl;
    counted = omega arith;
    missing = omega (arith, few);
    below = omega (arith, few);
  })

  put_nothing : puts_of h.through.pumps.start.log.producer ≡ []
  put_nothing = ap (λ (l : PieceLog). puts_of l.producer) h.through.pumps.log_is
      ∙ ap (λ (own : List (Entry Item block_note)). claims own) h.through.makes.entries.0

  begun_loggers : h.through.begun.shared.loggers ≡ h.setup.loggers
  begun_loggers = ap (λ (v : Shared). v.loggers) h.through.makes.shared ∙ h.starts.loggers

  loggers_are : h.through.pool.shared.loggers ≡ h.setup.loggers
  loggers_are = ap (λ (v : Shared). v.loggers) h.through.makes.same.0 ∙ h.starts.loggers

  -- the logger that it begins with
  starts_with : (spec : Spec) → spec_at h.setup.loggers logger ≡ Some spec → IsWith spec h.through.pumps.start.log
  starts_with spec found =
      subst (λ (l : PieceLog). IsWith spec l) (sym h.through.pumps.log_is)
      (subst (λ (ls : List Logger). spec_at ls logger ≡ Some spec) (sym begun_loggers) found)

  -- what a logger that does not overrun the oldest takes out, and what is overrun by it
  module _ (spec : Spec) (found : spec_at h.setup.loggers logger ≡ Some spec) (never : spec.policy ≢ OverrunOldest) where
    took_nothing : takes h.through.log.producer.pass.known.own ≡ []
    took_nothing =
        let none : takes_by_now h.through.pumps.start.log ≡ [] =
        ap (λ (l : PieceLog). takes_by_now l) h.through.pumps.log_is
        ∙ ap (λ (own : List (Entry Item block_note)). takes own) h.through.makes.entries.0 in
        let read = pieces_spare spec never [] pieces h.through.pumps.start.log h.through.pumps.last.log h.through.pumps.pumps.logged
        (starts_with spec found, none) in
        (finish_spares spec never [] h.through.pumps.finished read).1

  pub overruns_none : OverrunsNone tells files failures h
  overruns_none spec found never = none_overrun tells files failures h.through.ends (took_nothing spec found never)

  sinks_are : map (λ (l : LaneId (Sink S)). l.first) (lanes_of h.through.pool.sink_seats) ≡ h.setup.sinks.items
  sinks_are = ap (λ (ls : List (LaneId (Sink S))). map (λ (l : LaneId (Sink S)). l.first) ls) h.through.makes.lanes ∙ h.starts.sinks

  module _ {n : ℕ} {bytes : List ℕ} (f : FlowsTo tells files failures n bytes h) where
    -- the pieces that were logged are those of all bytes
    pieces_are : pieces ≡ pieces_of c.text bytes
    pieces_are =
        let pumps = h.through.pumps.pumps in
        let end = pumps.end f.whole in
        subst (λ (o : Option (List ℕ)). IfSome o (λ (given : List ℕ). pieces ≡ pieces_of c.text given)) f.had
        (Consumes-whole before after pumps.bytes (λ (given : List ℕ). pieces ≡ pieces_of c.text given) pumps.taken end.0 end.1)

    -- all that was logged: the pieces, and what is missing at the end
    goes : Goes logger level [] (pieces_of c.text bytes) h.through.pumps.start.log h.through.log
    goes =
        let few = subst (λ (ps : List Piece). length ps < 2 ^ 64) (sym pieces_are) f.few in
        let has = begins few in
        let read = pieces_go logger level pieces [] h.through.pumps.start.log h.through.pumps.last.log h.through.pumps.pumps.logged has in
        let end = finish_goes logger level h.through.pumps.finished (run_behind logger level {ps = pieces} 0 has read (omega arith)) in
        subst (λ (ps : List Piece). Goes logger level [] ps h.through.pumps.start.log h.through.log) (append-nil pieces ∙ pieces_are)
        (goes_on logger level {ps = pieces} {qs = []} read end)

    puts_are : puts_of h.through.log.producer ≡ goes.puts
    puts_are = goes.puts_are ∙ ap (λ (is : List Given). is ++ goes.puts) put_nothing

    start_counts : (h.through.pumps.start.log.missing ≡ 0) × (h.through.pumps.start.log.below ≡ 0)
    start_counts = (ap (λ (l : PieceLog). l.missing) h.through.pumps.log_is, ap (λ (l : PieceLog). l.below) h.through.pumps.log_is)

    missing_are : p.missing ≡ missing_in goes.stretches + length goes.rest
    missing_are =
        let first = start_counts.0 in
        let all = goes.missing_is in
        let told = h.through.missing in omega (arith, first, all, told)

    pub none_untold : LeavesNone tells files failures f
    none_untold none =
        let shared : h.through.log.producer.shared.loggers ≡ h.setup.loggers =
        ap (λ (v : Shared). v.loggers) h.through.pumps.same.shared ∙ begun_loggers in
        let found : spec_at h.through.log.producer.shared.loggers h.through.log.logger ≡ Some f.spec =
        (λ i. spec_at (shared i) (goes.stands.logger_is i)) ∙ f.found in
        finish_told h.through.pumps.finished found none

    below_are : p.below ≡ below_in goes.stretches
    below_are =
        let first = start_counts.1 in
        let all = goes.below_is in
        let told = h.through.below in omega (arith, first, all, told)

    alone : EndsAlone tells files failures logger n h.through.pool h.through.log.producer p.report
    alone = record {
      ends = h.through.ends;
      single = ap (λ (hs : List (Worker S)). length hs) h.through.makes.same.3 ∙ h.starts.crew;
      spec = f.spec;
      found = subst (λ (ls : List Logger). spec_at ls logger ≡ Some f.spec) (sym loggers_are) f.found;
      once = f.once;
      firsts = subst (λ (is : List Given). AllByRecursion (λ (i : Given). IsFirsts logger i.1) is) (sym puts_are)
          (firsts_of logger goes.puts goes.own (tells_firsts logger level goes.stretches (texts_in goes.puts) goes.tells));
      told = f.told;
      faultless = f.faultless;
    }

    -- no more was put in than a message for each piece
    puts_few : length (claims h.through.log.producer.pass.known.own) ≤ length (pieces_of c.text bytes)
    puts_few =
        let put : List Given = claims h.through.log.producer.pass.known.own in
        let many : length (texts_in put) ≡ length put = texts_length logger put alone.firsts in
        let same : length (texts_in put) ≡ length (texts_in goes.puts) = ap (λ (is : List Given). length (texts_in is)) puts_are in
        let told = tells_few logger level goes.stretches (texts_in goes.puts) goes.tells in
        let all : length (pieces_of c.text bytes) ≡ length (flat_map pieces_of_stretch goes.stretches ++ goes.rest) =
        ap (λ (ps : List Piece). length ps) goes.pieces_are in
        let both = length-append (flat_map pieces_of_stretch goes.stretches) goes.rest in omega (arith, many, same, told, all, both)

    -- where a piece is missing no ticket was left, for which there are too few pieces
    pub blocks_lose_none : BlocksLoseNone tells files failures f
    blocks_lose_none waits none few =
        let read = pieces_seen f.spec waits none pieces h.through.pumps.start.log h.through.pumps.last.log h.through.pumps.pumps.logged
        (starts_with f.spec f.found, inl start_counts.0) in
        elim (finish_seen f.spec waits none h.through.pumps.finished read).1 [
          | inl is ↦ h.through.missing ∙ is
          | inr saw ↦
              let all = nearly_all tells files failures h.through.ends saw in
              let first : h.through.pool.shared.ring.ring.first ≡ 0 =
              ap (λ (v : Shared). v.ring.ring.first) h.through.makes.same.0 ∙ h.starts.queue.1 ∙ h.given.first in
              let single = alone.single in
              let put = puts_few in absurd (omega (arith, all, first, single, put, few))
        ]

    module _ (law : OneWorkerWritesInOrder tells files failures) where
      abbrev wrote : List Message
      wrote = written tells files failures law alone

      held : Held tells files failures n (lanes_of h.through.pool.sink_seats) p.report.sinks.items wrote
      held = texts_held tells files failures law alone

      old_is : slice_get h.setup.sinks.items n ≡ Some held.lane.first
      old_is = subst (λ (ss : List (Sink S)). slice_get ss n ≡ Some held.lane.first) sinks_are
          (at_map (λ (l : LaneId (Sink S)). l.first) (lanes_of h.through.pool.sink_seats) n held.lane held.lane_is)

      fills : Fills tells files failures stores wrote held.sink
      fills = record {
        config = c;
        loggers = h.setup.loggers;
        sinks = h.setup.sinks.items;
        built = h.given.built;
        n = n;
        old = held.lane.first;
        old_is = old_is;
        told = f.told;
        holds = held.holds;
      }

      sink_holds : Holds files n stores h.setup.sinks.items p.report.sinks.items wrote
      sink_holds = record {
        old = held.lane.first;
        new = held.sink;
        old_is = old_is;
        new_is = held.sink_is;
        holds = held.holds;
        stands = λ leaf is. stands_on tells files failures fills leaf is;
      }

      are_told : AreTold logger level c.text bytes p.missing p.below h.through.log.hole (texts_in goes.puts)
      are_told = record {
        stretches = goes.stretches;
        rest = goes.rest;
        pieces_are = goes.pieces_are;
        missing_are = missing_are;
        below_are = below_are;
        untold_are = goes.hole_is;
        told = goes.tells;
      }

      -- the pool tells gaps where its logger overruns the oldest
      gaps_are : f.spec.policy ≡ OverrunOldest → h.through.pool.shared.gaps ≡ Some h.through.pool.shared.ring.ring.first
      gaps_are over =
          let told : overruns_of (spec_at h.setup.loggers logger) ≡ true =
          ap (λ (o : Option Spec). overruns_of o) f.found ∙ ap (λ (q : Policy). overruns q) over in
          let from : told_from (for_pipe logger h.setup) ≡ Some h.setup.first =
          (λ i. if told i && (1 == 1) then Some h.setup.first else None) in
          let start : h.start.shared.gaps ≡ Some h.start.shared.ring.ring.first =
          h.starts.gaps ∙ from ∙ ap (λ n. Some n) (sym h.starts.queue.1) in
          subst (λ (v : Shared). v.gaps ≡ Some v.ring.ring.first) (sym h.through.makes.same.0) start

      over_gaps : f.spec.policy ≡ OverrunOldest → TellsLost logger (texts_in goes.puts) wrote p.report.totals.overrun
      over_gaps over =
          subst (λ (is : List Given). TellsLost logger (texts_in is) wrote p.report.totals.overrun) puts_are
          (texts_kept tells files failures law alone (gaps_are over))

      all_there : takes h.through.log.producer.pass.known.own ≡ [] → TellsLost logger (texts_in goes.puts) wrote p.report.totals.overrun
      all_there took =
          let same : wrote ≡ texts_in goes.puts =
          texts_are tells files failures law alone took ∙ ap (λ (is : List Given). texts_in is) puts_are in
          let none : p.report.totals.overrun ≡ 0 = none_overrun tells files failures h.through.ends took in
          subst (λ (v : List Message × ℕ). TellsLost logger (texts_in goes.puts) v.0 v.1) (λ i. (sym same i, sym none i))
          (all_kept logger (texts_in goes.puts))

      pub lines_kept : HoldsKept files logger level n stores h.setup.sinks.items p.report.sinks.items c.text bytes p.missing p.below
          h.through.log.hole p.report.totals.overrun
      lines_kept = record {
        posted = texts_in goes.puts;
        are = are_told;
        messages = wrote;
        kept = by_policy f.spec.policy over_gaps (λ never. all_there (took_nothing f.spec f.found never));
        held = sink_holds;
      }

      module _ (keeps : KeepsAll tells files failures f) where
        took : takes h.through.log.producer.pass.known.own ≡ []
        took = by_policy f.spec.policy (λ over. took_none tells files failures h.through.ends (keeps over)) (took_nothing f.spec f.found)

        written_is : wrote ≡ texts_in goes.puts
        written_is = texts_are tells files failures law alone took ∙ ap (λ (is : List Given). texts_in is) puts_are

        pub lines_told : HoldsStretches files logger level n stores h.setup.sinks.items p.report.sinks.items c.text bytes p.missing p.below
            h.through.log.hole
        lines_told = record {
          messages = wrote;
          are = subst (λ (ms : List Message). AreTold logger level c.text bytes p.missing p.below h.through.log.hole ms) (sym written_is) are_told;
          held = sink_holds;
        }

        module _ (none : LosesNone p) where
          each : EachIs (IsOf logger level) (pieces_of c.text bytes) wrote
          each =
              let missing = missing_are in
              let below = below_are in
              let short : length goes.rest ≡ 0 = omega (arith, missing, none.0) in
              let rest : goes.rest ≡ [] = none_left goes.rest short in
              let all : pieces_of c.text bytes ≡ flat_map pieces_of_stretch goes.stretches =
              goes.pieces_are ∙ ap (λ (l : List Piece). flat_map pieces_of_stretch goes.stretches ++ l) rest
              ∙ append-nil (flat_map pieces_of_stretch goes.stretches) in
              subst (λ (v : List Piece × List Message). EachIs (IsOf logger level) v.0 v.1) (λ i. (sym all i, sym written_is i))
              (none_lost logger level goes.stretches (texts_in goes.puts) goes.tells (omega (arith, missing, none.0)) (omega (arith, below, none.1)))

          pub lines_held : ShortLinesAreWhole
              → HoldsPieces files logger level n stores h.setup.sinks.items p.report.sinks.items c.text bytes
          lines_held whole = record {
            messages = wrote;
            each = each;
            old = held.lane.first;
            new = held.sink;
            old_is = old_is;
            new_is = held.sink_is;
            holds = held.holds;
            stands = λ leaf is.
                let opened = stands_on tells files failures fills leaf is in
                record { opened = opened; plain = λ plain. files_have files logger (pieces_of c.text bytes) plain each opened.stands };
            whole = λ texts. copied whole texts;
          }

-- what holds of each value that may be answered holds of the answer
pub on_ok : {A E : Type 0} (P : A → Type 0) → ((a : A) → P a) → (r : Result A E) → IfOk r P
on_ok P all (Ok a) = all a
on_ok P all (Err e) = tt
