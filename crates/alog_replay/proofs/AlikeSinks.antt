-- Two sinks that were given the same messages over the same files, and whose stores never failed, have the same files.
use Rattle.std.proofs.Common.{◌≡◌, ℕ, suc, zero, Bool, true, false, Option, None, Some, List, [], ◌∷◌, ◌++◌, Result, Ok, Err, refl, sym, ap, subst, ◌∙◌}
use Rattle.std.specs.Prelude.{ℤ, slice_get, slice_set}
use Rattle.std.proofs.lemmas.Option.{none-some, same_Some}
use Rattle.jiff_core.proofs.DateLemmas.{epoch_day_injective}
use Rattle.jiff_core.proofs.DateTimeLemmas.{civil_nanos_injective, time_nanos_injective}
use Rattle.jiff.specs.Words.{civil_nanos}
use Rattle.alog_format.specs.Line.{HasOneLine}
use Rattle.alog_format.specs.declared.context.Context.{Context}
use Rattle.alog_msg.specs.declared.item.Item.{Item}
use Rattle.alog_msg.specs.declared.item.Item.TheVariants as item
use Rattle.alog_msg.specs.declared.message.Message.{Message}
use Rattle.alog_pattern.specs.declared.items.Item.{Item as PatternItem}
use Rattle.alog_registry.specs.declared.work.SinkDeed.{SinkDeed}
use Rattle.alog_registry.specs.declared.work.SinkDeed.TheVariants as deed
use Rattle.alog_registry.specs.declared.work.SinkTurn.{SinkTurn}
use Rattle.alog_sink.specs.DailyFiles.{DayLimits, entry_of, entries_of}
use Rattle.alog_sink.specs.Daily.{Entry, IsDaily}
use Rattle.alog_sink.specs.Files.{Files, AreSame}
use Rattle.alog_sink.specs.Kept.{IsKept, IsSameTarget}
use Rattle.alog_sink.specs.Lines.{AreLines, AreWrittenOf, Written, admits, admitted, lines_of, name_of}
use Rattle.alog_sink.specs.OneFile.{one_file}
use Rattle.alog_sink.specs.Rotation.{IsRotated, Limits, PiecesHaveOneCut}
use Rattle.alog_sink.specs.Sinks.{SinkFlushes, SinkTakes}
use Rattle.alog_sink.specs.Turn.{Answer, EachDoes, FanFlushes, FanTakes, FanView, Flushes, LeafView, StandsFor, Takes, first_fault}
use Rattle.alog_sink.specs.declared.face.Face.{Face}
use Rattle.alog_sink.specs.declared.leaf.SinkError.{SinkError}
use Rattle.alog_sink.specs.declared.leaf.Taken.{Taken}
use Rattle.alog_sink.specs.declared.leaf.Taken.TheVariants.{Below, Written as Wrote}
use Rattle.alog_sink.specs.declared.sink.Sink.{Sink}
use Rattle.alog_sink.specs.declared.sink.Sink.TheVariants.{Leaf, Fan}
use Rattle.alog_sink.specs.declared.target.Target.{Target}
use Rattle.alog_sink.specs.declared.target.Target.TheVariants.{Memory, Rotating, Daily}
use Rattle.alog_system.specs.Outputs.{DoesTurn, FlushTurn, TextTurn, told_of_flush, told_of_text}
use Rattle.alog_system.specs.declared.stepped.Turn.{Turn}
use Rattle.alog_replay.specs.Faultless.{IsWell}
use Rattle.alog_replay.proofs.KeptOnce.{daily_once, rotated_once}

-- each message has one line
abbrev pub OneLine : Type 0
OneLine = (context : Context) (items : List PatternItem) (name : List ℕ) (message : Message) (previous : Option ℤ)
    → HasOneLine context items name message previous

-- the same line, and the same entry of files by days
record IsSameLine (w u : Written) : Type 0 where
  pub line : w.line ≡ u.line
  pub entry : (limits : DayLimits) → entry_of limits w ≡ entry_of limits u

abbrev AreSameLines : List Written → List Written → Type 0
AreSameLines [] [] = Unit {0}
AreSameLines (w ∷ ws) (u ∷ us) = IsSameLine w u × AreSameLines ws us
AreSameLines _ _ = ⊥

same_entry : (limits : DayLimits) (w u : Written) → w.line ≡ u.line → civil_nanos w.at ≡ civil_nanos u.at → entry_of limits w ≡ entry_of limits u
same_entry limits w u l e =
    let i = civil_nanos_injective w.at u.at e in
    let d = epoch_day_injective w.at.date u.at.date i.0 in
    let t = time_nanos_injective w.at.time u.at.time i.1 in
    rw (l, d.0, d.1, d.2, t.0, t.1, t.2) refl

same_written : OneLine → (face : Face) (previous : Option ℤ) (ms : List Message) (ws us : List Written) → AreWrittenOf face previous ms ws
    → AreWrittenOf face previous ms us → AreSameLines ws us
same_written law face previous [] [] [] h g = tt
same_written law face previous [] [] (u ∷ us) h g = absurd g
same_written law face previous [] (w ∷ ws) us h g = absurd h
same_written law face previous (m ∷ ms) [] us h g = absurd h
same_written law face previous (m ∷ ms) (w ∷ ws) [] h g = absurd g
same_written law face previous (m ∷ ms) (w ∷ ws) (u ∷ us) h g =
    let line = law face.context face.pattern.items (name_of face.names m.logger) m previous w.line u.line h.0.0 g.0.0 in (
      record { line = line; entry = λ limits. same_entry limits w u line (h.0.1 ∙ sym g.0.1) },
      same_written law face (Some m.time) ms ws us h.1 g.1,
    )

same_lines : (ws us : List Written) → AreSameLines ws us → lines_of ws ≡ lines_of us
same_lines [] [] h = refl
same_lines [] (u ∷ us) h = absurd h
same_lines (w ∷ ws) [] h = absurd h
same_lines (w ∷ ws) (u ∷ us) h = ap (λ l. l ∷ lines_of ws) h.0.line ∙ ap (λ ls. u.line ∷ ls) (same_lines ws us h.1)

same_entries : (limits : DayLimits) (ws us : List Written) → AreSameLines ws us → entries_of limits ws ≡ entries_of limits us
same_entries limits [] [] h = refl
same_entries limits [] (u ∷ us) h = absurd h
same_entries limits (w ∷ ws) [] h = absurd h
same_entries limits (w ∷ ws) (u ∷ us) h =
    ap (λ (e : Entry). e ∷ entries_of limits ws) (h.0.entry limits) ∙ ap (λ es. entry_of limits u ∷ es) (same_entries limits ws us h.1)

-- What two targets keep of the same lines over the same files, at the same limits.
record BothKept (a b : Target) (ws us : List Written) (files others : Files) : Type 0 where
  target : IsSameTarget a b
  lines : AreSameLines ws us
  opening : Files
  one : IsKept a opening ws files
  other : IsKept b opening us others

-- it is the same
same_kept : PiecesHaveOneCut → (a b : Target) {ws us : List Written} {files others : Files} → BothKept a b ws us files others
    → AreSame files others
same_kept law (Memory j) (Memory k) {ws} {us} h = λ name.
    h.other name ∙ (ap (λ f. one_file f.file h.opening (lines_of us) name) h.target
    ∙ (ap (λ ls. one_file j.file h.opening ls name) (sym (same_lines ws us h.lines)) ∙ sym (h.one name)))
same_kept law (Rotating r) (Rotating s) {ws} {us} {files} {others} h =
    let lines = subst (λ (ls : List (List ℕ)). IsRotated s.limits h.opening ls others) (sym (same_lines ws us h.lines)) h.other.rotated in
    rotated_once law r.limits h.opening (lines_of ws) files others h.one.rotated
    (subst (λ (m : Limits). IsRotated m h.opening (lines_of ws) others) h.target lines)
same_kept law (Daily d) (Daily e) {ws} {us} {files} {others} h =
    let opened = h.other.opened in
    let limits = subst (λ (m : DayLimits). IsDaily m.max_files opened h.opening (entries_of m us) others) h.target h.other.daily in
    let entries = subst (λ (es : List Entry). IsDaily d.limits.max_files opened h.opening es others) (sym (same_entries d.limits ws us h.lines)) limits in
    daily_once h.one.daily entries
same_kept law (Memory j) (Rotating s) h = absurd h.target
same_kept law (Memory j) (Daily e) h = absurd h.target
same_kept law (Rotating r) (Memory k) h = absurd h.target
same_kept law (Rotating r) (Daily e) h = absurd h.target
same_kept law (Daily d) (Memory k) h = absurd h.target
same_kept law (Daily d) (Rotating s) h = absurd h.target

-- targets of the same files at the same limits
with_target : (a b c d : Target) → IsSameTarget a b → IsSameTarget a c → IsSameTarget b d → IsSameTarget c d
with_target (Memory i) (Memory j) (Memory k) (Memory l) h g f = f ∙ (h ∙ sym g)
with_target (Rotating i) (Rotating j) (Rotating k) (Rotating l) h g f = f ∙ (h ∙ sym g)
with_target (Daily i) (Daily j) (Daily k) (Daily l) h g f = f ∙ (h ∙ sym g)
with_target (Memory i) (Rotating j) c d h g f = absurd h
with_target (Memory i) (Daily j) c d h g f = absurd h
with_target (Rotating i) (Memory j) c d h g f = absurd h
with_target (Rotating i) (Daily j) c d h g f = absurd h
with_target (Daily i) (Memory j) c d h g f = absurd h
with_target (Daily i) (Rotating j) c d h g f = absurd h
with_target (Memory i) (Memory j) (Rotating k) d h g f = absurd g
with_target (Memory i) (Memory j) (Daily k) d h g f = absurd g
with_target (Rotating i) (Rotating j) (Memory k) d h g f = absurd g
with_target (Rotating i) (Rotating j) (Daily k) d h g f = absurd g
with_target (Daily i) (Daily j) (Memory k) d h g f = absurd g
with_target (Daily i) (Daily j) (Rotating k) d h g f = absurd g
with_target (Memory i) (Memory j) (Memory k) (Rotating l) h g f = absurd f
with_target (Memory i) (Memory j) (Memory k) (Daily l) h g f = absurd f
with_target (Rotating i) (Rotating j) (Rotating k) (Memory l) h g f = absurd f
with_target (Rotating i) (Rotating j) (Rotating k) (Daily l) h g f = absurd f
with_target (Daily i) (Daily j) (Daily k) (Memory l) h g f = absurd f
with_target (Daily i) (Daily j) (Daily k) (Rotating l) h g f = absurd f

itself : (t : Target) → IsSameTarget t t
itself (Memory j) = refl
itself (Rotating r) = refl
itself (Daily d) = refl

same_target : (t u : Target) → u ≡ t → IsSameTarget t u
same_target t u e = subst (IsSameTarget t) (sym e) (itself t)

abbrev pub IsOk : {A : Type 0} → Result A SinkError → Type 0
IsOk (Ok a) = Unit {0}
IsOk (Err e) = ⊥

-- what a list of leaves does, taken apart
none_do : {L A : Type 0} (Does : L → A → L → Type 0) (cs : List A) (ns : List L) → EachDoes Does [] cs ns → ns ≡ []
none_do Does [] [] h = refl
none_do Does [] (n ∷ ns) h = absurd h
none_do Does (a ∷ cs) ns h = absurd h

some_do : {L A : Type 0} (Does : L → A → L → Type 0) (o : L) (os : List L) (cs : List A) (ns : List L) → EachDoes Does (o ∷ os) cs ns
    → (a : A) × (more : List A) × (n : L) × (rest : List L) × (cs ≡ a ∷ more) × (ns ≡ n ∷ rest) × Does o a n × EachDoes Does os more rest
some_do Does o os [] ns h = absurd h
some_do Does o os (a ∷ cs) [] h = absurd h
some_do Does o os (a ∷ cs) (n ∷ ns) h = (a, cs, n, ns, refl, refl, h.0, h.1)

-- a turn that is told cs no fault
well_text : (t : SinkTurn) (a : Answer) → IsWell (told_of_text t a) → IsOk a
well_text t (Ok Below) h = tt
well_text t (Ok Wrote) h = tt
well_text t (Err e) h = absurd h

well_flush : (t : SinkTurn) (a : Result Unit SinkError) → IsWell (told_of_flush t a) → IsOk a
well_flush t (Ok u) h = tt
well_flush t (Err e) h = absurd h

-- Two that are alike did the same, and neither failed.
pub record BothDid {L A : Type 0} (Alike : L → L → Type 0) (Does : L → A → L → Type 0) (Well : A → Type 0) (l k m n : L) (a b : A) : Type 0 where
  pub alike : Alike l k
  pub one : Does l a m
  pub other : Does k b n
  pub one_well : Well a
  pub other_well : Well b

module _ {S : Type 0} (files : S → Files) where
  -- both stand for the same files and messages
  pub record AlikeLeaves (l k : LeafView S) : Type 0 where
    pub face : k.face ≡ l.face
    pub target : IsSameTarget l.target k.target
    pub opening : Files
    pub given : List Message
    pub one : StandsFor files l opening given
    pub other : StandsFor files k opening given

  abbrev pub AllLeaves : List (LeafView S) → List (LeafView S) → Type 0
  AllLeaves [] [] = Unit {0}
  AllLeaves (l ∷ ls) (k ∷ ks) = AlikeLeaves l k × AllLeaves ls ks
  AllLeaves _ _ = ⊥

  abbrev pub AlikeSinks : Sink S → Sink S → Type 0
  AlikeSinks (Leaf l) (Leaf k) = AlikeLeaves l k
  AlikeSinks (Fan f) (Fan g) = (g.level ≡ f.level) × AllLeaves f.members g.members
  AlikeSinks _ _ = ⊥

  abbrev pub AllSinks : List (Sink S) → List (Sink S) → Type 0
  AllSinks [] [] = Unit {0}
  AllSinks (l ∷ ls) (k ∷ ks) = AlikeSinks l k × AllSinks ls ks
  AllSinks _ _ = ⊥

  -- such leaves have the same files
  pub same_files : OneLine → PiecesHaveOneCut → (l k : LeafView S) → AlikeLeaves l k → AreSame (files l.store) (files k.store)
  same_files lines cut l k h =
      let other : AreLines l.face h.given h.other.written = subst (λ (f : Face). AreLines f h.given h.other.written) h.face h.other.lines in
      same_kept cut l.target k.target {ws = h.one.written} {us = h.other.written} (record {
        target = h.target;
        lines = same_written lines l.face None (admitted l.face.level h.given) h.one.written h.other.written h.one.lines other;
        opening = h.opening;
        one = h.one.kept;
        other = h.other.kept;
      })

  module _ (tells : Bool) (tell : tells ≡ true) (failures : S → ℕ) where
    -- a text, and a flush, that no store fails
    taken : {l k m n : LeafView S} {x : Message} {a b : Taken} → AlikeLeaves l k → Takes tells files failures l x (Ok a) m
        → Takes tells files failures k x (Ok b) n → AlikeLeaves m n
    taken {l} {k} {m} {n} {x} h f g = record {
      face = g.face ∙ (h.face ∙ sym f.face);
      target = with_target l.target k.target m.target n.target h.target f.target g.target;
      opening = h.opening;
      given = h.given ++ x ∷ [];
      one = f.stands tell h.opening h.given h.one;
      other = g.stands tell h.opening h.given h.other;
    }

    below_or_not : {l k m n : LeafView S} {x : Message} {a b : Taken} → AlikeLeaves l k → Takes tells files failures l x (Ok a) m
        → Takes tells files failures k x (Ok b) n → a ≡ b
    below_or_not {a = Below} {b = Below} h f g = refl
    below_or_not {a = Wrote} {b = Wrote} h f g = refl
    below_or_not {x} {a = Below} {b = Wrote} h f g =
        let under = ap (λ (face : Face). admits face.level x.level) h.face ∙ f.below.0 refl in absurd (let e = g.below.1 under in cc)
    below_or_not {x} {a = Wrote} {b = Below} h f g =
        let under = ap (λ (face : Face). admits face.level x.level) (sym h.face) ∙ g.below.0 refl in absurd (let e = f.below.1 under in cc)

    leaf_takes : {l k m n : LeafView S} {x : Message} {a b : Answer}
        → BothDid AlikeLeaves (λ o c u. Takes tells files failures o x c u) IsOk l k m n a b → (a ≡ b) × AlikeLeaves m n
    leaf_takes {a = Ok a} {b = Ok b} h = (ap Ok (below_or_not h.alike h.one h.other), taken h.alike h.one h.other)
    leaf_takes {a = Ok a} {b = Err e} h = absurd h.other_well
    leaf_takes {a = Err e} h = absurd h.one_well

    leaf_flushes : {l k m n : LeafView S} {a b : Result Unit SinkError}
        → BothDid AlikeLeaves (λ o c u. Flushes tells files failures o c u) IsOk l k m n a b → (a ≡ b) × AlikeLeaves m n
    leaf_flushes {l} {k} {m} {n} {a = Ok a} {b = Ok b} h =
        let alike = h.alike in (
          refl,
          record {
            face = h.other.face ∙ (alike.face ∙ sym h.one.face);
            target = with_target l.target k.target m.target n.target alike.target (same_target l.target m.target h.one.target)
                (same_target k.target n.target h.other.target);
            opening = alike.opening;
            given = alike.given;
            one = h.one.stands tell alike.opening alike.given alike.one;
            other = h.other.stands tell alike.opening alike.given alike.other;
          },
        )
    leaf_flushes {a = Ok a} {b = Err e} h = absurd h.other_well
    leaf_flushes {a = Err e} h = absurd h.one_well

    -- where the first fault is none, each answer is well
    first_well : {A : Type 0} (done : A) (a : Result A SinkError) (answers : List (Result A SinkError)) → IsOk (first_fault done (a ∷ answers))
        → IsOk a × IsOk (first_fault done answers)
    first_well done (Ok a) answers h = (tt, h)
    first_well done (Err e) answers h = absurd h

    first_done : {A : Type 0} (done : A) (answers : List (Result A SinkError)) → IsOk (first_fault done answers)
        → first_fault done answers ≡ Ok done
    first_done done [] h = refl
    first_done done (Ok a ∷ answers) h = first_done done answers h
    first_done done (Err e ∷ answers) h = absurd h

    all_do : {A : Type 0} {Does : LeafView S → Result A SinkError → LeafView S → Type 0} (done : A)
        → ((l k m n : LeafView S) (a b : Result A SinkError) → BothDid AlikeLeaves Does IsOk l k m n a b → (a ≡ b) × AlikeLeaves m n)
        → (ls ks : List (LeafView S)) {ms ns : List (LeafView S)} {cs bs : List (Result A SinkError)}
        → BothDid AllLeaves (EachDoes Does) (λ zs. IsOk (first_fault done zs)) ls ks ms ns cs bs → AllLeaves ms ns
    all_do {Does} done each [] [] {ms} {ns} {cs} {bs} h =
        subst (λ (z : List (LeafView S)). AllLeaves z ns) (sym (none_do Does cs ms h.one))
        (subst (λ (z : List (LeafView S)). AllLeaves [] z) (sym (none_do Does bs ns h.other)) tt)
    all_do done each [] (k ∷ ks) h = absurd h.alike
    all_do done each (l ∷ ls) [] h = absurd h.alike
    all_do {A} {Does} done each (l ∷ ls) (k ∷ ks) {ms} {ns} {cs} {bs} h =
        let x = some_do Does l ls cs ms h.one in
        let y = some_do Does k ks bs ns h.other in
        let i = first_well done x.0 x.1 (subst (λ (z : List (Result A SinkError)). IsOk (first_fault done z)) x.4 h.one_well) in
        let j = first_well done y.0 y.1 (subst (λ (z : List (Result A SinkError)). IsOk (first_fault done z)) y.4 h.other_well) in
        let first : BothDid AlikeLeaves Does IsOk l k x.2 y.2 x.0 y.0 =
        record { alike = h.alike.0; one = x.6; other = y.6; one_well = i.0; other_well = j.0 } in
        let rest : BothDid AllLeaves (EachDoes Does) (λ zs. IsOk (first_fault done zs)) ls ks x.3 y.3 x.1 y.1 =
        record { alike = h.alike.1; one = x.7; other = y.7; one_well = i.1; other_well = j.1 } in
        let all : AllLeaves (x.2 ∷ x.3) (y.2 ∷ y.3) = ((each l k x.2 y.2 x.0 y.0 first).1, all_do {Does = Does} done each ls ks rest) in
        subst (λ (z : List (LeafView S)). AllLeaves z ns) (sym x.5) (subst (λ (z : List (LeafView S)). AllLeaves (x.2 ∷ x.3) z) (sym y.5) all)

    -- a fan
    fan_takes_by : {f k m n : FanView S} {x : Message} {a b : Answer} → k.level ≡ f.level → AllLeaves f.members k.members
        → FanTakes tells files failures f x a m → FanTakes tells files failures k x b n → IsOk a → IsOk b → {v : Bool}
        → admits f.level x.level ≡ v → (a ≡ b) × (n.level ≡ m.level) × AllLeaves m.members n.members
    fan_takes_by {f} {m} {n} {x} level all one other p q {v = false} e =
        let s = one.below e in
        let t = other.below (ap (λ l. admits l x.level) level ∙ e) in
        let whole : AllLeaves m.members n.members =
        subst (λ (z : FanView S). AllLeaves z.members n.members) (sym s.1) (subst (λ (z : FanView S). AllLeaves f.members z.members) (sym t.1) all) in
        (s.0 ∙ sym t.0, other.level ∙ (level ∙ sym one.level), whole)
    fan_takes_by {f} {k} {m} {n} {x} level all one other p q {v = true} e =
        let s = one.given e in
        let t = other.given (ap (λ l. admits l x.level) level ∙ e) in
        let i = subst IsOk s.2 p in
        let j = subst IsOk t.2 q in (
          (s.2 ∙ first_done Wrote s.0 i) ∙ sym (t.2 ∙ first_done Wrote t.0 j),
          other.level ∙ (level ∙ sym one.level),
          all_do {Does = λ o c u. Takes tells files failures o x c u} Wrote (λ l k m n c d h. leaf_takes h) f.members k.members
              {ms = m.members} {ns = n.members} {cs = s.0} {bs = t.0}
              (record { alike = all; one = s.1; other = t.1; one_well = i; other_well = j }),
        )

    fan_flushes : {f k m n : FanView S} {a b : Result Unit SinkError} → k.level ≡ f.level → AllLeaves f.members k.members
        → FanFlushes tells files failures f a m → FanFlushes tells files failures k b n → IsOk a → IsOk b
        → (a ≡ b) × (n.level ≡ m.level) × AllLeaves m.members n.members
    fan_flushes {f} {k} {m} {n} level all one other p q =
        let i = subst IsOk one.first p in
        let j = subst IsOk other.first q in (
          (one.first ∙ first_done tt one.answers i) ∙ sym (other.first ∙ first_done tt other.answers j),
          other.level ∙ (level ∙ sym one.level),
          all_do {Does = λ o c u. Flushes tells files failures o c u} tt (λ l k m n c d h. leaf_flushes h) f.members k.members
              {ms = m.members} {ns = n.members} {cs = one.answers} {bs = other.answers}
              (record { alike = all; one = one.given; other = other.given; one_well = i; other_well = j }),
        )

    -- a sink
    sink_takes : (o k m n : Sink S) {x : Message} {a b : Answer}
        → BothDid AlikeSinks (λ o c u. SinkTakes tells files failures o x c u) IsOk o k m n a b → (a ≡ b) × AlikeSinks m n
    sink_takes (Leaf o) (Leaf k) (Leaf m) (Leaf n) {x} h =
        leaf_takes {l = o} {k = k} {m = m} {n = n} {x = x}
        (record { alike = h.alike; one = h.one; other = h.other; one_well = h.one_well; other_well = h.other_well })
    sink_takes (Fan o) (Fan k) (Fan m) (Fan n) {x} h =
        let r = fan_takes_by h.alike.0 h.alike.1 h.one h.other h.one_well h.other_well {v = admits o.level x.level} refl in (r.0, (r.1, r.2))
    sink_takes (Leaf o) (Fan k) m n h = absurd h.alike
    sink_takes (Fan o) (Leaf k) m n h = absurd h.alike
    sink_takes (Leaf o) (Leaf k) (Fan m) n h = absurd h.one
    sink_takes (Leaf o) (Leaf k) (Leaf m) (Fan n) h = absurd h.other
    sink_takes (Fan o) (Fan k) (Leaf m) n h = absurd h.one
    sink_takes (Fan o) (Fan k) (Fan m) (Leaf n) h = absurd h.other

    sink_flushes : (o k m n : Sink S) {a b : Result Unit SinkError}
        → BothDid AlikeSinks (λ o c u. SinkFlushes tells files failures o c u) IsOk o k m n a b → (a ≡ b) × AlikeSinks m n
    sink_flushes (Leaf o) (Leaf k) (Leaf m) (Leaf n) h =
        leaf_flushes {l = o} {k = k} {m = m} {n = n}
        (record { alike = h.alike; one = h.one; other = h.other; one_well = h.one_well; other_well = h.other_well })
    sink_flushes (Fan o) (Fan k) (Fan m) (Fan n) h =
        let r = fan_flushes h.alike.0 h.alike.1 h.one h.other h.one_well h.other_well in (r.0, (r.1, r.2))
    sink_flushes (Leaf o) (Fan k) m n h = absurd h.alike
    sink_flushes (Fan o) (Leaf k) m n h = absurd h.alike
    sink_flushes (Leaf o) (Leaf k) (Fan m) n h = absurd h.one
    sink_flushes (Leaf o) (Leaf k) (Leaf m) (Fan n) h = absurd h.other
    sink_flushes (Fan o) (Fan k) (Leaf m) n h = absurd h.one
    sink_flushes (Fan o) (Fan k) (Fan m) (Leaf n) h = absurd h.other

    text_turn : (t : SinkTurn) (m : Message) {o k n u : Sink S} {x y : Turn}
        → BothDid AlikeSinks (TextTurn tells files failures t m) IsWell o k n u x y → (x ≡ y) × AlikeSinks n u
    text_turn t m {o} {k} {n} {u} h =
        let f = h.one in
        let g = h.other in
        let r = sink_takes o k n u {x = m} {a = f.0} {b = g.0} (record {
          alike = h.alike;
          one = f.1;
          other = g.1;
          one_well = well_text t f.0 (subst IsWell f.2 h.one_well);
          other_well = well_text t g.0 (subst IsWell g.2 h.other_well);
        }) in
        (f.2 ∙ (ap (told_of_text t) r.0 ∙ sym g.2), r.1)

    flush_turn : (t : SinkTurn) {o k n u : Sink S} {x y : Turn}
        → BothDid AlikeSinks (FlushTurn tells files failures t) IsWell o k n u x y → (x ≡ y) × AlikeSinks n u
    flush_turn t {o} {k} {n} {u} h =
        let f = h.one in
        let g = h.other in
        let r = sink_flushes o k n u {a = f.0} {b = g.0} (record {
          alike = h.alike;
          one = f.1;
          other = g.1;
          one_well = well_flush t f.0 (subst IsWell f.2 h.one_well);
          other_well = well_flush t g.0 (subst IsWell g.2 h.other_well);
        }) in
        (f.2 ∙ (ap (told_of_flush t) r.0 ∙ sym g.2), r.1)

    pub same_turn : (t : SinkTurn) (d : SinkDeed) (i : Item) {o k n u : Sink S} {x y : Turn}
        → BothDid AlikeSinks (DoesTurn tells files failures t d i) IsWell o k n u x y → (x ≡ y) × AlikeSinks n u
    same_turn t deed.Take (item.Text m) h = text_turn t m h
    same_turn t deed.Take (item.Flush l) h = flush_turn t h
    same_turn t deed.Take item.Stop h = flush_turn t h
    same_turn t deed.Flush i h = flush_turn t h

  -- the sinks of a number
  pub alike_at : (ls ks : List (Sink S)) (n : ℕ) (x y : Sink S) → AllSinks ls ks → slice_get ls n ≡ Some x → slice_get ks n ≡ Some y
      → AlikeSinks x y
  alike_at [] [] n x y h f g = absurd (none-some x f)
  alike_at [] (k ∷ ks) n x y h f g = absurd h
  alike_at (l ∷ ls) [] n x y h f g = absurd h
  alike_at (l ∷ ls) (k ∷ ks) zero x y h f g =
      subst (λ (z : Sink S). AlikeSinks z y) (same_Some l x f) (subst (λ (z : Sink S). AlikeSinks l z) (same_Some k y g) h.0)
  alike_at (l ∷ ls) (k ∷ ks) (suc n) x y h f g = alike_at ls ks n x y h.1 f g

  pub both_there : (ls ks : List (Sink S)) (n : ℕ) (x : Sink S) → AllSinks ls ks → slice_get ls n ≡ Some x → (y : Sink S) × (slice_get ks n ≡ Some y)
  both_there [] [] n x h f = absurd (none-some x f)
  both_there [] (k ∷ ks) n x h f = absurd h
  both_there (l ∷ ls) [] n x h f = absurd h
  both_there (l ∷ ls) (k ∷ ks) zero x h f = (k, refl)
  both_there (l ∷ ls) (k ∷ ks) (suc n) x h f = both_there ls ks n x h.1 f

  pub both_back : (ls ks : List (Sink S)) (n : ℕ) (x : Sink S) → AllSinks ls ks → slice_get ks n ≡ Some x → (y : Sink S) × (slice_get ls n ≡ Some y)
  both_back [] [] n x h f = absurd (none-some x f)
  both_back [] (k ∷ ks) n x h f = absurd h
  both_back (l ∷ ls) [] n x h f = absurd h
  both_back (l ∷ ls) (k ∷ ks) zero x h f = (l, refl)
  both_back (l ∷ ls) (k ∷ ks) (suc n) x h f = both_back ls ks n x h.1 f

  pub alike_set : (ls ks : List (Sink S)) (n : ℕ) (x y : Sink S) → AllSinks ls ks → AlikeSinks x y
      → AllSinks (slice_set ls n x) (slice_set ks n y)
  alike_set [] [] n x y h f = tt
  alike_set [] (k ∷ ks) n x y h f = absurd h
  alike_set (l ∷ ls) [] n x y h f = absurd h
  alike_set (l ∷ ls) (k ∷ ks) zero x y h f = (f, h.1)
  alike_set (l ∷ ls) (k ∷ ks) (suc n) x y h f = (h.0, alike_set ls ks n x y h.1 f)
