-- Two stages of one configuration: their sinks are alike, since each stands for no file and no message, and their loggers say the
-- same.
use Rattle.std.proofs.Common.{◌≡◌, ℕ, Bool, true, Some, List, [], ◌∷◌, map, refl, sym, ap, subst, ◌∙◌, length}
use Rattle.std.specs.Prelude.{slice_get}
use Rattle.std.specs.Option.{option_map}
use Rattle.std.proofs.Math.Path.{fun_ext}
use Rattle.std.proofs.Props.{props}
use Rattle.std.proofs.lemmas.Option.{same_Some, slice_get_read}
use Rattle.alog_config.specs.Built.{Built, EachIs, IsBuiltAs, IsFaceOf, IsLoggerOf, IsNamed, IsPlace, IsTargetOf}
use Rattle.alog_config.specs.Sinks.{IsMember}
use Rattle.alog_config.specs.declared.config.Config.{Config}
use Rattle.alog_config.specs.declared.config.LoggerConfig.{LoggerConfig}
use Rattle.alog_config.specs.declared.config.SinkConfig.{SinkConfig}
use Rattle.alog_config.specs.declared.config.SinkKind.{SinkKind}
use Rattle.alog_config.specs.declared.config.SinkKind.TheVariants as kinds
use Rattle.alog_config.specs.declared.config.Upkeep.{Upkeep}
use Rattle.alog_config.specs.declared.config.Upkeep.TheVariants as upkeeps
use Rattle.alog_config.proofs.SharedPicking.{Apart, apart_of_map}
use Rattle.alog_format.specs.Civil.{IsZone}
use Rattle.alog_format.specs.declared.context.Context.{Context}
use Rattle.alog_format.specs.declared.context.Zone.{Zone}
use Rattle.alog_msg.specs.declared.level.Level.{Level}
use Rattle.alog_pattern.specs.Grammar.{HasOneReading}
use Rattle.alog_pattern.specs.declared.items.Item.{Item as PatternItem}
use Rattle.alog_registry.specs.declared.logger.Logger.{Logger}
use Rattle.alog_sink.specs.Files.{Files, no_files}
use Rattle.alog_sink.specs.Kept.{IsSameTarget}
use Rattle.alog_sink.specs.Opened.{leaves_of}
use Rattle.alog_sink.specs.Turn.{StandsFor}
use Rattle.alog_sink.specs.declared.face.Face.{Face}
use Rattle.alog_sink.specs.declared.sink.Sink.{Sink}
use Rattle.alog_sink.specs.declared.sink.Sink.TheVariants.{Leaf, Fan}
use Rattle.alog_sink.specs.declared.target.Target.{Target}
use Rattle.alog_sink.specs.declared.target.Target.TheVariants as targets
use Rattle.alog_system.specs.Named.{AreEmpty}
use Rattle.alog_replay.proofs.AlikeSinks.{AlikeLeaves, AlikeSinks, AllLeaves, AllSinks}
use Rattle.alog_replay.proofs.LoggersOf.{IsSameLogger}
use Rattle.alog_config.proofs.SharedApart.{names_apart}
use Rattle.alog_replay.proofs.Pairing.{all_at, apart_picked, each_both, each_map, each_same, key_at, mapped_at, one_place, pairs_of}
use Rattle.alog_replay.proofs.Pairing.{picked_pairs}

-- each string has one reading
abbrev pub OneReading : Type 0
OneReading = (bytes : List ℕ) → HasOneReading bytes

-- faces of one level and pattern
context_is : (a : Context) (zone : Zone) (process : ℕ) (near : IsZone zone) → a.zone ≡ zone → a.process ≡ process
    → a ≡ record { zone = zone; process = process; near = near }
context_is a zone process near e f =
    let one : IsProp (IsZone a.zone) = hlevel props in
    subst (λ (z : Zone). (n : IsZone z) → a ≡ record { zone = z; process = process; near = n }) e
    (λ n. subst (λ (p : ℕ). a ≡ record { zone = a.zone; process = p; near = n }) f
    (ap (λ (m : IsZone a.zone). let c : Context = record { zone = a.zone; process = a.process; near = m } in c) (one a.near n))) near

abbrev face_of : Level → List PatternItem → ℕ → Context → List (List ℕ) → Face
face_of level items limit context names =
    record { level = level; pattern = record { items = items; text_limit = limit }; context = context; names = names }

same_face : (a b : Face) → a.level ≡ b.level → a.pattern.items ≡ b.pattern.items → a.pattern.text_limit ≡ b.pattern.text_limit
    → a.context ≡ b.context → a.names ≡ b.names → a ≡ b
same_face a b level items limit context names =
    ap (λ l. face_of l a.pattern.items a.pattern.text_limit a.context a.names) level
    ∙ (ap (λ xs. face_of b.level xs a.pattern.text_limit a.context a.names) items
    ∙ (ap (λ n. face_of b.level b.pattern.items n a.context a.names) limit
    ∙ (ap (λ c. face_of b.level b.pattern.items b.pattern.text_limit c a.names) context
    ∙ ap (λ ns. face_of b.level b.pattern.items b.pattern.text_limit b.context ns) names)))

two_faces : OneReading → (c : Config) (level : Level) (pattern : List ℕ) (a b : Face) → IsFaceOf c level pattern a
    → IsFaceOf c level pattern b → a ≡ b
two_faces law c level pattern a b h g =
    let one = law pattern in
    same_face a b (h.level ∙ sym g.level) (one.2 a.pattern.items h.items ∙ sym (one.2 b.pattern.items g.items)) (h.limit ∙ sym g.limit)
    (context_is a.context b.context.zone b.context.process b.context.near (h.zone ∙ sym g.zone) (h.process ∙ sym g.process))
    (h.names ∙ sym g.names)

two_targets : (file : List ℕ) (upkeep : Upkeep) (a b : Target) → IsTargetOf file upkeep a → IsTargetOf file upkeep b → IsSameTarget a b
two_targets file upkeeps.Never a b h g =
    subst (λ (z : Target). IsSameTarget z b) (sym h)
    (subst (λ (z : Target). IsSameTarget (targets.Memory (record { file = file })) z) (sym g) refl)
two_targets file (upkeeps.BySize max_size max_files) (targets.Rotating r) (targets.Rotating s) h g = g ∙ sym h
two_targets file (upkeeps.BySize max_size max_files) (targets.Memory j) b h g = absurd h
two_targets file (upkeeps.BySize max_size max_files) (targets.Daily d) b h g = absurd h
two_targets file (upkeeps.BySize max_size max_files) (targets.Rotating r) (targets.Memory j) h g = absurd g
two_targets file (upkeeps.BySize max_size max_files) (targets.Rotating r) (targets.Daily d) h g = absurd g
two_targets file (upkeeps.Daily hour minute max_files) (targets.Daily d) (targets.Daily e) h g =
    subst (λ z. z.limits ≡ d.limits) (h ∙ sym g) refl
two_targets file (upkeeps.Daily hour minute max_files) (targets.Memory j) b h g = absurd h
two_targets file (upkeeps.Daily hour minute max_files) (targets.Rotating r) b h g = absurd h
two_targets file (upkeeps.Daily hour minute max_files) (targets.Daily d) (targets.Memory j) h g = absurd g
two_targets file (upkeeps.Daily hour minute max_files) (targets.Daily d) (targets.Rotating r) h g = absurd g

-- two leaves alike, or two fans of which nothing is said yet
abbrev AreAlone : {S : Type 0} → (S → Files) → Sink S → Sink S → Type 0
AreAlone files (Leaf l) (Leaf k) = AlikeLeaves files l k
AreAlone files (Fan f) (Fan g) = Unit {0}
AreAlone files _ _ = ⊥

all_alike : {A S : Type 0} (files : S → Files) (E : A → A → Type 0) (f : A → Sink S) (xs ys : List A)
    → EachIs (λ x y. E x y × AlikeSinks files (f x) (f y)) xs ys → AllSinks files (map f xs) (map f ys)
all_alike files E f [] [] h = tt
all_alike files E f [] (y ∷ ys) h = absurd h
all_alike files E f (x ∷ xs) [] h = absurd h
all_alike files E f (x ∷ xs) (y ∷ ys) h = (h.0.1, all_alike files E f xs ys h.1)

module _ {S : Type 0} (law : OneReading) (tells : Bool) (tell : tells ≡ true) (files : S → Files) (failures : S → ℕ) (c : Config)
    (stores others : List S) (made more : List Logger) (opened again : List (Sink S)) (empty : AreEmpty files stores)
    (bare : AreEmpty files others) (b : Built tells files failures c stores made opened)
    (d : Built tells files failures c others more again) where
  leaf_pair : (n : ℕ) (level : Level) (kind : SinkKind) (x y : Sink S) → IsBuiltAs tells files failures c stores b.parts n level kind x
      → IsBuiltAs tells files failures c others d.parts n level kind y → AreAlone files x y
  leaf_pair n level (kinds.Fan of) x y h g =
      subst (λ (z : Sink S). AreAlone files z y) (sym h.2)
      (subst (λ (z : Sink S). AreAlone files (Fan (record { level = level; members = leaves_of h.0 })) z) (sym g.2) tt)
  leaf_pair n level (kinds.Lines file pattern upkeep) x y h g =
      let o = h.2.opened in
      let p = g.2.opened in
      let none : files h.0 ≡ no_files = fun_ext (all_at _ stores _ h.0 empty h.1) in
      let nothing : files g.0 ≡ no_files = fun_ext (all_at _ others _ g.0 bare g.1) in
      let alike : AlikeLeaves files o.leaf p.leaf = record {
        face = p.same ∙ (two_faces law c level pattern g.2.face h.2.face g.2.is h.2.is ∙ sym o.same);
        target = two_targets file upkeep o.leaf.target p.leaf.target o.such p.such;
        opening = no_files;
        given = [];
        one = subst (λ (fs : Files). StandsFor files o.leaf fs []) none (o.stands tell);
        other = subst (λ (fs : Files). StandsFor files p.leaf fs []) nothing (p.stands tell);
      } in
      subst (λ (z : Sink S). AreAlone files z y) (sym o.is) (subst (λ (z : Sink S). AreAlone files (Leaf o.leaf) z) (sym p.is) alike)

  own_names : Apart (λ (s : SinkConfig). s.name) c.sinks.items
  own_names = names_apart c.text [] c.sinks.items c.sound.each_sink

  named_pair : (name : List ℕ) (x y : Sink S) → IsNamed b.parts name x → IsNamed d.parts name y → AreAlone files x y
  named_pair name x y h g =
      let p = h.1 in
      let q = g.1 in
      let at : slice_get b.parts h.0 ≡ Some p = slice_get_read b.parts (length b.parts) h.0 p refl h.2 (sym h.3) in
      let to : slice_get d.parts g.0 ≡ Some q = slice_get_read d.parts (length d.parts) g.0 q refl g.2 (sym g.3) in
      let one : slice_get c.sinks.items h.0 ≡ Some p.config.now = mapped_at (λ p. p.config.now) b.parts c.sinks.items b.of h.0 p at in
      let other : slice_get c.sinks.items g.0 ≡ Some q.config.now = mapped_at (λ p. p.config.now) d.parts c.sinks.items d.of g.0 q to in
      let nm : SinkConfig → List ℕ = λ s. s.name in
      let same : h.0 ≡ g.0 =
      one_place nm c.sinks.items h.0 g.0 name own_names (ap (option_map nm) one ∙ ap Some h.4.0)
      (ap (option_map nm) other ∙ ap Some g.4.0) in
      let config : q.config.now ≡ p.config.now =
      same_Some q.config.now p.config.now (sym other ∙ (ap (slice_get c.sinks.items) (sym same) ∙ one)) in
      let built = subst (λ n. IsBuiltAs tells files failures c others d.parts n q.config.now.level q.config.now.kind q.sink) (sym same)
      (d.each g.0 q to) in
      let both = subst (λ (s : SinkConfig). IsBuiltAs tells files failures c others d.parts h.0 s.level s.kind q.sink) config built in
      subst (λ (z : Sink S). AreAlone files z y) h.4.1
      (subst (λ (z : Sink S). AreAlone files p.sink z) g.4.1
      (leaf_pair h.0 p.config.now.level p.config.now.kind p.sink q.sink (b.each h.0 p at) both))

  members_pair : (names : List (List ℕ)) (ms ns : List (Sink S)) → EachIs (IsNamed b.parts) names ms → EachIs (IsNamed d.parts) names ns
      → AllLeaves files (leaves_of ms) (leaves_of ns)
  members_pair [] [] [] h g = tt
  members_pair [] [] (n ∷ ns) h g = absurd g
  members_pair [] (m ∷ ms) ns h g = absurd h
  members_pair (name ∷ names) [] ns h g = absurd h
  members_pair (name ∷ names) (m ∷ ms) [] h g = absurd g
  members_pair (name ∷ names) (Leaf m ∷ ms) (Leaf n ∷ ns) h g =
      (named_pair name (Leaf m) (Leaf n) h.0 g.0, members_pair names ms ns h.1 g.1)
  members_pair (name ∷ names) (Fan m ∷ ms) (Fan n ∷ ns) h g = members_pair names ms ns h.1 g.1
  members_pair (name ∷ names) (Leaf m ∷ ms) (Fan n ∷ ns) h g = absurd (named_pair name (Leaf m) (Fan n) h.0 g.0)
  members_pair (name ∷ names) (Fan m ∷ ms) (Leaf n ∷ ns) h g = absurd (named_pair name (Fan m) (Leaf n) h.0 g.0)

  sink_pair : (n : ℕ) (level : Level) (kind : SinkKind) (x y : Sink S) → IsBuiltAs tells files failures c stores b.parts n level kind x
      → IsBuiltAs tells files failures c others d.parts n level kind y → AlikeSinks files x y
  sink_pair n level (kinds.Fan of) x y h g =
      subst (λ (z : Sink S). AlikeSinks files z y) (sym h.2)
      (subst (λ (z : Sink S). AlikeSinks files (Fan (record { level = level; members = leaves_of h.0 })) z) (sym g.2)
      (refl, members_pair of h.0 g.0 h.1 g.1))
  sink_pair n level (kinds.Lines file pattern upkeep) x y h g =
      let o = h.2.opened in
      let p = g.2.opened in
      let alone : AreAlone files (Leaf o.leaf) (Leaf p.leaf) =
      subst (λ (z : Sink S). AreAlone files z (Leaf p.leaf)) o.is
      (subst (λ (z : Sink S). AreAlone files x z) p.is (leaf_pair n level (kinds.Lines file pattern upkeep) x y h g)) in
      subst (λ (z : Sink S). AlikeSinks files z y) (sym o.is) (subst (λ (z : Sink S). AlikeSinks files (Leaf o.leaf) z) (sym p.is) alone)

  tops_pair : EachIs (λ p q. (p.config.now ≡ q.config.now) × AlikeSinks files p.sink q.sink) b.tops d.tops
  tops_pair =
      let parts = pairs_of (λ p. p.config.now) (λ q. q.config.now) (λ p q. AlikeSinks files p.sink q.sink) b.parts d.parts (b.of ∙ sym d.of)
      (λ n p q at to same.
      sink_pair n p.config.now.level p.config.now.kind p.sink q.sink (b.each n p at)
      (subst (λ (s : SinkConfig). IsBuiltAs tells files failures c others d.parts n s.level s.kind q.sink) (sym same) (d.each n q to))) in
      picked_pairs {R = λ p q. (p.config.now ≡ q.config.now) × AlikeSinks files p.sink q.sink}
      {P = λ p. ¬ IsMember c.sinks.items p.config.now.name}
      (λ p q r. (
        λ no. subst (λ (s : SinkConfig). ¬ IsMember c.sinks.items s.name) r.0 no,
        λ no. subst (λ (s : SinkConfig). ¬ IsMember c.sinks.items s.name) (sym r.0) no,
      ))
      b.parts d.parts b.tops d.tops parts b.picked d.picked

  pub sinks_alike : AllSinks files opened again
  sinks_alike =
      subst (λ (z : List (Sink S)). AllSinks files z again) (sym b.sinks)
      (subst (λ (z : List (Sink S)). AllSinks files (map (λ p. p.sink) b.tops) z) (sym d.sinks)
      (all_alike files (λ p q. p.config.now ≡ q.config.now) (λ p. p.sink) b.tops d.tops tops_pair))

  same_place : (name : List ℕ) (i j : ℕ) → IsPlace b.tops name i → IsPlace d.tops name j → i ≡ j
  same_place name i j h g =
      let nm : SinkConfig → List ℕ = λ s. s.name in
      let items = subst (λ (xs : List SinkConfig). Apart nm xs) (sym b.of) own_names in
      let apart = apart_picked _ (λ p. p.config.now.name) b.parts b.tops b.picked (apart_of_map (λ p. p.config.now) nm b.parts items) in
      let names = each_map (λ p q. (p.config.now ≡ q.config.now) × AlikeSinks files p.sink q.sink) (λ p. p.config.now.name)
      (λ p. p.config.now.name) (λ p q r. ap nm r.0) b.tops d.tops tops_pair in
      let there = key_at (λ p. p.config.now.name) b.tops j ∙ (ap (λ (ns : List (List ℕ)). slice_get ns j) names
      ∙ (sym (key_at (λ p. p.config.now.name) d.tops j) ∙ g)) in
      one_place (λ p. p.config.now.name) b.tops i j name apart h there

  logger_pair : (l : LoggerConfig) (x y : Logger) → IsLoggerOf b.tops l x → IsLoggerOf d.tops l y → IsSameLogger x y
  logger_pair l x y h g = record {
    name = h.name ∙ sym g.name;
    level = h.level ∙ sym g.level;
    policy = h.policy ∙ sym g.policy;
    flush_on = h.flush_on ∙ sym g.flush_on;
    backtrace = h.backtrace ∙ sym g.backtrace;
    sinks = each_same x.spec.sinks.items y.spec.sinks.items
        (each_both {P = IsPlace b.tops} {Q = IsPlace d.tops} {R = λ i j. i ≡ j} same_place l.sinks x.spec.sinks.items y.spec.sinks.items
        h.sinks g.sinks);
  }

  pub loggers_same : EachIs IsSameLogger made more
  loggers_same = each_both {P = IsLoggerOf b.tops} {Q = IsLoggerOf d.tops} {R = IsSameLogger} logger_pair c.loggers.items made more b.loggers
      d.loggers
