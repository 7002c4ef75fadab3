-- What is built of a configuration fits together.
use Rattle.std.proofs.Common.{◌≡◌, ◌<◌, inl, inr, ℕ, zero, suc, ◌++◌, Bool, Option, None, Some, List, [], ◌∷◌, length, map, refl, sym, ap, subst, ◌∙◌, arith}
use Rattle.std.specs.Prelude.{slice_get}
use Rattle.std.specs.List.{All, AllByRecursion}
use Rattle.std.specs.Option.{option_map}
use Rattle.std.proofs.lemmas.List.{length-map}
use Rattle.std.proofs.lemmas.List.Elements.{All-from_recursion}
use Rattle.std.proofs.lemmas.Option.{slice_get-map, slice_get_read, slice_get_within}
use Rattle.alog_config.specs.Built.{Built, EachIs, ArePicked, IsBuiltAs, IsFaceOf, IsLeafOf, IsLoggerOf, IsNamed, IsPart, IsPlace}
use Rattle.alog_config.specs.Fits.{LoggerFits}
use Rattle.alog_config.specs.Sound.{IsSound, IsSoundKind, AreSoundSinks, AreSoundLoggers}
use Rattle.alog_config.specs.Values.{IsPattern}
use Rattle.alog_config.specs.declared.config.Config.{Config}
use Rattle.alog_config.specs.declared.config.LoggerConfig.{LoggerConfig}
use Rattle.alog_config.specs.declared.config.SinkConfig.{SinkConfig}
use Rattle.alog_config.specs.declared.config.SinkKind.{SinkKind}
use Rattle.alog_config.specs.declared.config.SinkKind.TheVariants as kinds
use Rattle.alog_config.specs.declared.config.Upkeep.{Upkeep}
use Rattle.alog_config.specs.declared.parts.Part.{Part}
use Rattle.alog_msg.specs.declared.level.Level.{Level}
use Rattle.alog_format.specs.declared.context.Zone.{Zone}
use Rattle.alog_pattern.specs.Compiled.{longest}
use Rattle.alog_pattern.specs.Length.{longest_line}
use Rattle.alog_pattern.specs.declared.patterns.TheConstants.{LINE_MAX}
use Rattle.alog_registry.specs.declared.logger.Logger.{Logger}
use Rattle.alog_sink.specs.Files.{Files}
use Rattle.alog_sink.specs.Lines.{FaceSuits}
use Rattle.alog_sink.specs.Opened.{leaves_of}
use Rattle.alog_sink.specs.Sinks.{Suits}
use Rattle.alog_sink.specs.Turn.{LeafView}
use Rattle.alog_sink.specs.declared.face.Face.{Face}
use Rattle.alog_sink.specs.declared.sink.Sink.{Sink}
use Rattle.alog_sink.specs.declared.sink.Sink.TheVariants.{Leaf, Fan}

-- the pattern of a sink's lines keeps the rules
abbrev KindFits : ℕ → SinkKind → Type 0
KindFits limit (kinds.Lines file pattern upkeep) = IsPattern limit pattern
KindFits limit (kinds.Fan of) = Unit {0}

sound_fits : (limit : ℕ) (earlier : List SinkConfig) (k : SinkKind) → IsSoundKind limit earlier k → KindFits limit k
sound_fits limit earlier (kinds.Lines file pattern upkeep) h = h.2
sound_fits limit earlier (kinds.Fan of) h = tt

kinds_fit : (limit : ℕ) (earlier ss : List SinkConfig) → AreSoundSinks limit earlier ss
    → (n : ℕ) (s : SinkConfig) → slice_get ss n ≡ Some s → KindFits limit s.kind
kinds_fit limit earlier [] h n s e = absurd (cc)
kinds_fit limit earlier (x ∷ ss) h zero s e =
    (let same : x ≡ s = cc in subst (λ (y : SinkConfig). KindFits limit y.kind) same (sound_fits limit earlier x.kind h.0.kind))
kinds_fit limit earlier (x ∷ ss) h (suc n) s e = kinds_fit limit (earlier ++ x ∷ []) ss h.1 n s e

-- what is so of each place of a list is so of each item
each_place : {X : Type 0} (P : X → Type 0) (xs : List X) → ((n : ℕ) (x : X) → slice_get xs n ≡ Some x → P x) → AllByRecursion P xs
each_place P [] h = tt
each_place P (x ∷ xs) h = (h 0 x refl, each_place P xs (λ n y e. h (suc n) y e))

module _ {S : Type 0} (tells : Bool) (files : S → Files) (failures : S → ℕ) (c : Config) (stores : List S) where
  -- a sink's lines suit the limit of the configuration, in a buffer for the longest line of any pattern
  leaf_suits : {level : Level} {file pattern : List ℕ} {upkeep : Upkeep} {store : S} {sink : Sink S} {l : LeafView S}
      → IsPattern c.text pattern
      → IsLeafOf tells files failures c level file pattern upkeep store sink → sink ≡ Leaf l → FaceSuits c.text LINE_MAX l.face
  leaf_suits {level} {pattern} {l} h leaf is =
      let same : leaf.opened.leaf ≡ l = (let both : Leaf leaf.opened.leaf ≡ Leaf l = sym leaf.opened.is ∙ is in cc) in
      let face : l.face ≡ leaf.face = ap (λ (x : LeafView S). x.face) (sym same) ∙ leaf.opened.same in
      subst (λ (f : Face). FaceSuits c.text LINE_MAX f) (sym face) (face_suits leaf.face leaf.is)
    where
      face_suits : (f : Face) → IsFaceOf c level pattern f → FaceSuits c.text LINE_MAX f
      face_suits f is =
          let limit = is.limit in
          let short : (LINE_MAX < longest f.pattern → ⊥) =
          λ more. h.1 (f.pattern.items, is.items, subst (λ k. LINE_MAX < longest_line k f.pattern.items) limit more) in
          (omega (arith, limit), omega (arith, short))

  built_leaf : (parts : List (Part S)) (n : ℕ) (level : Level) (k : SinkKind) {sink : Sink S} {l : LeafView S} → KindFits c.text k
      → IsBuiltAs tells files failures c stores parts n level k sink → sink ≡ Leaf l → FaceSuits c.text LINE_MAX l.face
  built_leaf parts n level (kinds.Lines file pattern upkeep) {sink} {l} fits h is =
      leaf_suits fits h.2 is
  built_leaf parts n level (kinds.Fan of) {l} fits h is =
      absurd (let both : Leaf l ≡ Fan (record { level = level; members = leaves_of h.0 }) = sym is ∙ h.2 in cc)

  module _ (parts : List (Part S)) (sound : AreSoundSinks c.text [] c.sinks.items)
      (of : map (λ (p : Part S). p.config.now) parts ≡ c.sinks.items)
      (each : (n : ℕ) (p : Part S) → slice_get parts n ≡ Some p → IsPart tells files failures c stores parts n p) where
    fits_at : (n : ℕ) (p : Part S) → slice_get parts n ≡ Some p → KindFits c.text p.config.now.kind
    fits_at n p there =
        kinds_fit c.text [] c.sinks.items sound n p.config.now
        (ap (λ (ss : List SinkConfig). slice_get ss n) (sym of)
        ∙ (slice_get-map (λ (q : Part S). q.config.now) parts n ∙ ap (option_map (λ (q : Part S). q.config.now)) there))

    leaf_at : (n : ℕ) (p : Part S) → slice_get parts n ≡ Some p → (l : LeafView S) → p.sink ≡ Leaf l → FaceSuits c.text LINE_MAX l.face
    leaf_at n p there l is = built_leaf parts n p.config.now.level p.config.now.kind (fits_at n p there) (each n p there) is

    -- the leaves among the members of a fan
    member_suits : (name : List ℕ) (sink : Sink S) (l : LeafView S) → IsNamed parts name sink → sink ≡ Leaf l → FaceSuits c.text LINE_MAX l.face
    member_suits name sink l h is =
        leaf_at h.0 h.1 (slice_get_read parts (length parts) h.0 h.1 refl h.2 (sym h.3)) l (h.4.1 ∙ is)

    members_suit : (of : List (List ℕ)) (members : List (Sink S)) → EachIs (IsNamed parts) of members
        → AllByRecursion (λ (l : LeafView S). FaceSuits c.text LINE_MAX l.face) (leaves_of members)
    members_suit [] [] h = tt
    members_suit (name ∷ of) (Leaf l ∷ members) h = (member_suits name (Leaf l) l h.0 refl, members_suit of members h.1)
    members_suit (name ∷ of) (Fan f ∷ members) h = members_suit of members h.1
    members_suit [] (m ∷ members) h = absurd h
    members_suit (name ∷ of) [] h = absurd h

    built_suits : (n : ℕ) (level : Level) (k : SinkKind) (sink : Sink S) → KindFits c.text k
        → IsBuiltAs tells files failures c stores parts n level k sink → Suits c.text LINE_MAX sink
    built_suits n level (kinds.Lines file pattern upkeep) sink fits h =
        subst (λ (s : Sink S). Suits c.text LINE_MAX s) (sym h.2.opened.is)
        (leaf_suits fits h.2 h.2.opened.is)
    built_suits n level (kinds.Fan of) sink fits h =
        subst (λ (s : Sink S). Suits c.text LINE_MAX s) (sym h.2)
        (All-from_recursion (λ (l : LeafView S). FaceSuits c.text LINE_MAX l.face) (leaves_of h.0) (members_suit of h.0 h.1))

    parts_suit : AllByRecursion (λ (p : Part S). Suits c.text LINE_MAX p.sink) parts
    parts_suit = each_place (λ (p : Part S). Suits c.text LINE_MAX p.sink) parts
        (λ n p there. built_suits n p.config.now.level p.config.now.kind p.sink (fits_at n p there) (each n p there))

picked_too : {X : Type 0} (P IsSuch : X → Type 0) (xs picked : List X) → ArePicked IsSuch xs picked → AllByRecursion P xs → AllByRecursion P picked
picked_too P IsSuch [] picked h all = subst (λ ys. AllByRecursion P ys) (sym h) tt
picked_too P IsSuch (x ∷ xs) picked (inl h) all =
    subst (λ ys. AllByRecursion P ys) (sym h.2) (all.0, picked_too P IsSuch xs h.0 h.3 all.1)
picked_too P IsSuch (x ∷ xs) picked (inr h) all = picked_too P IsSuch xs picked h.1 all.1

mapped_too : {X Y : Type 0} (P : Y → Type 0) (f : X → Y) (xs : List X) → AllByRecursion (λ x. P (f x)) xs → AllByRecursion P (map f xs)
mapped_too P f [] all = tt
mapped_too P f (x ∷ xs) all = (all.0, mapped_too P f xs all.1)

some_there : {X Y : Type 0} (f : X → Y) (o : Option X) (y : Y) → option_map f o ≡ Some y → (x : X) × (o ≡ Some x)
some_there f None y e = absurd (cc)
some_there f (Some x) y e = (x, refl)

module _ {S : Type 0} (tops : List (Part S)) where
  places_within : (names : List (List ℕ)) (places : List ℕ) → EachIs (IsPlace tops) names places → AllByRecursion (λ s. s < length tops) places
  places_within [] [] h = tt
  places_within (name ∷ names) (n ∷ places) h = (
    let p = some_there (λ (q : Part S). q.config.now.name) (slice_get tops n) name h.0 in slice_get_within tops n p.0 p.1,
    places_within names places h.1,
  )
  places_within [] (n ∷ places) h = absurd h
  places_within (name ∷ names) [] h = absurd h

  loggers_fit : (sinks : List SinkConfig) (earlier ls : List LoggerConfig) (made : List Logger) → AreSoundLoggers sinks earlier ls
      → EachIs (IsLoggerOf tops) ls made → AllByRecursion (LoggerFits (length tops)) made
  loggers_fit sinks earlier [] [] sound h = tt
  loggers_fit sinks earlier (l ∷ ls) (m ∷ made) sound h = (
    record {
      sinks = All-from_recursion (λ s. s < length tops) m.spec.sinks.items (places_within l.sinks m.spec.sinks.items h.0.sinks);
      backtrace = (let few = sound.0.few in let same = h.0.backtrace in omega (arith, few, same));
    },
    loggers_fit sinks (earlier ++ l ∷ []) ls made sound.1 h.1,
  )
  loggers_fit sinks earlier [] (m ∷ made) sound h = absurd h
  loggers_fit sinks earlier (l ∷ ls) [] sound h = absurd h

module _ {S : Type 0} (tells : Bool) (files : S → Files) (failures : S → ℕ) (c : Config) (zone : Zone) (stores : List S) (loggers : List Logger)
    (sinks : List (Sink S)) (sound : IsSound c.text zone c.sinks.items c.loggers.items) (b : Built tells files failures c stores loggers sinks) where
  -- each logger's sinks are there
  pub each_fits : All (LoggerFits (length sinks)) loggers
  each_fits =
      let many : length sinks ≡ length b.tops = ap length b.sinks ∙ length-map b.tops (λ (p : Part S). p.sink) in
      subst (λ n. All (LoggerFits n) loggers) (sym many)
      (All-from_recursion (LoggerFits (length b.tops)) loggers
      (loggers_fit b.tops c.sinks.items [] c.loggers.items loggers sound.each_logger b.loggers))

  -- and each sink suits the texts
  pub each_suits : All (λ (s : Sink S). Suits c.text LINE_MAX s) sinks
  each_suits =
      let IsSuch : Sink S → Type 0 = λ s. Suits c.text LINE_MAX s in
      subst (λ (all : List (Sink S)). All IsSuch all) (sym b.sinks)
      (All-from_recursion IsSuch (map (λ (p : Part S). p.sink) b.tops)
      (mapped_too IsSuch (λ (p : Part S). p.sink) b.tops
      (picked_too (λ (p : Part S). IsSuch p.sink) _ b.parts b.tops b.picked
      (parts_suit tells files failures c stores b.parts sound.each_sink b.of b.each))))
