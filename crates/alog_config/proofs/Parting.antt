-- Parts of a configuration: what is built one sink after the other.
use Rattle.std.proofs.Common.{◌≡◌, ◌⊎◌, ◌↔◌, ◌+◌, ℕ, zero, suc, Bool, List, [], ◌∷◌, ◌++◌, length, take, slice_get}
use Rattle.std.proofs.Common.{Some, count_by, inl, inr, refl, sym, ap, subst, ◌∙◌, append_assoc, append-nil}
use Rattle.std.specs.List.{remove}
use Rattle.std.proofs.lemmas.List.{length-map, map-append}
use Rattle.alog_config.specs.declared.config.Config.{Config}
use Rattle.alog_config.specs.declared.config.LoggerConfig.{LoggerConfig}
use Rattle.alog_config.specs.declared.config.SinkConfig.{SinkConfig}
use Rattle.alog_config.specs.declared.config.SinkKind.{SinkKind}
use Rattle.alog_config.specs.declared.config.SinkKind.TheVariants as kinds
use Rattle.alog_config.specs.declared.config.Upkeep.{Upkeep}
use Rattle.alog_config.specs.declared.parts.Part.{Part}
use Rattle.alog_config.specs.Built.{ArePicked, EachIs, IsBuiltAs, IsLeafOf, IsNamed, IsPart}
use Rattle.alog_config.specs.Parts.{AnyBuiltFan, AreAllKnown, AreBuilt, IsPartName, MakesFan, TakesOut}
use Rattle.alog_config.specs.Sinks.{AnyFan, AnyMember, AnyUnknown, HandsTo, HasMember, IsFan, IsFanKind, IsMember, IsSinkName, is_leaf}
use Rattle.alog_config.specs.Sound.{AreSoundLoggers, AreSoundSinks, IsSoundKind, IsSoundLogger, IsSoundSink}
use Rattle.alog_config.proofs.SharedApart.{names_apart}
use Rattle.alog_config.proofs.SharedPicking.{Apart, Has, any_has, apart_of_map, at_more, each_is_if, has_any, has_if, has_left}
use Rattle.alog_config.proofs.SharedPicking.{has_mapped, has_of_map, has_parts, has_right, picked_back, picked_has, picked_iff, picked_in, picked_more, picked_without}
use Rattle.alog_config.proofs.SharedPicking.{split_at, take_one_more}
use Rattle.alog_sink.specs.Files.{Files}
use Rattle.alog_sink.specs.Opened.{IsFan as IsBuiltFan}
use Rattle.alog_sink.specs.declared.sink.Sink.{Sink}

abbrev pub config_of : {S : Type 0} → Part S → SinkConfig
config_of p = p.config.now

abbrev pub name_of : {S : Type 0} → Part S → List ℕ
name_of p = p.config.now.name

abbrev pub sink_name : SinkConfig → List ℕ
sink_name s = s.name

-- sinks that are sound one behind the other, in two parts
pub sound_front : (limit : ℕ) (earlier xs ys : List SinkConfig) → AreSoundSinks limit earlier (xs ++ ys) → AreSoundSinks limit earlier xs
sound_front limit earlier [] ys h = tt
sound_front limit earlier (x ∷ xs) ys h = (h.0, sound_front limit (earlier ++ x ∷ []) xs ys h.1)

pub sound_back : (limit : ℕ) (earlier xs ys : List SinkConfig) → AreSoundSinks limit earlier (xs ++ ys)
    → AreSoundSinks limit (earlier ++ xs) ys
sound_back limit earlier [] ys h = subst (λ (e : List SinkConfig). AreSoundSinks limit e ys) (sym (append-nil earlier)) h
sound_back limit earlier (x ∷ xs) ys h =
    subst (λ (e : List SinkConfig). AreSoundSinks limit e ys) (append_assoc earlier (x ∷ []) xs)
    (sound_back limit (earlier ++ x ∷ []) xs ys h.1)

pub sound_at : (limit : ℕ) (all : List SinkConfig) (i : ℕ) (s : SinkConfig) → AreSoundSinks limit [] all → slice_get all i ≡ Some s
    → IsSoundSink limit (take i all) s
sound_at limit all i s h e =
    let r = split_at all i s e in
    let split = subst (λ (xs : List SinkConfig). AreSoundSinks limit [] xs) r.1 h in
    (sound_back limit [] (take i all) (s ∷ r.0) split).0

pub sound_until : (limit : ℕ) (all : List SinkConfig) (i : ℕ) (s : SinkConfig) → AreSoundSinks limit [] all → slice_get all i ≡ Some s
    → AreSoundSinks limit [] (take i all)
sound_until limit all i s h e =
    let r = split_at all i s e in
    sound_front limit [] (take i all) (s ∷ r.0) (subst (λ (xs : List SinkConfig). AreSoundSinks limit [] xs) r.1 h)

pub logger_sound_at : (sinks : List SinkConfig) (earlier ls : List LoggerConfig) (i : ℕ) (l : LoggerConfig)
    → AreSoundLoggers sinks earlier ls
    → slice_get ls i ≡ Some l → IsSoundLogger sinks (earlier ++ take i ls) l
logger_sound_at sinks earlier [] i l h e = absurd (cc e)
logger_sound_at sinks earlier (x ∷ ls) zero l h e =
    let same : x ≡ l = cc in
    subst (λ (es : List LoggerConfig). IsSoundLogger sinks es l) (sym (append-nil earlier)) (subst (IsSoundLogger sinks earlier) same h.0)
logger_sound_at sinks earlier (x ∷ ls) (suc i) l h e =
    subst (λ (es : List LoggerConfig). IsSoundLogger sinks es l) (append_assoc earlier (x ∷ []) (take i ls))
    (logger_sound_at sinks (earlier ++ x ∷ []) ls i l h.1 e)

-- a member of a sound sink is an earlier sink
member_earlier : (limit : ℕ) (earlier : List SinkConfig) (k : SinkKind) (name : List ℕ) → IsSoundKind limit earlier k → HandsTo name k
    → ¬ (¬ IsSinkName earlier name)
member_earlier limit earlier (kinds.Lines file pattern upkeep) name h x never = x
member_earlier limit earlier (kinds.Fan of) name h x never =
    let found = has_if (λ n. n ≡ name) (λ n. ¬ IsSinkName earlier n) of
    (λ n e. subst (λ m. ¬ IsSinkName earlier m) (sym e) never) (any_has (λ n. n ≡ name) of x) in
    h.1 (has_any (λ n. ¬ IsSinkName earlier n) of found)

members_earlier : (limit : ℕ) (earlier ss : List SinkConfig) (name : List ℕ) → AreSoundSinks limit earlier ss → Has (HasMember name) ss
    → ¬ Has (λ (s : SinkConfig). s.name ≡ name) (earlier ++ ss) → ⊥
members_earlier limit earlier [] name h has never = has
members_earlier limit earlier (s ∷ ss) name h (inl m) never =
    member_earlier limit earlier s.kind name h.0.kind m
    (λ x. never (has_left (λ (y : SinkConfig). y.name ≡ name) earlier (s ∷ ss) (any_has (λ (y : SinkConfig). y.name ≡ name) earlier x)))
members_earlier limit earlier (s ∷ ss) name h (inr has) never =
    members_earlier limit (earlier ++ s ∷ []) ss name h.1 has
    (λ x. never (subst (λ (es : List SinkConfig). Has (λ (y : SinkConfig). y.name ≡ name) es) (append_assoc earlier (s ∷ []) ss) x))

-- the next sink is no member of a fan up to itself
pub next_is_free : (limit : ℕ) (before : List SinkConfig) (s : SinkConfig) → AreSoundSinks limit [] before → IsSoundSink limit before s
    → ¬ IsMember (before ++ s ∷ []) s.name
next_is_free limit before s h sound m =
    let free : ¬ Has (λ (x : SinkConfig). x.name ≡ s.name) before = λ x. sound.free (has_any (λ (y : SinkConfig). y.name ≡ s.name) before x) in
    elim (has_parts (HasMember s.name) before (s ∷ []) (any_has (HasMember s.name) (before ++ s ∷ []) m)) [
      | inl l ↦ members_earlier limit [] before s.name h l free
      | inr r ↦ elim r [
        | inl own ↦ member_earlier limit before s.kind s.name sound.kind own sound.free
        | inr none ↦ none
      ]
    ]

-- who is a member, with one sink more
pub member_more : (before : List SinkConfig) (s : SinkConfig) (name : List ℕ)
    → IsMember (before ++ s ∷ []) name ↔ (IsMember before name ⊎ HasMember name s)
member_more before s name = (
  λ m. elim (has_parts (HasMember name) before (s ∷ []) (any_has (HasMember name) (before ++ s ∷ []) m)) [
    | inl l ↦ inl (has_any (HasMember name) before l)
    | inr r ↦ elim r [ inl own ↦ inr own | inr none ↦ absurd none ]
  ],
  λ m. has_any (HasMember name) (before ++ s ∷ []) (elim m [
    | inl l ↦ has_left (HasMember name) before (s ∷ []) (any_has (HasMember name) before l)
    | inr r ↦ has_right (HasMember name) before (s ∷ []) (inl r)
  ]),
)

-- of parts that have names of their own, those of which something holds are picked
record ArePickedOf {S : Type 0} (P : Part S → Type 0) (all parts : List (Part S)) : Type 0 where
  apart : Apart name_of all
  picked : ArePicked P all parts

-- without one of them
without_one : {S : Type 0} {P : Part S → Type 0} {all parts : List (Part S)} (k : ℕ) (p : Part S) → ArePickedOf P all parts
    → slice_get parts k ≡ Some p → ArePickedOf (λ a. P a × (¬ (name_of a ≡ name_of p))) all (remove parts k)
without_one {P} {all} {parts} k p h at =
    record { apart = h.apart; picked = picked_without P name_of all parts k h.apart h.picked at }

-- what is left where sinks are taken out, and what they are
picked_taken : {S : Type 0} {P : Part S → Type 0} {all parts : List (Part S)} (names : List (List ℕ)) (sinks : List (Sink S))
    (left : List (Part S)) → ArePickedOf P all parts → TakesOut parts names sinks left
    → ArePicked (λ a. P a × (¬ Has (λ n. n ≡ name_of a) names)) all left
picked_taken {S} {P} {all} {parts} [] [] left h t =
    subst (λ (xs : List (Part S)). ArePicked (λ a. P a × (¬ Has (λ n. n ≡ name_of a) [])) all xs) (sym t)
    (picked_iff P (λ a. P a × (¬ Has (λ n. n ≡ name_of a) [])) all parts (λ a. (λ p. (p, λ x. x), λ q. q.0)) h.picked)
picked_taken [] (m ∷ ms) left h t = absurd t
picked_taken (n ∷ ns) [] left h t = absurd t
picked_taken {S} {P} {all} {parts} (n ∷ ns) (m ∷ ms) left h t =
    let P' : Part S → Type 0 = λ a. P a × (¬ (name_of a ≡ name_of t.1)) in
    let rest = picked_taken ns ms left (without_one t.0 t.1 h t.2) t.5 in
    picked_iff (λ a. P' a × (¬ Has (λ x. x ≡ name_of a) ns)) (λ a. P a × (¬ Has (λ x. x ≡ name_of a) (n ∷ ns))) all left
    (λ a. (
      λ q. (q.0.0, λ has. elim has [ inl e ↦ q.0.1 (sym (t.3 ∙ e)) | inr r ↦ q.1 r ]),
      λ q. ((q.0, λ e. q.1 (inl (sym t.3 ∙ sym e))), λ r. q.1 (inr r)),
    ))
    rest

taken_are : {S : Type 0} {P : Part S → Type 0} {all parts : List (Part S)} (names : List (List ℕ)) (sinks : List (Sink S))
    (left : List (Part S)) → ArePickedOf P all parts → TakesOut parts names sinks left → EachIs (IsNamed all) names sinks
taken_are [] [] left h t = tt
taken_are [] (m ∷ ms) left h t = absurd t
taken_are (n ∷ ns) [] left h t = absurd t
taken_are {S} {P} {all} {parts} (n ∷ ns) (m ∷ ms) left h t =
    let Q : Part S → Type 0 = λ a. (name_of a ≡ n) × (a.sink ≡ m) in
    let there = picked_in P Q all parts t.0 h.picked t.2 (t.3, t.4) in
    (has_any Q all there.0, taken_are ns ms left (without_one t.0 t.1 h t.2) t.5)

-- what was built stays so with one part more
pub named_more : {S : Type 0} (parts : List (Part S)) (p : Part S) (name : List ℕ) (sink : Sink S) → IsNamed parts name sink
    → IsNamed (parts ++ p ∷ []) name sink
named_more {S} parts p name sink h =
    let Q : Part S → Type 0 = λ a. (name_of a ≡ name) × (a.sink ≡ sink) in
    has_any Q (parts ++ p ∷ []) (has_left Q parts (p ∷ []) (any_has Q parts h))

pub take_long : {A : Type 0} (xs : List A) (i : ℕ) (x : A) → slice_get xs i ≡ Some x → length (take i xs) ≡ i
take_long [] i x e = absurd (cc e)
take_long (y ∷ ys) zero x e = refl
take_long (y ∷ ys) (suc i) x e = ap suc (take_long ys i x e)

has_each : {A : Type 0} (Q R : A → Type 0) (xs : List A) → ((n : ℕ) (x : A) → slice_get xs n ≡ Some x → Q x → R x) → Has Q xs → Has R xs
has_each Q R [] f h = h
has_each Q R (x ∷ xs) f (inl q) = inl (f zero x refl q)
has_each Q R (x ∷ xs) f (inr h) = inr (has_each Q R xs (λ n y e. f (suc n) y e) h)

module _ {S : Type 0} (tells : Bool) (files : S → Files) (failures : S → ℕ) where
  part_more : (c : Config) (stores : List S) (parts : List (Part S)) (q : Part S) (n : ℕ) (p : Part S)
      → IsPart tells files failures c stores parts n p → IsPart tells files failures c stores (parts ++ q ∷ []) n p
  part_more c stores parts q n p h = by_kind (config_of p).kind h
    where
      by_kind : (k : SinkKind) → IsBuiltAs tells files failures c stores parts n (config_of p).level k p.sink
          → IsBuiltAs tells files failures c stores (parts ++ q ∷ []) n (config_of p).level k p.sink
      by_kind (kinds.Lines file pattern upkeep) h = h
      by_kind (kinds.Fan of) h =
          (h.0, each_is_if (IsNamed parts) (IsNamed (parts ++ q ∷ [])) of h.0 (λ name s x. named_more parts q name s x) h.1, h.2)

  -- a part that is a fan was configured all one
  fan_part : (c : Config) (stores : List S) (parts : List (Part S)) (n : ℕ) (p : Part S)
      → IsPart tells files failures c stores parts n p → IsBuiltFan p.sink → IsFan (config_of p)
  fan_part c stores parts n p h fan = by_kind (config_of p).kind h
    where
      by_kind : (k : SinkKind) → IsBuiltAs tells files failures c stores parts n (config_of p).level k p.sink → IsFanKind k
      by_kind (kinds.Lines file pattern upkeep) h = subst IsBuiltFan h.2.opened.is fan
      by_kind (kinds.Fan of) h = tt

  -- A sink of a sound configuration, where the sinks in front of it are built, and what of these is no fan's member.
  pub record IsNext (c : Config) (stores : List S) (i : ℕ) (left : List (Part S)) (s : SinkConfig) : Type 0 where
    pub sound : AreSoundSinks c.text [] c.sinks.items
    pub built : AreBuilt tells files failures c stores i left
    pub at : slice_get c.sinks.items i ≡ Some s

  parts_apart : {c : Config} {stores : List S} {i : ℕ} {left : List (Part S)} {s : SinkConfig} → (next : IsNext c stores i left s)
      → Apart name_of next.built.parts
  parts_apart {c} {i} {s} next =
      let apart = names_apart c.text [] (take i c.sinks.items) (sound_until c.text c.sinks.items i s next.sound next.at) in
      apart_of_map config_of sink_name next.built.parts (subst (λ (xs : List SinkConfig). Apart sink_name xs) (sym next.built.of) apart)

  -- the next part
  pub next_part : {c : Config} {stores : List S} {i : ℕ} {left : List (Part S)} (rest : List (Part S)) {s : SinkConfig} (p : Part S)
      → (next : IsNext c stores i left s) → config_of p ≡ s
      → IsBuiltAs tells files failures c stores next.built.parts i s.level s.kind p.sink
      → ArePicked (λ (a : Part S). ¬ IsMember (take i c.sinks.items ++ s ∷ []) (name_of a)) next.built.parts rest
      → AreBuilt tells files failures c stores (i + 1) (rest ++ p ∷ [])
  next_part {c} {stores} {i} rest {s} p next same made picked =
      let sound = next.sound in
      let b = next.built in
      let at = next.at in
      let all = c.sinks.items in
      let parts = b.parts in
      let more : take (i + 1) all ≡ take i all ++ s ∷ [] = take_one_more all i s at in
      let long : length parts ≡ i = sym (length-map parts config_of) ∙ (ap (λ (xs : List SinkConfig). length xs) b.of ∙ take_long all i s at) in
      let made_here = subst (λ (x : SinkConfig). IsBuiltAs tells files failures c stores parts i x.level x.kind p.sink) (sym same) made in
      let own = part_more c stores parts p i p made_here in
      let free = next_is_free c.text (take i all) s (sound_until c.text all i s sound at) (sound_at c.text all i s sound at) in
      let free_here = subst (λ (x : SinkConfig). ¬ IsMember (take i all ++ s ∷ []) x.name) (sym same) free in
      let whole = picked_more (λ (a : Part S). ¬ IsMember (take i all ++ s ∷ []) (name_of a)) parts rest p picked free_here in
      record {
        parts = parts ++ p ∷ [];
        of = map-append config_of parts (p ∷ [])
            ∙ (ap (λ (xs : List SinkConfig). xs ++ config_of p ∷ []) b.of
            ∙ (ap (λ (x : SinkConfig). take i all ++ x ∷ []) same ∙ sym more));
        each = λ n q e. elim (at_more parts p q n e) [
          | inl l ↦ part_more c stores parts p n q (b.each n q l)
          | inr r ↦
              let place : i ≡ n = sym (r.0 ∙ long) in
              let there = subst (λ m. IsPart tells files failures c stores (parts ++ p ∷ []) m p) place own in
              subst (λ (x : Part S). IsPart tells files failures c stores (parts ++ p ∷ []) n x) r.1 there
        ];
        picked = subst (λ (xs : List SinkConfig). ArePicked (λ (a : Part S). ¬ IsMember xs (name_of a)) (parts ++ p ∷ []) (rest ++ p ∷ []))
            (sym more) whole;
      }

  -- a sink over a store of its own
  pub next_leaf : {c : Config} {stores : List S} {i : ℕ} {left : List (Part S)} {s : SinkConfig} (p : Part S)
      {file pattern : List ℕ} {upkeep : Upkeep} {store : S}
      → IsNext c stores i left s → config_of p ≡ s
      → s.kind ≡ kinds.Lines file pattern upkeep → slice_get stores (count_by is_leaf (take i c.sinks.items)) ≡ Some store
      → IsLeafOf tells files failures c s.level file pattern upkeep store p.sink
      → AreBuilt tells files failures c stores (i + 1) (left ++ p ∷ [])
  next_leaf {c} {stores} {i} {left} {s} p {store} next same kind mine leaf =
      let b = next.built in
      let before = take i c.sinks.items in
      let made = subst (λ (k : SinkKind). IsBuiltAs tells files failures c stores b.parts i s.level k p.sink) (sym kind)
      (store, mine, leaf) in
      let none : (name : List ℕ) → ¬ HasMember name s = λ name h. subst (HandsTo name) kind h in
      let picked = picked_iff (λ (a : Part S). ¬ IsMember before (name_of a)) (λ (a : Part S). ¬ IsMember (before ++ s ∷ []) (name_of a))
      b.parts left
      (λ a. (
        λ never m. elim ((member_more before s (name_of a)).0 m) [ inl l ↦ never l | inr r ↦ none (name_of a) r ],
        λ never m. never ((member_more before s (name_of a)).1 (inl m)),
      ))
      b.picked in
      next_part left p next same made picked

  -- a fan
  pub next_fan : {c : Config} {stores : List S} {i : ℕ} {left : List (Part S)} (rest : List (Part S)) {s : SinkConfig} (p : Part S)
      {of : List (List ℕ)}
      → IsNext c stores i left s → config_of p ≡ s → s.kind ≡ kinds.Fan of → MakesFan left s.level of p.sink rest
      → AreBuilt tells files failures c stores (i + 1) (rest ++ p ∷ [])
  next_fan {c} {stores} {i} {left} rest {s} p {of} next same kind makes =
      let b = next.built in
      let before = take i c.sinks.items in
      let P : Part S → Type 0 = λ a. ¬ IsMember before (name_of a) in
      let tops : ArePickedOf P b.parts left = record { apart = parts_apart next; picked = b.picked } in
      let members = taken_are of makes.0 rest tops makes.1 in
      let made = subst (λ (k : SinkKind). IsBuiltAs tells files failures c stores b.parts i s.level k p.sink) (sym kind)
      (makes.0, members, makes.2) in
      let handed : (name : List ℕ) → HasMember name s → Has (λ n. n ≡ name) of = λ name h. any_has (λ n. n ≡ name) of (subst (HandsTo name) kind h) in
      let hands : (name : List ℕ) → Has (λ n. n ≡ name) of → HasMember name s = λ name h. subst (HandsTo name) (sym kind) (has_any (λ n. n ≡ name) of h) in
      let picked = picked_iff (λ (a : Part S). P a × (¬ Has (λ n. n ≡ name_of a) of)) (λ (a : Part S). ¬ IsMember (before ++ s ∷ []) (name_of a))
      b.parts rest
      (λ a. (
        λ q m. elim ((member_more before s (name_of a)).0 m) [ inl l ↦ q.0 l | inr r ↦ q.1 (handed (name_of a) r) ],
        λ never. (λ m. never ((member_more before s (name_of a)).1 (inl m)), λ m. never ((member_more before s (name_of a)).1 (inr (hands (name_of a) m)))),
      ))
      (picked_taken of makes.0 rest tops makes.1) in
      next_part rest p next same made picked

  -- what names of sinks that are never members find among the parts
  pub all_known : (c : Config) (stores : List S) (i : ℕ) (left : List (Part S)) (names : List (List ℕ))
      → AreBuilt tells files failures c stores i left
      → ¬ AnyUnknown (take i c.sinks.items) names → ¬ AnyMember (take i c.sinks.items) names → AreAllKnown left names
  all_known c stores i left names b known apart x =
      let before = take i c.sinks.items in
      let name = x.1 in
      let free : ¬ IsMember before name = λ m. apart (x.0, x.1, x.2, x.3, m) in
      let named : IsSinkName before name → IsPartName left name = λ h.
      let there = subst (λ (xs : List SinkConfig). Has (λ (s : SinkConfig). s.name ≡ name) xs) (sym b.of) (any_has (λ (s : SinkConfig). s.name ≡ name) before h) in
      let part = has_of_map config_of (λ (s : SinkConfig). s.name ≡ name) b.parts there in
      has_any (λ (p : Part S). name_of p ≡ name) left
      (picked_has (λ (a : Part S). ¬ IsMember before (name_of a)) (λ (p : Part S). name_of p ≡ name) b.parts left
      (λ a e. subst (λ n. ¬ IsMember before n) (sym e) free) b.picked part)
      in
      known (x.0, x.1, x.2, x.3, λ h. x.4 (named h))

  pub no_built_fan : (c : Config) (stores : List S) (i : ℕ) (left : List (Part S)) (names : List (List ℕ))
      → AreBuilt tells files failures c stores i left → ¬ AnyFan (take i c.sinks.items) names → ¬ AnyBuiltFan left names
  no_built_fan c stores i left names b fans x =
      let before = take i c.sinks.items in
      let name = x.1 in
      let Q : Part S → Type 0 = λ p. (name_of p ≡ name) × IsBuiltFan p.sink in
      let R : SinkConfig → Type 0 = λ s. IsFan s × (s.name ≡ name) in
      let back = picked_back (λ (a : Part S). ¬ IsMember before (name_of a)) Q b.parts left b.picked (any_has Q left x.4) in
      let found = has_each Q (λ p. R (config_of p)) b.parts
      (λ n p e q. (fan_part c stores b.parts n p (b.each n p e) q.1, q.0)) back in
      let named = subst (λ (xs : List SinkConfig). Has R xs) b.of (has_mapped config_of R b.parts found) in
      fans (x.0, x.1, x.2, x.3, has_any R before named)
