-- What a sink of a configuration stands for, which holds some messages more than when it was opened.
use Rattle.std.proofs.Common.{◌≡◌, ℕ, zero, suc, Bool, true, Some, List, [], ◌∷◌, map, take, count_by, refl, ap, subst, inl, inr}
use Rattle.std.specs.Prelude.{slice_get}
use Rattle.alog_config.proofs.SharedPicking.{Has, picked_in}
use Rattle.alog_config.specs.Built.{Built, IsBuiltAs, IsPlace}
use Rattle.alog_config.specs.Sinks.{IsMember, is_leaf}
use Rattle.alog_config.specs.declared.config.Config.{Config}
use Rattle.alog_config.specs.declared.config.SinkKind.{SinkKind}
use Rattle.alog_config.specs.declared.config.SinkKind.TheVariants as kinds
use Rattle.alog_msg.specs.declared.level.Level.{Level}
use Rattle.alog_msg.specs.declared.message.Message.{Message}
use Rattle.alog_pool.specs.OneWorker.{HoldsMore}
use Rattle.alog_registry.specs.declared.logger.Logger.{Logger}
use Rattle.alog_sink.specs.Files.{Files}
use Rattle.alog_sink.specs.Turn.{LeafView}
use Rattle.alog_sink.specs.declared.sink.Sink.{Sink}
use Rattle.alog_sink.specs.declared.sink.Sink.TheVariants.{Leaf}
use Rattle.test_laws.specs.PipedLines.{StandsOn}

-- A sink that was built, with its part of the configuration. Its crate has no name for others to call this type by: it is what names have
-- places among.
abbrev item_of : {A : Type 0} {C : Type 1} → (List A → C) → Type 0
item_of {A} {C} f = A

abbrev Part : Type 0 → Type 0
Part S = item_of (IsPlace {S = S})

-- what stands at a place, behind a function and before it
pub at_map : {A B : Type 0} (f : A → B) (xs : List A) (n : ℕ) (x : A) → slice_get xs n ≡ Some x → slice_get (map f xs) n ≡ Some (f x)
at_map f [] n x at = absurd (cc at)
at_map {A} f (y ∷ xs) zero x at = let same : y ≡ x = cc in ap (λ (z : A). Some (f z)) same
at_map f (y ∷ xs) (suc n) x at = at_map f xs n x at

of_map : {A B : Type 0} (f : A → B) (xs : List A) (n : ℕ) (z : B) → slice_get (map f xs) n ≡ Some z → (x : A) × (slice_get xs n ≡ Some x) × (f x ≡ z)
of_map f [] n z at = absurd (cc at)
of_map f (y ∷ xs) zero z at = let same : f y ≡ z = cc in (y, refl, same)
of_map f (y ∷ xs) (suc n) z at = of_map f xs n z at

-- one that is there has a place
place_of : {A : Type 0} (xs : List A) (x : A) → Has (λ (y : A). y ≡ x) xs → (k : ℕ) × (slice_get xs k ≡ Some x)
place_of [] x has = absurd has
place_of {A} (y ∷ xs) x (inl same) = (zero, ap (λ (z : A). Some z) same)
place_of (y ∷ xs) x (inr has) = let there = place_of xs x has in (suc there.0, there.1)

module _ {S : Type 0} (tells : Bool) (files : S → Files) (failures : S → ℕ) where
  -- A sink that was built of a configuration over these stores holds these messages more.
  pub record Fills (stores : List S) (ms : List Message) (new : Sink S) : Type 0 where
    pub config : Config
    pub loggers : List Logger
    pub sinks : List (Sink S)
    pub built : Built tells files failures config stores loggers sinks
    pub n : ℕ
    pub old : Sink S
    pub old_is : slice_get sinks n ≡ Some old
    pub told : tells ≡ true
    pub holds : HoldsMore files old new ms

  module _ {stores : List S} {ms : List Message} {new : Sink S} (f : Fills stores ms new) (leaf : LeafView S) (is : new ≡ Leaf leaf) where
    built_stands : (k : ℕ) (least : Level) (kind : SinkKind) → IsBuiltAs tells files failures f.config stores f.built.parts k least kind f.old
        → StandsOn files stores ms leaf
    built_stands k least (kinds.Lines file pattern upkeep) built =
        let opened = built.2.opened in
        let more = subst (λ (v : Sink S × Sink S). HoldsMore files v.0 v.1 ms) (λ i. (opened.is i, is i)) f.holds in
        record {
          store = built.0;
          place = count_by is_leaf (take k f.config.sinks.items);
          store_is = built.1;
          stands = more (files built.0) [] (opened.stands f.told);
        }
    built_stands k least (kinds.Fan of) built =
        absurd (subst (λ (v : Sink S × Sink S). HoldsMore files v.0 v.1 ms) (λ i. (built.2 i, is i)) f.holds)

    pub stands_on : StandsOn files stores ms leaf
    stands_on =
        let at = subst (λ (ss : List (Sink S)). slice_get ss f.n ≡ Some f.old) f.built.sinks f.old_is in
        let sunk = of_map (λ (q : Part S). q.sink) f.built.tops f.n f.old at in
        let q : Part S = sunk.0 in
        let has = picked_in (λ (x : Part S). ¬ IsMember f.config.sinks.items x.config.now.name) (λ (x : Part S). x ≡ q) f.built.parts f.built.tops
        f.n f.built.picked sunk.1 refl in
        let place = place_of f.built.parts q has.0 in
        built_stands place.0 q.config.now.level q.config.now.kind
        (subst (λ (s : Sink S). IsBuiltAs tells files failures f.config stores f.built.parts place.0 q.config.now.level q.config.now.kind s) sunk.2
        (f.built.each place.0 q place.1))
