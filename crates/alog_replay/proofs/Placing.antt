-- Where a sink is among the sinks of a system.
use Rattle.std.proofs.Common.{◌≡◌, ◌+◌, ℕ, Bool, true, false, cond, Bor, Option, Some, None, List, [], ◌∷◌, length, refl, sym, ap, subst, ◌∙◌}
use Rattle.std.specs.Prelude.{◌↔◌, IsTrue, get_or, map, not, nat_lt, option_map, option_and_then}
use Rattle.std.specs.List.{position, position_or_len}
use Rattle.std.proofs.lemmas.Bool.{false≢true}
use Rattle.std.proofs.lemmas.List.{length-map}
use Rattle.std.proofs.lemmas.List.Quantifiers.{position-Some}
use Rattle.std.proofs.lemmas.Option.{slice_get-map, slice_get_read}
use Rattle.alog_replay.specs.OfConfig.{holds, member_in, place_at, place_in, place_of}
use Rattle.alog_config.specs.Sinks.{IsFan, IsFanKind}
use Rattle.alog_config.specs.declared.config.SinkConfig.{SinkConfig}
use Rattle.alog_config.specs.declared.config.SinkKind.{SinkKind}
use Rattle.alog_config.specs.declared.config.SinkKind.TheVariants.{Lines, Fan}
use Rattle.alog_replay.specs.declared.places.Place.{Place}

first_of_map : {A B : Type 0} (p : B → Bool) (f : A → B) (xs : List A) → position_or_len p (map f xs) ≡ position_or_len (λ x. p (f x)) xs
first_of_map p f [] = refl
first_of_map p f (x ∷ xs) = ap (λ n. cond (not (p (f x))) (1 + n) 0) (first_of_map p f xs)

-- the first of some results that passes is the first item whose result does
pub position_of_map : {A B : Type 0} (p : B → Bool) (f : A → B) (xs : List A) → position p (map f xs) ≡ position (λ x. p (f x)) xs
position_of_map p f xs =
    ap (λ n. cond (nat_lt n (length (map f xs))) (Some n) None) (first_of_map p f xs)
    ∙ ap (λ k. cond (nat_lt (position_or_len (λ x. p (f x)) xs) k) (Some (position_or_len (λ x. p (f x)) xs)) None) (length-map xs f)

no_fan : (b : Bool) (P : Type 0) → b ≡ false → IsTrue b ↔ P → P → ⊥
no_fan true P e h p = absurd cc
no_fan false P e h p = false≢true (h.1 p)

place_in_leaf : (tops : List SinkConfig) (name : List ℕ) (kind : SinkKind) → (IsFanKind kind → ⊥)
    → place_in tops name kind ≡ option_map (place_at tops name) (position (holds name) tops)
place_in_leaf tops name (Lines file pattern upkeep) h = refl
place_in_leaf tops name (Fan of) h = absurd (h tt)

-- the place of a sink that is no fan, by the number of the sink that holds it
pub placed : (tops : List (Bor SinkConfig)) (s : SinkConfig) {name : List ℕ} {fan : Bool} {found given : Option ℕ} → fan ≡ false
    → IsTrue fan ↔ IsFan s → name ≡ s.name → found ≡ position (λ (t : Bor SinkConfig). holds name t.now) tops → found ≡ given
    → place_of (map (λ (t : Bor SinkConfig). t.now) tops) s ≡ option_map (place_at (map (λ (t : Bor SinkConfig). t.now) tops) name) given
placed tops s {name} {fan} {given} off is named e was =
    let all = map (λ (t : Bor SinkConfig). t.now) tops in
    let number : position (holds name) all ≡ given = position_of_map (holds name) (λ (t : Bor SinkConfig). t.now) tops ∙ (sym e ∙ was) in
    let P : List ℕ → Type 0 = λ n. place_of all s ≡ option_map (place_at all n) (position (holds n) all) in
    subst P (sym named) (place_in_leaf all s.name s.kind (no_fan fan (IsFan s) off is)) ∙ ap (option_map (place_at all name)) number

-- the place in the sink of this number
pub placed_at : (tops : List (Bor SinkConfig)) {text name : List ℕ} (p : Bor SinkConfig → Bool) {n : ℕ} {top : Bor SinkConfig}
    {member : Option ℕ} → text ≡ name → Some n ≡ position p tops
    → top ≡ get_or tops n top → member ≡ member_in name top.now.kind
    → record { name = text; sink = n; member = member } ≡ place_at (map (λ (t : Bor SinkConfig). t.now) tops) name n
placed_at tops {name} p {n} {top} {member} same found is e =
    let within = (position-Some p tops n top (sym found)).0 in
    let got = slice_get-map (λ (t : Bor SinkConfig). t.now) tops n ∙ ap (option_map (λ (t : Bor SinkConfig). t.now)) (slice_get_read tops (length tops) n top refl within is) in
    let fan : Option SinkConfig → Option ℕ = option_and_then (λ (s : SinkConfig). member_in name s.kind) in
    let P : List ℕ → Place = λ t. record { name = t; sink = n; member = member } in
    let Q : Option ℕ → Place = λ m. record { name = name; sink = n; member = m } in
    ap P same ∙ ap Q (e ∙ sym (ap fan got))
