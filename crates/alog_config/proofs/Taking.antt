-- Sinks that are taken out of parts one after the other.
use Rattle.std.proofs.Common.{◌≡◌, ◌<◌, ℕ, zero, suc, List, [], ◌∷◌, ◌++◌, length, get_or, take, slice_get, option_map, Some}
use Rattle.std.proofs.Common.{inl, inr, refl, sym, ap, subst, ◌∙◌, arith}
use Rattle.std.proofs.lemmas.Option.{slice_get_read}
use Rattle.std.specs.List.{Any, AllPairs, remove}
use Rattle.alog_config.specs.declared.parts.Part.{Part}
use Rattle.alog_config.specs.Built.{EachIs, IsLoggerOf, IsPlace}
use Rattle.alog_config.specs.Parts.{AnyBuiltFan, IsPartName, TakesOut}
use Rattle.alog_config.specs.declared.config.LoggerConfig.{LoggerConfig}
use Rattle.alog_config.proofs.Parting.{name_of}
use Rattle.alog_config.proofs.SharedPicking.{Has, any_has, has_any, has_got, has_if}
use Rattle.alog_registry.specs.Listed.{name_at}
use Rattle.alog_registry.specs.declared.logger.Logger.{Logger}
use Rattle.alog_sink.specs.Opened.{IsFan}
use Rattle.alog_sink.specs.declared.sink.Sink.{Sink}

-- one sink more is taken out
takes_one : {S : Type 0} (parts : List (Part S)) (names : List (List ℕ)) (sinks : List (Sink S)) (left : List (Part S)) (k : ℕ) (p : Part S)
    → TakesOut parts names sinks left → slice_get left k ≡ Some p
    → TakesOut parts (names ++ name_of p ∷ []) (sinks ++ p.sink ∷ []) (remove left k)
takes_one {S} parts [] [] left k p t e =
    (k, p, subst (λ (ps : List (Part S)). slice_get ps k ≡ Some p) t e, refl, refl, ap (λ (ps : List (Part S)). remove ps k) t)
takes_one parts [] (m ∷ ms) left k p t e = absurd t
takes_one parts (n ∷ ns) [] left k p t e = absurd t
takes_one parts (n ∷ ns) (m ∷ ms) left k p t e = (t.0, t.1, t.2, t.3, t.4, takes_one (remove parts t.0) ns ms left k p t.5 e)

place_name : {S : Type 0} (parts : List (Part S)) (name : List ℕ) (k : ℕ) (p : Part S) → slice_get parts k ≡ Some p → IsPlace parts name k
    → name_of p ≡ name
place_name {S} parts name k p e place =
    let here : Some (name_of p) ≡ Some name = subst (λ o. option_map (λ (q : Part S). name_of q) o ≡ Some name) e place in cc

-- a part of this name and place
pub record IsAt {S : Type 0} (parts : List (Part S)) (name : List ℕ) (k : ℕ) (p : Part S) : Type 0 where
  pub within : k < length parts
  pub here : p ≡ get_or parts k p
  pub place : IsPlace parts name k

pub takes_more : {S : Type 0} (parts : List (Part S)) (names : List (List ℕ)) (sinks : List (Sink S)) {left : List (Part S)} {name : List ℕ}
    {k : ℕ} {p : Part S} → TakesOut parts names sinks left → IsAt left name k p
    → TakesOut parts (names ++ name ∷ []) (sinks ++ p.sink ∷ []) (remove left k)
takes_more parts names sinks {left} {name} {k} {p} t at =
    let e = slice_get_read left (length left) k p refl at.within at.here in
    subst (λ n. TakesOut parts (names ++ n ∷ []) (sinks ++ p.sink ∷ []) (remove left k)) (place_name left name k p e at.place)
    (takes_one parts names sinks left k p t e)

-- what is not taken out is still there
has_removed : {S : Type 0} (parts : List (Part S)) (k : ℕ) (p : Part S) (name : List ℕ) → slice_get parts k ≡ Some p → ¬ (name_of p ≡ name)
    → Has (λ (q : Part S). name_of q ≡ name) parts → Has (λ (q : Part S). name_of q ≡ name) (remove parts k)
has_removed [] k p name e other has = absurd has
has_removed (x ∷ xs) zero p name e other (inl here) = let same : x ≡ p = cc in absurd (other (ap name_of (sym same) ∙ here))
has_removed (x ∷ xs) zero p name e other (inr has) = has
has_removed (x ∷ xs) (suc k) p name e other (inl here) = inl here
has_removed (x ∷ xs) (suc k) p name e other (inr has) = inr (has_removed xs k p name e other has)

has_left_over : {S : Type 0} (parts : List (Part S)) (names : List (List ℕ)) (sinks : List (Sink S)) (left : List (Part S)) (name : List ℕ)
    → ¬ Has (λ n. n ≡ name) names → TakesOut parts names sinks left → Has (λ (q : Part S). name_of q ≡ name) parts
    → Has (λ (q : Part S). name_of q ≡ name) left
has_left_over {S} parts [] [] left name other t has = subst (λ (ps : List (Part S)). Has (λ (q : Part S). name_of q ≡ name) ps) (sym t) has
has_left_over parts [] (m ∷ ms) left name other t has = absurd t
has_left_over parts (n ∷ ns) [] left name other t has = absurd t
has_left_over parts (n ∷ ns) (m ∷ ms) left name other t has =
    has_left_over (remove parts t.0) ns ms left name (λ x. other (inr x)) t.5
    (has_removed parts t.0 t.1 name t.2 (λ e. other (inl (sym t.3 ∙ e))) has)

in_front : (names : List (List ℕ)) (i : ℕ) (name : List ℕ) → Has (λ n. n ≡ name) (take i names)
    → (j : ℕ) × (j < i) × (j < length names) × (get_or names j name ≡ name)
in_front [] zero name has = absurd has
in_front [] (suc i) name has = absurd has
in_front (n ∷ ns) zero name has = absurd has
in_front (n ∷ ns) (suc i) name (inl e) = (zero, omega arith, omega arith, e)
in_front (n ∷ ns) (suc i) name (inr has) =
    let r = in_front ns i name has in
    let low = r.1 in let within = r.2 in (suc r.0, omega (arith, low), omega (arith, within), r.3)

-- a name does not come again in front of its place
pub not_in_front : (names : List (List ℕ)) (i : ℕ) {name : List ℕ} → AllPairs (λ a b. ¬ (a ≡ b)) names → i < length names
    → get_or names i name ≡ name → ¬ Has (λ n. n ≡ name) (take i names)
not_in_front names i {name} apart within here x =
    let r = in_front names i name x in
    apart r.0 i name r.1 within (r.3 ∙ sym here)

pub still_there : {S : Type 0} (parts : List (Part S)) (names : List (List ℕ)) (sinks : List (Sink S)) (left : List (Part S)) (name : List ℕ)
    → ¬ Has (λ n. n ≡ name) names → TakesOut parts names sinks left → IsPartName parts name → IsPartName left name
still_there {S} parts names sinks left name other t has =
    has_any (λ (q : Part S). name_of q ≡ name) left
    (has_left_over parts names sinks left name other t (any_has (λ (q : Part S). name_of q ≡ name) parts has))

-- as many are taken out as names, and none is a fan where none of that name is
pub takes_long : {S : Type 0} (parts : List (Part S)) (names : List (List ℕ)) (sinks : List (Sink S)) (left : List (Part S))
    → TakesOut parts names sinks left → length sinks ≡ length names
takes_long parts [] [] left t = refl
takes_long parts [] (m ∷ ms) left t = absurd t
takes_long parts (n ∷ ns) [] left t = absurd t
takes_long parts (n ∷ ns) (m ∷ ms) left t = ap suc (takes_long (remove parts t.0) ns ms left t.5)

has_of_removed : {A : Type 0} (P : A → Type 0) (xs : List A) (k : ℕ) → Has P (remove xs k) → Has P xs
has_of_removed P [] zero h = h
has_of_removed P [] (suc k) h = h
has_of_removed P (x ∷ xs) zero h = inr h
has_of_removed P (x ∷ xs) (suc k) (inl p) = inl p
has_of_removed P (x ∷ xs) (suc k) (inr h) = inr (has_of_removed P xs k h)

taken_fan : {S : Type 0} (parts : List (Part S)) (names : List (List ℕ)) (sinks : List (Sink S)) (left : List (Part S))
    → TakesOut parts names sinks left → Has IsFan sinks
    → Has (λ name. Has (λ (p : Part S). (name_of p ≡ name) × IsFan p.sink) parts) names
taken_fan parts [] [] left t has = absurd has
taken_fan parts [] (m ∷ ms) left t has = absurd t
taken_fan parts (n ∷ ns) [] left t has = absurd t
taken_fan {S} parts (n ∷ ns) (m ∷ ms) left t (inl fan) =
    inl (has_got (λ (p : Part S). (name_of p ≡ n) × IsFan p.sink) parts t.0 t.1 t.2 (t.3, subst IsFan (sym t.4) fan))
taken_fan {S} parts (n ∷ ns) (m ∷ ms) left t (inr has) =
    inr (has_if (λ name. Has (λ (p : Part S). (name_of p ≡ name) × IsFan p.sink) (remove parts t.0))
    (λ name. Has (λ (p : Part S). (name_of p ≡ name) × IsFan p.sink) parts) ns
    (λ name h. has_of_removed (λ (p : Part S). (name_of p ≡ name) × IsFan p.sink) parts t.0 h)
    (taken_fan (remove parts t.0) ns ms left t.5 has))

pub taken_no_fan : {S : Type 0} (parts : List (Part S)) (names : List (List ℕ)) (sinks : List (Sink S)) (left : List (Part S))
    → TakesOut parts names sinks left → ¬ AnyBuiltFan parts names → ¬ Any IsFan sinks
taken_no_fan {S} parts names sinks left t none fan =
    let Q : List ℕ → Part S → Type 0 = λ name p. (name_of p ≡ name) × IsFan p.sink in
    none (has_any (λ name. Any (Q name) parts) names
    (has_if (λ name. Has (Q name) parts) (λ name. Any (Q name) parts) names (λ name h. has_any (Q name) parts h)
    (taken_fan parts names sinks left t (any_has IsFan sinks fan))))

-- a name that is taken among loggers is that of an earlier one
pub taken_earlier : {S : Type 0} (parts : List (Part S)) (ls : List LoggerConfig) (made : List Logger) (n : ℕ) (name : List ℕ)
    → EachIs (IsLoggerOf parts) ls made → name_at made n ≡ Some name → Has (λ (l : LoggerConfig). l.name ≡ name) ls
taken_earlier parts [] [] n name h e = absurd (cc e)
taken_earlier parts [] (m ∷ ms) n name h e = absurd h
taken_earlier parts (l ∷ ls) [] n name h e = absurd h
taken_earlier parts (l ∷ ls) (m ∷ ms) zero name h e = let same : m.name ≡ name = cc in inl (sym h.0.name ∙ same)
taken_earlier parts (l ∷ ls) (m ∷ ms) (suc n) name h e = inr (taken_earlier parts ls ms n name h.1 e)
