-- Loggers by number and by name: one logger more, and a name that is looked for.
use Rattle.std.proofs.Common.{◌≡◌, ◌≢◌, ◌↔◌, ◌⊎◌, ℕ, ◌<◌, zero, suc, List, [], ◌∷◌, ◌++◌, length, Option, Some, None}
use Rattle.std.proofs.Common.{refl, sym, ap, subst, ◌∙◌, inl, inr, arith, length-append, get_or, ◌+◌}
use Rattle.std.proofs.lemmas.Bool.{cases_lt}
use Rattle.std.proofs.lemmas.Option.{slice_get_read}
use Rattle.std.specs.Bool.{IsTrue}
use Rattle.std.specs.Option.{option_map, is_some}
use Rattle.alog_msg.specs.declared.level.Level.{Level}
use Rattle.alog_registry.specs.declared.TheConstants.{LOGGERS_MAX}
use Rattle.alog_registry.specs.declared.logger.Logger.{Logger}
use Rattle.alog_registry.specs.Listed.{name_at, IsTaken, AreApart, IsListing}
use Rattle.alog_registry.proofs.SharedListing.{named_within}

-- the name of a number at a list with one logger more: an earlier one, or the last
pub named_more : (ls : List Logger) (x : Logger) (n : ℕ) (name : List ℕ) → name_at (ls ++ x ∷ []) n ≡ Some name
    → (name_at ls n ≡ Some name) ⊎ ((n ≡ length ls) × (x.name ≡ name))
named_more [] x zero name e = inr (refl, cc)
named_more [] x (suc n) name e = absurd (cc e)
named_more (l ∷ ls) x zero name e = inl e
named_more (l ∷ ls) x (suc n) name e =
    elim (named_more ls x n name e) [
      | inl h ↦ inl h
      | inr h ↦ let s : suc n ≡ length (l ∷ ls) = ap suc h.0 in inr (s, h.1)
    ]

-- no name is taken twice by a logger whose name was free
pub apart_more : (ls : List Logger) (x : Logger) → AreApart ls → ¬ IsTaken ls x.name → AreApart (ls ++ x ∷ [])
apart_more ls x apart free m n name p q =
    elim (named_more ls x m name p) [
      | inl h ↦ elim (named_more ls x n name q) [
        | inl k ↦ apart m n name h k
        | inr k ↦ absurd (free (m, h ∙ ap (λ (t : List ℕ). Some t) (sym k.1)))
      ]
      | inr h ↦ elim (named_more ls x n name q) [
        | inl k ↦ absurd (free (n, k ∙ ap (λ (t : List ℕ). Some t) (sym h.1)))
        | inr k ↦ h.0 ∙ sym k.0
      ]
    ]

pub listing_more : (ls : List Logger) (levels : List Level) (x : Logger) (level : Level) → IsListing ls levels → ¬ IsTaken ls x.name
    → length ls < LOGGERS_MAX → IsListing (ls ++ x ∷ []) (levels ++ level ∷ [])
listing_more ls levels x level old free room = record {
  each = let e : length levels ≡ length ls = old.each in simp (length-append, length-append) (omega arith);
  few = simp length-append (omega arith);
  apart = apart_more ls x old.apart free;
}

-- a number that was found by a name is the one that has it
pub found : (ls : List Logger) (name : List ℕ) (i : ℕ) → AreApart ls → name_at ls i ≡ Some name
    → (n : ℕ) → (Some i ≡ Some n) ↔ (name_at ls n ≡ Some name)
found ls name i apart e n = (
  λ s. let j : i ≡ n = cc s in subst (λ k. name_at ls k ≡ Some name) j e,
  λ h. ap (λ (k : ℕ). Some k) (apart i n name e h),
)

pub missing : (ls : List Logger) (name : List ℕ) → ((k : ℕ) → k < length ls → name_at ls k ≢ Some name)
    → (n : ℕ) → (None ≡ Some n) ↔ (name_at ls n ≡ Some name)
missing ls name none n = (
  λ s. absurd (cc s),
  λ h. absurd (none n (named_within ls n name h) h),
)

-- the name of a logger that was read
pub name_read : (ls : List Logger) (i : ℕ) (x : Logger) → i < length ls → x ≡ get_or ls i x → name_at ls i ≡ Some x.name
name_read ls i x within is =
    ap (λ (o : Option Logger). option_map (λ (l : Logger). l.name) o) (slice_get_read ls (length ls) i x refl within is)

-- a name that stands at no number so far, and not at this one
pub none_further : (ls : List Logger) {name : List ℕ} (i : ℕ) (x : Logger) → ((k : ℕ) → k < i → name_at ls k ≢ Some name)
    → name_at ls i ≡ Some x.name → x.name ≢ name → (k : ℕ) → k < i + 1 → name_at ls k ≢ Some name
none_further ls {name} i x none at other k below e =
    elim (cases_lt k i) [
      | inr h ↦
          let same : k ≡ i = omega arith in
          let f : name_at ls i ≡ Some name = subst (λ n. name_at ls n ≡ Some name) same e in
          let g : Some x.name ≡ Some name = sym at ∙ f in
          let n : x.name ≡ name = cc g in
          other n
      | inl h ↦ none k h e
    ]

-- a name is taken exactly where its number was found
pub taken_if_found : (ls : List Logger) (name : List ℕ) (o : Option ℕ) → ((n : ℕ) → (o ≡ Some n) ↔ (name_at ls n ≡ Some name))
    → IsTrue (is_some o) ↔ IsTaken ls name
taken_if_found ls name None each = (λ t. absurd (cc t), λ (n, e). absurd (cc ((each n).1 e)))
taken_if_found ls name (Some k) each = (λ t. (k, (each k).0 refl), λ e. refl)
