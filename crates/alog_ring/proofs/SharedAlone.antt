-- A pass that is alone from the first on: the history is its own entries, so a first push goes through.
use Rattle.std.proofs.Common.{◌≡◌, ℕ, ◌<◌, ◌≤◌, ◌⊎◌, ◌==◌, cond, Bool, true, false, List, [], ◌∷◌, map, refl, sym, ap, subst, ◌∙◌}
use Rattle.std.proofs.Common.{inl, inr, arith}
use Rattle.std.specs.List.{AllByRecursion}
use Rattle.std.proofs.lemmas.Bool.Decides.{leb_tells}
use Rattle.alog_core.specs.Queue.{Cell, last, start}
use Rattle.alog_core.specs.History.{Entry, IsLegalFrom, IsLegal, left_by, own_of}
use Rattle.alog_core.specs.declared.mark.Mark.TheVariants.{Claimed, Written}
use Rattle.alog_core.proofs.SharedCells.{at_same}
use Rattle.alog_ring.specs.Known.{Member, Known, IsAmong, first_known}
use Rattle.alog_ring.specs.Kinds.{no_note}
use Rattle.alog_ring.specs.Made.{Made}
use Rattle.alog_ring.specs.Calls.{Pushed}
use Rattle.alog_ring.specs.Refused.{PushRefused}
use Rattle.alog_ring.specs.Share.{IsWhole, ticket_and_item, Closes}
use Rattle.alog_ring.specs.declared.push.PushError.{PushError}
use Rattle.alog_ring.specs.declared.push.PushError.TheVariants.{Full, Busy, Spent}

pub below_last : (size : Bool) (f : ℕ) → (size ≡ false → ⊥) → ((size ≡ true) × (last ≤ f) → ⊥) → f < last
below_last false f sized within = absurd (sized refl)
below_last true f sized within = elim (leb_tells last f) [ inl le ↦ absurd (within (refl, le.1)) | inr lt ↦ lt.1 ]

module _ {T : Type 0} where
  all_own : (a : ℕ) (h : List (Entry T no_note)) → AllByRecursion (λ (x : Entry T no_note). (x.actor ≡ a) ⊎ ⊥) h
      → own_of a h ≡ h
  all_own a [] all = refl
  all_own a (x ∷ h) all =
      elim all.0 [
        | inl same ↦ at_same x.actor a (x ∷ own_of a h) (own_of a h) same
            ∙ ap (λ (l : List (Entry T no_note)). x ∷ l) (all_own a h all.1)
        | inr never ↦ absurd never
      ]

  -- the whole history is what the lone pass made, and legal
  module _ (n f : ℕ) (k : Known T no_note) (made : List (Entry T no_note)) (did : Made (first_known n f) k made)
      (whole : IsWhole k) where
    pub seen_alone : k.seen ≡ made
    seen_alone =
        let P : List (Member T no_note) → Type 0 =
        λ l. AllByRecursion (λ (x : Entry T no_note). (x.actor ≡ k.actor) ⊎ IsAmong x.actor l) k.seen
        in sym (all_own k.actor k.seen (subst P did.joined whole.actors)) ∙ sym whole.faithful.own ∙ did.own

    pub legal_alone : IsLegalFrom n (start f) made
    legal_alone =
        let N : ℕ → Type 0 = λ z. IsLegal z k.first k.seen
        in let F : ℕ → Type 0 = λ z. IsLegal n z k.seen
        in let S : List (Entry T no_note) → Type 0 = λ l. IsLegal n f l
        in (subst S seen_alone (subst F did.first (subst N did.places whole.faithful.legal))).0

  pub refused_alone : (n f : ℕ) (k : Known T no_note) (value : T) (e : PushError T) → f < last
      → PushRefused (first_known n f) k value e → IsWhole k → ⊥
  refused_alone n f k value (Full back next) below refused whole =
      let legal = legal_alone n f k _ refused.2.0 whole
      in let found = legal.0.1.2.1
      in cc
  refused_alone n f k value (Busy back seen) below refused whole =
      let legal = legal_alone n f k _ refused.2.0 whole
      in omega (arith, legal.0, refused.1)
  refused_alone n f k value (Spent back) below refused whole =
      let legal = legal_alone n f k _ refused.1.0 whole
      in omega (arith, legal.0)

  pub pushed_alone : (n f t : ℕ) (k : Known T no_note) (x : T) (left : List (ℕ × T)) → Pushed (first_known n f) k t x
      → Closes k left → left ≡ (f, x) ∷ []
  pushed_alone n f t k x left pushed closes =
      let legal = legal_alone n f k _ pushed.0 closes.whole
      in let first : t ≡ f = legal.0.0
      in let claimed : Cell T = record { ticket = t; mark = Claimed; item = x; actor = 0 }
      in let written : Cell T = record { ticket = t; mark = Written; item = x; actor = 0 }
      in let one : cond (t == t) (written ∷ []) (claimed ∷ []) ≡ written ∷ [] =
      at_same t t (written ∷ []) (claimed ∷ []) refl
      in closes.cells
      ∙ (λ i. map ticket_and_item (left_by (start (pushed.0.first i)) (seen_alone n f k _ pushed.0 closes.whole i)).cells)
      ∙ ap (map ticket_and_item) one ∙ (λ i. (first i, x) ∷ [])
