-- A desk stays one pool's as parts come and go.
use Rattle.std.proofs.Common.{◌≡◌, inl, inr, ℕ, zero, suc, List, [], ◌∷◌, ◌++◌, slice_set, refl, sym, subst, ◌∙◌, Some, None}
use Rattle.std.specs.List.{AllByRecursion}
use Rattle.alog_hosted.specs.Lent.{HostedView}
use Rattle.alog_owned.specs.Desk.{IsDesk, IsItemOf, Item, Knows, Whose}
use mathlib.Core.Option as maybe
use lib.ListN.{get_elem?}

module _ {X : Type 0} where
  abbrev IsThere : maybe.Option X → Type 0
  IsThere maybe.none = ⊥
  IsThere (maybe.some x) = Unit {0}

module _ {X : Type 0} (P : X → Type 0) where
  abbrev Has : maybe.Option X → Type 0
  Has maybe.none = Unit {0}
  Has (maybe.some x) = P x

  each : (xs : List X) (n : ℕ) → AllByRecursion P xs → Has (get_elem? xs n)
  each [] n all = tt
  each (y ∷ ys) zero all = all.0
  each (y ∷ ys) (suc n) all = each ys n all.1

  at : (xs : List X) (n : ℕ) (x : X) → AllByRecursion P xs → get_elem? xs n ≡ maybe.some x → P x
  at xs n x all e = subst Has e (each xs n all)

  all_set : (xs : List X) (n : ℕ) (x : X) → AllByRecursion P xs → P x → AllByRecursion P (slice_set xs n x)
  all_set [] n x all p = tt
  all_set (y ∷ ys) zero x all p = (p, all.1)
  all_set (y ∷ ys) (suc n) x all p = (all.0, all_set ys n x all.1 p)

  all_and : (xs : List X) (x : X) → AllByRecursion P xs → P x → AllByRecursion P (xs ++ x ∷ [])
  all_and [] x all p = (p, tt)
  all_and (y ∷ ys) x all p = (all.0, all_and ys x all.1 p)

module _ {S : Type 0} where
  -- who knows it of two pools knows it of one
  one : (h k : HostedView S) (v : Whose S) → Knows h v → Knows k v → h ≡ k
  one h k None a b = absurd a
  one h k (Some s) a b = sym a ∙ b

  nobody : (h : HostedView S) (v : Whose S) → v ≡ None → Knows h v → ⊥
  nobody h v e knows = subst (Knows h) e knows

  -- whoever knows something is not on a new desk
  known : (items : List (Item S)) (views : List (Whose S)) (n : ℕ) (h : HostedView S) (v : Whose S) → IsDesk items views
      → get_elem? views n ≡ maybe.some v → Knows h v → AllByRecursion (IsItemOf h) items × AllByRecursion (Knows h) views
  known items views n h v (inl new) e knows = absurd (nobody h v (at (λ (u : Whose S). u ≡ None) views n v (subst (AllByRecursion (λ (u : Whose S). u ≡ None)) (sym new.1) (refl, tt)) e) knows)
  known items views n h v (inr d) e knows =
      subst (λ k. AllByRecursion (IsItemOf k) items × AllByRecursion (Knows k) views) (one d.0 h v (at (Knows d.0) views n v d.2 e) knows) (d.1, d.2)

  pub lays : (h : HostedView S) (v : Whose S) (x : Item S) → Knows h v → x.value.hosted.value ≡ h → (n : ℕ) (items : List (Item S)) (views : List (Whose S))
      → IsDesk items views → get_elem? views n ≡ maybe.some v → (w : Whose S) × IsDesk (items ++ x ∷ []) (slice_set views n w) × Knows x.value.hosted.value w
  lays h v x knows of n items views desk e =
      let d = known items views n h v desk e knows in (
        Some x.value.hosted,
        inr (h, all_and (IsItemOf h) items x d.0 of, all_set (Knows h) views n (Some x.value.hosted) d.1 of),
        refl,
      )

  -- the seed is all that lies on a new desk, and its one pass knows whose it is then
  abbrev unknown : List (Whose S)
  unknown = None ∷ []

  sown : (x : Item S) (n : ℕ) → get_elem? unknown n ≡ maybe.some None → IsDesk (x ∷ []) (slice_set unknown n (Some x.value.hosted))
  sown x zero e = inr (x.value.hosted.value, (refl, tt), (refl, tt))
  sown x (suc n) e = absurd (subst IsThere (sym e) tt)

  pub seeds : (x : Item S) (n : ℕ) (items : List (Item S)) (views : List (Whose S)) → IsDesk items views → get_elem? views n ≡ maybe.some None
      → (w : Whose S) × IsDesk (items ++ x ∷ []) (slice_set views n w) × Knows x.value.hosted.value w
  seeds x n items views (inr d) e = absurd (at (Knows d.0) views n None d.2 e)
  seeds x n items views (inl new) e = (
    Some x.value.hosted,
    subst (λ (is : List (Item S)). IsDesk (is ++ x ∷ []) (slice_set views n (Some x.value.hosted))) (sym new.0)
        (subst (λ (vs : List (Whose S)). IsDesk (x ∷ []) (slice_set vs n (Some x.value.hosted))) (sym new.1)
        (sown x n (subst (λ (vs : List (Whose S)). get_elem? vs n ≡ maybe.some None) new.1 e))),
    refl,
  )

  pub goes : (h : HostedView S) (v : Whose S) → Knows h v → (n : ℕ) (x : Item S) (items : List (Item S)) (views : List (Whose S))
      → IsDesk (x ∷ items) views → get_elem? views n ≡ maybe.some v
      → (w : Whose S) × IsDesk items (slice_set views n w) × ((w ≡ v) × Knows x.value.hosted.value v)
  goes h v knows n x items views desk e =
      let d = known (x ∷ items) views n h v desk e knows in (
        v,
        inr (h, d.0.1, all_set (Knows h) views n v d.1 knows),
        (refl, subst (λ (k : HostedView S). Knows k v) (sym d.0.0) knows),
      )

  pub forks : (h : HostedView S) (v : Whose S) → Knows h v → (n : ℕ) (items : List (Item S)) (views : List (Whose S)) → IsDesk items views
      → get_elem? views n ≡ maybe.some v → IsDesk items (slice_set views n v ++ v ∷ [])
  forks h v knows n items views desk e =
      let d = known items views n h v desk e knows in
      inr (h, d.0, all_and (Knows h) (slice_set views n v) v (all_set (Knows h) views n v d.1 knows) knows)
