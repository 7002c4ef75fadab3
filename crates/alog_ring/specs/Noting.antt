-- Which take's note is found in a history with one entry more.
use Rattle.std.proofs.Common.{◌≡◌, ◌≢◌, ℕ, ◌+◌, Option, None, Some, List, [], ◌∷◌, ◌++◌, refl, sym, ap, ◌∙◌, inl, inr}
use Rattle.alog_core.specs.Queue as queue
use Rattle.alog_core.specs.Queue.{Event, Claim, Write, Grab, Take, Full, Front, Empty, PushBusy, PopBusy, Spent}
use Rattle.alog_core.specs.History.{Entry}
use Rattle.alog_core.proofs.SharedCells.{at_same, at_other}
use Rattle.alog_ring.specs.Spares.{or_else, note_at, note_of, IsSpare}

or_none : {N : Type 0} (o : Option N) → or_else o None ≡ o
or_none None = refl
or_none (Some x) = refl

or_assoc : {N : Type 0} (a b c : Option N) → or_else (or_else a b) c ≡ or_else a (or_else b c)
or_assoc None b c = refl
or_assoc (Some x) b c = refl

module _ {T N : Type 0} where
  -- the note after one entry more
  note_behind : (u : ℕ) (h : List (Entry T N)) (x : Entry T N)
      → note_of u (h ++ x ∷ []) ≡ or_else (note_at u x.event x.note) (note_of u h)
  note_behind u [] x = sym (or_none (note_at u x.event x.note))
  note_behind u (w ∷ h) x =
      ap (λ (o : Option N). or_else o (note_at u w.event w.note)) (note_behind u h x)
      ∙ or_assoc (note_at u x.event x.note) (note_of u h) (note_at u w.event w.note)

  note_here : (u : ℕ) (e : Event T) (note : N) (y : T) → e ≡ Take u y → note_at u e note ≡ Some note
  note_here u e note y is = ap (λ (z : Event T). note_at u z note) is ∙ at_same u u (Some note) None refl

  note_elsewhere : (u : ℕ) (e : Event T) (note : N) → ((y : T) → e ≢ Take u y) → note_at u e note ≡ None
  note_elsewhere u (Take t y) note none =
      at_other t u (Some note) None (λ same. none y (ap (λ (z : ℕ). Take z y) same))
  note_elsewhere u (Claim t y) note none = refl
  note_elsewhere u (Write t) note none = refl
  note_elsewhere u (Grab t) note none = refl
  note_elsewhere u (Full t) note none = refl
  note_elsewhere u (Front t) note none = refl
  note_elsewhere u (Empty t) note none = refl
  note_elsewhere u (queue.Idle t) note none = refl
  note_elsewhere u (PushBusy t) note none = refl
  note_elsewhere u (PopBusy t) note none = refl
  note_elsewhere u Spent note none = refl

module _ {T B : Type 0} (firsts : List B) (n : ℕ) (h : List (Entry T (Option B))) (x : Entry T (Option B)) where
  pub spare_stays : (t : ℕ) → ((u : ℕ) (y : T) → x.event ≡ Take u y → u + n ≢ t) → (z : B) → IsSpare firsts n h t z
      → IsSpare firsts n (h ++ x ∷ []) t z
  spare_stays t apart z (inl by) =
      let none : note_at by.0 x.event x.note ≡ None = note_elsewhere by.0 x.event x.note (λ y is. apart by.0 y is by.1) in
      inl (by.0, by.1, note_behind by.0 h x ∙ ap (λ (o : Option (Option B)). or_else o (note_of by.0 h)) none ∙ by.2)
  spare_stays t apart z (inr by) =
      inr (
        (λ u e. note_behind u h x
            ∙ ap (λ (o : Option (Option B)). or_else o (note_of u h)) (note_elsewhere u x.event x.note (λ y is. apart u y is e)) ∙ by.0 u e),
        by.1,
      )

  pub spare_comes : (u : ℕ) (y : T) → x.event ≡ Take u y → (z : B) → x.note ≡ Some z → IsSpare firsts n (h ++ x ∷ []) (u + n) z
  spare_comes u y is z brought =
      inl (
        u,
        refl,
        note_behind u h x
            ∙ ap (λ (o : Option (Option B)). or_else o (note_of u h)) (note_here u x.event x.note y is)
            ∙ ap Some brought,
      )
