-- One text in lists of turns that were merged, and one item in lists of items.
use Rattle.std.proofs.Common.{◌≡◌, ◌⊎◌, ℕ, ◌+◌, List, [], ◌∷◌, map, Contains, refl, sym, ap, subst, ◌∙◌, inl, inr, arith}
use Rattle.std.specs.List.{AllByRecursion, sum_by}
use Rattle.std.proofs.lemmas.List.Elements.{Contains-append_cases}
use Rattle.std.proofs.lemmas.List.Sums.{sum_by-cons}
use Rattle.alog_core.specs.Accounts.{weigh}
use Rattle.alog_msg.specs.declared.item.Item.{Item}
use Rattle.alog_msg.specs.declared.item.Item.TheVariants.{Flush, Stop, Text}
use Rattle.alog_msg.specs.declared.message.Message.{Message}
use Rattle.alog_pool.specs.OneWorker.{texts_in}
use Rattle.alog_pool.specs.Posted.{works_in}
use Rattle.alog_pool.specs.Workers.{IsMerged, IsNext, together}
use Rattle.alog_sink.specs.LaneRuns.{with_text}
use Rattle.test_laws.proofs.Claims.{Given, alone_is}

-- of these lists none has a text; or one has one, which is this message's
abbrev pub HaveNone : List (List Given) → Type 0
HaveNone rows = AllByRecursion (λ (row : List Given). texts_in row ≡ []) rows

abbrev pub HaveOne : Message → List (List Given) → Type 0
HaveOne m [] = ⊥
HaveOne m (row ∷ rows) = ((texts_in row ≡ m ∷ []) × HaveNone rows) ⊎ ((texts_in row ≡ []) × HaveOne m rows)

silent : (x : Item) (ms : List Message) → with_text x [] ≡ [] → with_text x ms ≡ ms
silent (Text m) ms e = absurd (cc e)
silent (Flush k) ms e = refl
silent Stop ms e = refl

split_none : (x : Item) (ms : List Message) → with_text x ms ≡ [] → (with_text x [] ≡ []) × (ms ≡ [])
split_none (Text m) ms e = absurd (cc e)
split_none (Flush k) ms e = (refl, e)
split_none Stop ms e = (refl, e)

split_one : (m : Message) (x : Item) (ms : List Message) → with_text x ms ≡ m ∷ []
    → ((with_text x [] ≡ m ∷ []) × (ms ≡ [])) ⊎ ((with_text x [] ≡ []) × (ms ≡ m ∷ []))
split_one m (Text k) ms e =
    let same : k ≡ m = cc in
    let rest : ms ≡ [] = cc in inl ((λ i. same i ∷ []), rest)
split_one m (Flush k) ms e = inr (refl, e)
split_one m Stop ms e = inr (refl, e)

-- where the first of one of them was
none_next : (x : Given) (rows rests : List (List Given)) → IsNext x rows rests → HaveNone rows → (with_text x.1 [] ≡ []) × HaveNone rests
none_next x [] [] is none = absurd is
none_next x [] (rest ∷ rests) is none = absurd is
none_next x (row ∷ rows) [] is none = absurd is
none_next x (row ∷ rows) (rest ∷ rests) (inl is) none =
    let split = split_none x.1 (texts_in rest) (ap (λ (l : List Given). texts_in l) (sym is.0) ∙ none.0) in
    (split.0, (split.1, subst (λ (ls : List (List Given)). HaveNone ls) is.1 none.1))
none_next x (row ∷ rows) (rest ∷ rests) (inr is) none =
    let more = none_next x rows rests is.1 none.1 in
    (more.0, (subst (λ (l : List Given). texts_in l ≡ []) is.0 none.0, more.1))

one_next : (m : Message) (x : Given) (rows rests : List (List Given)) → IsNext x rows rests → HaveOne m rows
    → ((with_text x.1 [] ≡ m ∷ []) × HaveNone rests) ⊎ ((with_text x.1 [] ≡ []) × HaveOne m rests)
one_next m x [] [] is one = absurd is
one_next m x [] (rest ∷ rests) is one = absurd is
one_next m x (row ∷ rows) [] is one = absurd is
one_next m x (row ∷ rows) (rest ∷ rests) (inl is) (inl one) =
    let others = subst (λ (ls : List (List Given)). HaveNone ls) is.1 one.1 in
    elim (split_one m x.1 (texts_in rest) (ap (λ (l : List Given). texts_in l) (sym is.0) ∙ one.0)) [
      | inl now ↦ inl (now.0, (now.1, others))
      | inr later ↦ inr (later.0, inl (later.1, others))
    ]
one_next m x (row ∷ rows) (rest ∷ rests) (inl is) (inr one) =
    let split = split_none x.1 (texts_in rest) (ap (λ (l : List Given). texts_in l) (sym is.0) ∙ one.0) in
    inr (split.0, inr (split.1, subst (λ (ls : List (List Given)). HaveOne m ls) is.1 one.1))
one_next m x (row ∷ rows) (rest ∷ rests) (inr is) (inl one) =
    let more = none_next x rows rests is.1 one.1 in
    inr (more.0, inl (subst (λ (l : List Given). texts_in l ≡ m ∷ []) is.0 one.0, more.1))
one_next m x (row ∷ rows) (rest ∷ rests) (inr is) (inr one) =
    let here = subst (λ (l : List Given). texts_in l ≡ []) is.0 one.0 in
    elim (one_next m x rows rests is.1 one.1) [
      | inl now ↦ inl (now.0, (here, now.1))
      | inr later ↦ inr (later.0, inr (here, later.1))
    ]

merged_none : (turns : List Given) (rows : List (List Given)) → IsMerged turns rows → HaveNone rows → texts_in turns ≡ []
merged_none [] rows is none = refl
merged_none (x ∷ turns) rows is none =
    let next = none_next x rows is.0 is.1 none in
    ap (λ (ms : List Message). with_text x.1 ms) (merged_none turns is.0 is.2 next.1) ∙ next.0

never_one : (m : Message) (rows : List (List Given)) → AllByRecursion (λ (row : List Given). row ≡ []) rows → ¬ HaveOne m rows
never_one m [] none one = one
never_one m (row ∷ rows) none (inl one) =
    let bad = ap (λ (l : List Given). texts_in l) (sym none.0) ∙ one.0 in absurd (cc bad)
never_one m (row ∷ rows) none (inr one) = never_one m rows none.1 one.1

-- where one of the lists has one text, they have it when they are merged
pub merged_one : (m : Message) (turns : List Given) (rows : List (List Given)) → IsMerged turns rows → HaveOne m rows → texts_in turns ≡ m ∷ []
merged_one m [] rows is one = absurd (never_one m rows is one)
merged_one m (x ∷ turns) rows is one =
    elim (one_next m x rows is.0 is.1 one) [
      | inl now ↦ ap (λ (ms : List Message). with_text x.1 ms) (merged_none turns is.0 is.2 now.1) ∙ now.0
      | inr later ↦
          ap (λ (ms : List Message). with_text x.1 ms) (merged_one m turns is.0 is.2 later.1) ∙ silent x.1 (m ∷ []) later.0
    ]

-- One of these lists has this item alone, and the others are empty.
abbrev pub IsAlone : Given → List (List Given) → Type 0
IsAlone i [] = ⊥
IsAlone i (row ∷ rows) = ((row ≡ i ∷ []) × AllByRecursion (λ (l : List Given). l ≡ []) rows) ⊎ ((row ≡ []) × IsAlone i rows)

abbrev pub count : List (List Given) → ℕ
count rows = sum_by (λ (l : List Given). weigh (λ t x. 1) l) rows

counted : (row : List Given) (rows : List (List Given)) → count (row ∷ rows) ≡ weigh (λ t x. 1) row + count rows
counted row rows = sum_by-cons (λ (l : List Given). weigh (λ t x. 1) l) row rows

all_empty : (rows : List (List Given)) → count rows ≡ 0 → AllByRecursion (λ (l : List Given). l ≡ []) rows
all_empty [] none = tt
all_empty ([] ∷ rows) none = (refl, all_empty rows (omega (arith, none, counted [] rows)))
all_empty ((j ∷ row) ∷ rows) none = absurd (omega (arith, none, counted (j ∷ row) rows))

nothing_in : (rows : List (List Given)) (i : Given) → AllByRecursion (λ (l : List Given). l ≡ []) rows
    → ¬ Contains (together (map works_in rows)) i
nothing_in [] i none c = omega (arith, c.1)
nothing_in (row ∷ rows) i none c =
    nothing_in rows i none.1 (subst (λ (l : List Given). Contains (together (map works_in (l ∷ rows))) i) none.0 c)

work_is : (j i : Given) → Contains (works_in (j ∷ [])) i → j ≡ i
work_is (u, Text m) i c = alone_is i (u, Text m) c
work_is (u, Flush k) i c = alone_is i (u, Flush k) c
work_is (u, Stop) i c = absurd (omega (arith, c.1))

-- lists of one member in all, which this is
pub alone_in : (i : Given) (rows : List (List Given)) → Contains (together (map works_in rows)) i → count rows ≡ 1 → IsAlone i rows
alone_in i [] at one = absurd (omega (arith, at.1))
alone_in i ([] ∷ rows) at one = inr (refl, alone_in i rows at (omega (arith, one, counted [] rows)))
alone_in i ((j ∷ []) ∷ rows) at one =
    let none = all_empty rows (omega (arith, one, counted (j ∷ []) rows)) in
    elim (Contains-append_cases (works_in (j ∷ [])) (together (map works_in rows)) i at) [
      | inl here ↦ inl ((let same = work_is j i here in λ k. same k ∷ []), none)
      | inr there ↦ absurd (nothing_in rows i none there)
    ]
alone_in i ((j ∷ k ∷ row) ∷ rows) at one = absurd (omega (arith, one, counted (j ∷ k ∷ row) rows))
