-- What a worker that tells gaps writes of what one producer put in.
use Rattle.std.proofs.Common.{◌≡◌, ◌<◌, ◌≤◌, ◌+◌, ◌-◌, ℕ, zero, suc, Option, None, Some, List, [], ◌∷◌, ◌++◌, length, Contains}
use Rattle.std.proofs.Common.{refl, sym, ap, subst, ◌∙◌, append_assoc, append-nil, inl, inr, arith}
use Rattle.std.specs.Prelude.{◌↔◌}
use Rattle.std.specs.List.{AllByRecursion}
use Rattle.std.proofs.lemmas.List.{length-append}
use Rattle.alog_core.specs.Queue.{last}
use Rattle.alog_msg.specs.declared.item.Item.{Item}
use Rattle.alog_msg.specs.declared.item.Item.TheVariants.{Flush, Stop, Text}
use Rattle.alog_msg.specs.declared.level.Level.{Level}
use Rattle.alog_msg.specs.declared.level.Level.TheVariants.{Warning}
use Rattle.alog_msg.specs.declared.message.Message.{Message}
use Rattle.alog_pool.specs.Gaps.{gap_at, gap_of, gap_text, next_after, ticket_behind, with_gaps}
use Rattle.alog_pool.specs.OneWorker.{texts_in}
use Rattle.alog_pool.specs.Posted.{tickets_of}
use Rattle.alog_pool.specs.Report.{IsRising}
use Rattle.alog_ring.proofs.SharedLists.{each_append}
use Rattle.test_laws.specs.Stretches.{Stretch, Kept, Below, Told, Hidden, SaysMissing, Tells, TellsLost}
use Rattle.test_laws.proofs.Claims.{Given, Leaves, at_cases, later_at}
use Rattle.test_laws.proofs.Dues.{IsFor, texts_more}

-- A text of this logger, by a pool's first thread.
abbrev pub IsFirsts : ℕ → Item → Type 0
IsFirsts logger (Text m) = (m.logger ≡ logger) × (m.thread ≡ 0)
IsFirsts logger (Flush k) = ⊥
IsFirsts logger Stop = ⊥

-- what is written of gaps is of the same logger
gap_for : (logger next t : ℕ) (m : Message) → m.logger ≡ logger → (n : ℕ) → AllByRecursion (λ (i : Given). IsFor logger i.1) (gap_of n t m)
gap_for logger next t m is zero = tt
gap_for logger next t m is (suc n) = (is, tt)

gaps_for_one : (logger : ℕ) (next : Option ℕ) (i : Given) → IsFor logger i.1
    → AllByRecursion (λ (j : Given). IsFor logger j.1) (gap_at next i.0 i.1)
gaps_for_one logger None i is = tt
gaps_for_one logger (Some next) (t, Text m) is = gap_for logger next t m is (t - next)
gaps_for_one logger (Some next) (t, Flush k) is = tt
gaps_for_one logger (Some next) (t, Stop) is = tt

pub gaps_for : (logger : ℕ) (next : Option ℕ) (items : List Given) → AllByRecursion (λ (i : Given). IsFor logger i.1) items
    → AllByRecursion (λ (i : Given). IsFor logger i.1) (with_gaps next items)
gaps_for logger next [] all = tt
gaps_for logger next (i ∷ items) all =
    each_append (λ (j : Given). IsFor logger j.1) (gap_at next i.0 i.1) (i ∷ with_gaps (next_after next i.0 i.1) items)
    (gaps_for_one logger next i all.0) (all.0, gaps_for logger (next_after next i.0 i.1) items all.1)

-- Tickets that follow each other, from this one on.
abbrev pub IsRow : ℕ → List Given → Type 0
IsRow next [] = Unit {0}
IsRow next (i ∷ items) = (i.0 ≡ next) × (next < last) × IsRow (next + 1) items

above : (u t : ℕ) (us : List ℕ) → AllByRecursion (λ (v : ℕ). u < v) us → Contains us t → u < t
above u t [] all c = absurd (omega (arith, c.1))
above u t (v ∷ us) all c =
    elim (at_cases t v us c) [
      | inl same ↦ let up = all.0 in omega (arith, up, same)
      | inr later ↦ above u t us all.1 later
    ]

-- rising tickets that are all those from one on up to an end
pub row_of : (a e : ℕ) (items : List Given) → IsRising (tickets_of items) → (a < e → e ≤ last)
    → ((t : ℕ) → Contains (tickets_of items) t ↔ ((a ≤ t) × (t < e))) → IsRow a items
row_of a e [] rise few each = tt
row_of a e (i ∷ items) rise few each =
    let us = tickets_of items in
    let high = (each i.0).0 (0, omega arith, refl) in
    let first : i.0 ≡ a =
    elim (at_cases a i.0 us ((each a).1 (omega arith, omega (arith, high.0, high.1)))) [
      | inl same ↦ same
      | inr later ↦ let up = above i.0 a us rise.0 later in absurd (omega (arith, up, high.0))
    ] in
    let end : e ≤ last = few (omega (arith, high.0, high.1)) in (
      first,
      omega (arith, high.0, high.1, end),
      row_of (a + 1) e items rise.1 (λ _. end) (λ t. (
        (λ c.
            let up = above i.0 t us rise.0 c in
            let low = (each t).0 (later_at t i.0 us c) in (omega (arith, up, first), low.1)),
        (λ within.
            elim (at_cases t i.0 us ((each t).1 (omega (arith, within.0), within.1))) [
              | inl same ↦ absurd (omega (arith, same, first, within.0))
              | inr later ↦ later
            ]),
      )),
    )

-- what is behind a list of these is behind the list
leaves_less : (xs ys : List Given) → Leaves xs ys → length ys ≤ length xs
leaves_less [] [] left = omega arith
leaves_less [] (y ∷ ys) left = absurd left
leaves_less (x ∷ xs) ys (inl left) = let less = leaves_less xs ys left in omega (arith, less)
leaves_less (x ∷ xs) ys (inr left) =
    let same : length ys ≡ suc (length left.0) = ap (λ (zs : List Given). length zs) left.1 in
    let less = leaves_less xs left.0 left.2 in omega (arith, same, less)

-- the message that says in front of this one that so many are missing
abbrev gap_message : ℕ → Message → Message
gap_message n m = record { logger = m.logger; level = Warning; time = m.time; thread = m.thread; text = gap_text n; source = None }

module _ (logger : ℕ) where
  says : (n : ℕ) (m : Message) → m.logger ≡ logger → m.thread ≡ 0 → SaysMissing logger n (gap_message n m)
  says n m is first = (
    m.time,
    λ i. record { logger = is i; level = Warning; time = m.time; thread = first i; text = gap_text n; source = None },
  )

  -- as many texts as items
  pub texts_length : (items : List Given) → AllByRecursion (λ (i : Given). IsFirsts logger i.1) items
      → length (texts_in items) ≡ length items
  texts_length [] all = refl
  texts_length ((t, Text m) ∷ items) all = let rest = texts_length items all.1 in omega (arith, rest)
  texts_length ((t, Flush k) ∷ items) all = absurd all.0
  texts_length ((t, Stop) ∷ items) all = absurd all.0

  -- a text before which so many are missing
  told_text : (next t k : ℕ) (m : Message) (items : List Given) → t - next ≡ k → t < last
      → texts_in (gap_of k t m ++ (t, Text m) ∷ with_gaps (Some (t + 1)) items) ≡ texts_in (with_gaps (Some next) ((t, Text m) ∷ items))
  told_text next t k m items missing low =
      let behind : ticket_behind t ≡ t + 1 = omega (arith, low) in
      λ i. texts_in (gap_of (sym missing i) t m ++ (t, Text m) ∷ with_gaps (Some (sym behind i)) items)

  -- where none is missing nothing is told
  pub none_missing : (next : ℕ) (items : List Given) → IsRow next items → AllByRecursion (λ (i : Given). IsFirsts logger i.1) items
      → with_gaps (Some next) items ≡ items
  none_missing next [] row all = refl
  none_missing next ((t, Text m) ∷ items) row all =
      let missing : t - next ≡ 0 = omega (arith, row.0) in
      let behind : ticket_behind t ≡ next + 1 = omega (arith, row.0, row.1) in
      (λ i. gap_of (missing i) t m ++ (t, Text m) ∷ with_gaps (Some (behind i)) items)
      ∙ ap (λ (l : List Given). (t, Text m) ∷ l) (none_missing (next + 1) items row.2 all.1)
  none_missing next ((t, Flush k) ∷ items) row all = absurd all.0
  none_missing next ((t, Stop) ∷ items) row all = absurd all.0

  pub all_kept : (ms : List Message) → TellsLost logger ms ms 0
  all_kept [] = refl
  all_kept (m ∷ ms) = inl (ms, refl, all_kept ms)

  abbrev AreFirsts : List Given → Type 0
  AreFirsts items = AllByRecursion (λ (i : Given). IsFirsts logger i.1) items

  -- a text that is there, behind those that are missing
  there : (t : ℕ) (m : Message) (lost rest : List Given) (told : List Message) (others n : ℕ) → m.logger ≡ logger → m.thread ≡ 0
      → AreFirsts lost → length lost + others ≡ n → TellsLost logger (texts_in rest) told others
      → TellsLost logger (texts_in (lost ++ (t, Text m) ∷ rest)) (texts_in (gap_of (length lost) t m) ++ m ∷ told) n
  there t m [] rest told others n is first all sum then =
      inl (texts_in rest, refl, subst (λ k. TellsLost logger (texts_in rest) told k) (let e : others ≡ n = omega (arith, sum) in e) then)
  there t m (l ∷ ls) rest told others n is first all sum then =
      let lost : List Given = l ∷ ls in
      let many : length (texts_in lost) ≡ length lost = texts_length lost all in
      inr (
        texts_in lost,
        texts_in ((t, Text m) ∷ rest),
        others,
        texts_more lost ((t, Text m) ∷ rest),
        omega (arith, many),
        subst (λ k. SaysMissing logger k (gap_message (length lost) m)) (sym many) (says (length lost) m is first),
        inl (texts_in rest, refl, then),
        omega (arith, many, sum),
      )

  tells : (next : ℕ) (lost put items : List Given) (n : ℕ) → Leaves put items → IsRow (next + length lost) put → AreFirsts put → AreFirsts lost
      → length items + n ≡ length lost + length put
      → TellsLost logger (texts_in (lost ++ put)) (texts_in (with_gaps (Some next) items)) n
  tells next lost [] [] n left row own all sum =
      let many = texts_length lost all in
      subst (λ (l : List Given). length (texts_in l) ≡ n) (sym (append-nil lost)) (omega (arith, many, sum))
  tells next lost [] (i ∷ items) n left row own all sum = absurd left
  tells next lost (p ∷ put) items n (inl left) row own all sum =
      let longer : length (lost ++ p ∷ []) ≡ length lost + 1 = length-append lost (p ∷ []) in
      let from : next + length lost + 1 ≡ next + length (lost ++ p ∷ []) = omega (arith, longer) in
      subst (λ (l : List Given). TellsLost logger (texts_in l) (texts_in (with_gaps (Some next) items)) n) (append_assoc lost (p ∷ []) put)
      (tells next (lost ++ p ∷ []) put items n left (subst (λ t. IsRow t put) from row.2) own.1
      (each_append (λ (i : Given). IsFirsts logger i.1) lost (p ∷ []) all (own.0, tt)) (omega (arith, longer, sum)))
  tells next lost ((t, Text m) ∷ put) items n (inr left) row own all sum =
      let rest : List Given = left.0 in
      let many : length items ≡ suc (length rest) = ap (λ (l : List Given). length l) left.1 in
      let less = leaves_less put rest left.2 in
      let missing : t - next ≡ length lost = omega (arith, row.0) in
      let low : t < last = omega (arith, row.0, row.1) in
      let from : next + length lost + 1 ≡ (t + 1) + 0 = omega (arith, row.0) in
      let others : ℕ = n - length lost in
      let then : TellsLost logger (texts_in put) (texts_in (with_gaps (Some (t + 1)) rest)) others =
      tells (t + 1) [] put rest others left.2 (subst (λ u. IsRow u put) from row.2) own.1 tt (omega (arith, many, sum, less)) in
      let told : TellsLost logger (texts_in (lost ++ (t, Text m) ∷ put))
      (texts_in (gap_of (length lost) t m) ++ m ∷ texts_in (with_gaps (Some (t + 1)) rest)) n =
      there t m lost put (texts_in (with_gaps (Some (t + 1)) rest)) others n own.0.0 own.0.1 all (omega (arith, many, sum, less)) then in
      let same = sym (texts_more (gap_of (length lost) t m) ((t, Text m) ∷ with_gaps (Some (t + 1)) rest))
      ∙ told_text next t (length lost) m rest missing low
      ∙ ap (λ (l : List Given). texts_in (with_gaps (Some next) l)) (sym left.1) in
      subst (λ (ms : List Message). TellsLost logger (texts_in (lost ++ (t, Text m) ∷ put)) ms n) same told
  tells next lost ((t, Flush k) ∷ put) items n (inr left) row own all sum = absurd own.0
  tells next lost ((t, Stop) ∷ put) items n (inr left) row own all sum = absurd own.0

  -- what is written of items that some of these are, whose tickets follow each other
  pub tells_lost : (next : ℕ) (put items : List Given) (n : ℕ) → Leaves put items → IsRow next put → AreFirsts put
      → length items + n ≡ length put → TellsLost logger (texts_in put) (texts_in (with_gaps (Some next) items)) n
  tells_lost next put items n left row own sum =
      let from : next ≡ next + 0 = omega arith in
      tells next [] put items n left (subst (λ t. IsRow t put) from row) own tt (omega (arith, sum))

-- texts of a logger by the first thread
pub firsts_of : (logger : ℕ) (items : List Given) → AllByRecursion (λ (i : Given). IsFor logger i.1) items
    → AllByRecursion (λ (m : Message). m.thread ≡ 0) (texts_in items) → AllByRecursion (λ (i : Given). IsFirsts logger i.1) items
firsts_of logger [] all first = tt
firsts_of logger ((t, Text m) ∷ items) all first = ((all.0, first.0), firsts_of logger items all.1 first.1)
firsts_of logger ((t, Flush k) ∷ items) all first = absurd all.0
firsts_of logger ((t, Stop) ∷ items) all first = absurd all.0

pub are_for : (logger : ℕ) (items : List Given) → AllByRecursion (λ (i : Given). IsFirsts logger i.1) items
    → AllByRecursion (λ (i : Given). IsFor logger i.1) items
are_for logger [] all = tt
are_for logger ((t, Text m) ∷ items) all = (all.0.0, are_for logger items all.1)
are_for logger ((t, Flush k) ∷ items) all = absurd all.0
are_for logger ((t, Stop) ∷ items) all = absurd all.0

-- messages that tell of pieces are of the first thread
pub tells_firsts : (logger : ℕ) (level : Level) (ss : List Stretch) (ms : List Message) → Tells logger level ss ms
    → AllByRecursion (λ (m : Message). m.thread ≡ 0) ms
tells_firsts logger level [] [] tells = tt
tells_firsts logger level [] (m ∷ ms) tells = absurd tells
tells_firsts logger level (Kept p ∷ ss) [] tells = absurd tells
tells_firsts logger level (Kept p ∷ ss) (m ∷ ms) tells =
    (ap (λ (n : Message). n.thread) tells.0.1, tells_firsts logger level ss ms tells.1)
tells_firsts logger level (Told ps ∷ ss) [] tells = absurd tells
tells_firsts logger level (Told ps ∷ ss) (m ∷ ms) tells =
    (ap (λ (n : Message). n.thread) tells.1.1, tells_firsts logger level ss ms tells.2)
tells_firsts logger level (Below own p ∷ ss) ms tells = tells_firsts logger level ss ms tells.1
tells_firsts logger level (Hidden own ps ∷ ss) ms tells = tells_firsts logger level ss ms tells.2
