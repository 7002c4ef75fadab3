-- A name that was opened comes again only directly: periods that open rise, and a date's name is that of one day.
use Rattle.std.proofs.Common.{◌≡◌, ℕ, Bool, true, false, cond, ◌&&◌, Some, List, [], ◌∷◌, ◌++◌, length, refl, sym, ap, ◌∙◌, subst, inl, inr, ◌⊎◌}
use Rattle.std.proofs.Common.{arith, ℤ, pos, ◌<ℤ◌, ◌≤ℤ◌}
use Rattle.std.specs.Int.Signed.{lt_z}
use Rattle.std.specs.List.{All, Contains}
use Rattle.std.specs.Str.{bytes_eq}
use Rattle.std.proofs.lemmas.List.Elements.{All-pop, Contains-push_cases}
use Rattle.std.proofs.lemmas.List.Folds.{list_all-append}
use Rattle.jiff_core.specs.declared.civil.datetime.DateTime.{DateTime}
use Rattle.jiff_core.proofs.SignedLemmas.{signed_arith}
use Rattle.jiff.specs.Words.{epoch_day}
use Rattle.alog_sink.specs.Daily.{Entry, Segment, AreSegments, none, begun, gone_on, opens, is_last, last_name, opened_names, with_name}
use Rattle.alog_sink.specs.DailyFiles.{DayLimits, date_of, entry_of, period_of}
use Rattle.alog_sink.specs.Lines.{Written}
use Rattle.alog_sink.specs.Names.{dated}
use Rattle.alog_sink.proofs.DailyFiles.{last_with_name, opened_more, test_same}
use Rattle.alog_sink.proofs.DailyDays.{is_date, one_date, one_day, period_near}
use Rattle.alog_sink.proofs.NamesDated.{dated_names_differ}

less_of : (a b : ℤ) → lt_z a b ≡ true → a <ℤ b
less_of a b e = omega (arith, signed_arith)

both : (a b : Bool) → (a && (b && true)) ≡ true → (a ≡ true) × (b ≡ true)
both true true e = (refl, refl)
both true false e = absurd (cc)
both false b e = absurd (cc)

-- one entry more to be later than
pub opens_more : (entries : List Entry) (entry e : Entry)
    → opens (entries ++ entry ∷ []) e ≡ (opens entries e && (lt_z entry.period e.period && true))
opens_more entries entry e = list_all-append (λ (x : Entry). lt_z x.period e.period) entries (entry ∷ [])

opens_both : (entries : List Entry) (entry e : Entry) → opens (entries ++ entry ∷ []) e ≡ true
    → (opens entries e ≡ true) × (lt_z entry.period e.period ≡ true)
opens_both entries entry e early =
    both (opens entries e) (lt_z entry.period e.period) (sym (opens_more entries entry e) ∙ early)

-- an entry of a line whose year is not before year 0
abbrev pub IsOf : DayLimits → Entry → Type 0
IsOf limits entry = (w : Written) × (pos 0 ≤ℤ w.at.date.year) × (entry ≡ entry_of limits w)

-- By the last time that opened a name: each name has the date of a day that is not later, and what opens next is later.
record Latest (limits : DayLimits) (entries : List Entry) (names : List (List ℕ)) : Type 0 where
  at : DateTime
  year : pos 0 ≤ℤ at.date.year
  last : last_name names ≡ dated limits.file (date_of at)
  before : (name : List ℕ) → Contains names name
      → (b : DateTime) × (pos 0 ≤ℤ b.date.year) × (name ≡ dated limits.file (date_of b)) × (epoch_day b.date ≤ℤ epoch_day at.date)
  after : (e : Entry) → opens entries e ≡ true → period_of limits.change at <ℤ e.period

with_name_cases : (names : List (List ℕ)) (name other : List ℕ) → Contains (with_name names name) other → Contains names other ⊎ (name ≡ other)
with_name_cases names name other = by (is_last name names)
  where
    by : (b : Bool) → Contains (cond b names (names ++ name ∷ [])) other → Contains names other ⊎ (name ≡ other)
    by true h = inl h
    by false h = Contains-push_cases names name other h

opened_now : (limits : DayLimits) (entries : List Entry) (names : List (List ℕ)) (w : Written) → pos 0 ≤ℤ w.at.date.year
    → ((name : List ℕ) → Contains names name
    → (b : DateTime) × (pos 0 ≤ℤ b.date.year) × (name ≡ dated limits.file (date_of b)) × (epoch_day b.date ≤ℤ epoch_day w.at.date))
    → Latest limits (entries ++ entry_of limits w ∷ []) (with_name names (entry_of limits w).name)
opened_now limits entries names w year before = record {
  at = w.at;
  year = year;
  last = last_with_name names (entry_of limits w).name;
  before = λ name h. elim (with_name_cases names (entry_of limits w).name name h) [
    | inl old ↦ before name old
    | inr e ↦ (w.at, year, sym e, omega (arith, signed_arith))
  ];
  after = λ e early.
      less_of (period_of limits.change w.at) e.period (opens_both entries (entry_of limits w) e early).1;
}

no_name : (names : List (List ℕ)) (name : List ℕ) → names ≡ [] → Contains names name → ⊥
no_name names name e h = let less = h.1 in omega (arith, ap length e)

-- the day of a time that opens is not before that of the last one that did
day_rises : (change : ℕ) (a b : DateTime) → period_of change a <ℤ period_of change b → epoch_day a.date ≤ℤ epoch_day b.date
day_rises change a b less =
    let x = period_near change a in
    let y = period_near change b in
    omega (arith, signed_arith)

less_then : (a b c : ℤ) → a ≤ℤ b → b ≤ℤ c → a ≤ℤ c
less_then a b c x y = omega (arith, signed_arith)

opened_next : (limits : DayLimits) (entries : List Entry) (names : List (List ℕ)) (entry : Entry) → IsOf limits entry
    → opens entries entry ≡ true → (names ≡ []) ⊎ Latest limits entries names
    → Latest limits (entries ++ entry ∷ []) (with_name names entry.name)
opened_next limits entries names entry of early latest =
    subst (λ (e : Entry). Latest limits (entries ++ e ∷ []) (with_name names e.name)) (sym of.2)
    (opened_now limits entries names of.0 of.1 (elim latest [
      | inl empty ↦ λ name h. absurd (no_name names name empty h)
      | inr l ↦ λ name h.
          let b = l.before name h in
          let rises = day_rises limits.change l.at of.0.at (l.after (entry_of limits of.0) (sym (ap (opens entries) of.2) ∙ early)) in
          (b.0, b.1, b.2, less_then (epoch_day b.0.date) (epoch_day l.at.date) (epoch_day of.0.at.date) b.3 rises)
    ]))

latest : (limits : DayLimits) (entries : List Entry) (segments : List Segment) → AreSegments entries segments → All (IsOf limits) entries
    → (opened_names segments ≡ []) ⊎ Latest limits entries (opened_names segments)
latest limits _ _ none all = inl refl
latest limits _ _ (begun entries segments entry cut early) all =
    let split = All-pop (IsOf limits) (entries ++ entry ∷ []) entries (Some entry) refl all in
    inr (subst (Latest limits (entries ++ entry ∷ []))
    (sym (opened_more segments (record { name = entry.name; lines = entry.line ∷ [] })))
    (opened_next limits entries (opened_names segments) entry split.1 early (latest limits entries segments cut split.0)))
latest limits _ _ (gone_on entries segments last entry cut late) all =
    let split = All-pop (IsOf limits) (entries ++ entry ∷ []) entries (Some entry) refl all in
    let longer : Segment = record last { lines = last.lines ++ entry.line ∷ [] } in
    let same : opened_names (segments ++ last ∷ []) ≡ opened_names (segments ++ longer ∷ []) =
    opened_more segments last ∙ sym (opened_more segments longer) in
    elim (latest limits entries (segments ++ last ∷ []) cut split.0) [
      | inl empty ↦ inl (sym same ∙ empty)
      | inr l ↦ inr (subst (Latest limits (entries ++ entry ∷ [])) same (record {
        at = l.at;
        year = l.year;
        last = l.last;
        before = l.before;
        after = λ e early. l.after e (opens_both entries entry e early).0;
      }))
    ]

is_last_of : (names : List (List ℕ)) (name : List ℕ) → Contains names name → last_name names ≡ name → is_last name names ≡ true
is_last_of [] name h e = absurd (no_name [] name refl h)
is_last_of (n ∷ names) name h e = ap (λ x. bytes_eq x name) e ∙ test_same name

pub comes_directly : (limits : DayLimits) {entries : List Entry} {segments : List Segment} (w : Written) → pos 0 ≤ℤ w.at.date.year
    → AreSegments entries segments → All (IsOf limits) entries → opens entries (entry_of limits w) ≡ true
    → Contains (opened_names segments) (entry_of limits w).name → is_last (entry_of limits w).name (opened_names segments) ≡ true
comes_directly limits {entries} {segments} w year cut all early has = elim (latest limits entries segments cut all) [
  | inl empty ↦ absurd (no_name (opened_names segments) (entry_of limits w).name empty has)
  | inr l ↦
      let b = l.before (entry_of limits w).name has in
      let same = dated_names_differ limits.file (date_of w.at) (date_of b.0) (is_date w.at) (is_date b.0) b.2 in
      let day : epoch_day w.at.date ≡ epoch_day b.0.date = one_day w.at b.0 year b.1 same in
      let rises = day_rises limits.change l.at w.at (l.after (entry_of limits w) early) in
      let one : epoch_day l.at.date ≡ epoch_day w.at.date = between (epoch_day l.at.date) (epoch_day w.at.date) (epoch_day b.0.date) day b.3 rises in
      is_last_of (opened_names segments) (entry_of limits w).name has (l.last ∙ ap (dated limits.file) (one_date l.at w.at one))
]
  where
    between : (last now old : ℤ) → now ≡ old → old ≤ℤ last → last ≤ℤ now → last ≡ now
    between last now old e x y = omega (arith, signed_arith)
