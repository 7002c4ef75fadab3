-- What a daily_files stands for after one line more.
use Rattle.std.proofs.Common.{◌≡◌, ◌≢◌, ℕ, zero, suc, ◌-◌, Bool, true, false, cond, ◌&&◌, Option, None, Some, List, [], ◌∷◌, ◌++◌, refl, sym, ap, ◌∙◌, subst}
use Rattle.std.proofs.Common.{arith, ℤ, pos, ◌≤ℤ◌}
use Rattle.std.specs.Int.Signed.{lt_z}
use Rattle.std.proofs.Math.Seq.{drop-nil}
use Rattle.std.specs.List.{All, AllPairs, Contains}
use Rattle.std.proofs.lemmas.Int.{ints}
use Rattle.std.proofs.lemmas.List.{map_push}
use Rattle.std.proofs.lemmas.List.Elements.{All-nil, All-map, All-push, All-weaker}
use Rattle.circular_buffer.specs.Buffer.{keep_last}
use Rattle.alog_sink.specs.Daily.{Entry, none, kept_names, opens, is_last, last_name, with_name, IsDaily}
use Rattle.alog_sink.specs.DailyDeeds.{day_deeds, makes_way, names_after}
use Rattle.alog_sink.specs.Deeds.{Deed, Append, all_done}
use Rattle.alog_sink.specs.DailyFiles.{DayLimits, Days, StandsFor, deeds_of, entries_of, entry_of, is_later, makes_way_for, names_known, with_entry, with_opened}
use Rattle.alog_sink.specs.Files.{Files, AreSame}
use Rattle.alog_sink.specs.Lines.{Written}
use Rattle.alog_sink.proofs.DailyFiles.{days_go_on, last_with_name}
use Rattle.alog_sink.proofs.DailyKnown.{known_is_last, known_last, known_way, known_more}
use Rattle.alog_sink.proofs.DailyNames.{IsOf, comes_directly, opens_more}

-- the greatest period after one more
later_more : (latest : Option ℤ) (period p : ℤ) (b : Bool) → is_later latest period ≡ b
    → (is_later latest p && (lt_z period p && true)) ≡ is_later (cond b (Some period) latest) p
later_more None period p b e = subst (λ c. (lt_z period p && true) ≡ is_later (cond c (Some period) None) p) e (alone (lt_z period p))
  where
    alone : (c : Bool) → (c && true) ≡ c
    alone true = refl
    alone false = refl
later_more (Some latest) period p true e = grind (arith, ints)
later_more (Some latest) period p false e = grind (arith, ints)

module _ (d : Days) (opening : Files) (ws : List Written) (files : Files) (w : Written) (year : pos 0 ≤ℤ w.at.date.year)
    (s : StandsFor d opening ws files) where
  abbrev entry : Entry
  entry = entry_of d.limits w

  abbrev entries : List Entry
  entries = entries_of d.limits ws

  abbrev max : ℕ
  max = d.limits.max_files

  all_of : All (IsOf d.limits) entries
  all_of = All-map (IsOf d.limits) (entry_of d.limits) ws (All-weaker (λ (v : Written). pos 0 ≤ℤ v.at.date.year)
      (λ v. IsOf d.limits (entry_of d.limits v)) (λ v h. (v, h, refl)) ws s.years)

  directly : opens entries entry ≡ true → Contains s.opened entry.name → is_last entry.name s.opened ≡ true
  directly early has =
      subst (λ names. is_last entry.name names ≡ true) s.daily.opened
      (comes_directly d.limits w year s.daily.cut all_of early (subst (λ names. Contains names entry.name) (sym s.daily.opened) has))

  daily : IsDaily max (names_after s.opened entries entry) opening (entries ++ entry ∷ [])
      (all_done (day_deeds max s.opened entries entry) files)
  daily = days_go_on max s.opened opening entries files entry directly s.daily

  last_opened : last_name (with_opened max d.names entry.name) ≡ entry.name
  last_opened =
      ap last_name (known_more max s.opened d.names s.known entry.name)
      ∙ (known_last max (with_name s.opened entry.name) (keep_last (names_known max) (with_name s.opened entry.name)) refl
      ∙ last_with_name s.opened entry.name)

  abbrev after : Bool → Days
  after b = cond b (record { limits = d.limits; latest = Some entry.period; names = with_opened max d.names entry.name }) d

  abbrev deeds : Bool → List Deed
  deeds b = cond b (makes_way_for d entry.name) [] ++ Append (last_name (after b).names) entry.line ∷ []

  deeds_are : (b : Bool) → is_later d.latest entry.period ≡ b → day_deeds max s.opened entries entry ≡ deeds b
  deeds_are true e =
      ap (λ c. cond c (cond (is_last entry.name s.opened) [] (makes_way max s.opened) ++ Append entry.name entry.line ∷ [])
      (Append (last_name s.opened) entry.line ∷ [])) (s.later entry ∙ e)
      ∙ (ap (λ c. cond c [] (makes_way max s.opened) ++ Append entry.name entry.line ∷ [])
      (sym (known_is_last max s.opened d.names s.known entry.name))
      ∙ (ap (λ ds. cond (is_last entry.name d.names) [] ds ++ Append entry.name entry.line ∷ [])
      (sym (known_way max s.opened d.names s.known))
      ∙ ap (λ n. makes_way_for d entry.name ++ Append n entry.line ∷ []) (sym last_opened)))
  deeds_are false e =
      ap (λ c. cond c (cond (is_last entry.name s.opened) [] (makes_way max s.opened) ++ Append entry.name entry.line ∷ [])
      (Append (last_name s.opened) entry.line ∷ [])) (s.later entry ∙ e)
      ∙ ap (λ n. Append n entry.line ∷ []) (sym (known_last max s.opened d.names s.known))

  abbrev opened : Bool → List (List ℕ)
  opened b = cond b (with_name s.opened entry.name) s.opened

  opened_are : (b : Bool) → is_later d.latest entry.period ≡ b → names_after s.opened entries entry ≡ opened b
  opened_are b e = ap opened (s.later entry ∙ e)

  stands : (b : Bool) → is_later d.latest entry.period ≡ b → StandsFor (after b) opening (ws ++ w ∷ []) (all_done (deeds b) files)
  stands b e = by b e
    where
      is_daily : (c : Bool) → is_later d.latest entry.period ≡ c
          → IsDaily max (opened c) opening (entries_of d.limits (ws ++ w ∷ [])) (all_done (deeds c) files)
      is_daily c e =
          subst (λ names. IsDaily max names opening (entries_of d.limits (ws ++ w ∷ [])) (all_done (deeds c) files)) (opened_are c e)
          (subst (λ es. IsDaily max (names_after s.opened entries entry) opening es (all_done (deeds c) files))
          (sym (map_push (entry_of d.limits) ws w))
          (subst (λ ds. IsDaily max (names_after s.opened entries entry) opening (entries ++ entry ∷ []) (all_done ds files))
          (deeds_are c e) daily))

      later : (c : Bool) → is_later d.latest entry.period ≡ c → (e : Entry)
          → opens (entries_of d.limits (ws ++ w ∷ [])) e ≡ is_later (cond c (Some entry.period) d.latest) e.period
      later c is e =
          ap (λ es. opens es e) (map_push (entry_of d.limits) ws w)
          ∙ (opens_more entries entry e
          ∙ (ap (λ b. b && (lt_z entry.period e.period && true)) (s.later e) ∙ later_more d.latest entry.period e.period c is))

      years : All (λ (v : Written). pos 0 ≤ℤ v.at.date.year) (ws ++ w ∷ [])
      years = All-push (λ (v : Written). pos 0 ≤ℤ v.at.date.year) ws w s.years year

      by : (c : Bool) → is_later d.latest entry.period ≡ c → StandsFor (after c) opening (ws ++ w ∷ []) (all_done (deeds c) files)
      by true e = record {
        opened = opened true;
        daily = is_daily true e;
        later = later true e;
        known = known_more max s.opened d.names s.known entry.name;
        years = years;
      }
      by false e = record {
        opened = opened false;
        daily = is_daily false e;
        later = later false e;
        known = s.known;
        years = years;
      }

  pub stands_more : StandsFor (with_entry d entry) opening (ws ++ w ∷ []) (all_done (deeds_of d entry) files)
  stands_more = stands (is_later d.latest entry.period) refl

-- files that are the same are stood for alike
pub days_alike : (d : Days) (opening : Files) (ws : List Written) (files others : Files) → AreSame files others
    → StandsFor d opening ws files → StandsFor d opening ws others
days_alike d opening ws files others same s = record {
  opened = s.opened;
  daily = record {
    segments = s.daily.segments;
    cut = s.daily.cut;
    opened = s.daily.opened;
    distinct = s.daily.distinct;
    kept = λ name h. same name ∙ s.daily.kept name h;
    gone = λ name h not. same name ∙ s.daily.gone name h not;
    others = λ name not. same name ∙ s.daily.others name not;
  };
  later = s.later;
  known = s.known;
  years = s.years;
}

-- a daily_files that was given nothing
pub begins : (limits : DayLimits) (files : Files) → StandsFor (record { limits = limits; latest = None; names = [] }) files [] files
begins limits files = record {
  opened = [];
  daily = record {
    segments = [];
    cut = none;
    opened = refl;
    distinct = all_differ;
    kept = λ name h. absurd (nowhere limits.max_files name h);
    gone = λ name h not. absurd (no_place name h);
    others = λ name not. refl;
  };
  later = λ entry. refl;
  known = sym (drop-nil (0 - names_known limits.max_files));
  years = All-nil (λ (w : Written). pos 0 ≤ℤ w.at.date.year);
}
  where
    no_place : (name : List ℕ) → Contains [] name → ⊥
    no_place name h = let less = h.1 in omega arith

    nowhere : (max : ℕ) (name : List ℕ) → Contains (kept_names max []) name → ⊥
    nowhere zero name h = no_place name h
    nowhere (suc n) name h = no_place name (subst (λ ns. Contains ns name) (drop-nil (0 - suc n)) h)

    all_differ : AllPairs {X = List ℕ} ◌≢◌ []
    all_differ = λ i j d lt within. absurd (omega arith)
