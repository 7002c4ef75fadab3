-- A line that is brought to its file, by the calls that are made.
use Rattle.std.proofs.Common.{◌≡◌, ℕ, true, cond, Some, Result, Ok, Err, List, [], ◌∷◌, ◌++◌, refl, sym, ap, ◌∙◌, subst, OnOk, OnErr, ℤ, pos, ◌≤ℤ◌}
use Rattle.alog_sink.specs.Calls.{LeavesFront}
use Rattle.alog_sink.specs.Daily.{Entry, last_name}
use Rattle.alog_sink.specs.Deeds.{Append, BreaksOff, Does, all_done}
use Rattle.alog_sink.specs.DailyFiles.{Days, StandsFor, date_of, deeds_before, deeds_of, entry_of, is_later, makes_way_for, period_of, with_entry, with_opened}
use Rattle.alog_sink.specs.Files.{Files, AreSame, appended}
use Rattle.alog_sink.specs.Lines.{Written}
use Rattle.alog_sink.specs.Names.{dated}
use Rattle.alog_sink.specs.declared.names.Date.{Date}
use Rattle.alog_sink.proofs.DailyOn.{days_alike, stands_more}
use Rattle.alog_sink.proofs.RotatedDoes.{HasDone, all_are_done, does_err, does_ok, one_done, one_failed, unbegun}

-- a period that begins
module _ (d : Days) (w : Written) (period : ℤ) (date : Date) (later : is_later d.latest period ≡ true)
    (is_period : period ≡ period_of d.limits.change w.at) (is_date : date ≡ date_of w.at) where
  its_later : is_later d.latest (entry_of d.limits w).period ≡ true
  its_later = sym (ap (is_later d.latest) is_period) ∙ later

  pub begins_done : {A E : Type 0} (r : Result A E) (old new : Files)
      → OnOk r (AreSame (all_done (makes_way_for d (dated d.limits.file date)) old) new)
      → OnOk r (AreSame (all_done (deeds_before d (entry_of d.limits w)) old) new)
  begins_done r old new done =
      subst (λ b. OnOk r (AreSame (all_done (cond b (makes_way_for d (dated d.limits.file (date_of w.at))) []) old) new)) (sym its_later)
      (subst (λ x. OnOk r (AreSame (all_done (makes_way_for d (dated d.limits.file x)) old) new)) is_date done)

  abbrev begun : ℤ → Date → Days
  begun p x = record { limits = d.limits; latest = Some p; names = with_opened d.limits.max_files d.names (dated d.limits.file x) }

  begins_with : begun period date ≡ with_entry d (entry_of d.limits w)
  begins_with =
      ap (λ p. begun p date) is_period
      ∙ (ap (begun (period_of d.limits.change w.at)) is_date
      ∙ sym (ap (λ b. cond b (begun (period_of d.limits.change w.at) (date_of w.at)) d) its_later))

  -- as a program has it: the names were opened, and then the period is set
  pub begins_as : (next mid : Days) (p : ℤ) → next ≡ mid → mid ≡ record {
    limits = d.limits;
    latest = d.latest;
    names = with_opened d.limits.max_files d.names (dated d.limits.file date);
  } → p ≡ period → record { limits = next.limits; latest = Some p; names = next.names } ≡ with_entry d (entry_of d.limits w)
  begins_as next mid p is opened same =
      ap (λ (x : Days). record { limits = x.limits; latest = Some p; names = x.names }) (is ∙ opened) ∙ (ap (λ q. begun q date) same ∙ begins_with)

-- its line
pub line_breaks : (d : Days) (entry : Entry) {old new : Files} → AreSame old new → BreaksOff (deeds_of d entry) old new
line_breaks d entry same = unbegun (deeds_before d entry) (Append (last_name (with_entry d entry).names) entry.line) same

module _ {A E : Type 0} (d : Days) (entry : Entry) (name line : List ℕ) (is_name : name ≡ last_name (with_entry d entry).names)
    (is_line : entry.line ≡ line) (old mid new : Files) (same : AreSame (all_done (deeds_before d entry) old) mid) (r : Result A E)
    (done : OnOk r (AreSame (appended name line mid) new)) (failed : OnErr r (LeavesFront name line mid new)) where
  at : HasDone (deeds_of d entry) (Append name line ∷ []) old mid
  at = record {
    before = deeds_before d entry;
    are = ap (λ n. deeds_before d entry ++ Append n entry.line ∷ []) (sym is_name)
        ∙ ap (λ l. deeds_before d entry ++ Append name l ∷ []) is_line;
    same = same;
  }

  pub line_does : Does (deeds_of d entry) old new r
  line_does = by r refl
    where
      by : (x : Result A E) → r ≡ x → Does (deeds_of d entry) old new r
      by (Ok x) e =
          subst (λ s. Does (deeds_of d entry) old new s) (sym e)
          (does_ok (deeds_of d entry) old new x (all_are_done (deeds_of d entry) old new
          (one_done (deeds_of d entry) [] (Append name line) old mid new at
          (subst (λ s. OnOk s (AreSame (appended name line mid) new)) e done))))
      by (Err x) e =
          does_err (deeds_of d entry) old new r x e
          (one_failed (deeds_of d entry) [] (Append name line) old mid new at
          (subst (λ s. OnErr s (LeavesFront name line mid new)) e failed))

pub line_stands : {A E : Type 0} {d next : Days} (w : Written) → next ≡ with_entry d (entry_of d.limits w) → pos 0 ≤ℤ w.at.date.year
    → {opening : Files} {ws : List Written} {old new : Files} {r : Result A E} → Does (deeds_of d (entry_of d.limits w)) old new r
    → StandsFor d opening ws old → OnOk r (StandsFor next opening (ws ++ w ∷ []) new)
line_stands {d} w is year {opening} {ws} {old} {new} {r = Ok x} does s =
    subst (λ e. StandsFor e opening (ws ++ w ∷ []) new) (sym is)
    (days_alike (with_entry d (entry_of d.limits w)) opening (ws ++ w ∷ []) (all_done (deeds_of d (entry_of d.limits w)) old) new does.done
    (stands_more d opening ws old w year s))
line_stands w is year {r = Err x} does s = tt
