-- What a load that has no report leaves, and what holds whether there is a folder or not.
use Rattle.std.proofs.Common.{◌≡◌, ◌↔◌, ◌⊎◌, ℕ, Bool, Option, Some, None, List, codes, inl, inr, refl, sym, subst, arith}
use Rattle.std.specs.Prelude.{Err, IsErrOf, MatchOption}
use Rattle.std.proofs.KnownBytes.{Keeps-refl}
use Rattle.std.specs.Io.KnownBytes.{Keeps}
use Rattle.std.specs.Option.{option_map}
use Rattle.clap.specs.Words.{Row, Text}
use Rattle.alog_config.specs.declared.config.Config.{Config}
use Rattle.alog_load.specs.Load.{AreBad}
use Rattle.alog_load.specs.declared.error.LoadError.{LoadError}
use Rattle.alog_load.specs.declared.error.LoadError.TheVariants.{BadValue, OutOfMemory, Store}
use Rattle.alog_patient.specs.declared.patience.Patience.{Patience}
use Rattle.alog_pool.specs.declared.report.Report.{Report}
use Rattle.alog_sink.specs.Files.{Files}
use Rattle.alog_program.proofs.CommandLines.{one_row}
use Rattle.alog_program.specs.CommandLine.{Names, folder_in, values_in}
use Rattle.alog_program.specs.LoadOptions.{AsksForLoad, IsFirstUnread}
use Rattle.alog_program.specs.Loaded.{LoadsBy, LoadsFile, LoadsOn}
use Rattle.alog_program.specs.Status.{load_status_of}
use Rattle.alog_program.specs.declared.load_options.LoadValueError.{LoadValueError}
use Rattle.alog_program.specs.declared.request.LoadRequest.{LoadRequest}

pub match_none : {T : Type 0} (o : Option T) (A : Type 0) (B : T → Type 0) → o ≡ None → A → MatchOption o A B
match_none o A B is a = subst (λ p. MatchOption p A B) (sym is) a

pub match_some : {T : Type 0} (o : Option T) (x : T) (A : Type 0) (B : T → Type 0) → o ≡ Some x → B x → MatchOption o A B
match_some o x A B is b = subst (λ p. MatchOption p A B) (sym is) b

pub match_both : {T : Type 0} (o : Option T) (A : Type 0) (B : T → Type 0) → A → ((x : T) → B x) → MatchOption o A B
match_both None A B a b = a
match_both (Some x) A B a b = b x

pub match_map : {T : Type 0} (o : Option T) (A A2 : Type 0) (B B2 : T → Type 0) → (A → A2) → ((x : T) → B x → B2 x) → MatchOption o A B
    → MatchOption o A2 B2
match_map None A A2 B B2 a b m = a m
match_map (Some x) A A2 B B2 a b m = b x m

-- the same of a value that is another's
pub match_across : {T U : Type 0} (f : T → U) (o : Option T) {p : Option U} {A A2 : Type 0} (B : T → Type 0) (B2 : U → Type 0)
    → option_map f o ≡ p → (A → A2) → ((x : T) → B x → B2 (f x)) → MatchOption o A B → MatchOption p A2 B2
match_across f None {A = A} {A2 = A2} B B2 is a b m = subst (λ q. MatchOption q A2 B2) is (a m)
match_across f (Some x) {A = A} {A2 = A2} B B2 is a b m = subst (λ q. MatchOption q A2 B2) is (b x m)

module _ {S : Type 0} (tells : Bool) (files : S → Files) (failures : S → ℕ) (tries : Option (S → Patience)) (c : Config) (r : LoadRequest) where
  -- where there is no memory, nothing is written
  pub no_memory : (status : ℕ) (old : Option (List ℕ)) → status ≡ load_status_of OutOfMemory → LoadsOn tells files failures tries c r status old old
  no_memory status old e = record {
    done = λ zero. absurd (omega (arith, e, zero));
    bad = λ one. absurd (omega (arith, e, one));
    accepted = λ two. omega (arith, e, two);
    fault = λ three. absurd (omega (arith, e, three));
    unwritten = λ four. Keeps-refl old;
    due = λ are. inr e;
    others = omega (arith, e);
  }

  -- where there is no folder to write to, for a load by numbers within their bounds, nothing is written
  no_folder : (old : Option (List ℕ)) → ¬ AreBad r.producers r.messages → LoadsOn tells files failures tries c r 3 old old
  no_folder old within = record {
    done = λ zero. absurd (omega (arith, zero));
    bad = λ one. absurd (omega (arith, one));
    accepted = λ two. omega (arith, two);
    fault = λ three. inl (Keeps-refl old);
    unwritten = λ four. Keeps-refl old;
    due = λ are. absurd (within are);
    others = omega arith;
  }

  -- where no folder is held for such a load, or there is no memory to ask for it, nothing is written
  pub folder_refused : (status : ℕ) (old : Option (List ℕ))
      → (status ≡ load_status_of OutOfMemory) ⊎ ((status ≡ 3) × (¬ AreBad r.producers r.messages)) → LoadsOn tells files failures tries c r status old old
  folder_refused status old (inl none) = no_memory status old none
  folder_refused status old (inr lacks) = subst (λ s. LoadsOn tells files failures tries c r s old old) (sym lacks.0) (no_folder old lacks.1)

  -- a load by numbers that are out of their bounds is refused as such, and no other
  pub loads_fault : (fault : LoadError) (status : ℕ) (old : Option (List ℕ)) → status ≡ load_status_of fault
      → (IsErrOf {T = Report S} (Err fault) BadValue ↔ AreBad r.producers r.messages) → LoadsOn tells files failures tries c r status old old
  loads_fault BadValue status old e bad = record {
    done = λ zero. absurd (omega (arith, e, zero));
    bad = λ one. (bad.0 refl, Keeps-refl old);
    accepted = λ two. omega (arith, e, two);
    fault = λ three. absurd (omega (arith, e, three));
    unwritten = λ four. Keeps-refl old;
    due = λ are. inl e;
    others = omega (arith, e);
  }
  loads_fault (Store sink reason) status old e bad = record {
    done = λ zero. absurd (omega (arith, e, zero));
    bad = λ one. absurd (omega (arith, e, one));
    accepted = λ two. omega (arith, e, two);
    fault = λ three. inl (Keeps-refl old);
    unwritten = λ four. Keeps-refl old;
    due = λ are. let no : IsErrOf {T = Report S} (Err (Store sink reason)) BadValue = bad.1 are in absurd (cc);
    others = omega (arith, e);
  }
  loads_fault OutOfMemory status old e bad = no_memory status old e

-- Over two types of stores, the second for a folder.
module _ {S F : Type 0} (tells : Bool) (files : S → Files) (failures : S → ℕ) (tells2 : Bool) (files2 : F → Files) (failures2 : F → ℕ)
    (tries2 : F → Patience) (status : ℕ) (old new : Option (List ℕ)) where
  abbrev pub Loads2 : List Row → Type 0
  Loads2 rows = MatchOption (folder_in rows) (LoadsBy tells files failures None (values_in rows) status old new)
      (λ _. LoadsBy tells2 files2 failures2 (Some tries2) (values_in rows) status old new)

  -- what the words ask for was made
  pub load_made : (words : List Text) (rows others : List Row) (r : LoadRequest) → Names (codes "load") words rows
      → Names (codes "load") words others → AsksForLoad (values_in rows) r
      → MatchOption r.folder (LoadsFile tells files failures None r status old new) (λ _. LoadsFile tells2 files2 failures2 (Some tries2) r status old new)
      → Loads2 others
  load_made words rows others r one other asks made =
      subst Loads2 (one_row (codes "load") words rows others one other) (match_across (λ f. f.now) r.folder
      {A = LoadsFile tells files failures None r status old new} {A2 = LoadsBy tells files failures None (values_in rows) status old new}
      (λ _. LoadsFile tells2 files2 failures2 (Some tries2) r status old new) (λ _. LoadsBy tells2 files2 failures2 (Some tries2) (values_in rows) status old new)
      asks.folder (λ l. inl (r, asks, l)) (λ x l. inl (r, asks, l)) made)

  -- a value was refused
  pub load_unread : (words : List Text) {rows others : List Row} {fault : LoadValueError} → Names (codes "load") words rows
      → Names (codes "load") words others → IsFirstUnread (values_in rows) fault → status ≡ 1 → Keeps old new → Loads2 others
  load_unread words {rows} {others} {fault} one other unread is kept =
      subst Loads2 (one_row (codes "load") words rows others one other) (match_both (folder_in rows)
      (LoadsBy tells files failures None (values_in rows) status old new)
      (λ _. LoadsBy tells2 files2 failures2 (Some tries2) (values_in rows) status old new)
      (inr (inl (is, (fault, unread), kept))) (λ x. inr (inl (is, (fault, unread), kept))))

  -- there was no memory to read the words
  pub load_unasked : (rows : List Row) → status ≡ 4 → Keeps old new → Loads2 rows
  load_unasked rows is kept =
      match_both (folder_in rows) (LoadsBy tells files failures None (values_in rows) status old new)
      (λ _. LoadsBy tells2 files2 failures2 (Some tries2) (values_in rows) status old new) (inr (inr (is, kept))) (λ x. inr (inr (is, kept)))
