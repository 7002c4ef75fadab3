-- A line is one thing, and one alone.
use Rattle.std.proofs.Common.{◌≡◌, ◌↔◌, ◌⊎◌, ℕ, List, [], ◌∷◌, ◌++◌, length, cond, Bool, true, false, refl, sym, ◌∙◌, ap}
use Rattle.std.proofs.Common.{subst, Option, None, Some, inl, inr}
use mathlib.Core.Logic.{dite}
use native.Mathlib.Decide.{ℕ_discrete, dec_le}
use Rattle.std.specs.Prelude.{IsUtf8}
use Rattle.std.specs.Str.{is_utf8, bytes_eq}
use Rattle.std.proofs.lemmas.Bool.{false≢true}
use Rattle.std.proofs.lemmas.Slice.Eq.{bytes_eq-Decides}
use Rattle.std.proofs.lemmas.Str.{IsUtf8-from_is_utf8, is_utf8-from_IsUtf8}
use Rattle.alog_replay.specs.declared.limits.TheConstants.{SCRIPT_LINE_MAX}
use Rattle.alog_replay.specs.Cut.{tail_of, IsCut}
use Rattle.alog_replay.specs.Command.{Row, rows, row_named, SpellsRow, Spells}
use Rattle.alog_replay.specs.Entry.{IsReadable, IsSkipped, IsEntry, OneCommand, OneEntry}
use Rattle.alog_replay.specs.declared.command.Command.{Command}
use Rattle.alog_replay.specs.declared.entry.Entry.{Entry}
use Rattle.alog_replay.specs.declared.entry.Entry.TheVariants.{Skipped, Does, Refused}
use Rattle.alog_replay.proofs.CutLemmas.{cut_of, cut_once, none_of}
use Rattle.alog_replay.proofs.FormLemmas.{Decided, given_once, given_or_none}

one_of_row : (row : Option Row) (rest : Option (List ℕ)) (c d : Command) → SpellsRow row rest c → SpellsRow row rest d → c ≡ d
one_of_row None rest c d h g = absurd h
one_of_row (Some row) rest c d h g = sym h.2 ∙ (ap row.command (given_once row.form rest h.0 g.0 h.1 g.1) ∙ g.2)

-- what a line spells, by the row of its first word
pub row_of_line : (line name : List ℕ) (rest : Option (List ℕ)) (command : Command) → IsCut line name rest → Spells line command
    → SpellsRow (row_named rows name) rest command
row_of_line line name rest command cut s =
    let once = cut_once s.0 name s.1 rest s.2.1 cut.1 (sym s.2.0 ∙ cut.0) in
    subst (λ r. SpellsRow (row_named rows name) r command) once.1 (subst (λ w. SpellsRow (row_named rows w) s.1 command) once.0 s.3)

pub one_command_lem : OneCommand
one_command_lem line c d s t = one_of_row (row_named rows s.0) s.1 c d s.3 (row_of_line line s.0 s.1 d s.2 t)

-- a line whose first word names no row spells nothing
pub by_no_row : {r : Option Command} (line name : List ℕ) (rest : Option (List ℕ)) → IsCut line name rest → r ≡ None
    → ((command : Command) → SpellsRow (row_named rows name) rest command → ⊥)
    → (command : Command) → (r ≡ Some command) ↔ Spells line command
by_no_row {r} line name rest cut e other = none_of (Spells line) r e (λ command s. other command (row_of_line line name rest command cut s))

-- a line whose first word is a row's name spells what that row's arguments spell
pub by_found : {name text : List ℕ} {row : Row} {r : Option Command} (line : List ℕ) (rest : Option (List ℕ)) → IsCut line name rest
    → name ≡ text → row_named rows text ≡ Some row → ((command : Command) → (r ≡ Some command) ↔ SpellsRow (Some row) rest command)
    → (command : Command) → (r ≡ Some command) ↔ Spells line command
by_found {name} {text} {row} {r} line rest cut e found is command =
    let here : row_named rows name ≡ Some row = ap (row_named rows) e ∙ found in (
      (λ h. (name, rest, cut, subst (λ x. SpellsRow x rest command) (sym here) ((is command).0 h))),
      (λ s. (is command).1 (subst (λ x. SpellsRow x rest command) here (row_of_line line name rest command cut s))),
    )

unnamed : (name : List ℕ) (rest : Option (List ℕ)) (command : Command) → row_named rows name ≡ None
    → SpellsRow (row_named rows name) rest command → ⊥
unnamed name rest command e s = subst (λ r. SpellsRow r rest command) e s

false_unless : (b : Bool) → (b ≡ true → ⊥) → b ≡ false
false_unless true h = absurd (h refl)
false_unless false h = refl

-- a name that no row has
abbrev pub IsNoName : List Row → List ℕ → Type 0
IsNoName [] name = Unit {0}
IsNoName (row ∷ more) name = ((name ≡ row.name → ⊥) × IsNoName more name)

none_named : (table : List Row) (name : List ℕ) → IsNoName table name → row_named table name ≡ None
unfolding row_named
none_named [] name h = refl
none_named (row ∷ more) name h =
    ap (λ b. cond b (Some row) (row_named more name))
    (false_unless (bytes_eq row.name name) (λ e. h.0 (sym ((bytes_eq-Decides row.name name).0 e)))) ∙ none_named more name h.1

pub no_row : (name : List ℕ) (rest : Option (List ℕ)) → IsNoName rows name → (command : Command)
    → SpellsRow (row_named rows name) rest command → ⊥
no_row name rest h command s = unnamed name rest command (none_named rows name h) s

-- no row's name is empty, or begins with '#'
no_row-nil : row_named rows [] ≡ None
unfolding row_named
no_row-nil = refl

no_row-hash : (w : List ℕ) → row_named rows (35 ∷ w) ≡ None
unfolding row_named
no_row-hash w = refl

skipped_word : (name : List ℕ) (rest : Option (List ℕ)) (command : Command) → IsSkipped (name ++ tail_of rest)
    → SpellsRow (row_named rows name) rest command → ⊥
skipped_word [] rest command h s = unnamed [] rest command no_row-nil s
skipped_word (b ∷ w) rest command h s = unnamed (b ∷ w) rest command (ap (λ x. row_named rows (x ∷ w)) h ∙ no_row-hash w) s

-- a skipped line spells no command
skips_none : (line : List ℕ) (command : Command) → Spells line command → IsSkipped line → ⊥
skips_none line command s skipped = skipped_word s.0 s.1 command (subst IsSkipped s.2.0 skipped) s.3

-- a line that spells a command, and one that spells none
pub is_command : (line : List ℕ) (found : Command) → IsReadable line → Spells line found → (entry : Entry)
    → (Does found ≡ entry) ↔ IsEntry line entry
is_command line found r s Skipped = (λ e. absurd cc, λ g. absurd (skips_none line found s g.1))
is_command line found r s (Does command) =
    (λ e. let same : found ≡ command = cc in (r, subst (Spells line) same s), λ g. ap Does (one_command_lem line found command s g.1))
is_command line found r s Refused = (λ e. absurd cc, λ g. absurd (elim g [ inl n ↦ n r | inr n ↦ n.1 found s ]))

pub is_no_command : (line : List ℕ) → (IsSkipped line → ⊥) → ((command : Command) → Spells line command → ⊥) → (entry : Entry)
    → (Refused ≡ entry) ↔ IsEntry line entry
is_no_command line h n Skipped = (λ e. absurd cc, λ g. absurd (h g.1))
is_no_command line h n (Does command) = (λ e. absurd cc, λ g. absurd (n command g.1))
is_no_command line h n Refused = (λ e. inr (h, n), λ g. refl)

-- a line is one thing
pub same_entry : (line : List ℕ) (e f : Entry) → IsEntry line e → IsEntry line f → e ≡ f
same_entry line (Does c) f h g = (is_command line c h.0 h.1 f).1 g
same_entry line Skipped (Does c) h g = sym ((is_command line c g.0 g.1 Skipped).1 h)
same_entry line Skipped Skipped h g = refl
same_entry line Skipped Refused h g = absurd (elim g [ inl n ↦ n h.0 | inr n ↦ n.0 h.1 ])
same_entry line Refused (Does c) h g = sym ((is_command line c g.0 g.1 Refused).1 h)
same_entry line Refused Skipped h g = absurd (elim h [ inl n ↦ n g.0 | inr n ↦ n.0 g.1 ])
same_entry line Refused Refused h g = refl

-- a skipped line
pub is_skip : (line : List ℕ) → IsReadable line → IsSkipped line → (entry : Entry) → (Skipped ≡ entry) ↔ IsEntry line entry
is_skip line r s entry = (λ e. subst (IsEntry line) e (r, s), λ g. same_entry line Skipped entry (r, s) g)

-- whether a line spells a command
of_row_or_none : (row : Option Row) (rest : Option (List ℕ)) → Decided (SpellsRow row rest)
of_row_or_none None rest = inr (λ command s. s)
of_row_or_none (Some row) rest = elim (given_or_none row.form rest) [
  | inl g ↦ inl (row.command g.0, (g.0, g.1, refl))
  | inr other ↦ inr (λ command s. other s.0 s.1)
]

command_or_none : (line : List ℕ) → Decided (Spells line)
command_or_none line =
    let c = cut_of line in
    elim (of_row_or_none (row_named rows c.0) c.1) [
      | inl s ↦ inl (s.0, (c.0, c.1, c.2, s.1))
      | inr other ↦ inr (λ command s. other command (row_of_line line c.0 c.1 command c.2 s))
    ]

skipped_or_not : (line : List ℕ) → IsSkipped line ⊎ (IsSkipped line → ⊥)
skipped_or_not [] = inl tt
skipped_or_not (b ∷ line) = dite (ℕ_discrete b 35) (λ e. inl e) (λ n. inr n)

text_or_not : (line : List ℕ) (b : Bool) → is_utf8 line ≡ b → IsUtf8 line ⊎ (IsUtf8 line → ⊥)
text_or_not line true e = inl (IsUtf8-from_is_utf8 line e)
text_or_not line false e = inr (λ u. false≢true (sym e ∙ is_utf8-from_IsUtf8 line u))

readable_or_not : (line : List ℕ) → IsReadable line ⊎ (IsReadable line → ⊥)
readable_or_not line =
    dite (dec_le (length line) SCRIPT_LINE_MAX)
    (λ y. elim (text_or_not line (is_utf8 line) refl) [ inl u ↦ inl (y, u) | inr n ↦ inr (λ r. n r.1) ])
    (λ n. inr (λ r. n r.0))

-- each line is something
pub some_entry : (line : List ℕ) → (entry : Entry) × IsEntry line entry
some_entry line = elim (readable_or_not line) [
  | inl r ↦ elim (skipped_or_not line) [
    | inl s ↦ (Skipped, (r, s))
    | inr not ↦ elim (command_or_none line) [ inl c ↦ (Does c.0, (r, c.1)) | inr other ↦ (Refused, inr (not, other)) ]
  ]
  | inr n ↦ (Refused, inl n)
]

pub one_entry_lem : OneEntry
one_entry_lem line = let e = some_entry line in (e.0, e.1, λ other h. same_entry line e.0 other e.1 h)
