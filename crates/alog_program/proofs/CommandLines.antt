-- What `clap` makes of the program's words.
use Rattle.std.proofs.Common.{◌≡◌, ◌≢◌, ◌∙◌, ap, ap₂, refl, sym, subst, codes, true, false, ℕ, List, [], ◌∷◌, Option, Some, None, Result, Ok, Err, inl}
use Rattle.std.proofs.Common.{inr, IfErr, arith}
use Rattle.std.specs.Prelude.{IsErrAnd, IsNone, IsSome, option_map, unwrap_or, slice_index}
use Rattle.clap.specs.Words.{App, Row, Text, fault_of, found_of, is_simple, is_simple_and_free, rows_of, subcommand_of, subcommand_rows_of}
use Rattle.clap.specs.Words.{HasMatchesOf, HasKind, kind_of}
use Rattle.clap.specs.Matches.{subcommand_name_of}
use Rattle.clap.specs.declared.error.Error.{Error}
use Rattle.clap.specs.declared.error.kind.ErrorKind.{ErrorKind}
use Rattle.clap.specs.declared.error.kind.ErrorKind.TheVariants.{OutOfMemory}
use Rattle.clap.specs.declared.parser.matches.ArgMatches.{ArgMatches}
use Rattle.clap.proofs.OnLiterals.{clap_on_literals}
use Rattle.clap.proofs.WalkLemmas.{first_value-rows}
use Rattle.alog_program.specs.CommandLine.{alog_app, config_in, values_in, AreMatchesOf, AsksCommand, Names}
use Rattle.alog_program.specs.Options.{value_of}
use Rattle.alog_program.specs.Words.{AsksReplay}

pub alog_is_simple : is_simple alog_app ≡ true
unfolding clap_on_literals
alog_is_simple = refl

pub alog_is_free : is_simple_and_free alog_app ≡ true
unfolding clap_on_literals
alog_is_free = refl

-- `alog replay` has no fault, and names no `format`
pub replay_fault : (name : Text) → fault_of alog_app (name ∷ codes "replay" ∷ []) ≡ []
unfolding clap_on_literals
replay_fault name = refl

pub replay_is_entered : (name : Text) → subcommand_of alog_app (name ∷ codes "replay" ∷ []) ≡ Some (codes "replay", [])
unfolding clap_on_literals
replay_is_entered name = refl

pub error_is : {T E : Type 0} (r : Result T E) (e : E) (P : E → Type 0) → IsErrAnd r (λ x. x ≡ e) → P e → IfErr r P
error_is (Ok t) e P is p = tt
error_is (Err x) e P is p = subst P (sym is) p

pair_is : (o : Option (Text × List Row)) (name : Text) (rows : List Row) → option_map (λ p. p.0) o ≡ Some name
    → option_map (λ p. p.1) o ≡ Some rows → o ≡ Some (name, rows)
pair_is None name rows a b = cc
pair_is (Some p) name rows a b =
    let first : p.0 ≡ name = cc in let second : p.1 ≡ rows = cc in ap₂ (λ (n : Text) (r : List Row). Some (n, r)) first second

again : {A B C : Type 0} (f : B → C) (g : A → B) (o : Option A) → option_map (λ a. f (g a)) o ≡ option_map f (option_map g o)
again f g None = refl
again f g (Some a) = refl

-- the name of the subcommand, by the rows
pub named : (m : ArgMatches) → subcommand_name_of m ≡ option_map (λ p. p.0) (subcommand_rows_of m)
named m = again (λ (p : Text × List Row). p.0) _ _

-- the values of a parse are those of its rows
pub values_are : (m : ArgMatches) → value_of m ≡ values_in (rows_of (found_of m))
values_are m = λ i name. first_value-rows (found_of m) name i

-- where the command is the program's, its facts are those of the definition
module _ (app : App) (e : app ≡ alog_app) (words : List Text) where
  pub no_fault : (is_simple_and_free app ≡ true → fault_of app words ≡ []) → fault_of alog_app words ≡ []
  no_fault kinds = sym (ap (λ (a : App). fault_of a words) e) ∙ kinds (ap is_simple_and_free e ∙ alog_is_free)

  pub has_kind : (error : Error) → (is_simple_and_free app ≡ true → HasKind (fault_of app words) error)
      → HasKind (fault_of alog_app words) error
  has_kind error kinds = subst (λ (a : App). HasKind (fault_of a words) error) e (kinds (ap is_simple_and_free e ∙ alog_is_free))

  pub entered_is : (m : ArgMatches) → HasMatchesOf app words m → subcommand_rows_of m ≡ subcommand_of alog_app words
  entered_is m has = (has (ap is_simple e ∙ alog_is_simple)).1 ∙ ap (λ (a : App). subcommand_of a words) e

-- what the matches of words name, the words name
module _ (words : List Text) (m : ArgMatches) (are : AreMatchesOf words m) (command : Text) where
  pub names_command : (rows : List Row) → subcommand_name_of m ≡ Some command → option_map (λ p. p.1) (subcommand_rows_of m) ≡ Some rows
      → AsksCommand command words rows
  names_command rows name is = (are.0, sym are.1 ∙ pair_is (subcommand_rows_of m) command rows (sym (named m) ∙ name) is)

  pub names_no_command : (rows : List Row) → (subcommand_name_of m ≡ Some command → ⊥) → Names command words rows → ⊥
  names_no_command rows other is = other (named m ∙ ap (option_map (λ (p : Text × List Row). p.0)) (are.1 ∙ is))

replay_has_no_fault : (words : List Text) → AsksReplay words → fault_of alog_app words ≡ []
replay_has_no_fault words asks = subst (λ (w : List Text). fault_of alog_app w ≡ []) (sym asks.1) (replay_fault asks.0)

apart : (a b d : ℕ) → a ≡ b → (b ≡ d → ⊥) → a ≡ d → ⊥
apart a b d is other same = other (sym is ∙ same)

-- a command whose name has another first letter is not named by `alog replay`
replay_names_no : (command : Text) → slice_index command 0 ≢ 114 → (words : List Text) (rows : List Row) → AsksReplay words
    → Names command words rows → ⊥
replay_names_no command other words rows asks is =
    let entered = subst (λ (w : List Text). subcommand_of alog_app w ≡ Some (codes "replay", [])) (sym asks.1) (replay_is_entered asks.0) in
    let names : codes "replay" ≡ command = ap (λ (o : Option (Text
    × List Row)). unwrap_or (option_map (λ p. p.0) o) []) (sym entered ∙ is) in
    other (sym (ap (λ (t : Text). slice_index t 0) names))

-- the words `alog replay` name no other command, and are refused for want of memory alone
pub replay_no_format : (words : List Text) (rows : List Row) → AsksReplay words → Names (codes "format") words rows → ⊥
replay_no_format = replay_names_no (codes "format") (λ same. apart (slice_index (codes "format") 0) 102 114 refl (λ e. omega arith) same)

pub replay_no_check : (words : List Text) (rows : List Row) → AsksReplay words → Names (codes "check") words rows → ⊥
replay_no_check = replay_names_no (codes "check") (λ same. apart (slice_index (codes "check") 0) 99 114 refl (λ e. omega arith) same)

pub replay_no_load : (words : List Text) (rows : List Row) → AsksReplay words → Names (codes "load") words rows → ⊥
replay_no_load = replay_names_no (codes "load") (λ same. apart (slice_index (codes "load") 0) 108 114 refl (λ e. omega arith) same)

pub replay_no_pipe : (words : List Text) (rows : List Row) → AsksReplay words → Names (codes "pipe") words rows → ⊥
replay_no_pipe = replay_names_no (codes "pipe") (λ same. apart (slice_index (codes "pipe") 0) 112 114 refl (λ e. omega arith) same)

-- words that name one command name no other
pub one_command : (words : List Text) (command other : Text) (rows others : List Row) → slice_index command 0 ≢ slice_index other 0
    → Names command words rows → Names other words others → ⊥
one_command words command other rows others apart one two =
    let names : command ≡ other = ap (λ (o : Option (Text × List Row)). unwrap_or (option_map (λ p. p.0) o) []) (sym one ∙ two) in
    apart (ap (λ (t : Text). slice_index t 0) names)

pub format_is_no_check : (words : List Text) (rows others : List Row) → Names (codes "format") words rows
    → Names (codes "check") words others → ⊥
format_is_no_check words rows others =
    one_command words (codes "format") (codes "check") rows others (λ same. apart
    (slice_index (codes "format") 0) 102 99 refl (λ e. omega arith) (same ∙ refl))

pub format_is_no_replay : (words : List Text) (rows others : List Row) → Names (codes "format") words rows
    → Names (codes "replay") words others → ⊥
format_is_no_replay words rows others =
    one_command words (codes "format") (codes "replay") rows others (λ same. apart
    (slice_index (codes "format") 0) 102 114 refl (λ e. omega arith) (same ∙ refl))

pub check_is_no_replay : (words : List Text) (rows others : List Row) → Names (codes "check") words rows
    → Names (codes "replay") words others → ⊥
check_is_no_replay words rows others =
    one_command words (codes "check") (codes "replay") rows others (λ same. apart
    (slice_index (codes "check") 0) 99 114 refl (λ e. omega arith) (same ∙ refl))

pub load_is_no_format : (words : List Text) (rows others : List Row) → Names (codes "load") words rows
    → Names (codes "format") words others → ⊥
load_is_no_format words rows others =
    one_command words (codes "load") (codes "format") rows others (λ same. apart
    (slice_index (codes "load") 0) 108 102 refl (λ e. omega arith) (same ∙ refl))

pub load_is_no_check : (words : List Text) (rows others : List Row) → Names (codes "load") words rows
    → Names (codes "check") words others → ⊥
load_is_no_check words rows others =
    one_command words (codes "load") (codes "check") rows others (λ same. apart
    (slice_index (codes "load") 0) 108 99 refl (λ e. omega arith) (same ∙ refl))

pub load_is_no_replay : (words : List Text) (rows others : List Row) → Names (codes "load") words rows
    → Names (codes "replay") words others → ⊥
load_is_no_replay words rows others =
    one_command words (codes "load") (codes "replay") rows others (λ same. apart
    (slice_index (codes "load") 0) 108 114 refl (λ e. omega arith) (same ∙ refl))

pub pipe_is_no_format : (words : List Text) (rows others : List Row) → Names (codes "pipe") words rows
    → Names (codes "format") words others → ⊥
pipe_is_no_format words rows others =
    one_command words (codes "pipe") (codes "format") rows others (λ same. apart
    (slice_index (codes "pipe") 0) 112 102 refl (λ e. omega arith) (same ∙ refl))

pub pipe_is_no_check : (words : List Text) (rows others : List Row) → Names (codes "pipe") words rows
    → Names (codes "check") words others → ⊥
pipe_is_no_check words rows others =
    one_command words (codes "pipe") (codes "check") rows others (λ same. apart
    (slice_index (codes "pipe") 0) 112 99 refl (λ e. omega arith) (same ∙ refl))

pub pipe_is_no_replay : (words : List Text) (rows others : List Row) → Names (codes "pipe") words rows
    → Names (codes "replay") words others → ⊥
pipe_is_no_replay words rows others =
    one_command words (codes "pipe") (codes "replay") rows others (λ same. apart
    (slice_index (codes "pipe") 0) 112 114 refl (λ e. omega arith) (same ∙ refl))

pub pipe_is_no_load : (words : List Text) (rows others : List Row) → Names (codes "pipe") words rows
    → Names (codes "load") words others → ⊥
pipe_is_no_load words rows others =
    one_command words (codes "pipe") (codes "load") rows others (λ same. apart
    (slice_index (codes "pipe") 0) 112 108 refl (λ e. omega arith) (same ∙ refl))

-- words without a fault are refused for want of memory alone
pub lacks_memory : (words : List Text) (error : Error) → fault_of alog_app words ≡ [] → HasKind (fault_of alog_app words) error
    → kind_of error ≡ OutOfMemory
lacks_memory words error none has =
    elim (subst (λ (kinds : List ErrorKind). HasKind kinds error) none has) [ inl memory ↦ memory | inr among ↦ absurd among ]

pub replay_lacks_memory : (words : List Text) (error : Error) → AsksReplay words → HasKind (fault_of alog_app words) error
    → kind_of error ≡ OutOfMemory
replay_lacks_memory words error asks = lacks_memory words error (replay_has_no_fault words asks)

pub one_row : (command : Text) (words : List Text) (rows others : List Row) → Names command words rows → Names command words others
    → rows ≡ others
one_row command words rows others one other =
    ap (λ (o : Option (Text × List Row)). unwrap_or (option_map (λ p. p.1) o) []) (sym one ∙ other)

-- the words `alog replay` have no configuration
pub replay_no_config : (words : List Text) (rows : List Row) (file : Text) → AsksReplay words → Names (codes "replay") words rows
    → config_in rows ≡ Some file → ⊥
replay_no_config words rows file asks names is =
    let entered = subst (λ (w : List Text). subcommand_of alog_app w ≡ Some (codes "replay", [])) (sym asks.1) (replay_is_entered asks.0) in
    let bad : config_in [] ≡ Some file = subst (λ (rs : List Row). config_in rs ≡ Some file) (one_row
    (codes "replay") words rows [] names entered) is in cc

-- what is there is not absent
pub not_both : {T : Type 0} (o : Option T) → IsNone o → IsSome o → ⊥
not_both o none some = let bad : true ≡ false = sym some ∙ none in cc
