-- What the values of the options of `alog load` say, and which is the first that is refused.
use Rattle.std.specs.Prelude.{◌≡◌, ◌^◌, ◌-◌, ℕ, List, Some, codes, IfSome, MatchOption}
use Rattle.std.specs.Option.{option_map}
use Rattle.std.specs.Str.Parse.{digits_value}
use Rattle.alog_program.specs.Options.{Allows, Values, text_of}
use Rattle.alog_program.specs.declared.load_options.LoadOption.{LoadOption}
use Rattle.alog_program.specs.declared.load_options.LoadOption.TheVariants.{Producers, Messages}
use Rattle.alog_program.specs.declared.load_options.LoadValueError.{LoadValueError}
use Rattle.alog_program.specs.declared.options.Allowed.TheVariants.{Unsigned}
use Rattle.alog_program.specs.declared.request.LoadRequest.{LoadRequest}

abbrev pub name_of : LoadOption → List ℕ
name_of Producers = codes "producers"
name_of Messages = codes "messages"

-- the number that stands for one that is not given
abbrev pub standard_of : LoadOption → ℕ
standard_of Producers = 1
standard_of Messages = 100

-- decimal digits of a number of 64 bits
abbrev pub IsCount : List ℕ → Type 0
IsCount text = Allows (Unsigned (2 ^ 64 - 1)) text

-- the option is not given, or its value is such digits
abbrev pub IsReadable : Values → LoadOption → Type 0
IsReadable values option = IfSome (values (name_of option)) IsCount

-- the number that the option's digits spell, or the one that stands for it
abbrev pub IsCountOf : Values → LoadOption → ℕ → Type 0
IsCountOf values option n = MatchOption (values (name_of option)) (n ≡ standard_of option) (λ digits. n ≡ digits_value 10 digits)

-- the load is asked for by these values, and each is allowed
pub record AsksForLoad (values : Values) (r : LoadRequest) : Type 0 where
  pub readable : (option : LoadOption) → IsReadable values option
  pub file : r.file.now ≡ text_of values (codes "CONFIG")
  pub producers : IsCountOf values Producers r.producers
  pub messages : IsCountOf values Messages r.messages
  pub folder : option_map (λ f. f.now) r.folder ≡ values (codes "folder")

-- the option is given, and refused
pub record RefusesCount (values : Values) (option : LoadOption) (fault : LoadValueError) : Type 0 where
  pub names : fault.option ≡ option
  pub given : values (name_of option) ≡ Some fault.value.now
  pub refused : ¬ IsCount fault.value.now

-- the first option whose value is refused
pub record IsFirstUnread (values : Values) (fault : LoadValueError) : Type 0 where
  pub refused : RefusesCount values fault.option fault
  pub earlier : fault.option ≡ Messages → IsReadable values Producers
