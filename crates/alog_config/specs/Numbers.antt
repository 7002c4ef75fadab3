-- The numbers of refusals.
use Rattle.std.specs.Prelude.{ℕ}
use Rattle.alog_config.specs.declared.fault.ConfigFault.{ConfigFault}
use Rattle.alog_config.specs.declared.fault.ConfigFault.TheVariants.{NotToml, Broken, OutOfMemory}
use Rattle.alog_config.specs.declared.fault.Rule.{Rule}
use Rattle.alog_config.specs.declared.fault.Rule.TheVariants.{UnknownKey, BadValue, Missing, NameTaken, NoSuchSink}

abbrev pub number_of_rule : Rule → ℕ
number_of_rule UnknownKey = 29
number_of_rule BadValue = 30
number_of_rule Missing = 31
number_of_rule NameTaken = 24
number_of_rule NoSuchSink = 32

abbrev pub number_of_fault : ConfigFault → ℕ
number_of_fault NotToml = 28
number_of_fault (Broken rule place) = number_of_rule rule
number_of_fault OutOfMemory = 1
