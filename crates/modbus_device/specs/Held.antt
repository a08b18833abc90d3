-- What a unit of the device holds at first, besides its tables.
use Rattle.std.specs.Prelude.{◌≡◌, Bool, Option, Some, None, if◌then◌else◌}
use Rattle.modbus_files.specs.Files.{files_at_start}
use Rattle.modbus_files.specs.declared.maybe_filed.MaybeFiled.{MaybeFiled}
use Rattle.modbus_files.specs.declared.maybe_filed.MaybeFiled.TheVariants.{With, Without}
use Rattle.modbus_rules.specs.Rules.{RulesState, no_rules, nothing_written}
use Rattle.modbus_device.specs.declared.files.FileSizes.{FileSizes}

-- It has files of records exactly where it is told so: as many as are told, of as many records each, which hold 0.
abbrev pub HasFiles : {S : Type 0} → Option FileSizes → MaybeFiled S → Type 0
HasFiles (Some sizes) (With filed) = filed.files ≡ files_at_start sizes.files sizes.records
HasFiles (Some sizes) (Without service) = ⊥
HasFiles None (With filed) = ⊥
HasFiles None (Without service) = Unit {0}

-- What masters may do: nothing that may change something, or everything.
abbrev pub rules_by : Bool → RulesState
rules_by is_read_only = if is_read_only then nothing_written else no_rules
