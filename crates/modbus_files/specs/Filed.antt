-- A service that has files.
use Rattle.std.specs.Prelude.{◌≡◌, ℕ, ◌==◌, List, [], ⊤, if◌then◌else◌}
use Rattle.modbus_frame.specs.FunctionCodes.{read_file_record, write_file_record}
use Rattle.modbus_frame.specs.Meaning.{Asked, Custom}
use Rattle.modbus_service.specs.OnlyUnit.{Giving}
use Rattle.modbus_files.specs.declared.filed.FileCall.{FileCall}
use Rattle.modbus_files.specs.declared.filed.FileCall.TheVariants.{Read, Write, Other}
use Rattle.modbus_files.specs.declared.filed.Filed.{Filed}
use Rattle.modbus_files.specs.Files.{read_outcome, write_outcome, after_write}

-- what a request asks of files, and its bytes behind the function code
abbrev pub call_of : Asked → FileCall
call_of (Custom code bytes) = if code == read_file_record then Read else if code == write_file_record then Write else Other
call_of _ = Other

abbrev pub bytes_of : Asked → List ℕ
bytes_of (Custom code bytes) = bytes
bytes_of _ = []

-- What asks for records is answered by the files, which a write changes; all else is the service's.
abbrev pub GivesFiles : {S : Type 0} → Giving S → FileCall → Giving (Filed S)
GivesFiles gives Read old slave request outcome new = (outcome ≡ read_outcome old.files (bytes_of request)) × (new ≡ old)
GivesFiles gives Write old slave request outcome new =
    (outcome ≡ write_outcome old.files (bytes_of request)) × (new ≡ record old { files = after_write old.files (bytes_of request) })
GivesFiles gives Other old slave request outcome new = gives old.service slave request outcome new.service × (new.files ≡ old.files)

abbrev pub filed_answers : {S : Type 0} → Giving S → Giving (Filed S)
filed_answers gives old slave request outcome new = GivesFiles gives (call_of request) old slave request outcome new

-- what is told of records may take memory
abbrev pub TakesForFiles : FileCall → Type 0 → Type 0
TakesForFiles Other takes = takes
TakesForFiles _ takes = ⊤

abbrev pub filed_takes : {S : Type 0} → (S → ℕ → Asked → Type 0) → Filed S → ℕ → Asked → Type 0
filed_takes takes it slave request = TakesForFiles (call_of request) (takes it.service slave request)
