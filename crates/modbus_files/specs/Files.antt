-- Files of a device, and what a request for records of them is answered (Modbus Application Protocol V1.1b3, sections 6.14 and 6.15).
use Rattle.std.specs.Prelude.{◌≡◌, ℕ, zero, suc, ◌+◌, ◌-◌, ◌*◌, ◌/◌, ◌%◌, ◌==◌, ◌&&◌, nat_le, min, Bool, false, List, [], ◌∷◌, ◌++◌, length, replicate, take, drop, slice_index, Option, Some, None, Result, Ok, Err, ⊤, if◌then◌else◌}
use Rattle.modbus_frame.specs.FunctionCodes.{read_file_record, write_file_record}
use Rattle.modbus_frame.specs.declared.code.ExceptionCode.{ExceptionCode}
use Rattle.modbus_frame.specs.declared.code.ExceptionCode.TheVariants.{IllegalDataAddress, IllegalDataValue}
use Rattle.modbus_frame.specs.declared.response.Response.{Response}
use Rattle.modbus_frame.specs.declared.response.Response.TheVariants as response
use Rattle.modbus_pdu.specs.Fields.{word_at, words_of}
use Rattle.modbus_pdu.specs.Word.{words}
use Rattle.modbus_service.specs.Outcome.{Outcome, reply, exception}
use Rattle.modbus_service.specs.declared.service.ServiceError.{ServiceError}
use Rattle.modbus_service.specs.declared.service.ServiceError.TheVariants.{Exception, NoMemory}
use Rattle.modbus_files.specs.declared.group.Group.{Group}

-- how many records a file has at most: they are numbered from 0 to 9999
abbrev pub most_records : ℕ
most_records = 10_000

-- the reference type of records of files
abbrev pub reference_type : ℕ
reference_type = 6

-- the bytes of a group that names records
abbrev pub group_size : ℕ
group_size = 7

-- the most bytes that a response has behind its byte count, and a request to read
abbrev pub most_told : ℕ
most_told = 245

-- files of so many records each, and the registers of all of them, file after file
pub record FilesState : Type 0 where
  pub records : ℕ
  pub registers : List ℕ

-- so many files, which hold 0
abbrev pub files_at_start : ℕ → ℕ → FilesState
files_at_start files records = record { records = min records most_records; registers = replicate (files * min records most_records) 0 }

-- where the records of a group begin among all
abbrev pub place_of : FilesState → Group → ℕ
place_of it g = (g.file - 1) * it.records + g.first

-- whether a group is of records of files, of a file that is there, and names at least one record and none behind the last of the file
abbrev pub is_there : FilesState → Group → Bool
is_there it g =
    (g.reference == reference_type) && nat_le 1 g.file && nat_le 1 g.len && nat_le (g.first + g.len) it.records
    && nat_le (place_of it g + g.len) (length it.registers)

-- the records of a group that is there
abbrev pub records_of : FilesState → Group → List ℕ
records_of it g = take g.len (drop (place_of it g) it.registers)

-- the group that bytes begin with: its reference type, its file, its first record, and how many
abbrev pub group_of : List ℕ → Group
group_of bytes = record { reference = slice_index bytes 0; file = word_at bytes 1; first = word_at bytes 3; len = word_at bytes 5 }

-- the groups of seven bytes each that bytes are
abbrev pub groups_of : ℕ → List ℕ → List Group
groups_of zero bytes = []
groups_of (suc n) bytes = group_of bytes ∷ groups_of n (drop group_size bytes)

-- what is told of a group: the length of what follows, the reference type, and the records
abbrev pub part_of : List ℕ → List ℕ
part_of records = (1 + 2 * length records) ∷ reference_type ∷ words records

-- One more group is told behind these bytes: exception 02 where it is not there, 03 where it makes the response too long.
abbrev pub one_more : FilesState → List ℕ → Group → Result (List ℕ) ExceptionCode
one_more it told g =
    if is_there it g
    then (if nat_le (length told + 2 + 2 * g.len) most_told then Ok (told ++ part_of (records_of it g)) else Err IllegalDataValue)
    else Err IllegalDataAddress

-- so are these, in order: the first that can't be decides
abbrev pub and_then : Result (List ℕ) ExceptionCode → (List ℕ → Result (List ℕ) ExceptionCode) → Result (List ℕ) ExceptionCode
and_then (Ok told) next = next told
and_then (Err code) next = Err code

abbrev pub told_of : FilesState → List ℕ → List Group → Result (List ℕ) ExceptionCode
told_of it told [] = Ok told
told_of it told (g ∷ rest) = and_then (one_more it told g) (λ more. told_of it more rest)

-- whether the data of a request to read is a byte count and groups of as many bytes, at least one and no more than a response has
abbrev pub is_read : List ℕ → Bool
is_read [] = false
is_read (count ∷ groups) = (count == length groups) && nat_le group_size count && nat_le count most_told && (count % group_size == 0)

-- the answer to a read of groups: the number of bytes, and what is told of each
abbrev pub response_of : Result (List ℕ) ExceptionCode → Outcome
response_of (Ok told) = reply (response.Custom read_file_record (length told ∷ told))
response_of (Err code) = exception code

-- The answer to Read File Record (6.14): exception 03 where the byte count is wrong; else that of the first group that can't be read, if there is
-- one; else all groups.
abbrev pub read_outcome : FilesState → List ℕ → Outcome
read_outcome it asked =
    if is_read asked then response_of (told_of it [] (groups_of (slice_index asked 0 / group_size) (drop 1 asked))) else exception IllegalDataValue

-- what a call tells that goes on telling
abbrev pub TellsOn : Result (List ℕ) ExceptionCode → Result (Unit {0}) ExceptionCode → List ℕ → Type 0
TellsOn (Ok more) (Ok done) told = told ≡ more
TellsOn (Err code) (Err error) told = error ≡ code
TellsOn _ _ told = ⊥

-- the most groups of a request to write: its 251 bytes have nine or more each
abbrev pub most_groups : ℕ
most_groups = 27

-- the bytes of the group that bytes begin with, and of its registers
abbrev pub written_size : List ℕ → ℕ
written_size bytes = group_size + 2 * (group_of bytes).len

-- How many bytes the group that bytes begin with has, where it can be written: exception 03 where it is cut short, 02 where it is not there.
abbrev pub one_size : FilesState → List ℕ → Result ℕ ExceptionCode
one_size it bytes =
    if nat_le group_size (length bytes) && nat_le (written_size bytes) (length bytes)
    then (if is_there it (group_of bytes) then Ok (written_size bytes) else Err IllegalDataAddress)
    else Err IllegalDataValue

abbrev pub then_check : Result ℕ ExceptionCode → (ℕ → Result (Unit {0}) ExceptionCode) → Result (Unit {0}) ExceptionCode
then_check (Ok size) next = next size
then_check (Err code) next = Err code

-- whether so many groups at most can be written, which bytes are: the first that can't be decides
unfoldable pub checked : ℕ → FilesState → List ℕ → Result (Unit {0}) ExceptionCode
checked zero it bytes = if length bytes == 0 then Ok tt else Err IllegalDataValue
checked (suc n) it bytes = if length bytes == 0 then Ok tt else then_check (one_size it bytes) (λ size. checked n it (drop size bytes))

-- these registers at the records of a group
abbrev pub with_records : FilesState → Group → List ℕ → FilesState
with_records it g ws =
    record it { registers = take (place_of it g) it.registers ++ (ws ++ drop (place_of it g + g.len) it.registers) }

-- the registers of the group that bytes begin with are written
abbrev pub with_one : FilesState → List ℕ → FilesState
with_one it bytes = with_records it (group_of bytes) (words_of (drop group_size bytes) (group_of bytes).len)

abbrev pub then_write : Result ℕ ExceptionCode → FilesState → (ℕ → FilesState) → FilesState
then_write (Ok size) it next = next size
then_write (Err code) it next = it

-- so many groups at most are written, in order, which bytes are, up to the first that can't be
unfoldable pub written : ℕ → FilesState → List ℕ → FilesState
written zero it bytes = it
written (suc n) it bytes =
    if length bytes == 0 then it else then_write (one_size it bytes) it (λ size. written n (with_one it bytes) (drop size bytes))

-- whether the data of a request to write is a byte count and as many bytes: those of a group with one register or more, and no more than fit
abbrev pub is_write : List ℕ → Bool
is_write [] = false
is_write (count ∷ groups) = (count == length groups) && nat_le 9 count && nat_le count 251

-- the response repeats the request (6.15)
abbrev pub repeated : List ℕ → Result (Unit {0}) ExceptionCode → Outcome
repeated asked (Ok done) = reply (response.Custom write_file_record asked)
repeated asked (Err code) = exception code

-- The answer to Write File Record (6.15): exception 03 where the byte count is wrong; else that of the first group that can't be written, if there
-- is one; else the request again.
abbrev pub write_outcome : FilesState → List ℕ → Outcome
write_outcome it asked = if is_write asked then repeated asked (checked most_groups it (drop 1 asked)) else exception IllegalDataValue

abbrev pub unless_refused : Result (Unit {0}) ExceptionCode → FilesState → FilesState → FilesState
unless_refused (Ok done) old new = new
unless_refused (Err code) old new = old

-- the files after it: all groups are written, or none
abbrev pub after_write : FilesState → List ℕ → FilesState
after_write it asked =
    if is_write asked then unless_refused (checked most_groups it (drop 1 asked)) it (written most_groups it (drop 1 asked)) else it

-- what is told of an outcome; memory may be refused for it
abbrev pub TellsFiles : Outcome → Result (Option Response) ServiceError → Type 0
TellsFiles outcome (Ok None) = ⊥
TellsFiles outcome (Ok (Some told)) = outcome ≡ reply told
TellsFiles outcome (Err (Exception code)) = outcome ≡ exception code
TellsFiles outcome (Err NoMemory) = ⊤

-- the files after a call: those after a write, unless memory was refused
abbrev pub files_after : Result (Option Response) ServiceError → FilesState → FilesState → FilesState
files_after (Ok told) old new = new
files_after (Err (Exception code)) old new = new
files_after (Err NoMemory) old new = old
