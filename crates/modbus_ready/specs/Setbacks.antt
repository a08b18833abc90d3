-- What an error of a socket that does not block comes to.
use Rattle.std.specs.Prelude.{◌≡◌, Some, pos}
use Rattle.std.specs.IoError.{raw_os_error}
use Rattle.std.specs.declared.io.Error.{Error}
use Rattle.std.specs.declared.io.ErrorKind.{ErrorKind}
use Rattle.std.specs.declared.io.ErrorKind.TheVariants as kind
use Rattle.modbus_ready.specs.declared.setback.Setback.{Setback}
use Rattle.modbus_ready.specs.declared.setback.Setback.TheVariants.{Again, NotReady, Failed}

-- of a wait, a read or a write: a signal interrupts it, and it is made again
abbrev pub setback_of : ErrorKind → Setback
setback_of kind.Interrupted = Again
setback_of kind.WouldBlock = NotReady
setback_of _ = Failed

-- of an accept: a peer may give its connection up before it is accepted, and the next one is
abbrev pub setback_of_accept : ErrorKind → Setback
setback_of_accept kind.ConnectionAborted = Again
setback_of_accept other = setback_of other

-- the system's error that the process has as many files open as it may (EMFILE)
abbrev pub IsManyFiles : Error → Type 0
IsManyFiles error = raw_os_error error ≡ Some (pos 24)
