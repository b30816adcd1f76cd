-- Why a file was not read, by the kind of the system's error.
use Rattle.std.specs.declared.io.ErrorKind.{ErrorKind}
use Rattle.std.specs.declared.io.ErrorKind.TheVariants.{NotFound, NotADirectory, InvalidFilename, OutOfMemory}
use Rattle.bb_host.specs.declared.files.FileFailed.{FileFailed}
use Rattle.bb_host.specs.declared.files.FileFailed.TheVariants.{Missing, Memory, Fault}

-- there can be no such file, also where its name is too long or goes below a file; memory was wanting, or else it is a fault
abbrev pub failed_of : ErrorKind → FileFailed
failed_of NotFound = Missing
failed_of NotADirectory = Missing
failed_of InvalidFilename = Missing
failed_of OutOfMemory = Memory
failed_of kind = Fault
