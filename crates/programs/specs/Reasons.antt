-- Why the system did not do something: the words for it, and the line of a program.
use Rattle.std.specs.Prelude.{ℕ, Bool, true, false, if◌then◌else◌, Option, Some, unwrap_or}
use Rattle.std.specs.Prelude.{List, [], ◌∷◌, codes}
use Rattle.programs.specs.Quotes.{shown_word, word_line}
use Rattle.programs.specs.declared.reasons.TheConstants.{CLOSED_PIPE}
use Rattle.std.specs.declared.io.ErrorKind.{ErrorKind}
use Rattle.std.specs.declared.io.ErrorKind.TheVariants.{NotFound, PermissionDenied, BrokenPipe}
use Rattle.std.specs.declared.io.ErrorKind.TheVariants.{AlreadyExists, WouldBlock}
use Rattle.std.specs.declared.io.ErrorKind.TheVariants.{NotADirectory, IsADirectory}
use Rattle.std.specs.declared.io.ErrorKind.TheVariants.{DirectoryNotEmpty, ReadOnlyFilesystem}
use Rattle.std.specs.declared.io.ErrorKind.TheVariants.{FilesystemLoop, StaleNetworkFileHandle}
use Rattle.std.specs.declared.io.ErrorKind.TheVariants.{InvalidInput, StorageFull, QuotaExceeded}
use Rattle.std.specs.declared.io.ErrorKind.TheVariants.{FileTooLarge, ResourceBusy}
use Rattle.std.specs.declared.io.ErrorKind.TheVariants.{ExecutableFileBusy, CrossesDevices}
use Rattle.std.specs.declared.io.ErrorKind.TheVariants.{TooManyLinks, InvalidFilename}
use Rattle.std.specs.declared.io.ErrorKind.TheVariants.{Interrupted, Unsupported, OutOfMemory}
use Rattle.std.specs.declared.io.ErrorKind.TheVariants.{Other}

-- The words of the system for a kind of error. Where they are not known, for an error of a device.
abbrev pub reason_text : ErrorKind → List ℕ
reason_text NotFound = codes "no such file or directory"
reason_text PermissionDenied = codes "permission denied"
reason_text BrokenPipe = codes "broken pipe"
reason_text AlreadyExists = codes "file exists"
reason_text WouldBlock = codes "resource temporarily unavailable"
reason_text NotADirectory = codes "not a directory"
reason_text IsADirectory = codes "is a directory"
reason_text DirectoryNotEmpty = codes "directory not empty"
reason_text ReadOnlyFilesystem = codes "read-only file system"
reason_text FilesystemLoop = codes "too many levels of symbolic links"
reason_text StaleNetworkFileHandle = codes "stale file handle"
reason_text InvalidInput = codes "invalid argument"
reason_text StorageFull = codes "no space left on device"
reason_text QuotaExceeded = codes "disk quota exceeded"
reason_text FileTooLarge = codes "file too large"
reason_text ResourceBusy = codes "device or resource busy"
reason_text ExecutableFileBusy = codes "text file busy"
reason_text CrossesDevices = codes "invalid cross-device link"
reason_text TooManyLinks = codes "too many links"
reason_text InvalidFilename = codes "file name too long"
reason_text Interrupted = codes "interrupted system call"
reason_text Unsupported = codes "operation not supported"
reason_text OutOfMemory = codes "out of memory"
reason_text _ = codes "input or output error"

-- A pipe was written to that nobody reads from any more.
abbrev pub is_closed_pipe : Option ErrorKind → Bool
is_closed_pipe (Some BrokenPipe) = true
is_closed_pipe _ = false

-- The line for what could not be done with the file or the device of a name, and why.
abbrev pub device_line : List ℕ → List ℕ → List ℕ → List ℕ → List ℕ
device_line program what name why =
    word_line program (codes "cannot " ∷ what ∷ codes " " ∷ []) (shown_word false name)
    (codes ": " ∷ why ∷ [])

-- What a program writes about a file or a device that failed: a line, and of a closed pipe nothing.
abbrev pub device_report : List ℕ → List ℕ → List ℕ → Option ErrorKind → List ℕ
device_report program what name reason =
    if is_closed_pipe reason then []
    else device_line program what name (reason_text (unwrap_or reason Other))

-- The exit status then. Of a closed pipe it is that of a program which SIGPIPE ended, in a shell.
abbrev pub device_status : Option ErrorKind → ℕ
device_status reason = if is_closed_pipe reason then CLOSED_PIPE else 1
