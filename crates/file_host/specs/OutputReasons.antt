-- The reason that is shown for each kind of error in writing an output.
use Rattle.std.specs.Prelude.{ℕ, List, codes}
use Rattle.std.specs.declared.io.ErrorKind.{ErrorKind}
use Rattle.std.specs.declared.io.ErrorKind.TheVariants.{NotFound, PermissionDenied, IsADirectory, NotADirectory}
use Rattle.std.specs.declared.io.ErrorKind.TheVariants.{InvalidFilename, FilesystemLoop, StorageFull, QuotaExceeded}
use Rattle.std.specs.declared.io.ErrorKind.TheVariants.{FileTooLarge, ReadOnlyFilesystem, BrokenPipe, ResourceBusy}
use Rattle.std.specs.declared.io.ErrorKind.TheVariants.{ExecutableFileBusy, AlreadyExists, CrossesDevices, TooManyLinks}

abbrev pub reason_of_output : ErrorKind → List ℕ
reason_of_output NotFound = codes "No such file or directory"
reason_of_output PermissionDenied = codes "Permission denied"
reason_of_output IsADirectory = codes "Is a directory"
reason_of_output NotADirectory = codes "Not a directory"
reason_of_output InvalidFilename = codes "File name too long"
reason_of_output FilesystemLoop = codes "Too many levels of symbolic links"
reason_of_output StorageFull = codes "No space left on device"
reason_of_output QuotaExceeded = codes "Disk quota exceeded"
reason_of_output FileTooLarge = codes "File too large"
reason_of_output ReadOnlyFilesystem = codes "Read-only file system"
reason_of_output BrokenPipe = codes "Broken pipe"
reason_of_output ResourceBusy = codes "Device or resource busy"
reason_of_output ExecutableFileBusy = codes "Text file busy"
reason_of_output AlreadyExists = codes "File exists"
reason_of_output CrossesDevices = codes "Invalid cross-device link"
reason_of_output TooManyLinks = codes "Too many links"
reason_of_output _ = codes "Can't be written"
