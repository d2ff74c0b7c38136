-- The reason that is shown for each fault of an input.
use Rattle.std.specs.Prelude.{ℕ, List, codes}
use Rattle.file_host.specs.declared.input_fault.InputFault.{InputFault}
use Rattle.file_host.specs.declared.input_fault.InputFault.TheVariants.{NotFound, Denied, IsFolder, NotFolder}
use Rattle.file_host.specs.declared.input_fault.InputFault.TheVariants.{LongName, LinkLoop, Unreadable, TooLong}

abbrev pub reason_of : InputFault → List ℕ
reason_of NotFound = codes "No such file or directory"
reason_of Denied = codes "Permission denied"
reason_of IsFolder = codes "Is a directory"
reason_of NotFolder = codes "Not a directory"
reason_of LongName = codes "File name too long"
reason_of LinkLoop = codes "Too many levels of symbolic links"
reason_of Unreadable = codes "Can't be read"
reason_of TooLong = codes "Longer than 4294967303 bytes"
