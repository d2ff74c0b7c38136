-- The number and the name of each fault of reading, as fault lines print them.
use Rattle.std.specs.Prelude.{ℕ, List, codes}
use Rattle.bank_format.specs.declared.fault.ReadFault.{ReadFault}
use Rattle.bank_format.specs.declared.fault.ReadFault.TheVariants.{NotRiff, NotSfbk, Truncated, MissingList}
use Rattle.bank_format.specs.declared.fault.ReadFault.TheVariants.{MissingChunk, Version, RecordSize, NoTerminal}
use Rattle.bank_format.specs.declared.fault.ReadFault.TheVariants.{BagOrder, IndexOutside, BadInstrument, BadSample}
use Rattle.bank_format.specs.declared.fault.ReadFault.TheVariants.{SampleRange, SampleType, RomSample, OddSamples}
use Rattle.bank_format.specs.declared.fault.ReadFault.TheVariants.{TooMany}

abbrev pub number_of : ReadFault → ℕ
number_of NotRiff = 1
number_of NotSfbk = 2
number_of Truncated = 3
number_of MissingList = 4
number_of MissingChunk = 5
number_of Version = 6
number_of RecordSize = 7
number_of NoTerminal = 8
number_of BagOrder = 9
number_of IndexOutside = 10
number_of BadInstrument = 11
number_of BadSample = 12
number_of SampleRange = 14
number_of SampleType = 15
number_of RomSample = 16
number_of OddSamples = 17
number_of TooMany = 18

abbrev pub name_of : ReadFault → List ℕ
name_of NotRiff = codes "NotRiff"
name_of NotSfbk = codes "NotSfbk"
name_of Truncated = codes "Truncated"
name_of MissingList = codes "MissingList"
name_of MissingChunk = codes "MissingChunk"
name_of Version = codes "Version"
name_of RecordSize = codes "RecordSize"
name_of NoTerminal = codes "NoTerminal"
name_of BagOrder = codes "BagOrder"
name_of IndexOutside = codes "IndexOutside"
name_of BadInstrument = codes "BadInstrument"
name_of BadSample = codes "BadSample"
name_of SampleRange = codes "SampleRange"
name_of SampleType = codes "SampleType"
name_of RomSample = codes "RomSample"
name_of OddSamples = codes "OddSamples"
name_of TooMany = codes "TooMany"
