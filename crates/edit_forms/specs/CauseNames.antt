-- The number, the name and the limit of each cause, as fault lines print them.
use Rattle.std.specs.Prelude.{ℕ, List, Option, Some, None, codes}
use Rattle.bank_validity.specs.declared.limits.Limit.{Limit}
use Rattle.edit_forms.specs.declared.cause.Cause.{Cause}
use Rattle.edit_forms.specs.declared.cause.Cause.TheVariants.{NoSuchPreset, NoSuchInstrument, NoSuchSample}
use Rattle.edit_forms.specs.declared.cause.Cause.TheVariants.{NoSuchZone, NoSuchModulator, BadPlace, InUse}
use Rattle.edit_forms.specs.declared.cause.Cause.TheVariants.{BadGenerator, NotSet, BadRange, SplitOutside}
use Rattle.edit_forms.specs.declared.cause.Cause.TheVariants.{NotJoinable, LinkedModulator, TooShort, LoopCut}
use Rattle.edit_forms.specs.declared.cause.Cause.TheVariants.{BadLoop, BadText, Full}

abbrev pub number_of : Cause → ℕ
number_of NoSuchPreset = 20
number_of NoSuchInstrument = 21
number_of NoSuchSample = 22
number_of NoSuchZone = 23
number_of NoSuchModulator = 24
number_of BadPlace = 25
number_of InUse = 26
number_of BadGenerator = 27
number_of NotSet = 28
number_of BadRange = 29
number_of SplitOutside = 30
number_of NotJoinable = 31
number_of LinkedModulator = 32
number_of TooShort = 33
number_of LoopCut = 34
number_of BadLoop = 35
number_of BadText = 36
number_of (Full limit) = 37

abbrev pub name_of : Cause → List ℕ
name_of NoSuchPreset = codes "NoSuchPreset"
name_of NoSuchInstrument = codes "NoSuchInstrument"
name_of NoSuchSample = codes "NoSuchSample"
name_of NoSuchZone = codes "NoSuchZone"
name_of NoSuchModulator = codes "NoSuchModulator"
name_of BadPlace = codes "BadPlace"
name_of InUse = codes "InUse"
name_of BadGenerator = codes "BadGenerator"
name_of NotSet = codes "NotSet"
name_of BadRange = codes "BadRange"
name_of SplitOutside = codes "SplitOutside"
name_of NotJoinable = codes "NotJoinable"
name_of LinkedModulator = codes "LinkedModulator"
name_of TooShort = codes "TooShort"
name_of LoopCut = codes "LoopCut"
name_of BadLoop = codes "BadLoop"
name_of BadText = codes "BadText"
name_of (Full limit) = codes "Full"

-- the limit that the edit would break
abbrev pub limit_of : Cause → Option Limit
limit_of (Full limit) = Some limit
limit_of _ = None
