-- The number, the name and the MIDI numbers of each fault of a preset.
use Rattle.std.specs.Prelude.{ℕ, List, codes}
use Rattle.plan_presets.specs.declared.fault.PresetFault.{PresetFault}
use Rattle.plan_presets.specs.declared.fault.PresetFault.TheVariants.{Missing, InUse, BankTooHigh, NoneFree}
use Rattle.plan_presets.specs.declared.numbers.PresetNumbers.{PresetNumbers}

abbrev pub number_of : PresetFault → ℕ
number_of (Missing numbers) = 67
number_of (InUse numbers) = 68
number_of (BankTooHigh numbers) = 69
number_of (NoneFree numbers) = 70

abbrev pub name_of : PresetFault → List ℕ
name_of (Missing numbers) = codes "NoSuchNumbers"
name_of (InUse numbers) = codes "NumbersInUse"
name_of (BankTooHigh numbers) = codes "BankTooHigh"
name_of (NoneFree numbers) = codes "NoFreeNumbers"

abbrev pub numbers_of : PresetFault → PresetNumbers
numbers_of (Missing numbers) = numbers
numbers_of (InUse numbers) = numbers
numbers_of (BankTooHigh numbers) = numbers
numbers_of (NoneFree numbers) = numbers
