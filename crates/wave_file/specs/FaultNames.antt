-- The number and the name that each fault of a WAVE file is reported by.
use Rattle.std.specs.Prelude.{ℕ, List, codes}
use Rattle.wave_file.specs.declared.fault.WaveFault.{WaveFault}
use Rattle.wave_file.specs.declared.fault.WaveFault.TheVariants.{NotWave, Truncated, Compressed, NoFormat}
use Rattle.wave_file.specs.declared.fault.WaveFault.TheVariants.{SampleBits, ChannelCount, NoData, HalfFrame}
use Rattle.wave_file.specs.declared.fault.WaveFault.TheVariants.{ShortSampler, UnityNote, LoopOutside, NoSuchChannel}
use Rattle.wave_file.specs.declared.fault.WaveFault.TheVariants.{TwoChannels, NotAPair, SidesDiffer}
use Rattle.wave_file.specs.declared.fault.WaveFault.TheVariants.{NotSixteenBits, OtherRate, ShortForLoop}

abbrev pub number_of : WaveFault → ℕ
number_of NotWave = 53
number_of Truncated = 54
number_of Compressed = 55
number_of NoFormat = 56
number_of SampleBits = 57
number_of ChannelCount = 58
number_of NoData = 59
number_of HalfFrame = 60
number_of ShortSampler = 61
number_of UnityNote = 62
number_of LoopOutside = 63
number_of NoSuchChannel = 71
number_of TwoChannels = 72
number_of NotAPair = 73
number_of SidesDiffer = 74
number_of NotSixteenBits = 78
number_of OtherRate = 79
number_of ShortForLoop = 80

abbrev pub name_of : WaveFault → List ℕ
name_of NotWave = codes "NotWave"
name_of Truncated = codes "Truncated"
name_of Compressed = codes "Compressed"
name_of NoFormat = codes "NoFormat"
name_of SampleBits = codes "SampleBits"
name_of ChannelCount = codes "ChannelCount"
name_of NoData = codes "NoData"
name_of HalfFrame = codes "HalfFrame"
name_of ShortSampler = codes "ShortSampler"
name_of UnityNote = codes "UnityNote"
name_of LoopOutside = codes "LoopOutside"
name_of NoSuchChannel = codes "NoSuchChannel"
name_of TwoChannels = codes "TwoChannels"
name_of NotAPair = codes "NotAPair"
name_of SidesDiffer = codes "SidesDiffer"
name_of NotSixteenBits = codes "NotSixteenBits"
name_of OtherRate = codes "OtherRate"
name_of ShortForLoop = codes "ShortForLoop"
