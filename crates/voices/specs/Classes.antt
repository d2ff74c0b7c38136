-- The exclusive class of a voice.
use Rattle.std.specs.Prelude.{ℤ, pos, Option, Some, None, if◌then◌else◌}
use Rattle.std.specs.Ordering.{int_eq}
use Rattle.zone_select.specs.declared.parameters.VoiceParameters.{VoiceParameters}

-- class 0 means none
abbrev pub exclusive_class : VoiceParameters → Option ℤ
exclusive_class v = if int_eq v.class (pos 0) then None else Some v.class
