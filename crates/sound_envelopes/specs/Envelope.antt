-- The gain of the volume envelope at frame t, in 65536ths.
use Rattle.std.specs.Prelude.{ℕ, ◌-◌, ◌*◌, ◌/◌, cond, nat_lt, min}
use Rattle.sound_tables.specs.Tables.{gain_at}
use Rattle.zone_select.specs.declared.parameters.VoiceParameters.{VoiceParameters}

-- u frames into the decay and the sustain
unfoldable pub decayed : VoiceParameters → ℕ → ℕ
decayed v u = gain_at (cond (nat_lt 0 v.decay) (min v.sustain (960 * u / v.decay)) v.sustain)

-- before the note's end: delay, attack, hold, decay and sustain
unfoldable pub held : VoiceParameters → ℕ → ℕ
held v t =
    cond (nat_lt t v.delay) 0
    (cond (nat_lt (t - v.delay) v.attack) (65536 * (t - v.delay) / v.attack)
    (cond (nat_lt (t - v.delay - v.attack) v.hold) 65536
    (decayed v (t - v.delay - v.attack - v.hold))))

-- u frames into the release, which starts at the gain at the note's end
unfoldable pub released : VoiceParameters → ℕ → ℕ
released v u = held v v.length * gain_at (960 * u / v.release) / 65536

-- the gain at each frame before the voice is over
unfoldable pub envelope : VoiceParameters → ℕ → ℕ
envelope v t = cond (nat_lt t v.length) (held v t) (released v (t - v.length))
