-- The amounts of a pair of zones, where v has the settings of the instrument's zone and u those of the preset's; and
-- the parameters of its voice.
use Rattle.std.specs.Prelude.{ℕ, ◌==◌, ◌||◌, ◌&&◌, Bool, cond, nat_le, ℤ, pos, negsuc, ◌+ℤ◌, ◌-ℤ◌, ◌*ℤ◌, int_le}
use Rattle.std.specs.Prelude.{int_lt, List, [], ◌∷◌, length, map, fold, reverse, Option, Some, None, unwrap_or}
use Rattle.std.specs.Int.{w16, cast_signed, int_max, int_min}
use Rattle.std.specs.List.{find}
use Rattle.std.specs.Option.{option_or, option_map_or, is_some}
use Rattle.generators.specs.Defaults.{default_of}
use Rattle.generators.specs.Levels.{is_allowed}
use Rattle.generators.specs.declared.level.Level.TheVariants as level
use Rattle.modulators.specs.declared.modulator.Modulator.{Modulator}
use Rattle.modulators.specs.Modulators.{same_identity, default_velocity}
use Rattle.modulators.specs.Linear.{linear_value}
use Rattle.sound_tables.specs.Floor.{floor_div, floor_mod, clamped_at_zero}
use Rattle.sound_tables.specs.Tables.{frames_of, velocity_attenuation_of, phase_increment_of}
use Rattle.script_notes.specs.Notes.{Numbers}
use Rattle.bank_parts.specs.declared.parts.Sample.{Sample}
use Rattle.zone_select.specs.declared.parameters.VoiceParameters.{VoiceParameters}
use Rattle.zone_select.specs.ZoneSettings.{ZoneSettings}

-- ---- generators

-- the instrument's amount: the zone's, else its global zone's, else the default
abbrev pub instrument_amount : ZoneSettings → ℕ → ℤ
instrument_amount v op = option_map_or (cast_signed w16) (v.settings op) (unwrap_or (default_of op) (pos 0))

-- the preset's amount, if presets may set the operator: the zone's, else its global zone's, else zero
abbrev pub preset_amount : ZoneSettings → ℕ → ℤ
preset_amount u op = cond (is_allowed level.Preset op) (option_map_or (cast_signed w16) (u.settings op) (pos 0)) (pos 0)

-- the amount of a pair: the instrument's plus the preset's
unfoldable pub amount : ZoneSettings → ZoneSettings → ℕ → ℤ
amount v u op = instrument_amount v op +ℤ preset_amount u op

-- ---- modulators

-- the last modulator with the identity of m
abbrev pub last_of_identity : Modulator → List Modulator → Option Modulator
last_of_identity m mods = find (λ x. same_identity x m) (reverse mods)

-- that modulator of the zone, else of its global zone
abbrev pub modulator_of_identity : Modulator → ZoneSettings → Option Modulator
modulator_of_identity m t = option_or (last_of_identity m t.mods) (last_of_identity m t.inherited)

-- the amount of that modulator, else a default
abbrev pub amount_of_identity : Modulator → ZoneSettings → ℤ → ℤ
amount_of_identity m t default = option_map_or (λ (x : Modulator). x.amount) (modulator_of_identity m t) default

-- the amount of a modulator: the instrument's plus the preset's
unfoldable pub modulator_amount : Modulator → ZoneSettings → ZoneSettings → ℤ → ℤ
modulator_amount m v u default = amount_of_identity m v default +ℤ amount_of_identity m u (pos 0)

-- the sources of linear modulators: velocity or key, increasing or decreasing, unipolar or bipolar
abbrev pub linear_sources : List ℕ
linear_sources = 2 ∷ 3 ∷ 258 ∷ 259 ∷ 514 ∷ 515 ∷ 770 ∷ 771 ∷ []

-- the identity of the linear modulator from a source to a generator
abbrev pub linear_from : ℕ → ℕ → Modulator
linear_from source op = record { source = source; dest = op; amount = pos 0; amount_source = 0; transform = 0 }

-- its contribution to the generator, rounded down once
abbrev pub linear_part : ℕ → ℕ → ZoneSettings → ZoneSettings → ℕ → ℕ → ℤ
linear_part key velocity v u op source =
    option_map_or (λ x. floor_div (modulator_amount (linear_from source op) v u (pos 0) *ℤ x) 128)
    (linear_value (linear_from source op) key velocity) (pos 0)

abbrev pub total : List ℤ → ℤ
total zs = fold (λ s z. s +ℤ z) (pos 0) zs

-- the amount of a generator with its linear modulators
unfoldable pub moved_amount : ℕ → ℕ → ZoneSettings → ZoneSettings → ℕ → ℤ
moved_amount key velocity v u op = amount v u op +ℤ total (map (linear_part key velocity v u op) linear_sources)

-- ---- the parameters of a voice

-- the first number if it is from 0 to 127, else the second
abbrev pub midi_value_or : ℤ → ℕ → ℕ
midi_value_or (pos x) y = cond (nat_le x 127) x y
midi_value_or (negsuc x) y = y

-- clamped to low..high
abbrev pub clamped : ℕ → ℕ → ℤ → ℕ
clamped low high z = clamped_at_zero (int_min (int_max z (pos low)) (pos high))

-- an offset in points: the fine one, plus the coarse one in units of 32,768
abbrev pub offset : ZoneSettings → ZoneSettings → ℕ → ℕ → ℤ
offset v u fine coarse = amount v u fine +ℤ pos 32768 *ℤ amount v u coarse

abbrev pub key_of : Numbers → ZoneSettings → ZoneSettings → ℕ
key_of n v u = midi_value_or (amount v u 46) n.key

abbrev pub velocity_of : Numbers → ZoneSettings → ZoneSettings → ℕ
velocity_of n v u = midi_value_or (amount v u 47) n.velocity

-- the root key: the zone's, else the sample's, else 60
abbrev pub root_of : ZoneSettings → ZoneSettings → Sample → ℕ
root_of v u s = midi_value_or (amount v u 58) (cond (nat_le s.key 127) s.key 60)

-- the amount of a generator that may be modulated, at the key and velocity of the voice
abbrev pub moved : Numbers → ZoneSettings → ZoneSettings → ℕ → ℤ
moved n v u op = moved_amount (key_of n v u) (velocity_of n v u) v u op

-- the pitch relative to the recorded one, in cents
abbrev pub cents_of : Numbers → ZoneSettings → ZoneSettings → Sample → ℤ
cents_of n v u s =
    amount v u 56 *ℤ (pos (key_of n v u) -ℤ pos (root_of v u s)) +ℤ pos 100 *ℤ amount v u 51 +ℤ moved n v u 52
    +ℤ s.correction

-- the generator's attenuation, plus that of the velocity by its default modulator
abbrev pub attenuation_of : Numbers → ZoneSettings → ZoneSettings → ℤ
attenuation_of n v u =
    moved n v u 48
    +ℤ floor_div
    (modulator_amount default_velocity v u (pos 960) *ℤ pos (velocity_attenuation_of (velocity_of n v u)))
    960

abbrev pub start_of : ZoneSettings → ZoneSettings → Sample → ℕ
start_of v u s = clamped 0 (length s.points) (offset v u 0 4)

abbrev pub end_of : ZoneSettings → ZoneSettings → Sample → ℕ
end_of v u s = clamped (start_of v u s) (length s.points) (pos (length s.points) +ℤ offset v u 1 12)

abbrev pub loop_start_of : ZoneSettings → ZoneSettings → Sample → ℤ
loop_start_of v u s = option_map_or (λ l. pos l.0) s.looped (pos 0) +ℤ offset v u 2 45

abbrev pub loop_end_of : ZoneSettings → ZoneSettings → Sample → ℤ
loop_end_of v u s = option_map_or (λ l. pos l.1) s.looped (pos 0) +ℤ offset v u 3 50

-- the low two bits of sampleModes
abbrev pub mode_of : ZoneSettings → ZoneSettings → ℕ
mode_of v u = floor_mod (amount v u 54) 4

abbrev pub mode_has_loop : ZoneSettings → ZoneSettings → Bool
mode_has_loop v u = mode_of v u == 1 || mode_of v u == 3

-- the sample mode has a loop, the sample has one, and it lies within the points that are played
unfoldable pub is_looped : ZoneSettings → ZoneSettings → Sample → Bool
is_looped v u s =
    mode_has_loop v u && is_some s.looped
    && int_le (pos (start_of v u s)) (loop_start_of v u s) && int_lt (loop_start_of v u s) (loop_end_of v u s)
    && int_le (loop_end_of v u s) (pos (end_of v u s))

-- both ends of the loop
unfoldable pub loop_of : ZoneSettings → ZoneSettings → Sample → Option (ℕ × ℕ)
loop_of v u s = cond (is_looped v u s) (Some (clamped_at_zero (loop_start_of v u s), clamped_at_zero (loop_end_of v u s))) None

-- the parameters of the voice of a sample; the ends of a loop are 0 without a loop
unfoldable pub parameters_of : Numbers → ZoneSettings → ZoneSettings → Sample → VoiceParameters
parameters_of n v u s = record {
  start = start_of v u s;
  end = end_of v u s;
  loop_start = cond (is_looped v u s) (clamped_at_zero (loop_start_of v u s)) 0;
  loop_end = cond (is_looped v u s) (clamped_at_zero (loop_end_of v u s)) 0;
  looped = is_looped v u s;
  until_release = mode_of v u == 3;
  phase_increment = phase_increment_of (cents_of n v u s) s.rate;
  delay = frames_of (amount v u 33);
  attack = frames_of (moved n v u 34);
  hold = frames_of (amount v u 35);
  decay = frames_of (moved n v u 36);
  release = frames_of (moved n v u 38);
  sustain = clamped 0 960 (moved n v u 37);
  attenuation = attenuation_of n v u;
  pan = int_min (int_max (moved n v u 17) (negsuc 499)) (pos 500);
  length = n.length;
  class = amount v u 57;
}
