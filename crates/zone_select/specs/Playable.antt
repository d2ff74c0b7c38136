-- The ranges of a voice's parameters.
use Rattle.std.specs.Prelude.{ℕ, ◌≡◌, ◌≤◌, ◌<◌, pos, negsuc, ◌≤ℤ◌, true}
use Rattle.sound_tables.specs.declared.octaves.TheConstants.{MOST_PHASE_INCREMENT}
use Rattle.zone_select.specs.declared.parameters.VoiceParameters.{VoiceParameters}

-- parameters for a sample with `count` points
pub record IsPlayable (count : ℕ) (v : VoiceParameters) : Type 0 where
  pub inside : v.end ≤ count
  pub ordered : v.looped ≡ true → v.loop_start < v.loop_end
  pub loop_inside : v.looped ≡ true → v.loop_end ≤ v.end
  pub phase_increment : v.phase_increment ≤ MOST_PHASE_INCREMENT
  pub left : negsuc 499 ≤ℤ v.pan
  pub right : v.pan ≤ℤ pos 500
