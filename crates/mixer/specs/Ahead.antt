-- Frames that a player has summed before they are requested.
use Rattle.std.specs.Prelude.{◌≡◌, ℕ, ◌+◌, ◌-◌, ◌*◌, ◌/◌, ◌<◌, ◌≤◌, ℤ, pos, ◌+ℤ◌, List, All, filter, length, map}
use Rattle.std.specs.Prelude.{slice_index_or}
use Rattle.voices.specs.Within.{IsWithin}
use Rattle.mixer.specs.declared.ahead.Ahead.{Ahead}
use Rattle.mixer.specs.declared.ahead.TheConstants.{MOST_AHEAD, SIDES}
use Rattle.mixer.specs.declared.blocks.TheConstants.{GROUP}
use Rattle.mixer.specs.declared.playing.PlayingVoice.{PlayingVoice}
use Rattle.mixer.specs.Events.{is_sounding, total_at}
use Rattle.mixer.specs.KeptVoices.{AllYounger, lifetime}

-- a voice, n frames earlier
unfoldable pub rewound : ℕ → PlayingVoice → PlayingVoice
rewound n p = record p { voice = record { value = p.voice.value; age = p.voice.age - n } }

-- ---- the sums

-- value i of the remaining frames, without the shared sum
abbrev pub side_remaining : Ahead → ℕ → ℤ
side_remaining a i = slice_index_or a.sides (SIDES - 2 * a.left + i) (pos 0)

-- the shared sum at frame k of the remaining frames
abbrev pub middle_remaining : Ahead → ℕ → ℤ
middle_remaining a k = slice_index_or a.middle (MOST_AHEAD - a.left + k) (pos 0)

-- the remaining sums are possible sums of n voices
pub record AreWithin (n : ℕ) (a : Ahead) : Type 0 where
  pub most : a.left ≤ MOST_AHEAD
  pub sides : (i : ℕ) → i < 2 * a.left → IsWithin n (side_remaining a i)
  pub middle : (k : ℕ) → k < a.left → IsWithin n (middle_remaining a k)

-- the remaining sums are those of these voices from their next frames on
pub record AreSums (a : Ahead) (ps : List PlayingVoice) : Type 0 where
  pub within : AreWithin (length ps) a
  pub sums : (i : ℕ) → i < 2 * a.left → side_remaining a i +ℤ middle_remaining a (i / 2) ≡ total_at ps i

-- ---- the voices, which have advanced past the remaining frames

pub record IsAhead (a : Ahead) (ps : List PlayingVoice) : Type 0 where
  pub sums : AreSums a (map (rewound a.left) ps)
  pub given : All (λ p. a.left ≤ p.voice.age) ps
  pub young : AllYounger (lifetime + MOST_AHEAD) ps
  pub few : 0 < a.left → length ps ≤ GROUP

-- the voices that aren't over at the player's next frame, as they are then
unfoldable pub playing_now : Ahead → List PlayingVoice → List PlayingVoice
playing_now a ps = filter is_sounding (map (rewound a.left) ps)
