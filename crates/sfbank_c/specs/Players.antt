-- What the calls of a player do.
use Rattle.std.specs.Prelude.{◌%◌, ◌==◌, ℕ, ℤ, pos, cond, length, List, [], ◌∷◌}
use Rattle.mixer.specs.declared.playing.Release.{Release}
use Rattle.mixer.specs.Events.{after_block, block}
use Rattle.mixer.specs.Pressed.{after_release}
use Rattle.sfbank_c.specs.declared.open_player.OpenPlayer.{OpenPlayer}
use Rattle.sfbank_c.specs.declared.status.TheConstants.{BAD_LENGTH}

-- a player without voices
abbrev pub silent : OpenPlayer
silent = record { player = [] }

-- ---- frames

-- whole frames, left and right
abbrev pub block_status : ℕ → ℤ
block_status values = cond (values % 2 == 0) (pos 0) BAD_LENGTH

-- the next m frames, left and right interleaved
abbrev pub frames_of : List OpenPlayer → ℕ → List ℤ
frames_of [] m = []
frames_of (p ∷ _) m = block p.player m

-- a player m frames later
abbrev pub later : ℕ → OpenPlayer → OpenPlayer
later m p = record { player = after_block p.player m }

-- ---- voices

-- a player after a release
abbrev pub released : Release → OpenPlayer → OpenPlayer
released r p = record { player = after_release p.player r }

-- how many voices sound
abbrev pub voice_count : List OpenPlayer → ℕ
voice_count [] = 0
voice_count (p ∷ _) = length p.player

-- as many frames on both sides
abbrev pub float_status : ℕ → ℕ → ℤ
float_status left right = cond (left == right) (pos 0) BAD_LENGTH
