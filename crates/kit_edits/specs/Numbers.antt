-- The numbers of a kit's samples, and the edits that append them.
use Rattle.std.specs.Prelude.{◌+◌, ℕ, Bool, true, false, nat_le, if◌then◌else◌, List, [], ◌∷◌, ◌++◌}
use Rattle.std.specs.Option.{is_some}
use Rattle.sf_base.specs.declared.limits.TheConstants.{SAMPLES}
use Rattle.edit_forms.specs.declared.edit.Edit.{Edit}
use Rattle.wave_file.specs.declared.recording.Channels.{Channels}
use Rattle.wave_file.specs.declared.recording.Channels.TheVariants.{Mono, MonoSamples, Stereo}
use Rattle.wave_file.specs.Imports.{import_edits}
use Rattle.kit_edits.specs.declared.kit.KitRecording.{KitRecording}
use Rattle.kit_edits.specs.declared.numbers.Numbered.{Numbered}
use Rattle.kit_edits.specs.Names.{free_name, sample_names, with_names}

-- ---- numbers

abbrev pub has_sides : Channels → Bool
has_sides (Mono points) = false
has_sides (MonoSamples points) = false
has_sides (Stereo left right) = true

abbrev pub is_stereo : KitRecording → Bool
is_stereo r = has_sides r.recording.channels

-- how many samples a recording becomes
abbrev pub sample_count : KitRecording → ℕ
sample_count r = if is_stereo r then 2 else 1

-- a recording whose first sample has number n
abbrev pub numbered : ℕ → KitRecording → Numbered
numbered n r = record {
  left = n;
  right = if is_stereo r then n + 1 else n;
  is_stereo = is_stereo r;
  is_looped = is_some r.recording.sampler.looped;
}

-- the recordings with the numbers of their samples, from n on
abbrev pub all_numbered : ℕ → List KitRecording → List Numbered
all_numbered n [] = []
all_numbered n (r ∷ rs) = numbered n r ∷ all_numbered (n + sample_count r) rs

-- a bank of n samples has room for those of the recordings
abbrev pub have_room : ℕ → List KitRecording → Bool
have_room n [] = true
have_room n (r ∷ rs) = if nat_le (n + sample_count r) SAMPLES then have_room (n + sample_count r) rs else false

-- ---- edits

abbrev pub name_of : (List ℕ → Bool) → KitRecording → List ℕ
name_of used r = free_name used (is_stereo r) r.stem.now

-- the names in use after a recording
abbrev pub used_after : (List ℕ → Bool) → KitRecording → List ℕ → Bool
used_after used r = with_names (sample_names (is_stereo r) (name_of used r)) used

-- The edits that append recordings to n samples, where `used` tells which names are in use. Nothing follows a recording
-- for whose samples a bank has no room: its edits are refused.
abbrev pub sample_edits : ℕ → (List ℕ → Bool) → List KitRecording → List Edit
sample_edits n used [] = []
sample_edits n used (r ∷ rs) =
    import_edits n (name_of used r) r.recording
    ++ (if nat_le (n + sample_count r) SAMPLES then sample_edits (n + sample_count r) (used_after used r) rs else [])
