-- What the functions that append a kit's recordings compute.
use Rattle.std.specs.Prelude.{◌≡◌, ◌+◌, ◌++◌, ◌∷◌, [], ℕ, Bool, false, nat_le, List}
use Rattle.std.specs.Bool.{OnTrue}
use Rattle.std.specs.List.{AllZip}
use Rattle.sf_base.specs.declared.limits.TheConstants.{SAMPLES}
use Rattle.wave_file.specs.Imports.{BothSides, sides_of, import_edits}
use Rattle.kit_edits.specs.declared.kit.KitRecording.{KitRecording}
use Rattle.kit_edits.specs.declared.samples.KitSamples.{KitSamples}
use Rattle.kit_edits.specs.Names.{has_name}
use Rattle.kit_edits.specs.Numbers.{sample_count, numbered, all_numbered, have_room, name_of, used_after, sample_edits}

-- each recording with its points, split by channel
abbrev pub AreSplit : List KitRecording → List BothSides → Type 0
AreSplit recordings sides =
    AllZip (λ (r : KitRecording) (s : BothSides). s ≡ sides_of r.recording.channels) recordings sides

-- no recordings yet, for a bank of n samples
pub record IsStarted (n : ℕ) (kit : KitSamples) : Type 0 where
  pub edits : kit.edits.items ≡ []
  pub numbered : kit.numbered.items ≡ []
  pub count : kit.count ≡ n
  pub used : (name : List ℕ) → has_name kit.used name ≡ false

-- where a bank has room for a recording
pub record IsNumbered (old new : KitSamples) (r : KitRecording) : Type 0 where
  pub numbered : new.numbered.items ≡ old.numbered.items ++ numbered old.count r ∷ []
  pub count : new.count ≡ old.count + sample_count r

-- a recording is appended
pub record IsAppended (old new : KitSamples) (r : KitRecording) (has_room : Bool) : Type 0 where
  pub room : has_room ≡ nat_le (old.count + sample_count r) SAMPLES
  pub edits : new.edits.items ≡ old.edits.items ++ import_edits old.count (name_of (has_name old.used) r) r.recording
  pub used : (name : List ℕ) → has_name new.used name ≡ used_after (has_name old.used) r name
  pub numbers : OnTrue has_room (IsNumbered old new r)

-- no name is in use
abbrev pub no_names : List ℕ → Bool
no_names name = false

-- the recordings are appended to n samples
pub record AreSamples (n : ℕ) (rs : List KitRecording) (kit : KitSamples) (has_room : Bool) : Type 0 where
  pub room : has_room ≡ have_room n rs
  pub edits : kit.edits.items ≡ sample_edits n no_names rs
  pub numbers : OnTrue has_room (kit.numbered.items ≡ all_numbered n rs)
