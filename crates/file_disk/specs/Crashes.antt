-- What a crash may leave. A file with bytes that aren't synced counts as unreadable: nothing is known of its bytes.
use Rattle.std.specs.Prelude.{◌≡◌, ◌≢◌, ◌⊎◌, ℕ, List, Option, Some, None, Result, Ok, Err, Bool, true, false, ⊤}
use Rattle.std.specs.Option.{option_map}
use Rattle.file_host.specs.declared.input_fault.InputFault.{InputFault}
use Rattle.file_host.specs.declared.input_fault.InputFault.TheVariants.{NotFound, Unreadable}
use Rattle.file_host.specs.World.{World, place_of, held_at, stores_at, with_file, with_folder_there}
use Rattle.file_disk.specs.Frames.{Frame, IfKnown, held_of}

-- ---- what the calls of a device do to what a crash leaves

-- The same files are there, but what they hold may differ.
pub record HasSameFiles (world durable : World) : Type 0 where
  pub paths : durable.paths ≡ world.paths
  pub nothing : (place : List ℕ) → world.files place ≡ Err NotFound → durable.files place ≡ Err NotFound
  pub there : (place : List ℕ) → durable.files place ≡ Err NotFound → world.files place ≡ Err NotFound

-- a change if a call succeeds, and none if it fails
abbrev pub ChangesIfOk : {U E : Type 0} → Result U E → (World → World) → Option World → Option World → Type 0
ChangesIfOk (Ok u) change old new = new ≡ option_map change old
ChangesIfOk (Err e) change old new = new ≡ old

-- a change, or none
abbrev pub MayChange : (World → World) → Option World → Option World → Type 0
MayChange change old new = (new ≡ old) ⊎ (new ≡ option_map change old)

-- bytes were written to the open file, and are not synced
abbrev pub unsynced : Option (List ℕ) → World → World
unsynced None durable = durable
unsynced (Some path) durable = with_file path (Err Unreadable) durable

-- the open file was synced
abbrev pub synced : Option (List ℕ) → Option World → World → World
synced None world durable = durable
synced (Some path) world durable = with_file path (held_of world path) durable

-- the same, if it is synced
abbrev pub synced_if : Bool → Option (List ℕ) → Option World → World → World
synced_if true output world durable = synced output world durable
synced_if false output world durable = durable

-- where nothing is known, no crash leaves anything
pub none_left : (left : World) → None ≡ Some left → ⊥
none_left left e = cc

-- ---- what crashes leave while calls run

-- A crash since then left what one before might have left, or what has this property. (It is said with negations, so that
-- it is a proposition.)
abbrev pub Since : (World → Type 0) → (World → Type 0) → (World → Type 0) → Type 0
Since before now P = (left : World) → now left → (before left → ⊥) → (P left → ⊥) → ⊥

-- what crashes of a device left so far, if there is one
abbrev pub past_in : {D : Type 0} → (D → World → Type 0) → Option D → World → Type 0
past_in past None left = ⊥
past_in past (Some device) left = past device left

-- one of two worlds
abbrev pub IsOneOf : Option World → Option World → World → Type 0
IsOneOf old new left = (old ≡ Some left) ⊎ (new ≡ Some left)

-- A crash in a call leaves what one before the call leaves, or what one after it leaves.
pub record Passes (before now : World → Type 0) (old new : Option World) : Type 0 where
  pub crash : Since before now (IsOneOf old new)
  -- what crashes before the call might have left counts on
  pub keeps : (left : World) → before left → now left

-- Each file that was there is as it was.
pub record KeepsFiles (old left : World) : Type 0 where
  pub paths : left.paths ≡ old.paths
  pub files : (place : List ℕ) → old.files place ≢ Err NotFound → left.files place ≡ old.files place

-- Each file that was there is as it was, but those at these two paths.
pub record KeepsFilesBut (one other : List ℕ) (old left : World) : Type 0 where
  pub paths : left.paths ≡ old.paths
  pub files : (place : List ℕ) → place ≢ place_of old one → place ≢ place_of old other → old.files place ≢ Err NotFound
      → left.files place ≡ old.files place

-- the file at the second path is the one that was at the first
abbrev pub HasMoved : List ℕ → List ℕ → World → World → Type 0
HasMoved from to old left = held_at left to ≡ held_at old from

-- what a crash leaves of a world, as far as the world is known
abbrev pub FromKnown : (World → World → Type 0) → Option World → World → Type 0
FromKnown R None left = ⊤
FromKnown R (Some old) left = R old left

-- What a crash leaves has this relation to what one at first left, now and in each crash since then.
pub record Leaves (R : World → World → Type 0) (before now : World → Type 0) (old new : Option World) : Type 0 where
  pub left : IfKnown R old new
  pub crash : Since before now (FromKnown R old)

-- all but the file at this path is as it was
abbrev pub IsBeside : Option World → List ℕ → World → Type 0
IsBeside old path left = Frame old (Some left) path

-- a file holds this text, as far as is known
abbrev pub HoldsText : Option World → List ℕ → List ℕ → Type 0
HoldsText None path text = ⊤
HoldsText (Some world) path text = held_at world path ≡ Ok text

-- all is as it was, or a folder was made where nothing was
abbrev pub LeavesFolder : List ℕ → World → World → Type 0
LeavesFolder path old left = (left ≡ old) ⊎ (left ≡ with_folder_there path old)

-- ---- saves

-- The file at this path is as it was, or holds the whole text.
pub record KeepsOrHolds (path text : List ℕ) (old left : World) : Type 0 where
  pub paths : left.paths ≡ old.paths
  pub here : (held_at left path ≡ held_at old path) ⊎ (held_at left path ≡ Ok text)

-- the same of a file that was there, at a place that stores
abbrev pub LeavesText : List ℕ → List ℕ → World → World → Type 0
LeavesText path text old left =
    stores_at old path ≡ true → held_at old path ≢ Err NotFound → KeepsOrHolds path text old left

-- The file at the second path is as it was, or holds this, and then so does that of the undo script.
pub record KeepsOrHoldsBoth (undo_path path : List ℕ) (undo text : Result (List ℕ) InputFault) (old left : World) : Type 0 where
  pub paths : left.paths ≡ old.paths
  pub here : (held_at left path ≡ held_at old path) ⊎ ((held_at left path ≡ text) × (held_at left undo_path ≡ undo))

-- the same while new files are put in place, if another file was there
abbrev pub LeavesBoth : List ℕ → List ℕ → List ℕ → List ℕ → World → World → Type 0
LeavesBoth undo_path new_undo path new_text old left =
    place_of old undo_path ≢ place_of old path → held_at old path ≢ Err NotFound
    → KeepsOrHoldsBoth undo_path path (held_at old new_undo) (held_at old new_text) old left

-- Where an undo script and a text are saved at two places that store, and a file was there for the text: that is as it
-- was, or holds the whole text, and then the undo script is whole.
abbrev pub LeavesPair : List ℕ → List ℕ → List ℕ → List ℕ → World → World → Type 0
LeavesPair undo_path undo path text old left =
    place_of old undo_path ≢ place_of old path → stores_at old undo_path ≡ true → stores_at old path ≡ true
    → held_at old path ≢ Err NotFound → KeepsOrHoldsBoth undo_path path (Ok undo) (Ok text) old left
