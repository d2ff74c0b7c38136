-- The algebra of worlds whose files are put one after the other.
use mathlib.Core.Path.{fun_ext}
use Rattle.std.proofs.Common.{◌≡◌, ◌≢◌, ℕ, List, Result, Ok, Err, Bool, true, false}
use Rattle.std.proofs.Common.{if◌then◌else◌, refl, sym, ap, ◌∙◌}
use Rattle.std.specs.Str.{bytes_eq}
use Rattle.std.proofs.lemmas.Slice.Eq.{bytes_eq-Decides}
use Rattle.file_host.specs.declared.input_fault.InputFault.{InputFault}
use Rattle.file_host.specs.declared.input_fault.InputFault.TheVariants.{NotFound}
use Rattle.file_host.specs.World.{World, place_of, held_at, stores_at, file_put, with_file, with_text, without_file}
use Rattle.file_host.proofs.FileLaws.{pick_it, put_at, put_beside}
use Rattle.file_disk.specs.Devices.{moved}

-- ---- files in a row

overwritten : {X : Type 0} (x y z : X) (b : Bool) → (if b then x else (if b then y else z)) ≡ (if b then x else z)
overwritten x y z true = refl
overwritten x y z false = refl

put_put : (held : List ℕ → Result (List ℕ) InputFault) (path : List ℕ) (first last : Result (List ℕ) InputFault)
    → file_put (file_put held path first) path last ≡ file_put held path last
put_put held path first last = fun_ext (λ (asked : List ℕ). overwritten last first (held asked) (bytes_eq asked path))

swapped : {X : Type 0} (x y z : X) (b c : Bool) → (b ≡ true → c ≡ true → ⊥)
    → (if b then x else (if c then y else z)) ≡ (if c then y else (if b then x else z))
swapped x y z true true h = absurd (h refl refl)
swapped x y z true false h = refl
swapped x y z false true h = refl
swapped x y z false false h = refl

put_swap : (held : List ℕ → Result (List ℕ) InputFault) (one other : List ℕ) (x y : Result (List ℕ) InputFault)
    → one ≢ other → file_put (file_put held other y) one x ≡ file_put (file_put held one x) other y
put_swap held one other x y apart =
    fun_ext (λ (asked : List ℕ). swapped x y (held asked) (bytes_eq asked one) (bytes_eq asked other)
    (λ e f. apart (sym ((bytes_eq-Decides asked one).0 e) ∙ (bytes_eq-Decides asked other).0 f)))

unchanged : {X : Type 0} (x y : X) (b : Bool) → (b ≡ true → x ≡ y) → (if b then x else y) ≡ y
unchanged x y true h = h refl
unchanged x y false h = refl

put_same : (held : List ℕ → Result (List ℕ) InputFault) (path : List ℕ) (left : Result (List ℕ) InputFault)
    → left ≡ held path → file_put held path left ≡ held
put_same held path left is =
    fun_ext (λ (asked : List ℕ). unchanged left (held asked) (bytes_eq asked path)
    (λ e. is ∙ sym (ap held ((bytes_eq-Decides asked path).0 e))))

-- ---- one world

-- a world with other files
abbrev with_files : World → (List ℕ → Result (List ℕ) InputFault) → World
with_files world files = record { paths = world.paths; files = files }

pub overwrites : (world : World) (path : List ℕ) (first last : Result (List ℕ) InputFault)
    → with_file path last (with_file path first world) ≡ with_file path last world
overwrites world path first last = ap (with_files world) (put_put world.files (place_of world path) first last)

pub swaps : (world : World) (one other : List ℕ) (x y : Result (List ℕ) InputFault) → place_of world one ≢ place_of world other
    → with_file one x (with_file other y world) ≡ with_file other y (with_file one x world)
swaps world one other x y apart =
    ap (with_files world) (put_swap world.files (place_of world one) (place_of world other) x y apart)

pub keeps : (world : World) (path : List ℕ) (left : Result (List ℕ) InputFault) → left ≡ held_at world path
    → with_file path left world ≡ world
keeps world path left is = ap (with_files world) (put_same world.files (place_of world path) left is)

pub same_path : (world : World) (one other : List ℕ) (left : Result (List ℕ) InputFault)
    → place_of world one ≡ place_of world other → with_file one left world ≡ with_file other left world
same_path world one other left e = ap (λ (p : List ℕ). with_files world (file_put world.files p left)) e

pub holds : (world : World) (path : List ℕ) (left : Result (List ℕ) InputFault) → held_at (with_file path left world) path ≡ left
holds world path left = put_at world.files (place_of world path) left

pub holds_beside : (world : World) (path asked : List ℕ) (left : Result (List ℕ) InputFault)
    → place_of world asked ≢ place_of world path → held_at (with_file path left world) asked ≡ held_at world asked
holds_beside world path asked left apart = put_beside world.files (place_of world path) left (place_of world asked) apart

-- a new file that is put in place is the file there
pub put_in_place : (world : World) (new real : List ℕ) (left : Result (List ℕ) InputFault)
    → held_at world new ≡ Err NotFound → moved new real (with_file new left world) ≡ with_file real left world
put_in_place world new real left free =
    ap (λ (x : Result (List ℕ) InputFault). with_file real x (without_file new (with_file new left world)))
    (holds world new left)
    ∙ ap (with_file real left) (overwrites world new left (Err NotFound) ∙ keeps world new (Err NotFound) (sym free))

-- a place with a file is not a free one
pub apart_by : (world : World) (one other : List ℕ) → held_at world one ≢ Err NotFound → held_at world other ≡ Err NotFound
    → place_of world one ≢ place_of world other
apart_by world one other there free same = there (ap world.files same ∙ free)

-- a text at a place that stores, by any path to it
pub is_with_text : (world : World) (path real text : List ℕ) → stores_at world path ≡ true
    → place_of world real ≡ place_of world path → with_file real (Ok text) world ≡ with_text path text world
is_with_text world path real text stores same =
    same_path world real path (Ok text) same
    ∙ sym (pick_it (with_file path (Ok text) world) world (stores_at world path) stores)
