-- What `pack` makes of a folder that `unpack` saved.
use Rattle.std.proofs.Common.{◌≡◌, ◌≢◌, ◌∙◌, ℕ, suc, List, [], ◌∷◌, map, Result, Ok, Err, Bool, true, false, refl, sym, ap, subst}
use Rattle.std.specs.Prelude.{if◌then◌else◌, nat_le, length}
use Rattle.std.specs.Str.{bytes_eq}
use Rattle.std.specs.List.{AllByRecursion, AllZip}
use Rattle.std.specs.Path.{path_join}
use Rattle.std.proofs.lemmas.Slice.Eq.{bytes_eq-Decides}
use Rattle.bank_parts.specs.declared.parts.Sample.{Sample}
use Rattle.bank_folders.specs.declared.bare.BareSample.{BareSample}
use Rattle.bank_folders.specs.Folders.{bare_samples}
use Rattle.bank_folders.specs.Laws.{bare_lines, file_of_bare, files_from}
use Rattle.bank_folders.specs.SampleFiles.{sample_file}
use Rattle.bank_folders.proofs.FolderLaws.{give_bank}
use Rattle.edit_script.specs.declared.parsing.Line.{Line}
use Rattle.file_host.specs.declared.input_fault.InputFault.{InputFault}
use Rattle.file_host.specs.declared.input_fault.InputFault.TheVariants.{TooLong}
use Rattle.file_host.specs.World.{World, file_at, file_put, held_at, is_nothing, most_bytes, place_of, read_of, stores_at}
use Rattle.file_host.specs.World.{with_file, with_folder}
use Rattle.program_reports.specs.declared.run_fault.RunFault.{RunFault}
use Rattle.sfbank.specs.BankScripts.{bare_form, form_text}
use Rattle.wave_file.specs.SampleWave.{sample_wave}
use Rattle.sfbank.specs.FolderPlans.{entries_due, entries_or_none, folder_steps, sample_entry, sample_steps, samples_path}
use Rattle.sfbank.specs.Folders.{lines_read}
use Rattle.sfbank.specs.KitPlans.{Entry}
use Rattle.sfbank.specs.Outcome.{bank_in}
use Rattle.sfbank.specs.PackedFiles.{AreApart, IsApartFrom, IsShort, IsStored, ReadsAlike, SavedFoldersPackBack}
use Rattle.sfbank.specs.PackedFiles.{path_of_step}
use Rattle.sfbank.specs.PlanParts.{FolderStep, MakesFolder, SavesFile}
use Rattle.sfbank.specs.SavedFolders.{saved_step, saved_steps}
use Rattle.sfbank.proofs.BankScripts.{sound_in}
use Rattle.sfbank.proofs.FolderRuns.{bank_packs, bare_read}

-- ---- what a step keeps

place_if : (w v : World) (b : Bool) (path : List ℕ) → place_of v path ≡ place_of w path
    → place_of (if b then v else w) path ≡ place_of w path
place_if w v true path e = e
place_if w v false path e = refl

place_kept : (s : FolderStep) (w : World) (path : List ℕ) → place_of (saved_step s w) path ≡ place_of w path
place_kept (MakesFolder p) w path = place_if w (with_folder p w) (is_nothing (held_at w p)) path refl
place_kept (SavesFile p text) w path = place_if w (with_file p (Ok text) w) (stores_at w p) path refl

-- a choice by a test that fails
other : {X : Type 0} (x y : X) (b : Bool) → (b ≡ true → ⊥) → (if b then x else y) ≡ y
other x y true h = absurd (h refl)
other x y false h = refl

not_equal : (a b : List ℕ) → a ≢ b → bytes_eq a b ≡ true → ⊥
not_equal a b h e = h ((bytes_eq-Decides a b).0 e)

files_if : (w v : World) (b : Bool) (place : List ℕ) → v.files place ≡ w.files place
    → (if b then v else w).files place ≡ w.files place
files_if w v true place e = e
files_if w v false place e = refl

files_kept : (s : FolderStep) (w : World) (place : List ℕ) → place ≢ place_of w (path_of_step s)
    → (saved_step s w).files place ≡ w.files place
files_kept (MakesFolder p) w place h =
    files_if w (with_folder p w) (is_nothing (held_at w p)) place
    (other _ (w.files place) (bytes_eq place (place_of w p)) (not_equal place (place_of w p) h))
files_kept (SavesFile p text) w place h =
    files_if w (with_file p (Ok text) w) (stores_at w p) place
    (other _ (w.files place) (bytes_eq place (place_of w p)) (not_equal place (place_of w p) h))

stores_if : (w v : World) (b : Bool) (place : List ℕ) → v.paths.stores place ≡ w.paths.stores place
    → (if b then v else w).paths.stores place ≡ w.paths.stores place
stores_if w v true place e = e
stores_if w v false place e = refl

stores_kept : (s : FolderStep) (w : World) (place : List ℕ) → place ≢ place_of w (path_of_step s)
    → (saved_step s w).paths.stores place ≡ w.paths.stores place
stores_kept (MakesFolder p) w place h =
    stores_if w (with_folder p w) (is_nothing (held_at w p)) place
    (other false (w.paths.stores place) (bytes_eq place (place_of w p)) (not_equal place (place_of w p) h))
stores_kept (SavesFile p text) w place h = stores_if w (with_file p (Ok text) w) (stores_at w p) place refl

-- ---- what steps keep

all_apart_kept : (steps : List FolderStep) (w : World) (t s : FolderStep) → AllByRecursion (IsApartFrom w s) steps
    → AllByRecursion (IsApartFrom (saved_step t w) s) steps
all_apart_kept [] w t s h = tt
all_apart_kept (u ∷ steps) w t s h = (
  (λ e. h.0 (sym (place_kept t w (path_of_step u)) ∙ e ∙ place_kept t w (path_of_step s))),
  all_apart_kept steps w t s h.1,
)

held_kept : (steps : List FolderStep) (w : World) (s : FolderStep) → AllByRecursion (IsApartFrom w s) steps
    → held_at (saved_steps steps w) (path_of_step s) ≡ held_at w (path_of_step s)
held_kept [] w s h = refl
held_kept (t ∷ steps) w s h =
    let v = saved_step t w in
    let path = path_of_step s in
    held_kept steps v s (all_apart_kept steps w t s h.1)
    ∙ ap v.files (place_kept t w path)
    ∙ files_kept t w (place_of w path) (λ e. h.0 (sym e))

stored_kept : (s t : FolderStep) (w : World) → IsApartFrom w t s → IsStored w s → IsStored (saved_step t w) s
stored_kept (MakesFolder p) t w h k = tt
stored_kept (SavesFile p text) t w h k =
    ap (saved_step t w).paths.stores (place_kept t w p) ∙ stores_kept t w (place_of w p) h ∙ k

apart_kept : (steps : List FolderStep) (w : World) (t : FolderStep) → AllByRecursion (IsApartFrom w t) steps
    → AreApart w steps → AreApart (saved_step t w) steps
apart_kept [] w t h k = tt
apart_kept (s ∷ steps) w t h k =
    (stored_kept s t w h.0 k.0, all_apart_kept steps w t s k.1, apart_kept steps w t h.1 k.2)

-- ---- what is saved is there

-- a file is there, and can be read
abbrev pub IsThere : World → FolderStep → Type 0
IsThere w (MakesFolder path) = Unit {0}
IsThere w (SavesFile path text) = file_at w path ≡ Ok text

put_there : (w : World) (p text : List ℕ) → stores_at w p ≡ true → held_at (saved_step (SavesFile p text) w) p ≡ Ok text
put_there w p text e = by_test (stores_at w p) e
  where
    same : (left : Result (List ℕ) InputFault) → file_put w.files (place_of w p) left (place_of w p) ≡ left
    same left = by_eq (bytes_eq (place_of w p) (place_of w p)) ((bytes_eq-Decides (place_of w p) (place_of w p)).1 refl)
      where
        by_eq : (b : Bool) → b ≡ true → (if b then left else w.files (place_of w p)) ≡ left
        by_eq true k = refl
        by_eq false k = absurd cc

    by_test : (b : Bool) → b ≡ true → held_at (if b then with_file p (Ok text) w else w) p ≡ Ok text
    by_test true k = same (Ok text)
    by_test false k = absurd cc

short_read : (text : List ℕ) → nat_le (length text) most_bytes ≡ true → read_of (Ok text) ≡ Ok text
short_read text e = by_test (nat_le (length text) most_bytes) e
  where
    by_test : (b : Bool) → b ≡ true → (let r : Result (List ℕ) InputFault = if b then Ok text else Err TooLong in r) ≡ Ok text
    by_test true k = refl
    by_test false k = absurd cc

there_after : (s : FolderStep) (steps : List FolderStep) (w : World) → IsStored w s → IsShort s
    → AllByRecursion (IsApartFrom w s) steps → IsThere (saved_steps (s ∷ steps) w) s
there_after (MakesFolder p) steps w k l h = tt
there_after (SavesFile p text) steps w k l h =
    ap read_of
    (held_kept steps (saved_step (SavesFile p text) w) (SavesFile p text)
    (all_apart_kept steps w (SavesFile p text) (SavesFile p text) h)
    ∙ put_there w p text k)
    ∙ short_read text l

pub all_there : (steps : List FolderStep) (w : World) → AreApart w steps → AllByRecursion IsShort steps
    → AllByRecursion (IsThere (saved_steps steps w)) steps
all_there [] w h k = tt
all_there (s ∷ steps) w h k =
    (there_after s steps w h.0 k.0 h.1, all_there steps (saved_step s w) (apart_kept steps w s h.1 h.2) k.1)

-- they are there still
there_now : (s : FolderStep) (left now : World) → ReadsAlike left now s → IsThere left s → IsThere now s
there_now (MakesFolder p) left now e h = tt
there_now (SavesFile p text) left now e h = e ∙ h

pub all_there_now : (steps : List FolderStep) (left now : World) → AllByRecursion (ReadsAlike left now) steps
    → AllByRecursion (IsThere left) steps → AllByRecursion (IsThere now) steps
all_there_now [] left now e h = tt
all_there_now (s ∷ steps) left now e h = (there_now s left now e.0 h.0, all_there_now steps left now e.1 h.1)

-- ---- the WAVE files

waves_there : (w : World) (folder : List ℕ) (bare : List BareSample) (samples : List Sample) (n : ℕ)
    → map file_of_bare bare ≡ files_from n samples → AllByRecursion (IsThere w) (sample_steps folder n samples)
    → AllZip (λ (e : Entry) (wave : List ℕ). file_at w e.path ≡ Ok wave) (map (sample_entry folder) bare)
    (map sample_wave samples)
waves_there w folder [] [] n e h = tt
waves_there w folder [] (s ∷ samples) n e h = absurd cc
waves_there w folder (b ∷ bare) [] n e h = absurd cc
waves_there w folder (b ∷ bare) (s ∷ samples) n e h =
    let first : file_of_bare b ≡ sample_file n s.name = cc in
    let others : map file_of_bare bare ≡ files_from (suc n) samples = cc in (
      ap (λ (name : List ℕ). file_at w (path_join (samples_path folder) name)) first ∙ h.0,
      waves_there w folder bare samples (suc n) others h.1,
    )

pub saved_folders : SavedFoldersPackBack
saved_folders folder file old left now bytes read is apart short alike =
    let b = bank_in file in
    let sound = sound_in file bytes read in
    let packed = give_bank b sound in
    let steps = folder_steps folder b in
    let there = all_there_now steps left now alike
    (subst (λ (w : World). AllByRecursion (IsThere w) steps) (sym is) (all_there steps old apart short)) in
    record {
      text = form_text (bare_form true) b;
      waves = map sample_wave b.samples;
      is_text = there.1.1.0;
      are_waves = subst
          (λ (r : Result (List Line) RunFault).
          AllZip (λ (e : Entry) (wave : List ℕ). file_at now e.path ≡ Ok wave) (entries_or_none (entries_due folder r))
          (map sample_wave b.samples))
          (ap lines_read (sym (bare_read true b sound)))
          (waves_there now folder (bare_samples (bare_lines b)) b.samples 0 packed.files there.1.1.1);
      packs = bank_packs true b sound;
    }
