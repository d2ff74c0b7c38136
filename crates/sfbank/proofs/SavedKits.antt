-- What `import --kit` reads of a folder that `wave --all` saved.
use Rattle.std.proofs.Common.{◌≡◌, ◌∙◌, ◌+◌, ◌-◌, ◌++◌, ℕ, zero, suc, List, [], ◌∷◌, length, codes, Option, Some, None, Ok, Bool}
use Rattle.std.proofs.Common.{true, false, refl, sym, ap, subst, arith, append_assoc}
use Rattle.std.proofs.lemmas.Bool.{ne_eqb}
use Rattle.std.proofs.lemmas.List.{length-append}
use Rattle.std.specs.Prelude.{◌||◌, ◌==◌, if◌then◌else◌, slice_get, slice_index, unwrap_or}
use Rattle.std.specs.List.{AllByRecursion}
use Rattle.std.specs.Path.{path_join, with_separator}
use Rattle.bank_folders.specs.Laws.{files_from, files_of}
use Rattle.bank_folders.specs.SampleFiles.{sample_file}
use Rattle.bank_parts.specs.declared.parts.Sample.{Sample}
use Rattle.file_host.specs.World.{World, file_at}
use Rattle.kit_of_instrument.specs.KitLines.{kit_text}
use Rattle.kit_of_instrument.specs.KitZones as kits
use Rattle.kit_of_instrument.proofs.FileLaws.{file_relative}
use Rattle.kit_of_instrument.proofs.KitLaws.{kits_read_back}
use Rattle.wave_file.specs.SampleWave.{sample_wave}
use Rattle.sfbank.specs.FolderPlans.{sample_path, sample_steps}
use Rattle.sfbank.specs.KitFolders.{kit_steps}
use Rattle.sfbank.specs.Outcome.{bank_in}
use Rattle.sfbank.specs.SavedKits.{SavedKitsReadBack}
use Rattle.sfbank.proofs.BankScripts.{sound_in}
use Rattle.sfbank.proofs.PackedFiles.{IsThere, all_there, all_there_now}

-- ---- paths

-- the byte after others, and the last one of a list that ends with it
last_of : (xs : List ℕ) (b : ℕ) → slice_index (xs ++ b ∷ []) (length (xs ++ b ∷ []) - 1) ≡ b
last_of [] b = refl
last_of (x ∷ xs) b =
    let count = length-append xs (b ∷ []) in
    let more : length (x ∷ (xs ++ b ∷ [])) - 1 ≡ suc (length (xs ++ b ∷ []) - 1) = omega (arith, count) in
    ap (slice_index (x ∷ (xs ++ b ∷ []))) more ∙ last_of xs b

-- a path in a folder in a folder
joined : (folder file : List ℕ) → (slice_index file 0 == 47) ≡ false
    → path_join folder (codes "samples/" ++ file) ≡ path_join (path_join folder (codes "samples")) file
unfolding path_join
joined folder file e =
    let base = with_separator folder in
    let inner = base ++ codes "samples" in
    let split : inner ≡ (base ++ codes "sample") ++ 115 ∷ [] = sym (append_assoc base (codes "sample") (115 ∷ [])) in
    let last : slice_index inner (length inner - 1) ≡ 115 =
    ap (λ (t : List ℕ). slice_index t (length t - 1)) split ∙ last_of (base ++ codes "sample") 115 in
    let count = length-append base (codes "samples") in
    let some : (length inner == 0) ≡ false = ne_eqb (length inner) 0 (λ z. omega (arith, count, z)) in
    rw (e, some, last)
    (sym (append_assoc base (codes "samples/") file)
    ∙ ap (λ (t : List ℕ). t ++ file) (sym (append_assoc base (codes "samples") (47 ∷ []))))

-- ---- the WAVE files

file_found : (n : ℕ) (samples : List Sample) (t : ℕ) (s : Sample) → slice_get samples t ≡ Some s
    → unwrap_or (slice_get (files_from n samples) t) [] ≡ sample_file (n + t) s.name
file_found n [] t s e = absurd cc
file_found n (x ∷ samples) zero s e =
    let same : x ≡ s = cc in
    let here : n ≡ n + 0 = omega arith in
    λ i. sample_file (here i) (same i).name
file_found n (x ∷ samples) (suc t) s e =
    let next : suc n + t ≡ n + suc t = omega arith in
    file_found (suc n) samples t s e ∙ ap (λ (m : ℕ). sample_file m s.name) next

wave_at : (w : World) (folder : List ℕ) (n : ℕ) (samples : List Sample) (t : ℕ) (s : Sample)
    → AllByRecursion (IsThere w) (sample_steps folder n samples) → slice_get samples t ≡ Some s
    → file_at w (sample_path folder (n + t) s.name) ≡ Ok (sample_wave s)
wave_at w folder n [] t s h e = absurd cc
wave_at w folder n (x ∷ samples) zero s h e =
    let same : x ≡ s = cc in
    let here : n ≡ n + 0 = omega arith in
    ap (λ (m : ℕ). file_at w (sample_path folder m s.name)) (sym here)
    ∙ subst (λ (y : Sample). file_at w (sample_path folder n y.name) ≡ Ok (sample_wave y)) same h.0
wave_at w folder n (x ∷ samples) (suc t) s h e =
    let next : suc n + t ≡ n + suc t = omega arith in
    ap (λ (m : ℕ). file_at w (sample_path folder m s.name)) (sym next) ∙ wave_at w folder (suc n) samples t s h.1 e

pub saved_kits : SavedKitsReadBack
saved_kits folder file i old left now bytes read is apart short alike =
    let b = bank_in file in
    let sound = sound_in file bytes read in
    let steps = kit_steps folder i b in
    let there = all_there_now steps left now alike
    (subst (λ (w : World). AllByRecursion (IsThere w) steps) (sym is) (all_there steps old apart short)) in
    record {
      text = kit_text (files_of b) b i;
      is_text = there.1.1.0;
      zones = kits_read_back b i sound;
      waves = λ n s e.
          let from_zero : 0 + n ≡ n = omega arith in
          let name : kits.file_at (files_of b) n ≡ codes "samples/" ++ sample_file n s.name =
          ap (λ (f : List ℕ). codes "samples/" ++ f)
          (file_found 0 b.samples n s e ∙ ap (λ (m : ℕ). sample_file m s.name) from_zero) in
          ap (λ (f : List ℕ). file_at now (path_join folder f)) name
          ∙ ap (file_at now) (joined folder (sample_file n s.name) (file_relative n s.name))
          ∙ ap (λ (m : ℕ). file_at now (sample_path folder m s.name)) (sym from_zero)
          ∙ wave_at now folder 0 b.samples n s there.1.1.1 e;
    }
