-- Runs that make the bank of a folder.
use Rattle.std.proofs.Common.{◌≡◌, ◌∙◌, ◌+◌, ◌++◌, ℕ, zero, suc, Bool, true, false, List, [], ◌∷◌, drop, map, length, Option, Some, None}
use Rattle.std.proofs.Common.{Result, Ok, Err, ap, refl, subst, sym, arith}
use Rattle.std.specs.Prelude.{slice_get}
use Rattle.std.specs.List.{AllZip, zip}
use Rattle.std.proofs.lemmas.List.{append-nil, append_assoc}
use Rattle.sf_base.specs.declared.memory.Failure.{Failure}
use Rattle.sf_base.specs.declared.memory.Failure.TheVariants as failures
use Rattle.bank_parts.specs.declared.parts.Parts.{Parts}
use Rattle.bank_parts.specs.declared.parts.Sample.{Sample}
use Rattle.bank_format.specs.Canon.{canon}
use Rattle.bank_folders.specs.declared.bare.BareSample.{BareSample}
use Rattle.bank_folders.specs.Folders.{bare_samples, points_for}
use Rattle.bank_folders.specs.Minors.{minor_in}
use Rattle.bank_folders.specs.Laws.{GetsPoints, bare_lines}
use Rattle.bank_folders.proofs.FolderLaws.{give_bank}
use Rattle.edit_script.specs.declared.parsing.Line.{Line}
use Rattle.edit_script.specs.Script.{script_of}
use Rattle.edit_script.specs.Printing.{numbered}
use Rattle.edit_script.proofs.LineLaws.{edits_numbered}
use Rattle.script_of_bank.specs.BankEdits.{edits_of_bank, empty}
use Rattle.commented_scripts.specs.CommentedScript.{commented_script}
use Rattle.commented_scripts.proofs.CommentedLaws as laws
use Rattle.bank_parts.specs.Sound.{IsSound}
use Rattle.bank_folders.proofs.MinorLaws.{first_minor}
use Rattle.sfbank.specs.BankScripts.{bare_form, form_text}
use Rattle.script_of_bank.specs.LeadsTo.{Leads}
use Rattle.script_of_bank.specs.declared.samples.SamplePoints.TheVariants.{LeftOut}
use Rattle.script_of_bank.proofs.Law.{whole}
use Rattle.script_tokens.specs.declared.fault.ScriptFault.{ScriptFault}
use Rattle.script_tokens.specs.Pool as scripts
use Rattle.wave_file.specs.SampleWave.{sample_wave}
use Rattle.wave_file.specs.declared.fault.WaveFault.{WaveFault}
use Rattle.program_reports.specs.declared.run_fault.RunFault.{RunFault}
use Rattle.program_reports.specs.declared.run_fault.RunFault.TheVariants as run
use Rattle.program_reports.specs.RunFaults.{in_run}
use Rattle.sfbank.specs.EditRuns.{AllApplied, StopsAtLine}
use Rattle.sfbank.specs.Folders.{AreWavesFrom, FoldersPackBack, after_points, and_points, lines_read, made_of}
use Rattle.sfbank.specs.Folders.{pack_outcome, packed, points_from}
use Rattle.sfbank.specs.Outcome.{after_script, bank_in, first_refused}
use Rattle.sfbank.specs.PlanParts.{without_undo}
use Rattle.sfbank.specs.Recordings.{wave_of, wave_outcome}
use Rattle.sfbank.specs.Written.{FailsBefore, RunsOneText}
use Rattle.sfbank.proofs.BankScripts.{lines_lead, script_text, sound_in}
use Rattle.sfbank.proofs.Endings.{fails_through}
use Rattle.sfbank.proofs.Faults.{applied_done, stops_at}
use Rattle.sfbank.proofs.KitRuns.{joined, joined_twice}
use Rattle.sfbank.proofs.OneText.{one_text_fails}
use Rattle.sfbank.proofs.Recordings.{wave_on}

-- ---- the text

pub lines_fail : (text : List ℕ) (failure : Failure ScriptFault) → scripts.Fails failure (script_of text)
    → FailsBefore (in_run run.Script failure) (lines_read (script_of text))
lines_fail text (failures.Fault fault) h = ap lines_read h
lines_fail text failures.OutOfMemory h = tt

-- the fault of the text
pub no_packed : (text : List ℕ) (waves : List (List ℕ)) (fault : RunFault) → FailsBefore fault (lines_read (script_of text))
    → FailsBefore fault (pack_outcome text waves)
unfolding pack_outcome
no_packed text waves fault h =
    fails_through (λ (r : Result (List Line) RunFault). packed (minor_in text) r waves) (λ f. refl) fault
    (lines_read (script_of text)) h

-- nothing is written for a fault of the text
pub text_stops : (known : Option (List ℕ)) (text : List ℕ) (waves : List (List ℕ)) (fault : RunFault)
    → FailsBefore fault (lines_read (script_of text))
    → RunsOneText {U = Unit {0}} known known (pack_outcome text waves) (Err fault)
text_stops known text waves fault h =
    one_text_fails (Unit {0}) known (pack_outcome text waves) fault (no_packed text waves fault h)

-- the outcome for these lines
pub packed_lines : (text : List ℕ) (waves : List (List ℕ)) (lines : List Line) → lines_read (script_of text) ≡ Ok lines
    → pack_outcome text waves ≡ packed (minor_in text) (Ok lines) waves
unfolding pack_outcome
packed_lines text waves lines e = ap (λ (r : Result (List Line) RunFault). packed (minor_in text) r waves) e

-- ---- the points

and_joined : (n : ℕ) (points : List ℕ) (others : Result (List (List ℕ)) RunFault)
    → and_points n (Ok points) others ≡ joined (points ∷ []) others
and_joined n points (Ok more) = refl
and_joined n points (Err fault) = refl

-- one more file is read
pub one_pointed : (due : Result (List (List ℕ)) RunFault) (s : BareSample) (wave : List ℕ)
    (pairs : List (BareSample × List ℕ)) (n : ℕ) (ps new : List (List ℕ)) (points : List ℕ)
    → points_for s wave ≡ Ok points → new ≡ ps ++ points ∷ [] → due ≡ joined ps (points_from n ((s, wave) ∷ pairs))
    → due ≡ joined new (points_from (suc n) pairs)
one_pointed due s wave pairs n ps new points is pushed h =
    let others = points_from (suc n) pairs in
    h
    ∙ ap (λ (x : Result (List ℕ) WaveFault). joined ps (and_points n x others)) is
    ∙ ap (joined ps) (and_joined n points others)
    ∙ joined_twice ps (points ∷ []) others
    ∙ ap (λ (xs : List (List ℕ)). joined xs others) (sym pushed)

-- a file can't have the points of its sample
pub none_pointed : (due : Result (List (List ℕ)) RunFault) (s : BareSample) (wave : List ℕ)
    (pairs : List (BareSample × List ℕ)) (n : ℕ) (ps : List (List ℕ)) (fault : WaveFault)
    → points_for s wave ≡ Err fault → due ≡ joined ps (points_from n ((s, wave) ∷ pairs))
    → due ≡ Err (run.InRecording n fault)
none_pointed due s wave pairs n ps fault is h =
    h ∙ ap (λ (x : Result (List ℕ) WaveFault). joined ps (and_points n x (points_from (suc n) pairs))) is

-- no file is left
pub all_pointed : (due : Result (List (List ℕ)) RunFault) (ps : List (List ℕ)) → due ≡ joined ps (Ok []) → due ≡ Ok ps
all_pointed due ps h = h ∙ ap Ok (append-nil ps)

-- ---- the bank

pub not_made : (minor : ℕ) (lines : List Line) (fault : RunFault) → StopsAtLine fault (first_refused (empty minor) lines)
    → FailsBefore fault (made_of minor lines)
not_made minor lines fault h =
    fails_through without_undo (λ f. refl) fault (after_script (empty minor) (Ok lines)) (stops_at (empty minor) lines fault h)

pub bank_made : (minor : ℕ) (now : Parts) (lines : List Line) (undo : _)
    → AllApplied (empty minor) now lines undo → made_of minor lines ≡ Ok (canon now)
bank_made minor now lines undo h = ap without_undo (applied_done (empty minor) now lines undo h)

-- a fault of the points
pub no_points : (minor : ℕ) (lines : List Line) (fault : RunFault) (due : Result (List (List ℕ)) RunFault)
    → FailsBefore fault due → FailsBefore fault (after_points minor lines due)
no_points minor lines fault due h = fails_through (after_points minor lines) (λ f. refl) fault due h

-- ---- what a bank's own files make

-- the points of all its WAVE files
points_given : (n : ℕ) (bare : List BareSample) (samples : List Sample) → AllZip GetsPoints bare samples
    → points_from n (zip bare (map sample_wave samples)) ≡ Ok (map (λ (s : Sample). s.points) samples)
points_given n [] [] h = refl
points_given n [] (s ∷ samples) h = absurd h
points_given n (b ∷ bare) [] h = absurd h
points_given n (b ∷ bare) (s ∷ samples) h =
    ap (λ (x : Result (List ℕ) WaveFault). and_points n x (points_from (suc n) (zip bare (map sample_wave samples)))) h.0
    ∙ ap (λ (x : Result (List (List ℕ)) RunFault). and_points n (Ok s.points) x) (points_given (suc n) bare samples h.1)

-- the edits that list a bank make its canonical file
listed_made : (b : Parts) → Leads (empty b.minor) (edits_of_bank b) b
    → made_of b.minor (numbered 2 (edits_of_bank b)) ≡ Ok (canon b)
listed_made b leads =
    ap without_undo
    (lines_lead (empty b.minor) (numbered 2 (edits_of_bank b)) b
    (subst (λ es. Leads (empty b.minor) es b) (sym (edits_numbered 2 (edits_of_bank b))) leads))

-- the text of a bank without points is read as the same edits, with comments or without
pub bare_read : (comments : Bool) (b : Parts) → IsSound b → script_of (form_text (bare_form comments) b) ≡ Ok (bare_lines b)
bare_read true b sound = laws.lists LeftOut b sound
bare_read false b sound = (give_bank b sound).read

bare_minor : (comments : Bool) (b : Parts) → IsSound b → minor_in (form_text (bare_form comments) b) ≡ b.minor
unfolding commented_script
bare_minor true b sound = first_minor b.minor _ sound.fits.minor
bare_minor false b sound = (give_bank b sound).minor

pub bank_packs : (comments : Bool) (b : Parts) → IsSound b
    → pack_outcome (form_text (bare_form comments) b) (map sample_wave b.samples) ≡ Ok (canon b)
unfolding pack_outcome
bank_packs comments b sound =
    let h = give_bank b sound in
    let leads = whole b sound in
    let waves = map sample_wave b.samples in
    let points = map (λ (s : Sample). s.points) b.samples in
    (λ i. packed (bare_minor comments b sound i) (lines_read (bare_read comments b sound i)) waves)
    ∙ ap (after_points b.minor (bare_lines b)) (points_given 1 (bare_samples (bare_lines b)) b.samples h.points)
    ∙ ap (made_of b.minor) h.given
    ∙ listed_made b leads

-- the WAVE files of its samples are those that a run writes
found_at : {A : Type 0} (pre : List A) (x : A) (xs : List A) → slice_get (pre ++ x ∷ xs) (length pre) ≡ Some x
found_at [] x xs = refl
found_at (p ∷ pre) x xs = found_at pre x xs

waves_are : (file : List ℕ) (b : Parts) (pre samples : List Sample) (waves : List (List ℕ)) (n : ℕ) → n ≡ length pre
    → ((k : ℕ) → wave_outcome file k ≡ wave_of (slice_get (pre ++ samples) k))
    → AreWavesFrom file n samples waves → waves ≡ map sample_wave samples
waves_are file b pre [] [] n e outcomes h = refl
waves_are file b pre [] (w ∷ waves) n e outcomes h = absurd h
waves_are file b pre (s ∷ samples) [] n e outcomes h = absurd h
waves_are file b pre (s ∷ samples) (w ∷ waves) n e outcomes h =
    let there : slice_get (pre ++ s ∷ samples) n ≡ Some s = ap (slice_get (pre ++ s ∷ samples)) e ∙ found_at pre s samples in
    let is : Ok w ≡ Ok (sample_wave s) = sym h.0 ∙ outcomes n ∙ ap wave_of there in
    let first : w ≡ sample_wave s = cc in
    let one : n + 1 ≡ suc n = omega arith in
    let lengths : n + 1 ≡ length (pre ++ s ∷ []) = one ∙ ap suc e ∙ length_more pre s in
    let others =
    waves_are file b (pre ++ s ∷ []) samples waves (n + 1) lengths
    (λ k. outcomes k ∙ ap (λ (xs : List Sample). wave_of (slice_get xs k)) (sym (append_assoc pre (s ∷ []) samples))) h.1 in
    (λ i. first i ∷ others i)
  where
    length_more : (xs : List Sample) (x : Sample) → suc (length xs) ≡ length (xs ++ x ∷ [])
    length_more [] x = refl
    length_more (y ∷ xs) x = ap suc (length_more xs x)

pub packs_back : FoldersPackBack
packs_back comments file text waves bytes read e are =
    let b = bank_in file in
    let sound = sound_in file bytes read in
    let text_is : form_text (bare_form comments) b ≡ text =
    ok_same (sym (script_text (bare_form comments) file b _ (read, refl)) ∙ e) in
    let waves_is : waves ≡ map sample_wave b.samples =
    waves_are file b [] b.samples waves 0 refl (λ k. wave_on file k b _ (read, refl)) are in
    (λ i. pack_outcome (sym text_is i) (waves_is i)) ∙ bank_packs comments b sound
  where
    ok_same : {X E : Type 0} {a b : X} → (let r : Result X E = Ok a in r) ≡ Ok b → a ≡ b
    ok_same h = cc

-- ---- the WAVE files that are left

-- one more is left
pub one_left : {A C : Type 0} (f : A → C) (xs : List A) (n : ℕ) (x : A) → slice_get xs n ≡ Some x
    → drop n (map f xs) ≡ f x ∷ drop (suc n) (map f xs)
one_left f [] n x e = absurd cc
one_left f (y ∷ xs) zero x e = let is : y ≡ x = cc in (λ i. f (is i) ∷ map f xs)
one_left f (y ∷ xs) (suc n) x e = one_left f xs n x e

-- none is left
pub none_left : {A C : Type 0} (f : A → C) (xs : List A) (n : ℕ) → slice_get xs n ≡ None → drop n (map f xs) ≡ []
none_left f [] zero e = refl
none_left f [] (suc n) e = refl
none_left f (y ∷ xs) zero e = absurd cc
none_left f (y ∷ xs) (suc n) e = none_left f xs n e

pub no_files : (due : Result (List (List ℕ)) RunFault) (ps : List (List ℕ)) (samples : List BareSample) (n : ℕ)
    → due ≡ joined ps (points_from n (zip samples [])) → due ≡ Ok ps
no_files due ps [] n h = all_pointed due ps h
no_files due ps (s ∷ samples) n h = all_pointed due ps h

pub no_some : {A : Type 0} (o : Option A) → ((x : A) → o ≡ Some x → ⊥) → o ≡ None
no_some None h = refl
no_some (Some x) h = absurd (h x refl)
