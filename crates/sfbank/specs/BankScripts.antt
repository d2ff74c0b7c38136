-- The script that makes a file's bank of the empty bank of its minor version.
use Rattle.std.specs.Prelude.{◌≡◌, ◌↔◌, ℕ, List, None, Result, Ok, Bool, if◌then◌else◌}
use Rattle.hydra_records.specs.Records.{AreBytes}
use Rattle.bank_parts.specs.declared.parts.Parts.{Parts}
use Rattle.bank_format.specs.Canon.{canon}
use Rattle.bank_format.specs.ReadChecks.{fault_of}
use Rattle.commented_scripts.specs.CommentedScript.{commented_script}
use Rattle.script_of_bank.specs.declared.samples.SamplePoints.TheVariants.{Kept, LeftOut}
use Rattle.script_of_bank.specs.BankScript.{bank_script}
use Rattle.program_reports.specs.declared.run_fault.RunFault.{RunFault}
use Rattle.sfbank.specs.Outcome.{Done, after_reading, bank_in, outcome, canon_outcome, play_outcome}
use Rattle.sfbank.specs.NewBanks.{new_file}
use Rattle.sfbank.specs.declared.script.ScriptForm.{ScriptForm}

-- the script of a bank, with comments or without
abbrev pub form_text : ScriptForm → Parts → List ℕ
form_text form b = if form.comments then commented_script form.points b else bank_script form.points b

-- all points, with comments or without
abbrev pub whole_form : Bool → ScriptForm
whole_form comments = record { points = Kept; comments = comments }

-- no points
abbrev pub bare_form : Bool → ScriptForm
bare_form comments = record { points = LeftOut; comments = comments }

-- The first failed check of the file, else the script of its bank.
unfoldable pub script_outcome : ScriptForm → List ℕ → Result (List ℕ) RunFault
script_outcome form file = after_reading (fault_of file) (Ok (form_text form (bank_in file)))

-- the file of the empty bank of the minor version of a file's bank
abbrev pub start_of : List ℕ → List ℕ
start_of file = new_file (bank_in file).minor

-- a run that succeeds and writes this file
abbrev pub WritesFile : Result Done RunFault → List ℕ → Type 0
WritesFile r file = (undo : List ℕ) × (r ≡ Ok (record { out = file; undo = undo }))

-- If a file has a script with all points, that script, run on the file of the empty bank, writes the file's canonical
-- file.
abbrev pub IsRemade : List ℕ → Type 0
IsRemade file =
    (comments : Bool) (text : List ℕ) → script_outcome (whole_form comments) file ≡ Ok text
    → WritesFile (outcome (start_of file) text) (canon (bank_in file))

-- Two readable files have the same script with all points if and only if they have the same canonical file.
abbrev pub ScriptsDistinguish : Type 0
ScriptsDistinguish =
    (comments : Bool) (a b : List ℕ) → AreBytes a → AreBytes b → fault_of a ≡ None → fault_of b ≡ None
    → (script_outcome (whole_form comments) a ≡ script_outcome (whole_form comments) b) ↔ (canon_outcome a ≡ canon_outcome b)

-- Each note list renders identically on a file and on the file that its script makes of the empty bank.
abbrev pub RemadeRendersSame : Type 0
RemadeRendersSame =
    (comments : Bool) (file text notes : List ℕ) (done : Done) → AreBytes file
    → script_outcome (whole_form comments) file ≡ Ok text
    → outcome (start_of file) text ≡ Ok done
    → play_outcome done.out notes ≡ play_outcome file notes
