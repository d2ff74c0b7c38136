-- On files: what `apply` makes of the scripts that `diff` and `script` saved.
use Rattle.std.specs.Prelude.{◌≡◌, ℕ, List, [], Ok, true, false, not}
use Rattle.hydra_records.specs.Records.{AreBytes}
use Rattle.bank_format.specs.Canon.{canon}
use Rattle.file_host.specs.World.{World, held_at, file_at, stores_at, with_text}
use Rattle.program_commands.specs.declared.words.ApplyPaths.{ApplyPaths}
use Rattle.program_commands.specs.declared.words.DiffPaths.{DiffPaths}
use Rattle.program_commands.specs.declared.words.ScriptPaths.{ScriptPaths}
use Rattle.program_commands.specs.declared.words.Forms.TheVariants.{Every}
use Rattle.program_commands.specs.declared.words.Request.TheVariants.{Diff, Script}
use Rattle.sfbank.specs.Outcome.{Done, bank_in, play_outcome}
use Rattle.sfbank.specs.BankScripts.{start_of}
use Rattle.sfbank.specs.PlanParts.{Saves, Text, Difference}
use Rattle.sfbank.specs.Plans.{plan}
use Rattle.sfbank.specs.Ends.{IsContent}
use Rattle.sfbank.specs.UndoneFiles.{IsApplied}

-- `diff` of these paths was done on two files: it planned to save a difference, and saved this text.
pub record IsCompared (paths : DiffPaths) (old new : World) (a b text : List ℕ) : Type 0 where
  pub planned : plan (Diff paths) old (record { first = Ok a; second = Ok b; others = [] })
      ≡ Ok (Saves paths.out.now (Difference (not paths.no_comments) a b))
  pub differs : IsContent (Difference (not paths.no_comments) a b) text
  pub files : new ≡ with_text paths.out.now text old

-- `script` of these paths was done on a file, with the points of samples.
pub record IsScriptedTo (paths : ScriptPaths) (old new : World) (file text : List ℕ) : Type 0 where
  pub points : paths.no_points ≡ false
  pub planned : plan (Script paths) old (record { first = Ok file; second = Ok file; others = [] })
      ≡ Ok (Saves paths.out.now (Text text))
  pub files : new ≡ with_text paths.out.now text old

-- `apply` ran a script that was left at this path on a file with these bytes. Other files may have changed meanwhile.
pub record RunsScript (second : ApplyPaths) (path : List ℕ) (left now new : World) (start file script : List ℕ)
    (back : Done) : Type 0 where
  pub script_is : second.script.now ≡ path
  pub stays : file_at now path ≡ file_at left path
  pub starts : file_at now second.input.now ≡ Ok start
  pub forms : second.forms ≡ Every
  pub done : IsApplied second now new file script back

-- The bank file that was saved holds the canonical file of the bank of a file, and all notes sound on it as on that file.
pub record Leads (second : ApplyPaths) (now new : World) (file : List ℕ) (back : Done) : Type 0 where
  pub bank : back.out ≡ canon (bank_in file)
  pub holds : stores_at now second.out.now ≡ true → held_at new second.out.now ≡ Ok (canon (bank_in file))
  pub sound : (notes : List ℕ) → play_outcome back.out notes ≡ play_outcome file notes

-- A difference of two files, run on the first of them, makes the bank of the second.
abbrev pub DifferencesLead : Type 0
DifferencesLead =
    (paths : DiffPaths) (second : ApplyPaths) (old left now new : World) (a b text file script : List ℕ) (back : Done)
    → AreBytes b → IsCompared paths old left a b text → stores_at old paths.out.now ≡ true
    → RunsScript second paths.out.now left now new a file script back → Leads second now new b back

-- The script of a file's bank, run on the file of the empty bank of its minor version, makes that bank.
abbrev pub ScriptsLead : Type 0
ScriptsLead =
    (paths : ScriptPaths) (second : ApplyPaths) (old left now new : World) (bank text file script : List ℕ) (back : Done)
    → AreBytes bank → IsScriptedTo paths old left bank text → stores_at old paths.out.now ≡ true
    → RunsScript second paths.out.now left now new (start_of bank) file script back → Leads second now new bank back
