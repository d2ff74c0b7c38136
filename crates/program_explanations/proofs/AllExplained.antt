-- Each fault and refusal is in the list that explanations are looked up in, by its number and its name.
use Rattle.std.proofs.Common.{◌≡◌, ◌<◌, ℕ, zero, suc, ◌==◌, ◌&&◌, Bool, true, false, cond, List, [], ◌∷◌, length, get_or}
use Rattle.std.proofs.Common.{IsSome, Option, Some, find, ap, sym, subst, refl, ◌∙◌, arith, eq-eqb}
use Rattle.std.specs.List.{list_any}
use Rattle.std.specs.Str.{bytes_eq}
use Rattle.std.proofs.lemmas.List.Folds.{Any-from_list_any}
use Rattle.std.proofs.lemmas.Slice.Eq.{bytes_eq-Decides}
use borrow.Author.Tests.{eqb-true}
use Rattle.bank_format.specs.declared.fault.ReadFault.{ReadFault}
use Rattle.bank_format.specs.declared.fault.ReadFault.TheVariants as read
use Rattle.script_tokens.specs.declared.fault.ScriptFault.{ScriptFault}
use Rattle.script_tokens.specs.declared.fault.ScriptFault.TheVariants as script
use Rattle.script_notes.specs.declared.fault.NoteFault.{NoteFault}
use Rattle.script_notes.specs.declared.fault.NoteFault.TheVariants as note
use Rattle.kit_tables.specs.declared.fault.KitFault.{KitFault}
use Rattle.kit_tables.specs.declared.fault.KitFault.TheVariants as table
use Rattle.wave_file.specs.declared.fault.WaveFault.{WaveFault}
use Rattle.wave_file.specs.declared.fault.WaveFault.TheVariants as wave
use Rattle.base_outputs.specs.declared.output_fault.OutputFault.{OutputFault}
use Rattle.base_outputs.specs.declared.output_fault.OutputFault.TheVariants as output
use Rattle.edit_forms.specs.declared.cause.Cause.{Cause}
use Rattle.edit_forms.specs.declared.cause.Cause.TheVariants as cause
use Rattle.edit_refusals.specs.declared.refusal.Refusal.{Refusal}
use Rattle.edit_refusals.specs.declared.refusal.Refusal.TheVariants as refusal
use Rattle.plan_presets.specs.declared.fault.PresetFault.{PresetFault}
use Rattle.plan_presets.specs.declared.fault.PresetFault.TheVariants as preset
use Rattle.program_explanations.specs.declared.explanations.FaultCode.{FaultCode}
use Rattle.program_explanations.specs.declared.explanations.FaultCode.TheVariants.{Reading, Script, Notes, Recording, Output}
use Rattle.program_explanations.specs.declared.explanations.FaultCode.TheVariants.{Refused, NotNeutral, OtherVersion}
use Rattle.program_explanations.specs.declared.explanations.FaultCode.TheVariants.{Presets, PlanFailed, Table, FolderThere, HasFindings}
use Rattle.program_explanations.specs.declared.explanations.TheConstants.{ALL}
use Rattle.program_explanations.specs.Explanations.{number_of, name_of}

-- whether two faults or refusals have the same number and name
abbrev pub is_same : FaultCode → FaultCode → Bool
is_same code other = number_of other == number_of code && bytes_eq (name_of other) (name_of code)

pub and_true : (a b : Bool) → (a && b) ≡ true → (a ≡ true) × (b ≡ true)
and_true true b e = (refl, e)
and_true false b e = absurd (cc e)

-- two that pass have the same number and name
pub same_parts : (code other : FaultCode) → is_same code other ≡ true
    → (number_of other ≡ number_of code) × (name_of other ≡ name_of code)
same_parts code other e =
    let both = and_true (number_of other == number_of code) (bytes_eq (name_of other) (name_of code)) e in (
      eqb-true (number_of other) (number_of code) both.0,
      (bytes_eq-Decides (name_of other) (name_of code)).0 both.1,
    )

-- one with the number and the name of this one is in the list
abbrev pub IsListed : FaultCode → Type 0
IsListed code = list_any (is_same code) ALL ≡ true

of_reading : (it : ReadFault) → IsListed (Reading it)
of_reading read.NotRiff = refl
of_reading read.NotSfbk = refl
of_reading read.Truncated = refl
of_reading read.MissingList = refl
of_reading read.MissingChunk = refl
of_reading read.Version = refl
of_reading read.RecordSize = refl
of_reading read.NoTerminal = refl
of_reading read.BagOrder = refl
of_reading read.IndexOutside = refl
of_reading read.BadInstrument = refl
of_reading read.BadSample = refl
of_reading read.SampleRange = refl
of_reading read.SampleType = refl
of_reading read.RomSample = refl
of_reading read.OddSamples = refl
of_reading read.TooMany = refl

of_script : (it : ScriptFault) → IsListed (Script it)
of_script (script.Syntax line) = refl
of_script (script.Number line) = refl
of_script (script.Literal line) = refl

of_notes : (it : NoteFault) → IsListed (Notes it)
of_notes (note.BadNote line) = refl
of_notes (note.TooManyNotes line) = refl
of_notes (note.TooLong line) = refl

of_table : (it : KitFault) → IsListed (Table it)
of_table (table.BadRow line) = refl
of_table (table.TooManyRows line) = refl
of_table (table.NoRows line) = refl

of_recording : (it : WaveFault) → IsListed (Recording it)
of_recording wave.NotWave = refl
of_recording wave.Truncated = refl
of_recording wave.Compressed = refl
of_recording wave.NoFormat = refl
of_recording wave.SampleBits = refl
of_recording wave.ChannelCount = refl
of_recording wave.NoData = refl
of_recording wave.HalfFrame = refl
of_recording wave.ShortSampler = refl
of_recording wave.UnityNote = refl
of_recording wave.LoopOutside = refl
of_recording wave.NoSuchChannel = refl
of_recording wave.TwoChannels = refl
of_recording wave.NotAPair = refl
of_recording wave.SidesDiffer = refl
of_recording wave.NotSixteenBits = refl
of_recording wave.OtherRate = refl
of_recording wave.ShortForLoop = refl

of_output : (it : OutputFault) → IsListed (Output it)
of_output output.SameFile = refl
of_output output.HoldsBank = refl

of_presets : (it : PresetFault) → IsListed (Presets it)
of_presets (preset.Missing numbers) = refl
of_presets (preset.InUse numbers) = refl
of_presets (preset.BankTooHigh numbers) = refl
of_presets (preset.NoneFree numbers) = refl

of_cause : (it : Cause) → IsListed (Refused (refusal.Of it))
of_cause cause.NoSuchPreset = refl
of_cause cause.NoSuchInstrument = refl
of_cause cause.NoSuchSample = refl
of_cause cause.NoSuchZone = refl
of_cause cause.NoSuchModulator = refl
of_cause cause.BadPlace = refl
of_cause cause.InUse = refl
of_cause cause.BadGenerator = refl
of_cause cause.NotSet = refl
of_cause cause.BadRange = refl
of_cause cause.SplitOutside = refl
of_cause cause.NotJoinable = refl
of_cause cause.LinkedModulator = refl
of_cause cause.TooShort = refl
of_cause cause.LoopCut = refl
of_cause cause.BadLoop = refl
of_cause cause.BadText = refl
of_cause (cause.Full limit) = refl

of_refusal : (it : Refusal) → IsListed (Refused it)
of_refusal (refusal.Of it) = of_cause it
of_refusal refusal.OutOfMemory = refl
of_refusal refusal.NothingToUndo = refl
of_refusal refusal.NothingToRedo = refl
of_refusal (refusal.GroupRefused step it) = refl

pub all_listed : (code : FaultCode) → IsListed code
all_listed (Reading it) = of_reading it
all_listed (Script it) = of_script it
all_listed (Notes it) = of_notes it
all_listed (Table it) = of_table it
all_listed (Recording it) = of_recording it
all_listed (Output it) = of_output it
all_listed (Refused it) = of_refusal it
all_listed NotNeutral = refl
all_listed OtherVersion = refl
all_listed (Presets it) = of_presets it
all_listed PlanFailed = refl
all_listed FolderThere = refl
all_listed HasFindings = refl

-- a fault or refusal with this number is found
abbrev pub Found : ℕ → Type 0
Found n = IsSome (find (λ code. number_of code == n) ALL)

found_at : {X : Type 0} (p : X → Bool) (xs : List X) (k : ℕ) (d : X) → k < length xs → p (get_or xs k d) ≡ true
    → IsSome (find p xs)
found_at p [] k d lt h = absurd (omega arith)
found_at p (x ∷ xs) zero d lt h = subst (λ b. IsSome (cond b (Some x) (find p xs))) (sym h) refl
found_at p (x ∷ xs) (suc k) d lt h = either (p x) x (find p xs) (found_at p xs k d (omega arith) h)
  where
    either : {X : Type 0} (b : Bool) (x : X) (rest : Option X) → IsSome rest → IsSome (cond b (Some x) rest)
    either true x rest h = refl
    either false x rest h = h

-- each fault and refusal is found by its number
pub all_found : (code : FaultCode) (n : ℕ) → number_of code ≡ n → Found n
all_found code n e =
    let any = Any-from_list_any (is_same code) ALL (all_listed code) in
    let same = same_parts code any.1 any.4 in
    let number : number_of any.1 ≡ n = same.0 ∙ e in
    found_at (λ other. number_of other == n) ALL any.0 any.1 any.2
    (ap (λ other. number_of other == n) any.3 ∙ eq-eqb (number_of any.1) n number)
