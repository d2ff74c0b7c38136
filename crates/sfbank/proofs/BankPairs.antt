-- Reading two banks, and presets of the second that are wanted in the first.
use Rattle.std.proofs.Common.{◌≡◌, ◌∙◌, ℕ, List, Option, Some, None, Result, Ok, Err, ap, sym}
use Rattle.sf_base.specs.declared.memory.Failure.{Failure}
use Rattle.sf_base.specs.declared.memory.Failure.TheVariants as failures
use Rattle.bank_parts.specs.declared.parts.Parts.{Parts}
use Rattle.bank_format.specs.declared.fault.ReadFault.{ReadFault}
use Rattle.bank_format.specs.FaultChecks.{Fails}
use Rattle.bank_format.specs.ReadChecks.{fault_of}
use Rattle.plan_presets.specs.declared.fault.PresetFault.{PresetFault}
use Rattle.plan_presets.specs.declared.numbers.TakenPreset.{TakenPreset}
use Rattle.plan_take.specs.TakeFaults.{preset_fault}
use Rattle.plan_take.specs.Merging.{merge_fault}
use Rattle.program_reports.specs.declared.run_fault.RunFault.{RunFault}
use Rattle.program_reports.specs.declared.run_fault.RunFault.TheVariants as run
use Rattle.program_reports.specs.RunFaults.{in_run}
use Rattle.sfbank.specs.Outcome.{after_reading, bank_in}
use Rattle.sfbank.specs.Differences.{after_file}
use Rattle.sfbank.specs.Purposes.{Purpose, Merging, Taking, merging, merging_all, taking, taking_listed, unless_fault}
use Rattle.sfbank.specs.Purposes.{with_banks}
use Rattle.sfbank.specs.Written.{FailsBefore}
use Rattle.sfbank.specs.Steps.{IsReadAs}

-- the second file is no bank
pub other_fails : (failure : Failure ReadFault) (file other : List ℕ) (b : Parts) (rest : Result Purpose RunFault)
    → IsReadAs file b → Fails failure (fault_of other)
    → FailsBefore (in_run run.ReadFrom failure) (after_reading (fault_of file) (after_file run.ReadFrom (fault_of other) rest))
other_fails (failures.Fault fault) file other b rest r h =
    ap (λ (o : Option ReadFault). after_reading o (after_file run.ReadFrom (fault_of other) rest)) r.1.0
    ∙ ap (λ (o : Option ReadFault). after_file run.ReadFrom o rest) h
other_fails failures.OutOfMemory file other b rest r h = tt

-- both files are read
both_read : (wanted : Parts → Parts → Result Purpose RunFault) (file other : List ℕ) (b from : Parts) → IsReadAs file b
    → IsReadAs other from → with_banks file other wanted ≡ wanted from b
both_read wanted file other b from r s =
    let rest = wanted (bank_in other) (bank_in file) in
    ap (λ (o : Option ReadFault). after_reading o (after_file run.ReadFrom (fault_of other) rest)) r.1.0
    ∙ ap (λ (o : Option ReadFault). after_file run.ReadFrom o rest) s.1.0
    ∙ (λ i. wanted (s.1.1 i).bank (r.1.1 i).bank)

-- and all presets can be taken
pub takes : (file other : List ℕ) (b from : Parts) (presets : List TakenPreset) → IsReadAs file b → IsReadAs other from
    → preset_fault from b presets ≡ None → taking file other presets ≡ Ok (Taking from presets)
takes file other b from presets r s h =
    both_read (λ x y. taking_listed x y presets) file other b from r s
    ∙ ap (λ (o : Option PresetFault). unless_fault o (Taking from presets)) h

-- or one can't
pub takes_none : (file other : List ℕ) (b from : Parts) (presets : List TakenPreset) (fault : PresetFault)
    → IsReadAs file b → IsReadAs other from → preset_fault from b presets ≡ Some fault
    → taking file other presets ≡ Err (run.Presets fault)
takes_none file other b from presets fault r s h =
    both_read (λ x y. taking_listed x y presets) file other b from r s
    ∙ ap (λ (o : Option PresetFault). unless_fault o (Taking from presets)) h

-- all presets can be added
pub merges : (file other : List ℕ) (b from : Parts) (shift : ℕ) (fault : Option PresetFault) → IsReadAs file b
    → IsReadAs other from → fault ≡ merge_fault from b shift → fault ≡ None → merging file other shift ≡ Ok (Merging from shift)
merges file other b from shift fault r s e h =
    both_read (λ x y. merging_all x y shift) file other b from r s
    ∙ ap (λ (o : Option PresetFault). unless_fault o (Merging from shift)) (sym e ∙ h)

-- or one can't
pub merges_none : (file other : List ℕ) (b from : Parts) (shift : ℕ) (fault : PresetFault) → IsReadAs file b
    → IsReadAs other from → Some fault ≡ merge_fault from b shift → merging file other shift ≡ Err (run.Presets fault)
merges_none file other b from shift fault r s e =
    both_read (λ x y. merging_all x y shift) file other b from r s
    ∙ ap (λ (o : Option PresetFault). unless_fault o (Merging from shift)) (sym e)
