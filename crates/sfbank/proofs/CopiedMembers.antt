-- Reading a bank of which a member is to be copied.
use Rattle.std.specs.Prelude.{IsOk}
use Rattle.std.proofs.Common.{◌≡◌, ◌∙◌, ℕ, List, Option, Result, Ok, Err, ap, refl, sym}
use Rattle.bank_parts.specs.declared.parts.Parts.{Parts}
use Rattle.bank_format.specs.Reading.{Content}
use Rattle.bank_format.specs.ReadChecks.{fault_of}
use Rattle.plan_presets.specs.declared.numbers.CopiedMember.{CopiedMember}
use Rattle.plan_copy.specs.declared.fault.CopyFault.{CopyFault}
use Rattle.plan_copy.specs.Copying.{copied}
use Rattle.plan_copy.specs.declared.fault.CopyFault.TheVariants as copy
use Rattle.program_reports.specs.declared.run_fault.RunFault.{RunFault}
use Rattle.sfbank.specs.Outcome.{after_reading, bank_in}
use Rattle.sfbank.specs.Purposes.{Purpose, Copying, copying, copying_to, of_copy}
use Rattle.sfbank.specs.Written.{FailsBefore}
use Rattle.sfbank.specs.Steps.{IsReadAs}
use Rattle.sfbank.proofs.FoundEdits.{at_read}

-- the file is a bank
at_bank : (file : List ℕ) (b : Parts) (member : CopiedMember) (name : Option (List ℕ)) → IsReadAs file b
    → copying file member name ≡ copying_to member name (copied b member name)
at_bank file b member name r =
    at_read file b (copying_to member name (copied (bank_in file) member name)) r
    ∙ ap (λ (x : Parts). copying_to member name (copied x member name)) (ap (λ (c : Content). c.bank) r.1.1)

done : (member : CopiedMember) (name : Option (List ℕ)) (r : Result Parts CopyFault) → IsOk r
    → copying_to member name r ≡ Ok (Copying member name)
done member name (Ok bank) h = refl
done member name (Err fault) h = absurd cc

-- and the member can be copied
pub copies_one : (file : List ℕ) (b : Parts) (member : CopiedMember) (name : Option (List ℕ)) → IsReadAs file b
    → IsOk (copied b member name) → copying file member name ≡ Ok (Copying member name)
copies_one file b member name r h = at_bank file b member name r ∙ done member name (copied b member name) h

fails_as : (fault : CopyFault) (outcome : Result Purpose RunFault) → outcome ≡ Err (of_copy fault)
    → FailsBefore (of_copy fault) outcome
fails_as (copy.NoMember cause) outcome e = e
fails_as (copy.Numbers fault) outcome e = e

-- or it can't
pub copies_none : (file : List ℕ) (b : Parts) (member : CopiedMember) (name : Option (List ℕ)) (fault : CopyFault)
    → IsReadAs file b → copied b member name ≡ Err fault → FailsBefore (of_copy fault) (copying file member name)
copies_none file b member name fault r h =
    fails_as fault (copying file member name) (at_bank file b member name r ∙ ap (copying_to member name) h)
