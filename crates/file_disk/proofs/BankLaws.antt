-- Banks by what a path leads to.
use Rattle.std.proofs.Common.{◌≡◌, ℕ, List, string_bytes, refl, sym, ap, subst, ◌∙◌, inl, inr}
use Rattle.std.proofs.Common.{Option, Some, None, Result, Ok, Err, Bool, true, false}
use Rattle.std.proofs.lemmas.Bool.{and_right, and_from, true≢false}
use Rattle.file_host.specs.declared.input_fault.InputFault.{InputFault}
use Rattle.file_host.specs.World.{World, held_at, stores_at}
use Rattle.file_host.specs.Checks.{HasBank, looks_as_bank}
use Rattle.file_disk.specs.declared.target.StoredFile.{StoredFile}
use Rattle.file_disk.specs.declared.target.Target.TheVariants.{Stores}
use Rattle.file_disk.specs.Devices.{Leads}
use Rattle.file_disk.specs.Heads.{Begins, BeginsAt}

bank_by : (w : World) (path : List ℕ) (held : Result (List ℕ) InputFault) (found : Bool) → held_at w path ≡ held
    → stores_at w path ≡ true → Begins held found → HasBank (Some w) path found
bank_by w path (Ok bytes) true same stores b = inl (and_from _ _ stores (ap looks_as_bank same ∙ sym b))
bank_by w path (Ok bytes) false same stores b = and_right _ _ (ap looks_as_bank same ∙ sym b)
bank_by w path (Err fault) true same stores b =
    inr record { why = fault; held = same; there = λ e. true≢false (b e) }
bank_by w path (Err fault) false same stores b = and_right _ _ (ap looks_as_bank same)

-- a bank is at a path where the file that it leads to begins as one
pub bank_stored : (world : Option World) (path : List ℕ) (file : StoredFile) (found : Bool)
    → Leads world path (Stores file) → BeginsAt world (string_bytes file.path) found → HasBank world path found
bank_stored None path file found leads b = tt
bank_stored (Some w) path file found leads b =
    bank_by w path (held_at w path) found refl leads.stores
    (subst (λ (place : List ℕ). Begins (w.files place) found) leads.place b)
