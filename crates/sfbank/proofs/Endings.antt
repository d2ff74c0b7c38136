-- How a run ends: before its first byte, or with its texts.
use Rattle.std.proofs.Common.{◌≡◌, ◌∙◌, ℕ, List, Option, Result, Ok, Err, ap}
use Rattle.std.proofs.KnownBytes.{Keeps-refl}
use Rattle.program_reports.specs.declared.run_fault.RunFault.{RunFault}
use Rattle.program_reports.specs.declared.run_fault.RunFault.TheVariants as run
use Rattle.file_host.specs.declared.faults.Which.TheVariants.{Out, Undo}
use Rattle.sfbank.specs.Outcome.{Done}
use Rattle.sfbank.specs.Written.{Writers, Delivers, Runs, FailsBefore}

-- a fault of one outcome is that of an outcome that is computed from it
pub fails_through : {X Y : Type 0} (g : Result X RunFault → Result Y RunFault) → ((fault : RunFault) → g (Err fault) ≡ Err fault)
    → (why : RunFault) (outcome : Result X RunFault) → FailsBefore why outcome → FailsBefore why (g outcome)
fails_through g law (run.Read f) outcome h = ap g h ∙ law (run.Read f)
fails_through g law (run.ReadFirst f) outcome h = ap g h ∙ law (run.ReadFirst f)
fails_through g law (run.ReadSecond f) outcome h = ap g h ∙ law (run.ReadSecond f)
fails_through g law (run.ReadFrom f) outcome h = ap g h ∙ law (run.ReadFrom f)
fails_through g law (run.Script f) outcome h = ap g h ∙ law (run.Script f)
fails_through g law (run.Refused n f) outcome h = ap g h ∙ law (run.Refused n f)
fails_through g law (run.NotNeutral n) outcome h = ap g h ∙ law (run.NotNeutral n)
fails_through g law (run.Notes f) outcome h = ap g h ∙ law (run.Notes f)
fails_through g law (run.Recording f) outcome h = ap g h ∙ law (run.Recording f)
fails_through g law (run.Table f) outcome h = ap g h ∙ law (run.Table f)
fails_through g law (run.InRecording i f) outcome h = ap g h ∙ law (run.InRecording i f)
fails_through g law (run.NoMember f) outcome h = ap g h ∙ law (run.NoMember f)
fails_through g law (run.Presets f) outcome h = ap g h ∙ law (run.Presets f)
fails_through g law (run.Full f) outcome h = ap g h ∙ law (run.Full f)
fails_through g law run.OtherVersion outcome h = ap g h ∙ law run.OtherVersion
fails_through g law run.PlanFailed outcome h = ap g h ∙ law run.PlanFailed
fails_through g law run.Memory outcome h = tt
fails_through g law (run.Write f n) outcome h = absurd h

-- nothing was written
pub ends_early : (U : Type 0) (out undo : Option (List ℕ)) (outcome : Result Done RunFault) (fault : RunFault)
    → FailsBefore fault outcome
    → Runs {U = U} (record { out = out; out_new = out; undo = undo; undo_new = undo }) outcome (Err fault)
ends_early U out undo outcome (run.Read fault) h = (h, (Keeps-refl out, Keeps-refl undo))
ends_early U out undo outcome (run.ReadFirst fault) h = (h, (Keeps-refl out, Keeps-refl undo))
ends_early U out undo outcome (run.ReadSecond fault) h = (h, (Keeps-refl out, Keeps-refl undo))
ends_early U out undo outcome (run.Script fault) h = (h, (Keeps-refl out, Keeps-refl undo))
ends_early U out undo outcome (run.Refused number why) h = (h, (Keeps-refl out, Keeps-refl undo))
ends_early U out undo outcome (run.NotNeutral number) h = (h, (Keeps-refl out, Keeps-refl undo))
ends_early U out undo outcome run.OtherVersion h = (h, (Keeps-refl out, Keeps-refl undo))
ends_early U out undo outcome run.PlanFailed h = (h, (Keeps-refl out, Keeps-refl undo))
ends_early U out undo outcome (run.ReadFrom f) h = (h, (Keeps-refl out, Keeps-refl undo))
ends_early U out undo outcome (run.Presets f) h = (h, (Keeps-refl out, Keeps-refl undo))
ends_early U out undo outcome (run.Full f) h = (h, (Keeps-refl out, Keeps-refl undo))
ends_early U out undo outcome (run.Recording fault) h = (h, (Keeps-refl out, Keeps-refl undo))
ends_early U out undo outcome (run.Table fault) h = (h, (Keeps-refl out, Keeps-refl undo))
ends_early U out undo outcome (run.InRecording i fault) h = (h, (Keeps-refl out, Keeps-refl undo))
ends_early U out undo outcome (run.NoMember cause) h = (h, (Keeps-refl out, Keeps-refl undo))
ends_early U out undo outcome (run.Notes fault) h = (h, (Keeps-refl out, Keeps-refl undo))
ends_early U out undo outcome run.Memory h = (Keeps-refl out, Keeps-refl undo)
ends_early U out undo outcome (run.Write which n) h = absurd h

-- the texts were delivered
pub ends_with : {U : Type 0} (w : Writers) (outcome : Result Done RunFault) (done : Done) (r : Result U RunFault)
    → outcome ≡ Ok done → Delivers w done r → Runs w outcome r
ends_with w outcome done (Ok u) e d = record { done = done; is_done = e; delivers = d }
ends_with w outcome done (Err (run.Write Out n)) e d = record { done = done; is_done = e; delivers = d }
ends_with w outcome done (Err (run.Write Undo n)) e d = record { done = done; is_done = e; delivers = d }
ends_with w outcome done (Err (run.Read fault)) e d = absurd d
ends_with w outcome done (Err (run.ReadFirst fault)) e d = absurd d
ends_with w outcome done (Err (run.ReadSecond fault)) e d = absurd d
ends_with w outcome done (Err (run.Script fault)) e d = absurd d
ends_with w outcome done (Err (run.Refused number why)) e d = absurd d
ends_with w outcome done (Err (run.NotNeutral number)) e d = absurd d
ends_with w outcome done (Err run.OtherVersion) e d = absurd d
ends_with w outcome done (Err run.PlanFailed) e d = absurd d
ends_with w outcome done (Err (run.ReadFrom f)) e d = absurd d
ends_with w outcome done (Err (run.Presets f)) e d = absurd d
ends_with w outcome done (Err (run.Full f)) e d = absurd d
ends_with w outcome done (Err (run.Recording fault)) e d = absurd d
ends_with w outcome done (Err (run.Table fault)) e d = absurd d
ends_with w outcome done (Err (run.InRecording i fault)) e d = absurd d
ends_with w outcome done (Err (run.NoMember cause)) e d = absurd d
ends_with w outcome done (Err (run.Notes fault)) e d = absurd d
ends_with w outcome done (Err run.Memory) e d = absurd d
