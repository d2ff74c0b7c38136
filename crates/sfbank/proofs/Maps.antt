-- The run that writes a drawing.
use Rattle.std.proofs.Common.{◌≡◌, ℕ, Bool, List, Option, refl, ap, ◌∙◌}
use Rattle.bank_parts.specs.declared.parts.Parts.{Parts}
use Rattle.bank_format.specs.declared.fault.Counts.{Counts}
use Rattle.bank_format.specs.declared.fault.ReadFault.{ReadFault}
use Rattle.bank_format.specs.Reading.{Content}
use Rattle.bank_format.specs.ReadChecks.{ReadsAs}
use Rattle.program_commands.specs.declared.words.Drawn.{Drawn}
use Rattle.sfbank.specs.Outcome.{after_reading, bank_in}
use Rattle.sfbank.specs.Maps.{drawing, has_drawn, if_there, map_outcome}

-- the outcome for a readable file
pub map_read : (file : List ℕ) (d : Drawn) (b : Parts) (counts : Counts) (there : Bool) → ReadsAs file b counts
    → there ≡ has_drawn b d → map_outcome file d ≡ if_there there d (drawing b d)
unfolding map_outcome
map_read file d b counts there r e =
    ap
    (λ (f : Option ReadFault).
    after_reading f (if_there (has_drawn (bank_in file) d) d (drawing (bank_in file) d)))
    r.0
    ∙ ap (λ (c : Content). if_there (has_drawn c.bank d) d (drawing c.bank d)) r.1
    ∙ (rw e refl)
