-- Steps that edit instruments: their effects, causes of refusal, and inverses.
use Rattle.std.specs.Prelude.{◌<◌, ◌^◌, ℕ, Bool, true, List, [], ◌∷◌, length, slice_get, Option, Some, None}
use Rattle.std.specs.Option.{option_map_or}
use Rattle.sf_base.specs.Names.{IsName}
use Rattle.generators.specs.declared.level.Level.TheVariants as level
use Rattle.bank_parts.specs.declared.parts.ZoneOwner.{ZoneOwner}
use Rattle.bank_parts.specs.declared.parts.Parts.{Parts}
use Rattle.bank_parts.specs.Fits.{FitsOwner}
use Rattle.bank_changes.specs.Members.{instrument_name_of}
use Rattle.bank_changes.specs.Instruments.{instrument_added, instrument_removed, instrument_renamed, instrument_moved}
use Rattle.edit_forms.specs.declared.cause.Cause.TheVariants.{NoSuchSample}
use Rattle.edit_forms.specs.declared.instruments.InstrumentStep.{InstrumentStep}
use Rattle.edit_forms.specs.declared.instruments.InstrumentStep.TheVariants.{AddInstrument, RemoveInstrument}
use Rattle.edit_forms.specs.declared.instruments.InstrumentStep.TheVariants.{RenameInstrument, MoveInstrument}
use Rattle.edit_forms.specs.Causes.{Test, no_such_instrument, used_instrument, no_such_target, bad_member_index}
use Rattle.edit_forms.specs.Causes.{bad_insert_index, bad_generator, bad_range}

-- each number, name and text is in the range of its field
abbrev pub Fits : InstrumentStep → Type 0
Fits (AddInstrument at instrument) = (at < 2 ^ 32) × FitsOwner IsName instrument
Fits (RemoveInstrument instrument) = instrument < 2 ^ 32
Fits (RenameInstrument instrument name) = (instrument < 2 ^ 32) × IsName name
Fits (MoveInstrument from to) = (from < 2 ^ 32) × (to < 2 ^ 32)

-- the bank after an accepted step
abbrev pub raw : Parts → InstrumentStep → Parts
raw b (AddInstrument at instrument) = instrument_added b at instrument
raw b (RemoveInstrument instrument) = instrument_removed b instrument
raw b (RenameInstrument instrument name) = instrument_renamed b instrument name
raw b (MoveInstrument from to) = instrument_moved b from to

-- the step's possible causes of refusal, in the order of their numbers
abbrev pub causes : Parts → InstrumentStep → List Test
causes b (AddInstrument at instrument) =
    no_such_target (length b.samples) instrument NoSuchSample
    ∷ bad_insert_index (length b.instruments) at
    ∷ bad_generator level.Inst instrument
    ∷ bad_range instrument
    ∷ []
causes b (RemoveInstrument instrument) = no_such_instrument b instrument ∷ used_instrument b instrument ∷ []
causes b (RenameInstrument instrument name) = no_such_instrument b instrument ∷ []
causes b (MoveInstrument from to) = no_such_instrument b from ∷ bad_member_index (length b.instruments) to ∷ []

-- the inverse step, computed from the bank before the step
abbrev pub inverse : Parts → InstrumentStep → InstrumentStep
inverse b (AddInstrument at instrument) = RemoveInstrument at
inverse b (RemoveInstrument instrument) =
    option_map_or (λ (i : ZoneOwner (List ℕ)). AddInstrument instrument i) (slice_get b.instruments instrument)
    (RemoveInstrument instrument)
inverse b (RenameInstrument instrument name) =
    option_map_or (λ (old : List ℕ). RenameInstrument instrument old) (instrument_name_of b instrument)
    (RenameInstrument instrument name)
inverse b (MoveInstrument from to) = MoveInstrument to from

-- applying the step allocates nothing
abbrev pub AllocatesNothing : InstrumentStep → Type 0
AllocatesNothing (AddInstrument at instrument) = ⊥
AllocatesNothing (RemoveInstrument instrument) = ⊥
AllocatesNothing (RenameInstrument instrument name) = Unit {0}
AllocatesNothing (MoveInstrument from to) = Unit {0}

-- the step changes no sound, for any bank
abbrev pub is_neutral : InstrumentStep → Bool
is_neutral s = true

-- the instrument that the step adds
abbrev pub added_instrument : InstrumentStep → Option (ZoneOwner (List ℕ))
added_instrument (AddInstrument at instrument) = Some instrument
added_instrument _ = None

-- the name that the step sets
abbrev pub new_name : InstrumentStep → Option (List ℕ)
new_name (RenameInstrument instrument name) = Some name
new_name _ = None
