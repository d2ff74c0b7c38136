-- The forms that edit instruments: when each is accepted.
use Rattle.std.proofs.Common.{◌≡◌, ◌<◌, ◌≤◌, ℕ, false, List, length, None, ◌∙◌, ap, true, refl}
use Rattle.sf_base.specs.Names.{IsName}
use Rattle.generators.specs.declared.level.Level.TheVariants as level
use Rattle.bank_parts.specs.declared.parts.ZoneOwner.{ZoneOwner}
use Rattle.bank_parts.specs.declared.parts.Parts.{Parts}
use Rattle.bank_parts.specs.Valid.{IsValid}
use Rattle.bank_parts.specs.Fits.{FitsOwner}
use Rattle.bank_parts.specs.Sound.{IsSound}
use Rattle.bank_parts.specs.Counts.{records_of_owner}
use Rattle.bank_validity.specs.Limits.{totals_of, broken, broken_limit, with_owner}
use Rattle.bank_validity.proofs.LimitLaws.{no_limit_of}
use Rattle.bank_changes.specs.Instruments.{instrument_added, instrument_removed, instrument_in_use}
use Rattle.bank_changes.specs.Instruments.{instrument_renamed, instrument_moved}
use Rattle.bank_changes.proofs.InstrumentLaws.{totals-added_instrument, totals-instrument_renamed}
use Rattle.bank_changes.proofs.InstrumentLaws.{totals-instrument_moved, sound_added_instrument}
use Rattle.bank_changes.proofs.InstrumentLaws.{sound_removed_instrument, instrument_moved_sound}
use Rattle.edit_forms.specs.declared.instruments.InstrumentStep.TheVariants.{AddInstrument, RemoveInstrument}
use Rattle.edit_forms.specs.declared.instruments.InstrumentStep.TheVariants.{RenameInstrument, MoveInstrument}
use Rattle.edit_forms.specs.declared.step.Step.TheVariants as steps
use Rattle.edit_forms.specs.declared.cause.Cause.TheVariants.{NoSuchInstrument, NoSuchSample}
use Rattle.edit_forms.specs.Steps.{refusal, causes}
use Rattle.edit_refusals.proofs.Accepted.{NoneApplies, accepted, below}
use Rattle.edit_refusals.proofs.Moves.{Moves, moves}
use Rattle.edit_refusals.proofs.OwnerLaws.{AddOwnerAllowed, add_owner_allowed}
use Rattle.edit_forms.specs.declared.instruments.InstrumentStep.{InstrumentStep}
use Rattle.edit_forms.specs.Instruments as instruments
use Rattle.edit_refusals.proofs.Rises.{rises}

-- ---- add-inst

module _ (b : Parts) (i : ℕ) (x : ZoneOwner (List ℕ)) where
  abbrev pub AddInstrumentAllowed : Type 0
  AddInstrumentAllowed = AddOwnerAllowed (λ name. name) level.Inst (length b.samples) (length b.instruments) i x

  pub add_instrument_allowed : FitsOwner IsName x → refusal b (steps.Instrument (AddInstrument i x)) ≡ None
      → AddInstrumentAllowed
  add_instrument_allowed fits h =
      add_owner_allowed (λ name. name) level.Inst (length b.samples) (length b.instruments) i x NoSuchSample fits.head
      (accepted b (steps.Instrument (AddInstrument i x)) h).tests

  pub sound_add_instrument : IsSound b → FitsOwner IsName x → refusal b (steps.Instrument (AddInstrument i x)) ≡ None
      → IsSound (instrument_added b i x)
  sound_add_instrument sound fits h =
      let g = add_instrument_allowed fits h in
      sound_added_instrument b i x sound g.place g.is fits
      (accepted b (steps.Instrument (AddInstrument i x)) h).limits

  -- the broken limit, computed from totals
  pub limit_add_instrument : i ≤ length b.instruments
      → broken_limit (instrument_added b i x)
      ≡ broken (with_owner level.Inst (totals_of b) (records_of_owner x))
  limit_add_instrument le = ap broken (totals-added_instrument b i x le)

-- ---- remove-inst

module _ (b : Parts) (i : ℕ) where
  pub record RemoveInstrumentAllowed : Type 0 where
    pub there : i < length b.instruments
    pub free : instrument_in_use b i ≡ false

  pub remove_instrument_allowed : NoneApplies (causes b (steps.Instrument (RemoveInstrument i)))
      → RemoveInstrumentAllowed
  remove_instrument_allowed (there, (free, end)) = record { there = below (length b.instruments) i there; free = free }

  pub sound_remove_instrument : IsSound b → refusal b (steps.Instrument (RemoveInstrument i)) ≡ None
      → IsSound (instrument_removed b i)
  sound_remove_instrument sound h =
      let c = remove_instrument_allowed (accepted b (steps.Instrument (RemoveInstrument i)) h).tests in
      sound_removed_instrument b i sound c.there c.free

  pub within_remove_instrument : IsSound b → i < length b.instruments → instrument_in_use b i ≡ false
      → broken_limit (instrument_removed b i) ≡ None
  within_remove_instrument sound lt free =
      no_limit_of (instrument_removed b i) (sound_removed_instrument b i sound lt free).valid.limits

-- ---- rename-inst

module _ (b : Parts) (i : ℕ) (name : List ℕ) where
  pub there_of_rename_instrument : refusal b (steps.Instrument (RenameInstrument i name)) ≡ None
      → i < length b.instruments
  there_of_rename_instrument h =
      below (length b.instruments) i (accepted b (steps.Instrument (RenameInstrument i name)) h).tests.0

  pub within_rename_instrument : IsValid b → broken_limit (instrument_renamed b i name) ≡ None
  within_rename_instrument v = ap broken (totals-instrument_renamed b i name) ∙ no_limit_of b v.limits

-- ---- move-inst

module _ (b : Parts) (i j : ℕ) where
  pub moves_instrument : refusal b (steps.Instrument (MoveInstrument i j)) ≡ None → Moves (length b.instruments) i j
  moves_instrument h =
      moves (length b.instruments) i j NoSuchInstrument (accepted b (steps.Instrument (MoveInstrument i j)) h).tests

  pub sound_move_instrument : IsSound b → refusal b (steps.Instrument (MoveInstrument i j)) ≡ None
      → IsSound (instrument_moved b i j)
  sound_move_instrument sound h = let m = moves_instrument h in instrument_moved_sound b i j m.there m.place sound

  pub within_move_instrument : IsValid b → i < length b.instruments → j < length b.instruments
      → broken_limit (instrument_moved b i j) ≡ None
  within_move_instrument v lt lu = ap broken (totals-instrument_moved b i j lt lu) ∙ no_limit_of b v.limits

-- ---- the order of their causes

pub instrument_rises : (b : Parts) (s : InstrumentStep) → rises 0 (instruments.causes b s) ≡ true
instrument_rises b (AddInstrument at instrument) = refl
instrument_rises b (RemoveInstrument instrument) = refl
instrument_rises b (RenameInstrument instrument name) = refl
instrument_rises b (MoveInstrument from to) = refl
