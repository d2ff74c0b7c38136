-- Presets and instruments, each read from their four of the nine lists.
use Rattle.std.proofs.Common.{◌≡◌, ◌∙◌, ℕ, List, length, map, None, Result, sym, ap, subst}
use Rattle.std.specs.Result.{IsErrAnd}
use Rattle.generators.specs.declared.level.Level.TheVariants as level
use Rattle.hydra_records.specs.declared.head.PresetHead.{PresetHead}
use Rattle.hydra_records.specs.declared.head.InstrumentHead.{InstrumentHead}
use Rattle.hydra_records.specs.declared.zone.Bag.{Bag}
use Rattle.hydra_records.specs.declared.zone.Generator.{Generator}
use Rattle.modulators.specs.declared.modulator.Modulator.{Modulator}
use Rattle.bank_parts.specs.declared.parts.Head.{Head}
use Rattle.sf_base.specs.declared.memory.Failure.{Failure}
use Rattle.bank_format.specs.declared.fault.ReadFault.{ReadFault}
use Rattle.bank_format.specs.declared.fault.ReadFault.TheVariants.{BadInstrument, BadSample}
use Rattle.bank_format.specs.FaultChecks.{Check, first_fault, Fails, PassesOrOutOfMemory}
use Rattle.bank_format.specs.Windows.{without_terminal, windows}
use Rattle.bank_format.specs.Zones.{Bagged}
use Rattle.bank_format.specs.Tables as format
use Rattle.bank_format.specs.Tables.{Tables, Headers}
use Rattle.bank_format.specs.Reading.{bags_in, preset_windows, instrument_windows}
use Rattle.bank_format.specs.ReadChecks.{count_checks}
use Rattle.sf_reader.specs.declared.hydra.LevelTables.{LevelTables}
use Rattle.sf_reader.specs.declared.owners.BankOwners.{BankOwners}
use Rattle.sf_reader.specs.Hydra.{AreLists}
use Rattle.sf_reader.specs.Owners.{AreSmall, added, windows_of, FlatOwners, FlatBankOwners, bank_owners_seen}
use Rattle.sf_reader.specs.Owners.{owners_with_counts, zone_checks, bank_owners_of, bank_owner_checks}
use Rattle.bank_format.proofs.CheckLaws.{then_none}
use Rattle.sf_reader.proofs.CheckLaws.{given_by, given_front, given_after}
use Rattle.sf_reader.proofs.HydraLaws.{ModsInside, few_records, windows_are}
use Rattle.sf_reader.proofs.CountLaws.{counts-few, both-small}

-- ---- the nine lists

abbrev pub preset_part : Tables → List (Check ReadFault)
preset_part t = zone_checks level.Preset (length (without_terminal t.inst)) BadInstrument (preset_windows t)

abbrev pub instrument_part : Tables → List (Check ReadFault)
instrument_part t = zone_checks level.Inst (length (without_terminal t.shdr)) BadSample (instrument_windows t)

-- ---- the four lists of one level

-- the target checks of the zones
abbrev pub steps_of : {H R : Type 0} → Headers H R → ReadFault → LevelTables R → ℕ → List (Check ReadFault)
steps_of h missing l targets = zone_checks h.level targets missing (windows_of h.first_bag l)

-- the owners
abbrev pub read_of : {H R : Type 0} → Headers H R → LevelTables R → FlatOwners H
read_of h l = owners_with_counts h l.heads (windows_of h.first_bag l)

-- if the four lists are these four of the nine
module _ {H R : Type 0} (h : Headers H R) (l : LevelTables R) (heads : List R) (bags : List Bag)
    (gens : List Generator) (mods : List Modulator) (are : AreLists l heads bags gens mods)
    (within : ModsInside bags mods) where
  abbrev all : List (List Bagged)
  all = windows (bags_in bags gens mods) (map h.first_bag heads)

  same_windows : windows_of h.first_bag l ≡ all
  same_windows = windows_are h.first_bag l heads bags gens mods are within

  same_steps : (missing : ReadFault) (targets count : ℕ) → targets ≡ count
      → steps_of h missing l targets ≡ zone_checks h.level count missing all
  same_steps missing targets count same =
      ap (λ (n : ℕ). steps_of h missing l n) same ∙ ap (zone_checks h.level count missing) same_windows

  same_value : read_of h l ≡ owners_with_counts h heads all
  same_value =
      ap (λ (ws : List (List Bagged)). owners_with_counts h l.heads ws) same_windows
      ∙ ap (λ (hs : List R). owners_with_counts h hs all) are.heads_are

-- ---- both levels

abbrev pub preset_steps : LevelTables PresetHead → ℕ → List (Check ReadFault)
preset_steps = steps_of format.presets BadInstrument

abbrev pub instrument_steps : LevelTables InstrumentHead → ℕ → List (Check ReadFault)
instrument_steps = steps_of format.instruments BadSample

-- the lists of presets and of instruments, and the numbers of possible targets
pub record Levels (t : Tables) (p : LevelTables PresetHead) (i : LevelTables InstrumentHead)
    (instruments samples : ℕ) : Type 0 where
  pub presets_are : AreLists p t.phdr t.pbag t.pgen t.pmod
  pub instruments_are : AreLists i t.inst t.ibag t.igen t.imod
  pub mods : ModsInside t.pbag t.pmod × ModsInside t.ibag t.imod
  pub instruments_count : instruments ≡ length (without_terminal t.inst)
  pub samples_count : samples ≡ length (without_terminal t.shdr)

module _ (t : Tables) (p : LevelTables PresetHead) (i : LevelTables InstrumentHead) (instruments samples : ℕ)
    (l : Levels t p i instruments samples) where
  preset_steps_are : preset_steps p instruments ≡ preset_part t
  unfolding preset_windows
  preset_steps_are =
      same_steps format.presets p t.phdr t.pbag t.pgen t.pmod l.presets_are l.mods.0 BadInstrument instruments
      (length (without_terminal t.inst)) l.instruments_count

  instrument_steps_are : instrument_steps i samples ≡ instrument_part t
  unfolding instrument_windows
  instrument_steps_are =
      same_steps format.instruments i t.inst t.ibag t.igen t.imod l.instruments_are l.mods.1 BadSample samples
      (length (without_terminal t.shdr)) l.samples_count

  presets_value : read_of format.presets p ≡ (bank_owners_of t).presets
  unfolding preset_windows
  presets_value = same_value format.presets p t.phdr t.pbag t.pgen t.pmod l.presets_are l.mods.0

  instruments_value : read_of format.instruments i ≡ (bank_owners_of t).instruments
  unfolding instrument_windows
  instruments_value = same_value format.instruments i t.inst t.ibag t.igen t.imod l.instruments_are l.mods.1

  module _ (r : Result BankOwners (Failure ReadFault)) (e : Failure ReadFault) (is : IsErrAnd r (λ d. d ≡ e)) where
    pub presets_fail : Fails e (first_fault (preset_steps p instruments))
        → PassesOrOutOfMemory bank_owners_seen r (bank_owner_checks t) (bank_owners_of t)
    presets_fail h =
        given_front bank_owners_seen (bank_owners_of t) r e (preset_part t) (instrument_part t) is
        (subst (λ (s : List (Check ReadFault)). Fails e (first_fault s)) preset_steps_are h)

    pub instruments_fail : first_fault (preset_steps p instruments) ≡ None
        → Fails e (first_fault (instrument_steps i samples))
        → PassesOrOutOfMemory bank_owners_seen r (bank_owner_checks t) (bank_owners_of t)
    instruments_fail none h =
        given_after bank_owners_seen (bank_owners_of t) r (preset_part t) (instrument_part t)
        (sym (ap first_fault preset_steps_are) ∙ none)
        (given_by bank_owners_seen (bank_owners_of t) r e (instrument_part t) is
        (subst (λ (s : List (Check ReadFault)). Fails e (first_fault s)) instrument_steps_are h))

  pub members_hold : (presets : FlatOwners Head) (of_instruments : FlatOwners (List ℕ))
      → first_fault (preset_steps p instruments) ≡ None → presets ≡ read_of format.presets p
      → first_fault (instrument_steps i samples) ≡ None → of_instruments ≡ read_of format.instruments i
      → (first_fault (bank_owner_checks t) ≡ None)
      × (◌≡◌ {A = FlatBankOwners} (record { presets = presets; instruments = of_instruments }) (bank_owners_of t))
  members_hold presets of_instruments none presets_are none_too instruments_are =
      let first = presets_are ∙ presets_value in
      let second = instruments_are ∙ instruments_value in (
        then_none (preset_part t) (instrument_part t) (sym (ap first_fault preset_steps_are) ∙ none)
            (sym (ap first_fault instrument_steps_are) ∙ none_too),
        λ k. record { presets = first k; instruments = second k },
      )

-- ---- their counts

pub members_small : (t : Tables) → first_fault (count_checks t) ≡ None
    → AreSmall (added (bank_owners_of t).presets.counts (bank_owners_of t).instruments.counts)
unfolding preset_windows instrument_windows
members_small t e =
    let few = few_records t e in
    both-small (bank_owners_of t).presets.counts (bank_owners_of t).instruments.counts
    (counts-few level.Preset format.presets.first_bag t.phdr t.pbag t.pgen t.pmod few.phdr few.pbag few.pgen)
    (counts-few level.Inst format.instruments.first_bag t.inst t.ibag t.igen t.imod few.inst few.ibag few.igen)
