use Rattle.std.proofs.Common.{true≢false, refl, sym, subst}
use Rattle.bank_parts.specs.declared.parts.Parts.{Parts}
use Rattle.bank_parts.specs.Valid.{IsValid}
use Rattle.bank_core.specs.Flat.{IsFlatOf}
use Rattle.bank_parts.proofs.SoundLaws.{presets_plain, instruments_plain}
use Rattle.bank_core.proofs.FlatLaws.{same_bank}
use Rattle.bank_core.proofs.bank.Bank.from_flat.Goals as goal

pub returns-in_default : goal.returns-in_default
returns-in_default c b sound are = c.in_default.ensures.lists b.presets (presets_plain b sound) are.presets

pub returns-in_default-owners_of : goal.returns-in_default-owners_of
returns-in_default-owners_of c b sound are =
    c.in_default-owners_of.ensures.lists b.instruments (instruments_plain b sound) are.instruments

pub returns-in_default-valid_totals : goal.returns-in_default-valid_totals
returns-in_default-valid_totals c b sound are =
    let flat = c.args.flat in
    let presets = c.in-Some in
    let instruments = c.in-Some-owners_of in
    let parts : Parts =
    record {
      minor =
          flat.minor;
      texts =
          flat.texts;
      presets =
          presets.presets;
      instruments = instruments.instruments;
      samples = flat.samples;
    }
    in
    let own : IsFlatOf flat parts =
    record {
      minor =
          refl;
      texts =
          refl;
      presets = presets.ensures.lists;
      instruments = instruments.ensures.lists;
      samples = refl;
    }
    in
    let same = same_bank flat b parts sound presets.ensures.plain instruments.ensures.plain are own in
    true≢false (sym (c.in_default-valid_totals.ensures.valid.1 (subst IsValid same sound.valid)))
