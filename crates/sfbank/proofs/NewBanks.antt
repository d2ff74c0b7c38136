-- The file of an empty bank.
use Rattle.std.proofs.Common.{◌<◌, ◌^◌, ℕ, ap, arith}
use Rattle.bank_parts.specs.Sound.{IsSound}
use Rattle.bank_format.specs.Canon.{canon}
use Rattle.bank_format.specs.Reading.{Content}
use Rattle.bank_format.proofs.RoundTrip.{reads-again}
use Rattle.script_of_bank.specs.BankEdits.{empty}
use Rattle.script_of_bank.proofs.AcceptedLaws.{empty_are, empty_fit}
use Rattle.sfbank.specs.NewBanks.{IsNew}
use Rattle.sfbank.proofs.OneText.{canon_text}

pub new_sound : (minor : ℕ) → minor < 2 ^ 16 → IsSound (empty minor)
new_sound minor fits = record {
  valid = record {
    texts = empty_are;
    presets = tt;
    instruments = tt;
    samples = tt;
    limits = record {
      presets = omega arith;
      instruments = omega arith;
      samples = omega arith;
      preset_zones = omega arith;
      preset_gens = omega arith;
      preset_mods = omega arith;
      instrument_zones = omega arith;
      instrument_gens = omega arith;
      instrument_mods = omega arith;
      points = omega arith;
    };
  };
  fits = record { minor = fits; texts = empty_fit; presets = tt; instruments = tt; samples = tt };
}

pub is_new : (minor : ℕ) → minor < 2 ^ 16 → IsNew minor
is_new minor fits =
    let sound = new_sound minor fits in
    let again = reads-again (empty minor) sound.valid sound.fits in
    record {
      own = canon_text (canon (empty minor)) (empty minor) _ again;
      read = again.0;
      bank = ap (λ (c : Content). c.bank) again.1;
    }
