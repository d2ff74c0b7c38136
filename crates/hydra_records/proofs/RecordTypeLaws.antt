-- For each record type: its bytes have its size and read as it, and a record read from bytes fits.
use Rattle.std.proofs.Common.{lit<, refl}
use Rattle.std.specs.Int.{w8, w16}
use Rattle.std.proofs.Math.Facts.{Fits-of_z}
use Rattle.modulators.specs.Modulators.{FitsModulator}
use Rattle.hydra_records.specs.Fits.{FitsPresetHead, FitsBag, FitsGenerator, FitsInstrumentHead, FitsSampleHead}
use Rattle.hydra_records.specs.Records.{IsLawful}
use Rattle.hydra_records.specs.Encoding.{preset_head_of, preset_head_bytes, bag_of, bag_bytes, modulator_of}
use Rattle.hydra_records.specs.Encoding.{modulator_bytes, generator_of, generator_bytes, instrument_head_of}
use Rattle.hydra_records.specs.Encoding.{instrument_head_bytes, sample_head_of, sample_head_bytes}
use Rattle.hydra_records.proofs.Fields.{Field, name, number, signed, ◌&◌, lawful}

-- Unsigned numbers of two and four bytes.
abbrev word : Field
word = number 2

abbrev dword : Field
dword = number 4

-- For each record type: its fields, the conversions between records and their values, and that both fit together.

pub bag_lawful : IsLawful 4 bag_of bag_bytes FitsBag
unfolding bag_of bag_bytes
bag_lawful = lawful (word & word) FitsBag (lit< tt)
    (λ v. record { gens = v.0; mods = v.1 }) (λ r. (r.gens, r.mods))
    (λ v h. record { gens = h.0; mods = h.1 }) (λ r h. (h.gens, h.mods)) (λ r. refl)

pub generator_lawful : IsLawful 4 generator_of generator_bytes FitsGenerator
unfolding generator_of generator_bytes
generator_lawful = lawful (word & word) FitsGenerator (lit< tt)
    (λ v. record { operator = v.0; amount = v.1 }) (λ r. (r.operator, r.amount))
    (λ v h. record { operator = h.0; amount = h.1 }) (λ r h. (h.operator, h.amount)) (λ r. refl)

pub modulator_lawful : IsLawful 10 modulator_of modulator_bytes FitsModulator
unfolding modulator_of modulator_bytes
modulator_lawful = lawful (word & word & signed 2 w16 (λ z f. (Fits-of_z f).fits) & word & word) FitsModulator (lit< tt)
    (λ v. record { source = v.0; dest = v.1.0; amount = v.1.1.0; amount_source = v.1.1.1.0; transform = v.1.1.1.1 })
    (λ r. (r.source, (r.dest, (r.amount, (r.amount_source, r.transform)))))
    (λ v h. record { source = h.0; dest = h.1.0; amount = h.1.1.0; amount_source = h.1.1.1.0; transform = h.1.1.1.1 })
    (λ r h. (h.source, (h.dest, (h.amount, (h.amount_source, h.transform))))) (λ r. refl)

pub preset_head_lawful : IsLawful 38 preset_head_of preset_head_bytes FitsPresetHead
unfolding preset_head_of preset_head_bytes
preset_head_lawful = lawful (name & word & word & word & dword & dword & dword) FitsPresetHead (lit< tt)
    (λ v.
    record {
      name =
          v.0;
      number =
          v.1.0;
      bank =
          v.1.1.0;
      bag =
          v.1.1.1.0;
      library = v.1.1.1.1.0;
      genre = v.1.1.1.1.1.0;
      morphology = v.1.1.1.1.1.1;
    })
    (λ r. (r.name, (r.number, (r.bank, (r.bag, (r.library, (r.genre, r.morphology)))))))
    (λ v h.
    record {
      name =
          h.0;
      number =
          h.1.0;
      bank =
          h.1.1.0;
      bag =
          h.1.1.1.0;
      library = h.1.1.1.1.0;
      genre = h.1.1.1.1.1.0;
      morphology = h.1.1.1.1.1.1;
    })
    (λ r h. (h.name, (h.number, (h.bank, (h.bag, (h.library, (h.genre, h.morphology))))))) (λ r. refl)

pub instrument_head_lawful : IsLawful 22 instrument_head_of instrument_head_bytes FitsInstrumentHead
unfolding instrument_head_of instrument_head_bytes
instrument_head_lawful = lawful (name & word) FitsInstrumentHead (lit< tt)
    (λ v. record { name = v.0; bag = v.1 }) (λ r. (r.name, r.bag))
    (λ v h. record { name = h.0; bag = h.1 }) (λ r h. (h.name, h.bag)) (λ r. refl)

pub sample_head_lawful : IsLawful 46 sample_head_of sample_head_bytes FitsSampleHead
unfolding sample_head_of sample_head_bytes
sample_head_lawful =
    lawful
    (name & dword & dword & dword & dword & dword & number 1 & signed 1 w8 (λ z f. (Fits-of_z f).fits) & word &
    word)
    FitsSampleHead (lit< tt)
    (λ v.
    record {
      name =
          v.0;
      start =
          v.1.0;
      end =
          v.1.1.0;
      loop_start =
          v.1.1.1.0;
      loop_end =
          v.1.1.1.1.0;
      rate =
          v.1.1.1.1.1.0;
      key =
          v.1.1.1.1.1.1.0;
      correction =
          v.1.1.1.1.1.1.1.0;
      link = v.1.1.1.1.1.1.1.1.0;
      kind = v.1.1.1.1.1.1.1.1.1;
    })
    (λ r. (
      r.name,
      (r.start, (r.end, (r.loop_start, (r.loop_end, (r.rate, (r.key, (r.correction, (r.link, r.kind)))))))),
    ))
    (λ v h.
    record {
      name =
          h.0;
      start =
          h.1.0;
      end =
          h.1.1.0;
      loop_start =
          h.1.1.1.0;
      loop_end =
          h.1.1.1.1.0;
      rate =
          h.1.1.1.1.1.0;
      key =
          h.1.1.1.1.1.1.0;
      correction =
          h.1.1.1.1.1.1.1.0;
      link = h.1.1.1.1.1.1.1.1.0;
      kind = h.1.1.1.1.1.1.1.1.1;
    })
    (λ r h. (
      h.name,
      (h.start, (h.end, (h.loop_start, (h.loop_end, (h.rate, (h.key, (h.correction, (h.link, h.kind)))))))),
    ))
    (λ r. refl)

-- All six.
pub ruleset record_types_lawful =
    (preset_head_lawful, bag_lawful, modulator_lawful, generator_lawful, instrument_head_lawful, sample_head_lawful)
