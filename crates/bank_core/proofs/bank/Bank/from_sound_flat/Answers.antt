use Rattle.std.proofs.Common.{◌≡◌, subst, sym, ◌∙◌}
use Rattle.bank_parts.specs.Sound.{IsSound}
use Rattle.bank_core.proofs.FlatLaws.{presets_given, instruments_given, same_parts}
use Rattle.bank_core.proofs.bank.Bank.from_sound_flat.Goals as goal
use Rattle.bank_core.proofs.bank.Bank.from_sound_flat.Goals.{After-from_sound_flat-instruments}
use Rattle.bank_core.proofs.bank.Bank.from_sound_flat.Given.{Over}

pub from_sound_flat-presets-requires-clause-lists : goal.from_sound_flat-presets-requires-clause-lists
from_sound_flat-presets-requires-clause-lists g c =
    let read = c.into_lists-preset_heads in
    let given =
    presets_given c.args.flat g.bank read.result.0 read.result.1.items c.requires.0 c.requires.1 read.ensures.records
    read.ensures.size in
    given.lists

pub from_sound_flat-presets-requires-clause-plain : goal.from_sound_flat-presets-requires-clause-plain
from_sound_flat-presets-requires-clause-plain g c =
    let read = c.into_lists-preset_heads in
    let given =
    presets_given c.args.flat g.bank read.result.0 read.result.1.items c.requires.0 c.requires.1 read.ensures.records
    read.ensures.size in
    given.plain

pub from_sound_flat-instruments-requires-clause-lists : goal.from_sound_flat-instruments-requires-clause-lists
from_sound_flat-instruments-requires-clause-lists g c =
    let read = c.into_lists-inst_heads in
    let given =
    instruments_given c.args.flat g.bank read.result.0 read.result.1.items c.requires.0 c.requires.1
    read.ensures.records read.ensures.size in
    given.lists

pub from_sound_flat-instruments-requires-clause-plain : goal.from_sound_flat-instruments-requires-clause-plain
from_sound_flat-instruments-requires-clause-plain g c =
    let read = c.into_lists-inst_heads in
    let given =
    instruments_given c.args.flat g.bank read.result.0 read.result.1.items c.requires.0 c.requires.1
    read.ensures.records read.ensures.size in
    given.plain

is_bank : (g : Over) (c : After-from_sound_flat-instruments g)
    → record {
      minor = c.args.flat.minor;
      texts = c.args.flat.texts;
      presets = c.from_sound_flat-presets.result;
      instruments = c.from_sound_flat-instruments.result;
      samples = c.args.flat.samples;
    }
    ≡ g.bank
is_bank g c =
    let flat = c.args.flat in
    let presets = c.into_lists-preset_heads in
    let instruments = c.into_lists-inst_heads in
    same_parts flat g.bank c.from_sound_flat-presets.result c.from_sound_flat-instruments.result c.requires.1
    (c.from_sound_flat-presets.ensures
    ∙
    (presets_given flat g.bank presets.result.0 presets.result.1.items c.requires.0 c.requires.1
    presets.ensures.records presets.ensures.size).same)
    (c.from_sound_flat-instruments.ensures
    ∙
    (instruments_given flat g.bank instruments.result.0 instruments.result.1.items c.requires.0 c.requires.1
    instruments.ensures.records instruments.ensures.size).same)

pub from_sound_parts-requires : goal.from_sound_parts-requires
from_sound_parts-requires g c = subst IsSound (sym (is_bank g c)) c.requires.0

pub returns : goal.returns
returns g c = c.from_sound_parts.ensures ∙ is_bank g (goal.at.returns g c).After-from_sound_flat-instruments
