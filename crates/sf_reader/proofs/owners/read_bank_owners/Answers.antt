use Rattle.std.proofs.Common.{◌∙◌, ap, refl}
use Rattle.std.specs.Prelude.{length}
use Rattle.bank_format.specs.Windows.{without_terminal}
use Rattle.sf_reader.specs.Owners.{owners_seen}
use Rattle.sf_reader.proofs.HydraLaws.{few_records, all_mods_inside}
use Rattle.sf_reader.proofs.MemberLaws.{Levels, presets_fail, instruments_fail, members_hold}
use Rattle.sf_reader.proofs.owners.read_bank_owners.Goals as goal
use Rattle.sf_reader.proofs.owners.read_bank_owners.Goals.{After-read_owners-2}

pub read_owners-requires-clause-heads : goal.read_owners-requires-clause-heads
read_owners-requires-clause-heads c =
    rw c.presets.ensures.heads_are (few_records c.args.tables.now c.requires.counts).phdr

pub read_owners-requires-clause-bags : goal.read_owners-requires-clause-bags
read_owners-requires-clause-bags c =
    rw c.presets.ensures.bags_are (few_records c.args.tables.now c.requires.counts).pbag

pub read_owners-requires-clause-generators : goal.read_owners-requires-clause-generators
read_owners-requires-clause-generators c =
    rw c.presets.ensures.generators_are (few_records c.args.tables.now c.requires.counts).pgen

pub returns-in_err-presets : goal.returns-in_err-presets
returns-in_err-presets c =
    let t = c.args.tables.now in
    let p = c.presets.result.now in
    let i = c.instruments.result.now in
    let n = c.row_count.result in
    let levels : Levels t p i n (length (without_terminal t.shdr)) = record {
      presets_are = c.presets.ensures;
      instruments_are = c.instruments.ensures;
      mods = all_mods_inside t c.requires.indexes;
      instruments_count = c.row_count.ensures ∙ ap (λ hs. length (without_terminal hs)) c.instruments.ensures.heads_are;
      samples_count = refl;
    } in
    presets_fail t p i n (length (without_terminal t.shdr)) levels c.from_residual.result c.in_err-presets.field-0.0
    c.from_residual.ensures.1 c.in_err-presets.ensures

pub read_owners-requires-2-clause-heads : goal.read_owners-requires-2-clause-heads
read_owners-requires-2-clause-heads c =
    rw c.instruments-2.ensures.heads_are (few_records c.args.tables.now c.requires.counts).inst

pub read_owners-requires-2-clause-bags : goal.read_owners-requires-2-clause-bags
read_owners-requires-2-clause-bags c =
    rw c.instruments-2.ensures.bags_are (few_records c.args.tables.now c.requires.counts).ibag

pub read_owners-requires-2-clause-generators : goal.read_owners-requires-2-clause-generators
read_owners-requires-2-clause-generators c =
    rw c.instruments-2.ensures.generators_are (few_records c.args.tables.now c.requires.counts).igen

-- the two levels, after the presets are read
levels : (c : After-read_owners-2)
    → Levels c.args.tables.now c.presets.result.now c.instruments-2.result.now c.row_count.result
    c.row_count-2.result
levels c = record {
  presets_are = c.presets.ensures;
  instruments_are = c.instruments-2.ensures;
  mods = all_mods_inside c.args.tables.now c.requires.indexes;
  instruments_count = c.row_count.ensures ∙ ap (λ hs. length (without_terminal hs)) c.instruments.ensures.heads_are;
  samples_count = c.row_count-2.ensures ∙ ap (λ hs. length (without_terminal hs)) c.samples.ensures;
}

pub returns-in_err-instruments : goal.returns-in_err-instruments
returns-in_err-instruments c =
    instruments_fail _ _ _ _ _ (levels (goal.at.returns-in_err-instruments c).After-read_owners-2)
    c.from_residual-in_err-instruments.result c.in_err-instruments.field-0.0
    c.from_residual-in_err-instruments.ensures.1
    c.in_ok-presets.ensures.0 c.in_err-instruments.ensures

pub returns : goal.returns
returns c =
    members_hold _ _ _ _ _ (levels (goal.at.returns c).After-read_owners-2) (owners_seen c.in_ok-presets.presets)
    (owners_seen c.in_ok-instruments.instruments) c.in_ok-presets.ensures.0 c.in_ok-presets.ensures.1
    c.in_ok-instruments.ensures.0 c.in_ok-instruments.ensures.1
