use Rattle.std.proofs.Common.{◌∙◌, ap}
use Rattle.bank_format.specs.Reading.{sm24_dropped}
use Rattle.sf_reader.specs.Lists.{ListChunks}
use Rattle.sf_reader.specs.Texts.{texts_in}
use Rattle.sf_reader.specs.Owners.{bank_owners_seen}
use Rattle.sf_reader.proofs.ContentLaws.{found_content}
use Rattle.sf_reader.proofs.reader.content_of.Goals as goal

pub returns : goal.returns
returns c =
    let info = ap (λ (w : ListChunks). w.info) c.lists.view_is in
    let sdta = ap (λ (w : ListChunks). w.sdta) c.lists.view_is in
    let presets = c.into_lists-preset_heads.ensures in
    let instruments = c.into_lists-inst_heads.ensures in
    (λ i. record {
      bank = record {
        minor = c.args.minor;
        texts = c.truncated_texts.result;
        preset_heads = presets.heads i;
        inst_heads = instruments.heads i;
        preset = presets.records i;
        inst = instruments.records i;
        samples = c.args.samples;
      };
      counts = record {
        texts = c.count_too_long.result;
        sm24 = c.count_sm24.result;
        zones = c.add-zone_counts.result.zones;
        gens = c.add-zone_counts.result.gens;
        ranges = c.add-zone_counts.result.ranges;
        loops = c.count_lost_loops.result;
        links = c.count_lost_links.result;
      };
    })
    ∙ found_content c.args.minor c.args.lists.now c.args.tables.now (bank_owners_seen c.args.members) c.args.samples
    c.texts_of-texts.result c.truncated_texts.result
    c.count_too_long.result c.count_sm24.result c.add-zone_counts.result c.count_lost_loops.result c.count_lost_links.result
    (record {
      texts_are = c.texts_of-texts.ensures ∙ ap texts_in info;
      cut_are = c.truncated_texts.ensures;
      counted = c.count_too_long.ensures;
      sm24_is = c.count_sm24.ensures ∙ ap sm24_dropped sdta;
      zones_are = c.add-zone_counts.ensures;
      loops_are = rw c.samples.ensures at c.count_lost_loops.ensures;
      links_are = rw c.samples-2.ensures at c.count_lost_links.ensures;
    })
