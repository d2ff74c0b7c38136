use Rattle.std.proofs.Common.{ap}
use Rattle.generators.specs.declared.level.Level.TheVariants as level
use Rattle.riff_chunks.specs.Encoding.{encode}
use Rattle.bank_format.specs.Tables.{all_bags}
use Rattle.base_outputs.proofs.OutputLaws.{puts_as, puts_row, puts_then}
use Rattle.sf_writer.specs.Lists.{zone_lists}
use Rattle.sf_writer.proofs.RecordLaws.{pdta-is}
use Rattle.sf_writer.proofs.records.put_lists.Goals as goal

pub returns : goal.returns
returns g c =
    let presets =
    puts_as _ _ (ap (λ xs. encode (zone_lists level.Preset (all_bags level.Preset xs))) c.presets.ensures.value)
    c.put_zone_lists.ensures in
    let instruments =
    puts_as _ _
    (ap (λ xs. encode (zone_lists level.Inst (all_bags level.Inst xs)))
    c.instruments.ensures.value)
    c.put_zone_lists-2.ensures in
    puts_row _ _ _ (pdta-is c.args.bank.now) c.put_phdr.ensures
    (puts_then _ _ presets (puts_then _ _ c.put_inst.ensures (puts_then _ _ instruments c.put_shdr.ensures)))
