use Rattle.std.proofs.Common.{refl}
use Rattle.bank_format.specs.Ids.{PHDR}
use Rattle.base_outputs.proofs.OutputLaws.{puts_as}
use Rattle.sf_writer.proofs.ChunkLaws.{put_even}
use Rattle.sf_writer.proofs.OwnerHeadLaws.{phdr-borrowed, phdr-even}
use Rattle.sf_writer.proofs.owner_heads.put_phdr.Goals as goal

pub returns : goal.returns
unfolding PHDR
returns g c =
    put_even _ _ _ _ refl (phdr-even c.args.bank.now c.presets.ensures.valid) c.requires c.head.ensures
    (puts_as _ _ (phdr-borrowed c.args.bank.now _ c.presets.ensures.value) c.put_heads.ensures)
