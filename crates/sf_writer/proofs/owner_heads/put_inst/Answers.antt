use Rattle.std.proofs.Common.{refl}
use Rattle.bank_format.specs.Ids.{INST}
use Rattle.base_outputs.proofs.OutputLaws.{puts_as}
use Rattle.sf_writer.proofs.ChunkLaws.{put_even}
use Rattle.sf_writer.proofs.OwnerHeadLaws.{inst-borrowed, inst-even}
use Rattle.sf_writer.proofs.owner_heads.put_inst.Goals as goal

pub returns : goal.returns
unfolding INST
returns g c =
    put_even _ _ _ _ refl (inst-even c.args.bank.now c.instruments.ensures.valid) c.requires c.head.ensures
    (puts_as _ _ (inst-borrowed c.args.bank.now _ c.instruments.ensures.value) c.put_heads.ensures)
