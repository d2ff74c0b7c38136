use Rattle.std.proofs.Common.{refl}
use Rattle.bank_format.specs.Ids.{SHDR}
use Rattle.sf_writer.proofs.ChunkLaws.{put_even}
use Rattle.sf_writer.proofs.RecordLaws.{shdr-even}
use Rattle.sf_writer.proofs.sample_heads.put_shdr.Goals as goal

pub returns : goal.returns
unfolding SHDR
returns g c =
    put_even _ _ _ _ refl (shdr-even c.args.bank.now c.put_heads.ensures.valid) c.requires c.head.ensures
    c.put_heads.ensures.puts
