use Rattle.wave_file.proofs.ImportLaws.{is_there, loops_whole}
use Rattle.wave_file.proofs.sampler.forward_loop.Goals as goal

pub unwrap-table-requires : goal.unwrap-table-requires
unwrap-table-requires c =
    is_there _ c.over.result c.over.ensures
    (λ part.
    part
    (loops_whole c.args.chunk.now c.part_of-loops.result.now c.loop_count.result _ c.loop_count.ensures.value
    c.requires.loops c.part_of-loops.ensures))
