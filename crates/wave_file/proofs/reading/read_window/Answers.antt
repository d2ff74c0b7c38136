use Rattle.wave_file.proofs.ReadLaws.{chunks_fail, chunks_result}
use Rattle.wave_file.proofs.reading.read_window.Goals as goal

pub returns-in_err-chunks : goal.returns-in_err-chunks
returns-in_err-chunks c =
    chunks_fail c.args.options c.args.window.now c.from_residual.result c.in_err-chunks.field-0.0
    c.from_residual.ensures.1 c.in_err-chunks.ensures

pub returns : goal.returns
returns c =
    chunks_result c.args.options c.args.window.now c.in_ok-chunks.chunks c.read_content.result c.in_ok-chunks.ensures.0
    c.in_ok-chunks.ensures.1 c.read_content.ensures
