use Rattle.wave_file.specs.Wave.{WAVE}
use Rattle.wave_file.proofs.ReadLaws.{riff_fails, window_result}
use Rattle.wave_file.proofs.reading.read_recording.Goals as goal

pub returns-in_err-window : goal.returns-in_err-window
unfolding WAVE
returns-in_err-window c =
    riff_fails c.args.options c.args.file.now c.from_residual.result c.in_err-window.field-0.0 c.from_residual.ensures.1
    c.in_err-window.ensures

pub returns : goal.returns
unfolding WAVE
returns c =
    window_result c.args.options c.args.file.now c.in_ok-window.window.now c.read_window.result c.in_ok-window.ensures.0
    c.in_ok-window.ensures.1 c.read_window.ensures
