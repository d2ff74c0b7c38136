use Rattle.std.proofs.Common.{◌≡◌, ◌++◌, map, take, drop, length, ap, ◌∙◌, arith}
use Rattle.std.proofs.lemmas.Grind.{common_steps}
use Rattle.mixer.specs.Pressed.{with_handle, pressed_voices}
use Rattle.mixer.proofs.playing.pressed_voices.Goals as goal

pub returns : goal.returns
unfolding pressed_voices
returns c =
    let vs = c.in_ok-voices.voices in
    let all : take vs.len (c.set_handles.new.voices ++ drop (length c.set_handles.new.voices) vs.items)
    ≡ map (with_handle c.args.handle) vs.items =
    grind (arith, common_steps) in
    all ∙ ap (map (with_handle c.args.handle)) c.in_ok-voices.ensures
