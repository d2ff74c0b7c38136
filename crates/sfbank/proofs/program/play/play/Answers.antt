use Rattle.std.proofs.Common.{refl}
use Rattle.program_commands.specs.declared.words.Request.TheVariants.{Play}
use Rattle.sfbank.specs.Outcome.{play_outcome}
use Rattle.sfbank.specs.PlanParts.{with_text}
use Rattle.sfbank.specs.Steps.{play_part}
use Rattle.sfbank.proofs.PlanLaws.{after_two, checks_fail, two_go_on, two_fail}
use Rattle.sfbank.proofs.program.play.play.Goals as goal

pub returns-in-Ok-read_two : goal.returns-in-Ok-read_two
returns-in-Ok-read_two g c =
    let p = c.args.paths in
    two_go_on (Play p) (play_part p) (λ w a b. with_text w p.out.now (play_outcome a b)) p.input.now p.notes.now _
    (g.H.Host.world c.reject_output.new.host) _ _ _ _ c.put_sound.result tt c.in-Ok-read_two.file.items
    c.in-Ok-read_two.notes.items (λ w i. refl) (λ w r s others h k. (h, k, tt)) c.in-Ok.ensures c.in-Ok-read_two.ensures
    (rw (c.as_slice.ensures.value, c.as_slice-in-Ok-read_two.ensures.value) at c.put_sound.ensures)

pub returns-in-Err-read_two : goal.returns-in-Err-read_two
returns-in-Err-read_two g c =
    let p = c.args.paths in
    two_fail (Play p) (play_part p) (λ w a b. with_text w p.out.now (play_outcome a b)) p.input.now p.notes.now _
    (g.H.Host.world c.reject_output.new.host) _ _ _ c.in-Err-read_two.fault tt (λ w i. refl) (λ w r s others h k. (h, k, tt)) c.in-Ok.ensures
    c.in-Err-read_two.ensures

pub returns-in-Err : goal.returns-in-Err
returns-in-Err g c =
    let p = c.args.paths in
    checks_fail (Play p) (play_part p) (after_two p.input.now p.notes.now (λ w a b. with_text w p.out.now (play_outcome a b))) p.input.now p.notes.now _ _ _ _
    c.in-Err.fault (λ w i. refl) (λ w r s others h k. (h, k, tt)) c.in-Err.ensures
