use Rattle.std.proofs.Common.{◌≡◌, ◌∙◌, ℕ, List, Option, ap, refl, sym}
use Rattle.std.specs.Option.{option_map_or}
use Rattle.program_commands.specs.declared.words.Request.TheVariants.{Import}
use Rattle.sfbank.specs.Recordings.{import_outcome}
use Rattle.sfbank.specs.PlanParts.{import_name, name_in, with_both, with_input}
use Rattle.sfbank.specs.Steps.{edit_part}
use Rattle.sfbank.proofs.program.import.import.Goals as goal

pub returns-in-Some : goal.returns-in-Some
returns-in-Some g c printed =
    let p = c.args.paths in
    let name : import_name p ≡ c.in-Some.name = ap (λ (o : Option (List ℕ)). option_map_or (λ n. n) o (name_in p.wave.now)) c.in-Some.is in
    c.import_as.ensures (Import p) printed (record {
      plans = λ w i j. edit_part (record { input = p.input; other = p.wave; out = p.out; undo = p.undo; force = p.force }) w
          (with_input p.input.now i.first
          (λ file. with_input p.wave.now i.second
          (λ wave. with_both p.out.now p.undo.now (import_outcome p.options (name j) file wave))));
      inputs = λ w r s others h k. (h, k, tt);
    })

pub returns-in-None : goal.returns-in-None
returns-in-None g c printed =
    let p = c.args.paths in
    let name : import_name p ≡ c.as_bytes.result.now = ap (λ (o : Option (List ℕ)). option_map_or (λ n. n) o (name_in p.wave.now)) c.in-None.is ∙ sym c.recording_name.ensures ∙ sym c.as_bytes.ensures.value in
    c.import_named.ensures (Import p) printed (record {
      plans = λ w i j. edit_part (record { input = p.input; other = p.wave; out = p.out; undo = p.undo; force = p.force }) w
          (with_input p.input.now i.first
          (λ file. with_input p.wave.now i.second
          (λ wave. with_both p.out.now p.undo.now (import_outcome p.options (name j) file wave))));
      inputs = λ w r s others h k. (h, k, tt);
    })
