use Rattle.std.proofs.Common.{◌≡◌, ◌∙◌, ap, map, string_bytes}
use Rattle.bank_folders.specs.Laws.{files_from, files_of}
use Rattle.sfbank.proofs.program.wave_all.save_instrument.Goals as goal

pub returns-in-Ok : goal.returns-in-Ok
returns-in-Ok g c printed =
    let files : map string_bytes c.as_slice.result.now ≡ files_of c.args.bank.now =
    ap (map string_bytes) c.as_slice.ensures.value ∙ c.in-Ok.ensures ∙ ap (files_from 0) c.samples.ensures.value in
    rw (files, c.samples-in-Ok.ensures.value) at (c.save_folder.ensures printed)
