use Rattle.std.proofs.Common.{map, ◌∙◌}
use Rattle.sfbank.specs.Prepared.{texts_of_bank}
use Rattle.sfbank.specs.Kits.{Design, bare, kit_outcome, source_of}
use Rattle.sfbank.proofs.Endings.{ends_early, ends_with}
use Rattle.sfbank.proofs.KitRuns.{kit_edited}
use Rattle.sfbank.proofs.kits.add_kit.Goals as goal

pub returns-in-Ok-apply_kit : goal.returns-in-Ok-apply_kit
returns-in-Ok-apply_kit g c =
    let design : Design = record { zones = c.args.zones.now; members = c.args.members } in
    let sources = map source_of c.args.waves.items in
    let same =
    kit_edited design c.args.options sources c.args.file.now c.in-Ok.bank c.in-Ok.ensures.0.0
    (map bare c.in-Ok.recordings.items) c.in-Ok.ensures.0.1 c.in-Ok.ensures.1 in
    ends_with _ (kit_outcome design c.args.options sources c.args.file.now) (texts_of_bank c.in-Ok-apply_kit.edited_bank)
    c.write_edited.result (same ∙ c.in-Ok-apply_kit.ensures) c.write_edited.ensures

pub returns-in-Ok : goal.returns-in-Ok
returns-in-Ok g c =
    let design : Design = record { zones = c.args.zones.now; members = c.args.members } in
    let sources = map source_of c.args.waves.items in
    let same =
    kit_edited design c.args.options sources c.args.file.now c.in-Ok.bank c.in-Ok.ensures.0.0
    (map bare c.in-Ok.recordings.items) c.in-Ok.ensures.0.1 c.in-Ok.ensures.1 in
    ends_early (Unit {0}) (g.W.Write.contents c.args.out.now) (g.V.Write.contents c.args.undo.now)
    (kit_outcome design c.args.options sources c.args.file.now) c.in-Err-apply_kit.fault (rw same c.in-Err-apply_kit.ensures)

pub returns : goal.returns
returns g c =
    let design : Design = record { zones = c.args.zones.now; members = c.args.members } in
    let sources = map source_of c.args.waves.items in
    ends_early (Unit {0}) (g.W.Write.contents c.args.out.now) (g.V.Write.contents c.args.undo.now)
    (kit_outcome design c.args.options sources c.args.file.now) c.in-Err.fault (c.in-Err.ensures design)
