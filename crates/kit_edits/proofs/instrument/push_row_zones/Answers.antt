use Rattle.std.proofs.Common.{sym, ◌∙◌}
use Rattle.kit_edits.proofs.ZoneLaws.{row_found, none_pushed}
use Rattle.kit_edits.proofs.instrument.push_row_zones.Goals as goal

pub returns-in-None : goal.returns-in-None
returns-in-None c =
    none_pushed c.args.made.now.items _
    (row_found c.args.numbered.now c.args.row _ (sym c.in-None.is ∙ c.recording_at.ensures))

pub returns-in-Some : goal.returns-in-Some
returns-in-Some c =
    rw (← row_found c.args.numbered.now c.args.row _ (sym c.in-Some.is ∙ c.recording_at.ensures)) c.push_zones.ensures
