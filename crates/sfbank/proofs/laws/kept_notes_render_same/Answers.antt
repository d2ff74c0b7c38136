use Rattle.sfbank.proofs.PlannedEdits.{played_renders_same}
use Rattle.sfbank.proofs.laws.kept_notes_render_same.Goals as goal

pub returns : goal.returns
returns c = played_renders_same
