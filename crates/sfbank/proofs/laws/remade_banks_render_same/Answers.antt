use Rattle.sfbank.proofs.BankScripts.{remade_renders_same}
use Rattle.sfbank.proofs.laws.remade_banks_render_same.Goals as goal

pub returns : goal.returns
returns c = remade_renders_same
