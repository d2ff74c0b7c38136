use Rattle.std.proofs.Common.{rules, tests, not, ◌∙◌, sym}
use Rattle.std.proofs.lemmas.Iterator.{YieldsList-from_slice}
use Rattle.std.proofs.lemmas.Iterator.Consumers.{YieldsList-from_copied}
use Rattle.std.proofs.lemmas.Iterator.Search.{find_from_yields_List}
use Rattle.std.proofs.lemmas.Iterator.Adapters.{option_map_id}
use Rattle.plan_presets.specs.declared.numbers.PresetNumbers.{PresetNumbers}
use Rattle.plan_edits.specs.Keeping.{has_preset}
use Rattle.plan_edits.proofs.presets.first_missing.Goals as goal

pub returns : goal.returns
returns c =
    sym (option_map_id c.find.result)
    ∙ find_from_yields_List (λ (k : PresetNumbers). not (has_preset c.args.bank.now k)) _ _ c.find.result c.find.ensures.ran
    (YieldsList-from_copied (YieldsList-from_slice c.args.list.now cc)) (λ x b q k. search (rules, tests))
