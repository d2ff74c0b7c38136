use Rattle.std.proofs.Common.{◌∙◌, ap}
use Rattle.std.specs.List.{flat_map}
use Rattle.base_outputs.proofs.OutputLaws.{puts_as}
use Rattle.script_of_bank.proofs.TextLaws.{text_lines, texts_lines}
use Rattle.script_of_bank.proofs.texts.put_texts.Goals as goal

pub returns : goal.returns
returns g c =
    puts_as _ _ (ap (flat_map (text_lines c.args.bank.now.texts)) c.all.ensures ∙ texts_lines c.args.bank.now.texts)
    c.put_each_text.ensures
