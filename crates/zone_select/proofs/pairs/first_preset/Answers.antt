use Rattle.std.proofs.Common.{◌∙◌, ◌<◌, length, sym, arith}
use Rattle.zone_select.specs.Select.{has_preset_numbers}
use Rattle.zone_select.proofs.NumberLaws.{first_hit, first_miss}
use Rattle.zone_select.proofs.pairs.first_preset.Goals as goal

pub returns-then-has_preset_numbers : goal.returns-then-has_preset_numbers
returns-then-has_preset_numbers c =
    first_hit (has_preset_numbers c.args.note.now) c.args.bank.now.presets c.loop-preset.preset c.loop-preset.invariant.left
    (sym c.has_preset_numbers.ensures ∙ c.if-has_preset_numbers.true)

pub loop-preset-preserved : goal.loop-preset-preserved
loop-preset-preserved c =
    let test = c.loop-preset-test.true in
    let count = c.preset_count-count.ensures.count in
    let there : c.loop-preset.preset < length c.args.bank.now.presets = omega (arith, test, count) in
    record {
      left =
          c.loop-preset.invariant.left
          ∙ first_miss (has_preset_numbers c.args.note.now) c.args.bank.now.presets c.loop-preset.preset there
          (sym c.has_preset_numbers.ensures ∙ c.if-has_preset_numbers.false);
      within = omega (arith, test);
    }
