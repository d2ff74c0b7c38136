use Rattle.std.proofs.Common.{◌++◌, length, Some, ap, ◌∙◌, arith}
use Rattle.bank_changes.specs.declared.members.Owner.TheVariants as owner
use Rattle.show_findings.specs.Numbers.{numbers}
use Rattle.show_findings.proofs.GatherLaws.{options_start, options_more, options_all, all_some}
use Rattle.show_findings.proofs.gathering.push_presets.Goals as goal

pub loop-preset-init : goal.loop-preset-init
loop-preset-init c = options_start (λ n. Some (owner.Preset n)) (length c.args.bank.now.presets) c.args.found.now.items

pub loop-preset-preserved : goal.loop-preset-preserved
loop-preset-preserved c =
    let test = c.loop-preset-test.true in
    let end = c.count_in-preset-end.ensures in
    options_more (λ n. Some (owner.Preset n)) (length c.args.bank.now.presets) c.args.found.now.items
    c.loop-preset.found.items _ c.loop-preset.preset (omega (arith, test, end)) c.in_ok-push.ensures.items
    c.loop-preset.invariant

pub returns : goal.returns
returns c =
    let test = c.loop-preset-test.false in
    let end = c.count_in-preset-end.ensures in
    options_all (λ n. Some (owner.Preset n)) (length c.args.bank.now.presets) c.args.found.now.items c.loop-preset.found.items
    c.loop-preset.preset (omega (arith, test, end)) c.loop-preset.invariant
    ∙ ap (λ os. c.args.found.now.items ++ os) (all_some (λ n. owner.Preset n) (numbers (length c.args.bank.now.presets)))
