use Rattle.std.proofs.Common.{◌++◌, ℕ, List, Option, [], length, arith, ap, ◌∙◌}
use Rattle.std.specs.List.{cons_option, filter_map}
use Rattle.std.proofs.lemmas.List.{length-map}
use Rattle.std.specs.Option.{option_map}
use Rattle.bank_parts.specs.declared.parts.Head.{Head}
use Rattle.bank_parts.specs.declared.parts.ZoneOwner.{ZoneOwner}
use Rattle.bank_changes.specs.Members.{head_of}
use Rattle.show_findings.specs.Numbers.{numbers}
use Rattle.show_findings.specs.Presets.{key_of}
use Rattle.show_findings.proofs.GatherLaws.{options_start, options_more, options_all}
use Rattle.show_findings.proofs.FirstKeyLaws.{keys_read}
use Rattle.show_findings.proofs.hidden.keys_of.Goals as goal

pub loop-preset-init : goal.loop-preset-init
loop-preset-init c =
    let b = c.args.bank.now in
    let start = options_start (λ p. option_map key_of (head_of b p)) (length b.presets) in
    start _

pub loop-preset-preserved : goal.loop-preset-preserved
loop-preset-preserved c =
    let b = c.args.bank.now in
    let test = c.loop-preset-test.true in
    let end = c.count_in-preset-end.ensures in
    options_more (λ p. option_map key_of (head_of b p)) (length b.presets) _ c.loop-preset.keys.items _
    c.loop-preset.preset (omega (arith, test, end))
    (c.in_ok-push_option.ensures ∙ ap (λ o. c.loop-preset.keys.items ++ cons_option o []) c.key_at.ensures)
    c.loop-preset.invariant

pub returns-clause-keys : goal.returns-clause-keys
returns-clause-keys c =
    let b = c.args.bank.now in
    let g : ℕ → Option ℕ = λ p. option_map key_of (head_of b p) in
    let test = c.loop-preset-test.false in
    let end = c.count_in-preset-end.ensures in
    options_all g (length b.presets) c.new-keys.result.items c.loop-preset.keys.items c.loop-preset.preset
    (omega (arith, test, end)) c.loop-preset.invariant
    ∙ ap (λ (t : List ℕ). t ++ filter_map g (numbers (length b.presets))) c.new-keys.ensures.items ∙ keys_read b

pub returns-clause-few : goal.returns-clause-few
returns-clause-few c =
    let b = c.args.bank.now in
    let e = ap (λ (ks : List ℕ). length ks) (returns-clause-keys c) in
    let n = length-map b.presets (λ (x : ZoneOwner Head). key_of x.head) in
    let few = c.count_in-preset-end.type_inv in
    let end = c.count_in-preset-end.ensures in
    omega (arith, e, n, few, end)
