use Rattle.std.proofs.Common.{◌≡◌, ◌≤◌, suc, ◌+◌, ◌++◌, length, take, drop, sym, ap, ◌∙◌, arith, rules}
use Rattle.std.proofs.lemmas.List.{append-nil}
use Rattle.plan_take.specs.TakeFaults.{numbers_in, new_numbers, first_fault}
use Rattle.plan_take.proofs.FaultLaws.{fault_at, found_first, not_found, none_past_end}
use Rattle.plan_take.proofs.checks.check_presets.Goals as goal

pub loop-k-init : goal.loop-k-init
loop-k-init c =
    ap (λ u. first_fault c.args.from.now u c.args.presets.now) (sym (append-nil (numbers_in c.args.bank.now.presets)))

pub returns-in-Some : goal.returns-in-Some
returns-in-Some c =
    c.loop-k.invariant
    ∙ fault_at c.args.from.now c.args.bank.now c.args.presets.now c.loop-k.k c.fault_of.result _ c.loop-k-test.true
    c.fault_of.ensures
    ∙ found_first c.in-Some.fault c.fault_of.result _ c.in-Some.is

pub loop-k-preserved : goal.loop-k-preserved
loop-k-preserved c =
    let from = c.args.from.now in
    let used = numbers_in c.args.bank.now.presets in
    let presets = c.args.presets.now in
    let next : suc c.loop-k.k ≡ c.loop-k.k + 1 = omega arith in
    c.loop-k.invariant
    ∙ fault_at from c.args.bank.now presets c.loop-k.k c.fault_of.result _ c.loop-k-test.true c.fault_of.ensures
    ∙ not_found c.fault_of.result _ c.in_default.is
    ∙ ap (λ m. first_fault from (used ++ new_numbers (take m presets)) (drop m presets)) next

pub returns : goal.returns
returns c =
    let all : length c.args.presets.now ≤ c.loop-k.k = search rules in
    c.loop-k.invariant
    ∙ none_past_end c.args.from.now (numbers_in c.args.bank.now.presets ++ new_numbers (take c.loop-k.k c.args.presets.now))
    c.args.presets.now c.loop-k.k all
