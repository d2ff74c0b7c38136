use Rattle.std.proofs.Common.{◌<◌, ◌≤◌, length, slice_get, sym, ap, ◌∙◌, rules}
use Rattle.std.specs.Option.{is_some}
use Rattle.bank_parts.specs.declared.parts.Head.{Head}
use Rattle.bank_parts.specs.declared.parts.ZoneOwner.{ZoneOwner}
use Rattle.zone_select.proofs.NumberLaws.{first_hit, first_miss}
use Rattle.plan_take.specs.Taking.{is_numbered}
use Rattle.plan_take.proofs.SearchLaws.{numbered_there, find_past_end, get_some}
use Rattle.plan_copy.proofs.numbers.has_preset.Goals as goal

pub loop-i-preserved : goal.loop-i-preserved
loop-i-preserved c =
    let presets = c.args.presets.now in
    let k = c.args.numbers in
    let there : c.loop-i.i < length presets = search rules in
    c.loop-i.invariant
    ∙ first_miss (λ (p : ZoneOwner Head). is_numbered k p.head) presets c.loop-i.i there
    (numbered_there k (slice_get presets c.loop-i.i) c.head.result.now c.head.ensures ∙ sym c.has_numbers.ensures ∙ c.if-has_numbers.false)

pub returns-then-has_numbers : goal.returns-then-has_numbers
returns-then-has_numbers c =
    let presets = c.args.presets.now in
    let k = c.args.numbers in
    let there : c.loop-i.i < length presets = search rules in
    sym
    (ap is_some
    (first_hit (λ (p : ZoneOwner Head). is_numbered k p.head) presets c.loop-i.i c.loop-i.invariant
    (numbered_there k (slice_get presets c.loop-i.i) c.head.result.now c.head.ensures ∙ sym c.has_numbers.ensures ∙ c.if-has_numbers.true))
    ∙ get_some presets c.loop-i.i there)

pub returns : goal.returns
returns c =
    let presets = c.args.presets.now in
    let all : length presets ≤ c.loop-i.i = search rules in
    sym
    (ap is_some
    (c.loop-i.invariant ∙ find_past_end (λ (p : ZoneOwner Head). is_numbered c.args.numbers p.head) presets c.loop-i.i all))
