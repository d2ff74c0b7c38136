use Rattle.std.proofs.Common.{◌+◌, ◌&&◌, ℕ, Bool, not, ap, sym, ◌∙◌, arith}
use Rattle.std.specs.Prelude.{is_some}
use Rattle.std.specs.List.{list_all}
use Rattle.bank_changes.specs.declared.members.Place.TheVariants as place
use Rattle.bank_changes.specs.Members.{amount_of}
use Rattle.zone_select.specs.Remaining.{zones_in}
use Rattle.show_findings.proofs.GatherLaws.{from, all_from, all_on, all_over}
use Rattle.show_findings.proofs.overridden.is_set_by_all.Goals as goal

pub loop-zone-init : goal.loop-zone-init
loop-zone-init c =
    ap (list_all (λ k. is_some (amount_of c.args.bank.now c.args.owner (place.Zone k) c.args.operator)))
    (all_from (zones_in c.args.bank.now c.args.owner))

pub returns-then-is_none : goal.returns-then-is_none
returns-then-is_none c =
    let sets : ℕ → Bool = λ k. is_some (amount_of c.args.bank.now c.args.owner (place.Zone k) c.args.operator) in
    let n = zones_in c.args.bank.now c.args.owner in
    let k = c.loop-zone.zone in
    let test = c.loop-zone-test.true in
    let end = c.zones_in-zone-end.ensures.count in
    sym
    (c.loop-zone.invariant ∙ all_on sets k n (omega (arith, test, end))
    ∙ ap (λ t. t && list_all sets (from (k + 1) n))
    (ap is_some (sym c.gen_of.ensures) ∙ c.is_none.ensures ∙ ap not c.if-is_none.true))

pub loop-zone-preserved : goal.loop-zone-preserved
loop-zone-preserved c =
    let sets : ℕ → Bool = λ k. is_some (amount_of c.args.bank.now c.args.owner (place.Zone k) c.args.operator) in
    let n = zones_in c.args.bank.now c.args.owner in
    let k = c.loop-zone.zone in
    let test = c.loop-zone-test.true in
    let end = c.zones_in-zone-end.ensures.count in
    c.loop-zone.invariant ∙ all_on sets k n (omega (arith, test, end))
    ∙ ap (λ t. t && list_all sets (from (k + 1) n))
    (ap is_some (sym c.gen_of.ensures) ∙ c.is_none.ensures ∙ ap not c.if-is_none.false)

pub returns : goal.returns
returns c =
    let test = c.loop-zone-test.false in
    let end = c.zones_in-zone-end.ensures.count in
    sym
    (c.loop-zone.invariant
    ∙ all_over (λ k. is_some (amount_of c.args.bank.now c.args.owner (place.Zone k) c.args.operator)) c.loop-zone.zone
    (zones_in c.args.bank.now c.args.owner) (omega (arith, test, end)))
