use Rattle.std.proofs.Common.{◌+◌, ◌||◌, ℕ, Bool, ap, sym, ◌∙◌, arith}
use Rattle.std.specs.Prelude.{is_some}
use Rattle.std.specs.List.{list_any}
use Rattle.bank_changes.specs.declared.members.Owner.TheVariants as owner
use Rattle.zone_select.specs.Remaining.{zones_in}
use Rattle.show_zone_map.specs.Rectangles.{rectangle_at}
use Rattle.show_findings.proofs.GatherLaws.{from, all_from, any_on, any_over}
use Rattle.show_findings.proofs.zones.any_rectangle.Goals as goal

pub loop-zone-init : goal.loop-zone-init
loop-zone-init c = λ outer.
    ap
    (λ ks. list_any (λ k. is_some (rectangle_at c.args.bank.now outer c.args.area c.args.instrument k)) ks)
    (all_from (zones_in c.args.bank.now (owner.Inst c.args.instrument)))

pub returns-then-makes_rectangle : goal.returns-then-makes_rectangle
returns-then-makes_rectangle c = λ outer.
    let n = zones_in c.args.bank.now (owner.Inst c.args.instrument) in
    let k = c.loop-zone.zone in
    let makes : ℕ → Bool = λ l. is_some (rectangle_at c.args.bank.now outer c.args.area c.args.instrument l) in
    let test = c.loop-zone-test.true in
    let end = c.zones_in-zone-end.ensures.count in
    sym
    (c.loop-zone.invariant outer ∙ any_on makes k n (omega (arith, test, end))
    ∙ ap (λ t. t || list_any makes (from (k + 1) n))
    (sym (c.makes_rectangle.ensures outer) ∙ c.if-makes_rectangle.true))

pub loop-zone-preserved : goal.loop-zone-preserved
loop-zone-preserved c = λ outer.
    let n = zones_in c.args.bank.now (owner.Inst c.args.instrument) in
    let k = c.loop-zone.zone in
    let makes : ℕ → Bool = λ l. is_some (rectangle_at c.args.bank.now outer c.args.area c.args.instrument l) in
    let test = c.loop-zone-test.true in
    let end = c.zones_in-zone-end.ensures.count in
    c.loop-zone.invariant outer ∙ any_on makes k n (omega (arith, test, end))
    ∙ ap (λ t. t || list_any makes (from (k + 1) n))
    (sym (c.makes_rectangle.ensures outer) ∙ c.if-makes_rectangle.false)

pub returns : goal.returns
returns c = λ outer.
    let n = zones_in c.args.bank.now (owner.Inst c.args.instrument) in
    let k = c.loop-zone.zone in
    let makes : ℕ → Bool = λ l. is_some (rectangle_at c.args.bank.now outer c.args.area c.args.instrument l) in
    let test = c.loop-zone-test.false in
    let end = c.zones_in-zone-end.ensures.count in
    sym (c.loop-zone.invariant outer ∙ any_over makes k n (omega (arith, test, end)))
