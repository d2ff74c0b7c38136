use Rattle.std.proofs.Common.{◌<◌, ◌≤◌, ℕ, List, Option, length, ap, sym, subst, ◌∙◌, arith}
use Rattle.std.specs.List.{flat_map}
use Rattle.bank_changes.specs.declared.members.Owner.TheVariants as owner
use Rattle.zone_select.specs.Remaining.{zones_in}
use Rattle.show_zone_map.specs.declared.rectangle.Rectangle.{Rectangle}
use Rattle.show_zone_map.specs.Rectangles.{rectangle_at, zone_numbers}
use Rattle.show_zone_map.specs.Picture.{small_samples, with_samples}
use Rattle.show_zone_map.proofs.Kept.{as_list, options_flat}
use Rattle.show_zone_map.proofs.LegendLaws.{with_within, legend_next, legend_end}
use Rattle.show_zone_map.proofs.Rows.{all_from}
use Rattle.show_zone_map.proofs.legend.add_instrument.Goals as goal

pub loop-zone-init : goal.loop-zone-init
loop-zone-init c =
    let b = c.args.bank.now in
    let o = owner.Inst c.args.instrument in
    let h = rectangle_at b c.args.preset_zone c.args.area c.args.instrument in
    let rows : ℕ → List Rectangle = λ k. as_list (h k) in
    let all = options_flat h (zone_numbers b o) ∙ ap (flat_map rows) (all_from (zones_in b o)) in
    record {
      within = c.requires;
      whole = ap (λ rs. with_samples c.args.legend.now (small_samples rs)) (sym all);
    }

pub loop-zone-preserved : goal.loop-zone-preserved
loop-zone-preserved c =
    let b = c.args.bank.now in
    let n = zones_in b (owner.Inst c.args.instrument) in
    let k = c.loop-zone.zone in
    let ss = c.loop-zone.legend in
    let rows : ℕ → List Rectangle =
    λ j. as_list (rectangle_at b c.args.preset_zone c.args.area c.args.instrument j) in
    let test = c.loop-zone-test.true in
    let end = c.zones_in-zone-end.ensures.count in
    let lt : k < n = omega (arith, test, end) in
    let next = c.add_rectangle.ensures
    ∙ ap (λ (r : Option Rectangle). with_samples ss (small_samples (as_list r))) c.rectangle_at-rectangle.ensures in
    record {
      within = subst (λ (xs : List ℕ). length xs ≤ 1024) (sym next) (with_within ss (small_samples (rows k)));
      whole = legend_next rows k n ss _ c.loop-zone.invariant.within lt next ∙ c.loop-zone.invariant.whole;
    }

pub add_rectangle-requires : goal.add_rectangle-requires
add_rectangle-requires c = c.loop-zone.invariant.within

pub returns : goal.returns
returns c =
    let b = c.args.bank.now in
    let n = zones_in b (owner.Inst c.args.instrument) in
    let rows : ℕ → List Rectangle =
    λ j. as_list (rectangle_at b c.args.preset_zone c.args.area c.args.instrument j) in
    let test = c.loop-zone-test.false in
    let end = c.zones_in-zone-end.ensures.count in
    let le : n ≤ c.loop-zone.zone = omega (arith, test, end) in
    sym (legend_end rows c.loop-zone.zone n c.loop-zone.legend c.loop-zone.invariant.within le)
    ∙ c.loop-zone.invariant.whole
