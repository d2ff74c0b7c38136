use Rattle.std.proofs.Common.{◌<◌, ◌≤◌, ℕ, List, length, ap, sym, subst, ◌∙◌, arith}
use Rattle.std.specs.List.{flat_map}
use Rattle.bank_changes.specs.declared.members.Owner.TheVariants as owner
use Rattle.zone_select.specs.Remaining.{zones_in}
use Rattle.show_zone_map.specs.Rectangles.{rectangles, rectangles_of_zone}
use Rattle.show_zone_map.specs.Picture.{small_samples, with_samples}
use Rattle.show_zone_map.proofs.LegendLaws.{with_within, legend_next, legend_end}
use Rattle.show_zone_map.proofs.Rows.{all_from}
use Rattle.show_zone_map.proofs.legend.add_preset.Goals as goal

pub loop-zone-init : goal.loop-zone-init
unfolding rectangles
loop-zone-init c =
    let b = c.args.bank.now in
    record {
      within = c.requires;
      whole = ap
          (λ ks. with_samples c.args.legend.now (small_samples (flat_map (rectangles_of_zone b c.args.preset) ks)))
          (sym (all_from (zones_in b (owner.Preset c.args.preset))));
    }

pub loop-zone-preserved : goal.loop-zone-preserved
loop-zone-preserved c =
    let b = c.args.bank.now in
    let n = zones_in b (owner.Preset c.args.preset) in
    let k = c.loop-zone.zone in
    let ss = c.loop-zone.legend in
    let rows = rectangles_of_zone b c.args.preset in
    let test = c.loop-zone-test.true in
    let end = c.zones_in-zone-end.ensures.count in
    let lt : k < n = omega (arith, test, end) in
    let next = c.add_preset_zone.ensures in
    record {
      within = subst (λ (xs : List ℕ). length xs ≤ 1024) (sym next) (with_within ss (small_samples (rows k)));
      whole = legend_next rows k n ss _ c.loop-zone.invariant.within lt next ∙ c.loop-zone.invariant.whole;
    }

pub add_preset_zone-requires-clause-within : goal.add_preset_zone-requires-clause-within
add_preset_zone-requires-clause-within c = c.loop-zone.invariant.within

pub returns : goal.returns
returns c =
    let b = c.args.bank.now in
    let n = zones_in b (owner.Preset c.args.preset) in
    let test = c.loop-zone-test.false in
    let end = c.zones_in-zone-end.ensures.count in
    let le : n ≤ c.loop-zone.zone = omega (arith, test, end) in
    sym
    (legend_end (rectangles_of_zone b c.args.preset) c.loop-zone.zone n c.loop-zone.legend
    c.loop-zone.invariant.within le)
    ∙ c.loop-zone.invariant.whole
