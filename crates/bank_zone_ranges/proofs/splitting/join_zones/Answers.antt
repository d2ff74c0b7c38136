use Rattle.std.proofs.Common.{◌≡◌, unwrap_or, ap, ◌∙◌}
use Rattle.bank_zone_ranges.specs.Ranges.{own_range}
use Rattle.bank_zone_ranges.specs.Splits.{joint_range}
use Rattle.bank_zone_ranges.proofs.Existing.{join_there, kept, bared}
use Rattle.bank_zone_ranges.proofs.splitting.join_zones.Goals.{in-Keep, in-Bare}
use Rattle.bank_zone_ranges.proofs.splitting.join_zones.Goals as goal

pub returns-clause-ok : goal.returns-clause-ok
returns-clause-ok g c =
    let owners = c.args.owners.now in
    let h = join_there c.args.axis c.args.keep owners c.args.i c.args.k c.requires in
    let low : c.own_range.result ≡ own_range c.args.axis h.at.zone =
    rw (h.at.there, h.at.zone_there) at c.own_range.ensures in
    let high : c.own_range-2.result ≡ own_range c.args.axis h.second =
    rw (h.at.there, h.next) at c.own_range-2.ensures in
    let low_is = c.unwrap_or-low.ensures ∙ ap (λ o. unwrap_or o 32512) low in
    let high_is = c.unwrap_or-high.ensures ∙ ap (λ o. unwrap_or o 32512) high in
    elim c.match-keep.branch [
      | in-Keep w ↦ rw (c.set_or_clear_gen.ensures, c.in_ok-_second.ensures.change, c.range_operator.ensures)
          (kept owners c.args.i c.args.k c.args.axis c.args.keep h c.match-keep.own w.joint_range.result w.in-Keep.is
          w.own-is (w.joint_range.ensures ∙ (λ j. joint_range (low_is j) (high_is j))))
      | in-Bare w ↦ rw (c.set_or_clear_gen.ensures, c.in_ok-_second.ensures.change, c.range_operator.ensures)
          (bared owners c.args.i c.args.k c.args.axis c.args.keep h c.match-keep.own w.in-Bare.is w.own-is)
    ]
