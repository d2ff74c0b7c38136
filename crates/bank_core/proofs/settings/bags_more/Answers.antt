use Rattle.std.proofs.Common.{ap, arith}
use Rattle.bank_parts.specs.declared.counting.Records.{Records}
use Rattle.bank_changes.proofs.SettingLaws.{bags_within}
use Rattle.bank_core.proofs.settings.bags_more.Goals as goal

pub overflow_sub-result : goal.overflow_sub-result
overflow_sub-result c =
    let few = bags_within c.args.parts.now c.args.owner c.args.place c.requires in
    let had = ap (λ (r : Records). r.zones) c.place_records.ensures in
    let most = c.zones_at.ensures in
    omega (arith, few, had, most)
