use Rattle.std.proofs.Common.{◌≡◌, ◌-◌, ℕ, false, sym, ap, subst, IsSome, ◌∙◌}
use Rattle.std.specs.Option.{is_some}
use Rattle.std.specs.FinMap as map
use Rattle.bank_parts.specs.Counts.{counted}
use Rattle.bank_parts.proofs.Counts.{counted_same}
use Rattle.bank_validity.specs.Limits.{broken}
use Rattle.bank_changes.specs.Members.{settings_of}
use Rattle.bank_changes.specs.Settings.{place_records, zones_at}
use Rattle.bank_changes.proofs.PlaceLaws.{found_there, not_some}
use Rattle.bank_changes.proofs.SettingLaws.{amount_found, within_gen_replaced, few_bags, totals_gen_more}
use Rattle.bank_core.proofs.KeptPoints.{no_limit_now}
use Rattle.bank_core.proofs.bank.Bank.broken_with_gen.Goals as goal

pub returns-then-is_some : goal.returns-then-is_some
returns-then-is_some c = λ amount.
    let b = c.args.self.now in
    let (s, e) = found_there (settings_of b c.args.owner c.args.place) c.requires in
    let set =
    subst IsSome (c.gen_of.ensures ∙ amount_found b c.args.owner c.args.place c.args.operator s e)
    (sym c.is_some.ensures ∙ c.if-is_some.true) in
    sym
    (within_gen_replaced b c.args.owner c.args.place c.args.operator s e
    c.totals-totals.ensures.sound amount set)

pub broken_with_records-requires : goal.broken_with_records-requires
broken_with_records-requires c =
    no_limit_now c.args.self.now c.totals-totals.result c.totals-totals.ensures.sound c.totals-totals.ensures.value

pub returns : goal.returns
returns c = λ amount.
    let b = c.args.self.now in
    let o = c.args.owner in
    let at = c.args.place in
    let (s, e) = found_there (settings_of b o at) c.requires in
    let unset =
    not_some (map.get s.gens c.args.operator)
    (subst (λ found. is_some found ≡ false) (c.gen_of.ensures ∙ amount_found b o at c.args.operator s e)
    (sym c.is_some.ensures ∙ c.if-is_some.false))
    in
    let bags : ℕ = zones_at at - (place_records b o at).zones in
    let zones : c.bags_more.result ≡ counted bags =
    rw c.self.view_is at c.bags_more.ensures ∙ sym (counted_same bags (few_bags at (place_records b o at))) in
    rw (c.level.ensures, c.totals-totals.ensures.value) at c.broken_with_records.ensures
    (record { zones = bags; gens = 1; mods = 0 }) (λ k. record { zones = zones k; gens = 1; mods = 0 })
    ∙ sym (ap broken (totals_gen_more b o at s e c.args.operator amount unset))
