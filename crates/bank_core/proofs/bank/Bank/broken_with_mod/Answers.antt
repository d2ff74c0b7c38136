use Rattle.std.proofs.Common.{◌≡◌, ◌-◌, ℕ, sym, ap, ◌∙◌}
use Rattle.bank_parts.specs.Counts.{counted}
use Rattle.bank_parts.proofs.Counts.{counted_same}
use Rattle.bank_validity.specs.Limits.{broken}
use Rattle.bank_changes.specs.Members.{settings_of}
use Rattle.bank_changes.specs.Settings.{place_records, zones_at}
use Rattle.bank_changes.proofs.PlaceLaws.{found_there}
use Rattle.bank_changes.proofs.SettingLaws.{few_bags, totals_mod_more}
use Rattle.bank_core.proofs.KeptPoints.{no_limit_now}
use Rattle.bank_core.proofs.bank.Bank.broken_with_mod.Goals as goal

pub broken_with_records-requires : goal.broken_with_records-requires
broken_with_records-requires c =
    no_limit_now c.args.self.now c.totals.result c.totals.ensures.sound c.totals.ensures.value

pub returns : goal.returns
returns c = λ index modulator.
    let b = c.args.self.now in
    let o = c.args.owner in
    let at = c.args.place in
    let (s, e) = found_there (settings_of b o at) c.requires in
    let bags : ℕ = zones_at at - (place_records b o at).zones in
    let zones : c.bags_more.result ≡ counted bags =
    rw c.self.view_is at c.bags_more.ensures ∙ sym (counted_same bags (few_bags at (place_records b o at))) in
    rw (c.level.ensures, c.totals.ensures.value) at c.broken_with_records.ensures
    (record { zones = bags; gens = 0; mods = 1 }) (λ k. record { zones = zones k; gens = 0; mods = 1 })
    ∙ sym (ap broken (totals_mod_more b o at s e index modulator))
