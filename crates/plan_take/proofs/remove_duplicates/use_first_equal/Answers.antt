use Rattle.std.proofs.Common.{◌∙◌, sym, subst}
use Rattle.plan_take.specs.RemovingDuplicates.{KeepsAllVoices}
use Rattle.plan_take.proofs.DuplicateLaws.{voices_alike}
use Rattle.plan_take.proofs.remove_duplicates.use_first_equal.Goals as goal

pub returns-clause-alike : goal.returns-clause-alike
returns-clause-alike c =
    let before = c.args.draft.now.bank in
    let now = c.set_preset_targets.new.draft.bank in
    voices_alike before now
    (subst (λ b. KeepsAllVoices b now) (c.in_ok-bank.ensures ∙ c.bank.ensures)
    (subst (KeepsAllVoices c.in_ok-bank.bank) c.bank-2.ensures
    (c.keeps_all_voices.ensures c.if-not-keeps_all_voices.false)))
