use Rattle.plan_take.proofs.AdditionLaws.{adds_both}
use Rattle.plan_take.proofs.samples.add_all_samples.Goals as goal

pub returns : goal.returns
returns c =
    adds_both c.args.draft.now c.add_missing.new.draft c.set_links.new.draft c.add_missing.ensures c.set_links.ensures

pub returns-in_err-set_links : goal.returns-in_err-set_links
returns-in_err-set_links c =
    adds_both c.args.draft.now c.add_missing.new.draft c.set_links.new.draft c.add_missing.ensures c.set_links.ensures
