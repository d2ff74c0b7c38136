use Rattle.bank_changes.proofs.SampleLaws.{links_fit-moved}
use Rattle.bank_changes.proofs.samples.move_sample.Goals as goal

pub renumber-requires : goal.renumber-requires
renumber-requires c =
    rw c.move_member.ensures
    (links_fit-moved c.args.parts.now c.args.from c.args.to c.requires.there c.requires.place c.requires.valid)
