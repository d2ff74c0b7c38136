use Rattle.flat_records.proofs.Owners.{read, are_read}
use Rattle.flat_records.proofs.owned.OwnerBags.from_sound_flat.Goals as goal

pub invariant_of-result : goal.invariant_of-result
invariant_of-result g c =
    let begins = c.requires.begins in
    let bags = c.from_sound_recs-bags.ensures in
    are_read (record { same = λ i. record { begins = begins i; bags = bags i } })

pub returns : goal.returns
returns g c =
    let begins = c.requires.begins in
    let bags = c.from_sound_recs-bags.ensures in
    read (record { same = λ i. record { begins = begins i; bags = bags i } })
