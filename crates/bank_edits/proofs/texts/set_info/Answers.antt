use Rattle.edit_refusals.proofs.TextLaws.{sound_set_info}
use Rattle.bank_edits.proofs.texts.set_info.Goals as goal

pub set_info-old-requires : goal.set_info-old-requires
set_info-old-requires c =
    sound_set_info c.args.bank.now c.args.id c.args.text c.requires.sound c.bytes-bytes.ensures.fits
    c.requires.accepted
