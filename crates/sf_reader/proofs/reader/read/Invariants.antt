use Rattle.bank_core.proofs.FlatLaws.{bank_in}
use Rattle.sf_reader.proofs.reader.read.Given as goal

abbrev pub ghost-from_sound_flat : goal.ghost-from_sound_flat
ghost-from_sound_flat a = bank_in a.flat
