use Rattle.show_findings.proofs.FirstKeyLaws.{hidden_by_keys}
use Rattle.show_findings.proofs.hidden.push_hidden_presets.Goals as goal

pub returns : goal.returns
returns c =
    rw (
      c.as_slice.ensures.value,
      c.in_ok-keys.ensures.keys,
      hidden_by_keys c.args.bank.now c.soundness.ensures.fits.presets,
    )
    at c.push_repeated.ensures
