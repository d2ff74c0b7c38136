use Rattle.bank_parts.proofs.SettingLaws.{place_read, zones_read, place_returns, zones_return, place_kept, zones_kept}
use Rattle.bank_parts.proofs.laws.places_are_lenses.Goals as goal

pub returns-clause-place_read : goal.returns-clause-place_read
returns-clause-place_read g c = place_read

pub returns-clause-zones_read : goal.returns-clause-zones_read
returns-clause-zones_read g c = zones_read

pub returns-clause-place_returns : goal.returns-clause-place_returns
returns-clause-place_returns g c = place_returns

pub returns-clause-zones_return : goal.returns-clause-zones_return
returns-clause-zones_return g c = zones_return

pub returns-clause-place_kept : goal.returns-clause-place_kept
returns-clause-place_kept g c = place_kept

pub returns-clause-zones_kept : goal.returns-clause-zones_kept
returns-clause-zones_kept g c = zones_kept
