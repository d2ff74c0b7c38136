use Rattle.show_sample.proofs.ColumnLaws.{columns_cover}
use Rattle.show_sample.proofs.laws.columns_cover_points.Goals as goal

pub returns-clause-cover : goal.returns-clause-cover
returns-clause-cover c = columns_cover
