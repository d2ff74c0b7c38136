use Rattle.std.proofs.lemmas.List.Sums.{AllPass-from_list_all}
use Rattle.show_page.specs.Laws.{is_inner}
use Rattle.show_page.specs.Data.{page_data}
use Rattle.show_page.proofs.DataLaws.{inner_data}
use Rattle.show_page.proofs.laws.data_has_no_markup.Goals as goal

pub returns : goal.returns
returns c = λ b findings. AllPass-from_list_all is_inner (page_data b findings) (inner_data b findings).all
