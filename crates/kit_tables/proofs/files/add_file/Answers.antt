use Rattle.std.proofs.Common.{◌∙◌, sym, ap, map}
use Rattle.kit_tables.specs.Files.{named_file}
use Rattle.kit_tables.proofs.FileLaws.{index_is, one_more, no_more}
use Rattle.kit_tables.proofs.files.add_file.Goals.{then-is_new+in_ok-push, else-is_new}
use Rattle.kit_tables.proofs.files.add_file.Goals as goal

pub returns-clause-index : goal.returns-clause-index
returns-clause-index c = c.in_ok-index.ensures.index ∙ index_is _ _ _ c.requires.paths

pub returns-clause-files : goal.returns-clause-files
returns-clause-files c = elim c.if-is_new.branch [
  | then-is_new+in_ok-push w ↦
      one_more _ _ _ _ c.requires.paths (sym w.if-is_new.true ∙ c.in_ok-index.ensures.added)
      (ap (λ files. files.items) w.files-is ∙ w.in_ok-push.ensures.items)
  | else-is_new w ↦
      ap (λ files. map named_file files.items) w.files-is
      ∙ no_more _ _ _ _ c.requires.paths (sym w.if-is_new.false ∙ c.in_ok-index.ensures.added)
]
