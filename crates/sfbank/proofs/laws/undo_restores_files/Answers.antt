use Rattle.sfbank.proofs.UndoneFiles.{undo_restores_files, undo_removes_kits, undo_removes_recordings}
use Rattle.sfbank.proofs.UndoneFiles.{undo_restores_plans, undo_ends_sessions}
use Rattle.sfbank.proofs.laws.undo_restores_files.Goals as goal

pub returns-clause-apply : goal.returns-clause-apply
returns-clause-apply c = undo_restores_files

pub returns-clause-import : goal.returns-clause-import
returns-clause-import c = undo_removes_recordings

pub returns-clause-kits : goal.returns-clause-kits
returns-clause-kits c = undo_removes_kits

pub returns-clause-plans : goal.returns-clause-plans
returns-clause-plans c = undo_restores_plans

pub returns-clause-live : goal.returns-clause-live
returns-clause-live c = undo_ends_sessions c.saved_undo_restores.ensures
