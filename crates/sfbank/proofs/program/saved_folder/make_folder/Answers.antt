use Rattle.std.proofs.Common.{[], ◌∷◌, ◌∙◌, refl}
use Rattle.sfbank.specs.PlanParts.{MakesFolder}
use Rattle.sfbank.proofs.PlanLaws.{none_saved, saved_none}
use Rattle.sfbank.proofs.program.saved_folder.make_folder.Goals as goal

pub returns-in-Ok : goal.returns-in-Ok
returns-in-Ok g c = (c.in-Ok.ensures.is_new, c.in-Ok.ensures.made)

pub returns-in-Err-OutOfMemory : goal.returns-in-Err-OutOfMemory
returns-in-Err-OutOfMemory g c = saved_none (MakesFolder c.args.path.now ∷ []) _ _ c.in-Err-OutOfMemory.ensures.stays

pub returns-in-Err-Fault : goal.returns-in-Err-Fault
returns-in-Err-Fault g c = (
  refl,
  (rw c.in-Err-Fault.field-0-is at c.in-Err-Fault.ensures.counted),
  record {
    before = [];
    at = MakesFolder c.args.path.now;
    after = [];
    is = refl;
    spoils = c.in-Err-Fault.ensures.stays ∙ none_saved _;
  },
)
