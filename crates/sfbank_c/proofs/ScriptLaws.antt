-- Lines that are done in turn.
use Rattle.std.proofs.Common.{◌≡◌, ℕ, List, [], ◌∷◌, ◌++◌, Err, refl, ap, subst}
use Rattle.edit_script.specs.declared.parsing.Line.{Line}
use Rattle.edit_script.specs.Script.{script_of}
use Rattle.inverse_edits.specs.Histories.{History, IsEdited}
use Rattle.sfbank_c.specs.declared.scripts.ScriptStop.{ScriptStop}
use Rattle.sfbank_c.specs.declared.scripts.ScriptStop.TheVariants.{BadPool, Fault, OutOfMemory, Refused}
use Rattle.sfbank_c.specs.Scripts.{AreDone, ChecksPool, RunsScript}

-- one more line is done
pub done_more : (old mid new : History) (lines : List Line) (l : Line) → AreDone old lines mid → IsEdited mid new l.edit
    → AreDone old (lines ++ l ∷ []) new
done_more old mid new [] l h e =
    (new, (let P : History → Type 0 = λ b. IsEdited b new l.edit in subst P h e), refl)
done_more old mid new (k ∷ lines) l h e = (h.0, h.1, done_more h.0 mid new lines l h.2 e)

pub one_more : (lines rest : List Line) (l : Line) → lines ++ (l ∷ rest) ≡ lines ++ l ∷ [] ++ rest
one_more [] rest l = refl
one_more (k ∷ lines) rest l = ap (λ ls. k ∷ ls) (one_more lines rest l)

-- what fails before the first edit changes nothing
pub pool_stops : (h : History) (script pool : List ℕ) (stop : ScriptStop) → ChecksPool {U = Unit {0}} script pool (Err stop)
    → RunsScript {U = Unit {0}} h h script pool (Err stop)
unfolding script_of
pool_stops h script pool BadPool is = (is, refl)
pool_stops h script pool (Fault fault) is = (rw is refl, refl)
pool_stops h script pool OutOfMemory is = refl
pool_stops h script pool (Refused stop) is = absurd is

-- all lines, of which some are done and the others remain
pub record SoFar (first now : History) (lines rest : List Line) : Type 0 where
  pub before : List Line
  pub parts : lines ≡ before ++ rest
  pub done : AreDone first before now
