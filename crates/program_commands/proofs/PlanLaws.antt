-- The operands of commands that find edits, and others after them.
use Rattle.std.proofs.Common.{◌++◌, List, [], ◌∷◌, Option, Some, None, false, true, ◌≡◌, codes, arith, sym}
use Rattle.clap.specs.Words.{Row, Text}
use Rattle.program_commands.specs.declared.plans.PlanPaths.{PlanPaths}
use Rattle.program_commands.specs.declared.plans.TidyPaths.{TidyPaths}
use Rattle.program_commands.specs.declared.words.Request.{Request}
use Rattle.program_commands.specs.declared.words.Request.TheVariants.{Copy, Tidy}
use Rattle.program_commands.specs.Words.{AreGiven, AsksFor, FindsOne, Operand, copy_operands, plan_operands, tidy_operands}

-- the words give the first of some operands
pub given_first : (rows : List Row) (first others : List Operand) → AreGiven rows (first ++ others) → AreGiven rows first
given_first rows [] others given = tt
given_first rows (operand ∷ first) others given = (given.0, given_first rows first others given.1)

-- where the words give no operands of a plan, they give none of a command that has others too
pub none_planned : {A : Type 0} (rows : List Row) (paths_of : A → PlanPaths) (others : A → List Operand)
    → FindsOne None (λ paths. AreGiven rows (plan_operands paths))
    → FindsOne None (λ (value : A). AreGiven rows (plan_operands (paths_of value) ++ others value))
none_planned rows paths_of others none = (
  tt,
  λ value given. none.1 (paths_of value) (given_first rows (plan_operands (paths_of value)) (others value) given),
)

-- if `tidy` was used and any request is asked for, the words give its operands
pub tidied : (rows : List Row) {name : Text} → name ≡ codes "tidy" → (request : Request)
    → AsksFor (Some (name, rows)) request → (tidy : TidyPaths) × AreGiven rows (tidy_operands tidy)
tidied rows {name} command request asked = go request (sym command) asked
  where
    go : (r : Request) → codes "tidy" ≡ name → AsksFor (Some (name, rows)) r
        → (tidy : TidyPaths) × AreGiven rows (tidy_operands tidy)
    go (Tidy tidy) is asked = (tidy, asked.1)
    go _ is asked = absurd (grind arith)

-- if `copy` was used, and the words don't give its operands, no request is asked for
pub none_copied : (rows : List Row) → FindsOne None (λ copy. AreGiven rows (copy_operands copy))
    → FindsOne None (AsksFor (Some (codes "copy", rows)))
none_copied rows none = (tt, go)
  where
    go : (r : Request) → AsksFor (Some (codes "copy", rows)) r → false ≡ true
    go (Copy copy) asked = none.1 copy asked.1
    go _ asked = let is = asked.0 in absurd (grind arith)
