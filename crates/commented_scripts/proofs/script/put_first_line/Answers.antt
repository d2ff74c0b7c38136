use Rattle.script_of_bank.specs.BankScript.{first_line}
use Rattle.commented_scripts.proofs.script.put_first_line.Goals as goal

pub returns-in-Kept : goal.returns-in-Kept
unfolding first_line
returns-in-Kept g c = rw c.in-Kept.is (rw c.from.ensures at c.put_line.ensures)

pub returns-in-LeftOut : goal.returns-in-LeftOut
unfolding first_line
returns-in-LeftOut g c =
    rw c.in-LeftOut.is (rw (c.from.ensures, c.new.ensures, c.new-in-LeftOut.ensures) at c.put_line-in-LeftOut.ensures)
