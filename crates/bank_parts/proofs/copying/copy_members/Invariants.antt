use Rattle.std.proofs.Common.{◌≡◌, take}
use Rattle.bank_parts.proofs.copying.copy_members.Given as goal

abbrev pub invariant-loop-member : goal.invariant-loop-member
invariant-loop-member g l = l.copies.items ≡ take l.member-index l.members
