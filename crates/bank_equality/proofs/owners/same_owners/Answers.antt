use Rattle.std.proofs.Common.{◌≡◌, ◌≤◌, length, refl, arith, rules}
use Rattle.bank_equality.proofs.Lists.{same_members}
use Rattle.bank_equality.proofs.owners.same_owners.Goals as goal

pub returns : goal.returns
returns g c =
    let as_many : length c.args.a.now ≡ length c.args.b.now = search rules in
    let all : length c.args.a.now ≤ c.loop-i.i = search rules in
    let owners = same_members c.args.a.now c.args.b.now as_many (λ m lt. c.loop-i.invariant m (omega arith)) in
    (λ t. owners, λ e. refl)
