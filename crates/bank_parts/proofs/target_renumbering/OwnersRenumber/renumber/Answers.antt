use Rattle.std.proofs.Common.{map, sym, subst, ◌∙◌, ap}
use Rattle.std.specs.Prelude.{All}
use Rattle.generators.specs.Levels.{target_operator}
use Rattle.flat_records.specs.Bags.{gens_in}
use Rattle.flat_records.specs.Renumbered.{CanRenumber, IsOnlyLast, bag_renumbered}
use Rattle.flat_records.specs.Owned.{all_bags}
use Rattle.bank_parts.proofs.ReadLaws.{read, are_read, held}
use Rattle.bank_parts.proofs.RenumberLaws.{can_follow, last_follow, all_follow}
use Rattle.bank_parts.proofs.target_renumbering.OwnersRenumber.renumber.Goals as goal

pub renumber-requires : goal.renumber-requires
renumber-requires g c =
    let op = target_operator g.H.OwnerHead.LEVEL in
    let same = c.target_operator.ensures ∙ ap target_operator c.LEVEL.ensures in
    let represented = held c.self.invariant c.self.view_is in
    record {
      numbers =
          subst (λ op. All (CanRenumber op c.args.by) (gens_in (all_bags c.self.inside.bags.owners))) (sym same)
          (can_follow op c.args.by represented c.requires);
      last =
          subst (λ op. All (IsOnlyLast op) (all_bags c.self.inside.bags.owners)) (sym same)
          (last_follow op c.args.by represented);
    }

pub invariant_of-self : goal.invariant_of-self
invariant_of-self g c =
    let op = target_operator g.H.OwnerHead.LEVEL in
    let same = c.target_operator.ensures ∙ ap target_operator c.LEVEL.ensures in
    let new =
    c.renumber.ensures.owners ∙ (λ t. map (map (bag_renumbered (same t) c.args.by)) c.self.inside.bags.owners) in
    are_read (all_follow op c.args.by (held c.self.invariant c.self.view_is) c.renumber.new.self.owners new)

pub returns : goal.returns
returns g c =
    let op = target_operator g.H.OwnerHead.LEVEL in
    let same = c.target_operator.ensures ∙ ap target_operator c.LEVEL.ensures in
    let new =
    c.renumber.ensures.owners ∙ (λ t. map (map (bag_renumbered (same t) c.args.by)) c.self.inside.bags.owners) in
    read (all_follow op c.args.by (held c.self.invariant c.self.view_is) c.renumber.new.self.owners new)
