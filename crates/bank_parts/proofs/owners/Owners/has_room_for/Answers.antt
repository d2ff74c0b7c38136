use Rattle.std.proofs.Common.{not, true≢false, length, sym, subst, ap, ◌∙◌}
use Rattle.generators.specs.Levels.{target_operator}
use Rattle.bank_parts.specs.Room.{AreStorable, has_operator}
use Rattle.bank_parts.specs.Bagged.{IsPlainOwner}
use Rattle.bank_parts.proofs.ListLaws.{insert-last}
use Rattle.bank_parts.proofs.ReadLaws.{held}
use Rattle.bank_parts.proofs.OwnerLaws.{owner_plain}
use Rattle.bank_parts.proofs.StorableLaws.{owner_held, owner_in, owner_storable, plain_has_none}
use Rattle.bank_parts.proofs.owners.Owners.has_room_for.Goals as goal

pub returns-then-not-has_operator : goal.returns-then-not-has_operator
returns-then-not-has_operator g c =
    let at = g.H.OwnerHead.LEVEL in
    let a = held c.self.invariant c.self.view_is in
    let n = length c.args.self.now in
    let x = c.args.owner.now in
    let plain = subst (λ op. IsPlainOwner op x) c.operator.ensures
    (owner_plain g.H.OwnerHead.IsFit c.operator.result x c.has_operator.result c.has_operator.ensures
    c.if-not-has_operator.true c.fits.ensures) in (
      λ can.
          subst (AreStorable at) (insert-last c.args.self.now x)
          (owner_storable a n x c.records.result c.records.ensures plain (c.can_hold.ensures.0 can)),
      λ s.
          c.can_hold.ensures.1
          (owner_held a n x c.records.result c.records.ensures
          (subst (AreStorable at) (sym (insert-last c.args.self.now x)) s)),
    )

pub returns-else-not-has_operator : goal.returns-else-not-has_operator
returns-else-not-has_operator g c =
    let at = g.H.OwnerHead.LEVEL in
    let x = c.args.owner.now in (
      λ none. absurd (true≢false (sym none ∙ ap not c.if-not-has_operator.false)),
      λ s.
          let plain = owner_in c.args.self.now (length c.args.self.now) x
          (subst (AreStorable at) (sym (insert-last c.args.self.now x)) s) in
          absurd
          (true≢false
          (sym c.if-not-has_operator.false
          ∙ (c.has_operator.ensures
          ∙ (ap (λ op. has_operator op x) c.operator.ensures ∙ plain_has_none (target_operator at) x plain)))),
    )
