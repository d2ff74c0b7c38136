use Rattle.std.proofs.Common.{◌∙◌, ap}
use Rattle.base_numbered_lists.specs.Moved.{changed_within}
use Rattle.bank_linked_members.proofs.Spans.{linked_changed}
use Rattle.bank_linked_members.proofs.members.LinkedMembersRenumber.renumber.Goals as goal

pub returns : goal.returns
returns g c =
    let f = g.T.Renumber.with_new_numbers c.args.by in
    let stays = g.met.T.Linked.stays c.args.by in
    let span = c.link_span-span.result in
    c.renumber_range.ensures
    ∙ ap (changed_within span.start span.end f) c.self.view_is
    ∙ linked_changed g.T.Linked.has_link f stays c.args.self.now span c.link_span-span.ensures
