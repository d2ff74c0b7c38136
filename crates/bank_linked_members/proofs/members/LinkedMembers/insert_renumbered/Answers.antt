use Rattle.std.proofs.Common.{◌≡◌, ◌≤◌, ◌∙◌, ap, insert, length, map, subst, sym}
use Rattle.std.proofs.lemmas.List.{length-map}
use Rattle.base_numbered_lists.specs.Moved.{changed_within}
use Rattle.bank_linked_members.proofs.Spans.{IsLinkSpanOf, linked_changed, no_borrowed, span_changed, span_inserted}
use Rattle.bank_linked_members.proofs.members.LinkedMembers.insert_renumbered.Goals as goal

pub invariant_of-self-2 : goal.invariant_of-self-2
invariant_of-self-2 g c =
    let h = g.T.Linked.has_link in
    let f = g.T.Renumber.with_new_numbers c.args.by in
    let stays = g.met.T.Linked.stays c.args.by in
    let list = c.self.inside.list in
    let span = c.link_span-span.result in
    let known = subst (IsLinkSpanOf h span) (sym c.self.view_is) c.link_span-span.ensures in
    let after = c.after_insertion-self-inside in
    let new = c.insert_renumbered.new.self in
    let is : new ≡ insert (map f list) c.args.i c.args.x =
    c.in_ok-insert_renumbered.ensures.ok
    ∙ ap (λ xs. insert xs c.args.i c.args.x) (linked_changed h f stays list span known) in
    let place : c.args.i ≤ length (map f list) =
    subst (λ n. c.args.i ≤ n) (sym (length-map list f))
    (subst (λ xs. c.args.i ≤ length xs) (sym c.self.view_is) c.requires.place) in
    let within : after.result.end ≤ length (insert (map f list) c.args.i c.args.x) =
    subst (λ xs. after.result.end ≤ length xs) is
    (subst (λ n. after.result.end ≤ n) c.len.ensures after.ensures.within) in
    no_borrowed h new after.result
    (subst (IsLinkSpanOf h after.result) (sym is)
    (span_inserted h (map f list) c.args.i c.args.x span after.result (span_changed h f stays list span known) place
    after.ensures.order within after.ensures.outside.below after.ensures.outside.above
    (λ o. sym c.has_link-has_link.ensures ∙ after.ensures.own o)))

pub returns-clause-ok : goal.returns-clause-ok
returns-clause-ok g c =
    let h = g.T.Linked.has_link in
    let f = g.T.Renumber.with_new_numbers c.args.by in
    let span = c.link_span-span.result in
    let known = c.link_span-span.ensures in
    c.in_ok-insert_renumbered.ensures.ok
    ∙ ap (λ xs. insert xs c.args.i c.args.x)
    (ap (changed_within span.start span.end f) c.self.view_is
    ∙ linked_changed h f (g.met.T.Linked.stays c.args.by) c.args.self.now span known)
