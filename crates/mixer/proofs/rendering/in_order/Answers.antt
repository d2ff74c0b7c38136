use Rattle.std.proofs.Common.{◌≡◌, ◌∙◌, ap, rules}
use Rattle.std.proofs.lemmas.List.Sorted.{IsNonDecreasingBy-from_sort_by_key, answers_always}
use Rattle.script_notes.specs.Notes.{Numbers}
use Rattle.mixer.specs.Order as order
use Rattle.mixer.proofs.Orders.{sorted_is}
use Rattle.mixer.proofs.rendering.in_order.Goals as goal

pub returns : goal.returns
returns c =
    let copied : c.in_ok-sorted.sorted.items ≡ c.args.notes.now = search rules in
    sorted_is c.in_ok-sorted.sorted.items c.sort_by_key.new.self.items
    (IsNonDecreasingBy-from_sort_by_key (λ (n : Numbers). n.start) _ c.in_ok-sort_by_key.ensures.sorted
    (λ a r q k. search rules))
    (c.sort_by_key.ensures.stable (λ n. n.start) (answers_always _ _ _ (λ f a r g h. search rules)))
    ∙ ap order.in_order copied
