use Rattle.std.proofs.Common.{◌≡◌, ◌∙◌, length, map, sym, subst, ap}
use Rattle.std.specs.Prelude.{All}
use Rattle.std.proofs.lemmas.List.Elements.{All-from_recursion}
use Rattle.bank_changes.specs.SampleMoves.{list_moved, names_along}
use Rattle.bank_changes.specs.SampleNumbers.{AreNumbers, number_in, LinksBelow, TargetsBelow}
use Rattle.bank_parts.specs.Renumbered.{sample_with, owner_with}
use Rattle.bank_changes.proofs.SampleMoveLaws.{names_are}
use Rattle.bank_changes.proofs.SampleNumberLaws.{links_below, targets_below, numbered_moved}
use Rattle.bank_changes.proofs.sample_moves.move_samples.Goals as goal

pub renumber_links-requires : goal.renumber_links-requires
renumber_links-requires c =
    let b = c.args.parts.now in
    let ms = c.args.moves.now in
    let numbers = c.in_ok-numbers.numbers.items in
    let table = subst (λ n. AreNumbers n ms numbers) c.len.ensures c.in_ok-numbers.ensures in
    let is = c.in_ok-names.ensures.samples ∙ ap (λ ss. list_moved ss ms) c.as_slice.ensures in
    let size : length c.deref.result.now ≡ length b.samples = ap length c.deref.ensures.value ∙ table.size in
    subst (λ n. All (LinksBelow n) c.in_ok-names.samples.items) (sym size)
    (subst (λ ss. All (LinksBelow (length b.samples)) ss) (sym is)
    (All-from_recursion (LinksBelow (length b.samples)) (list_moved b.samples ms)
    (links_below b ms c.requires.valid c.requires.within numbers table)))

pub renumber_targets-requires : goal.renumber_targets-requires
renumber_targets-requires c =
    let b = c.args.parts.now in
    let ms = c.args.moves.now in
    let numbers = c.in_ok-numbers.numbers.items in
    let table = subst (λ n. AreNumbers n ms numbers) c.len.ensures c.in_ok-numbers.ensures in
    let size : length c.deref-2.result.now ≡ length b.samples = ap length c.deref-2.ensures.value ∙ table.size in
    subst (λ n. All (TargetsBelow n) b.instruments) (sym size)
    (All-from_recursion (TargetsBelow (length b.samples)) b.instruments
    (targets_below b ms c.requires.valid c.requires.within numbers table))

pub returns-clause-change : goal.returns-clause-change
returns-clause-change c =
    let b = c.args.parts.now in
    let ms = c.args.moves.now in
    let numbers = c.in_ok-numbers.numbers.items in
    let table = subst (λ n. AreNumbers n ms numbers) c.len.ensures c.in_ok-numbers.ensures in
    let is = c.in_ok-names.ensures.samples ∙ ap (λ ss. list_moved ss ms) c.as_slice.ensures in
    let samples =
    c.from_vec.ensures
    ∙ (c.renumber_links.ensures ∙ (λ i. map (sample_with (number_in (c.deref.ensures.value i))) (is i))) in
    let instruments =
    c.renumber_targets.ensures ∙ (λ i. map (owner_with (number_in (c.deref-2.ensures.value i))) b.instruments) in
    (λ i. record b { samples = samples i; instruments = instruments i })
    ∙ numbered_moved b ms c.requires.valid c.requires.within numbers table

pub returns-clause-names : goal.returns-clause-names
returns-clause-names c =
    c.in_ok-names.ensures.names ∙ ap (λ ss. names_along ss c.args.moves.now) c.as_slice.ensures
    ∙ names_are c.args.parts.now c.args.moves.now c.requires.within
