use Rattle.std.proofs.Common.{◌≡◌, ◌<◌, ◌∙◌, append-nil, arith, length, rules, sym}
use Rattle.std.proofs.lemmas.List.Elements.{All-from_get_or}
use Rattle.sample_view.specs.Words.{words}
use Rattle.sample_view.proofs.WordLaws.{words-empty, AreWords-words}
use Rattle.sample_view.proofs.points.Points.of_slice.Goals as goal

pub returns-then-is_empty-clause-value : goal.returns-then-is_empty-clause-value
returns-then-is_empty-clause-value c =
    let none : length c.args.bytes.now ≡ 0 = search rules in
    c.empty.ensures ∙ sym (words-empty c.args.bytes.now none)

pub returns-clause-fits : goal.returns-clause-fits
returns-clause-fits c =
    let bytes = c.args.bytes.now in
    rw (append-nil (words bytes))
    (AreWords-words bytes (All-from_get_or (λ b. b < 256) bytes 0 (λ i l. omega (arith, c.type_inv.bytes i))))
