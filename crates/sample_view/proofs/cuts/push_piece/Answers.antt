use Rattle.std.proofs.Common.{◌≡◌, length, rules, sym, append-nil}
use Rattle.sample_view.proofs.WordLaws.{words-empty}
use Rattle.sample_view.specs.Pieces.{joined}
use Rattle.sample_view.proofs.cuts.push_piece.Goals as goal

pub returns-then-is_empty-clause-points : goal.returns-then-is_empty-clause-points
returns-then-is_empty-clause-points c =
    let none : length c.args.bytes.now ≡ 0 = search rules in
    rw (words-empty c.args.bytes.now none) (sym (append-nil (joined c.args.kept.now.items)))
