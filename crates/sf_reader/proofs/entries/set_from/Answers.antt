use Rattle.std.proofs.Common.{◌∙◌, ℕ, List, drop, ap, subst, arith}
use Rattle.generators.specs.Indexes.{IsAt, IsInsertionIndex}
use Rattle.sf_reader.proofs.EntryLaws.{rest_is, set-front, set-map, set-set, insert-front, insert-map, insert-set}
use Rattle.sf_reader.proofs.entries.set_from.Goals as goal

pub returns-in-Ok : goal.returns-in-Ok
returns-in-Ok c =
    let start = c.args.start in
    let es = c.args.entries.now.items in
    let rest = rest_is start c.deref.result.now ∙ ap (drop start) c.deref.ensures.value in
    let found = subst (λ (l : List (ℕ × ℕ)). IsAt l c.args.operator c.in-Ok.at) rest c.in-Ok.ensures.found in
    record {
      front = set-front start es c.requires c.args.operator c.args.amount (omega arith) (omega arith) c.in-Ok.at found;
      map = set-map start es c.requires c.args.operator c.args.amount (omega arith) (omega arith) c.in-Ok.at found;
      set = set-set start es c.requires c.args.operator c.args.amount (omega arith) (omega arith) c.in-Ok.at found;
    }

pub returns-in_ok-insert-in-Err : goal.returns-in_ok-insert-in-Err
returns-in_ok-insert-in-Err c =
    let start = c.args.start in
    let es = c.args.entries.now.items in
    let rest = rest_is start c.deref.result.now ∙ ap (drop start) c.deref.ensures.value in
    let absent = subst (λ (l : List (ℕ × ℕ)). IsInsertionIndex l c.args.operator c.in-Err.at) rest c.in-Err.ensures.absent in
    record {
      front =
          rw c.in_ok-insert-in-Err.ensures.items
          (insert-front start es c.requires c.args.operator c.args.amount (omega arith) (omega arith) c.in-Err.at
          absent);
      map =
          rw c.in_ok-insert-in-Err.ensures.items
          (insert-map start es c.requires c.args.operator c.args.amount (omega arith) (omega arith) c.in-Err.at
          absent);
      set =
          rw c.in_ok-insert-in-Err.ensures.items
          (insert-set start es c.requires c.args.operator c.args.amount (omega arith) (omega arith) c.in-Err.at
          absent);
    }
