use Rattle.std.proofs.Common.{sym, ap, subst, ◌∙◌, ◌++◌, List, ℕ, map}
use Rattle.script_comments.specs.Along.{Holds, name_comment}
use Rattle.bank_edits.proofs.MoveLaws.{moves_after}
use Rattle.script_comments.proofs.MoveLaws.{comments_are}
use Rattle.script_comments.proofs.along.add_moves.Goals as goal

pub returns-in-Ok-add_names-clause-added : goal.returns-in-Ok-add_names-clause-added
returns-in-Ok-add_names-clause-added c cs h =
    let names = c.deref.ensures.value ∙ c.in-Ok.ensures.names in
    let same =
    ap (λ (ns : List (List ℕ)). map name_comment ns) names
    ∙ sym (comments_are c.args.bank.now c.args.moves.now c.requires) in
    subst (λ (t : List (List ℕ)). Holds c.add_names.new.comments (cs ++ t)) same (c.in-Ok-add_names.ensures cs h)

pub returns-in-Ok-add_names-clause-done : goal.returns-in-Ok-add_names-clause-done
returns-in-Ok-add_names-clause-done c =
    c.in-Ok.ensures.change ∙ sym (moves_after c.args.bank.now c.args.moves.now)
