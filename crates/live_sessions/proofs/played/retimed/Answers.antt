use Rattle.std.proofs.Common.{◌≡◌, Some, refl, sym, subst, ◌∙◌}
use Rattle.std.specs.Option.{IsSome}
use Rattle.script_notes.specs.Notes.{Numbers}
use Rattle.script_of_notes.proofs.ReadBackLaws.{note_is}
use Rattle.live_sessions.proofs.played.retimed.Goals as goal
use Rattle.live_sessions.proofs.played.retimed.Goals.{After-new}

abbrev new_numbers : (c : After-new) → Numbers
new_numbers c = record {
  start = c.args.start;
  length = c.args.length;
  bank = c.bank.result;
  number = c.number.result;
  key = c.key.result;
  velocity = c.velocity.result;
}

made : (c : After-new) → c.new.result ≡ Some (new_numbers c)
made c =
    c.new.ensures
    ∙ note_is (new_numbers c)
    (record { ends = c.requires; key = c.key.ensures.within; velocity = c.velocity.ensures.within })

pub unwrap-requires : goal.unwrap-requires
unwrap-requires c = subst IsSome (sym (made c)) refl

pub returns : goal.returns
returns c =
    let same : Some c.unwrap.result ≡ Some (new_numbers (goal.at.returns c).After-new) =
    sym c.unwrap.ensures ∙ made (goal.at.returns c).After-new in
    let here : c.unwrap.result ≡ new_numbers (goal.at.returns c).After-new = cc in
    here
    ∙
    (λ j.
    record {
      start = c.args.start;
      length = c.args.length;
      bank = c.bank.ensures j;
      number = c.number.ensures j;
      key = c.key.ensures.value j;
      velocity = c.velocity.ensures.value j;
    })
