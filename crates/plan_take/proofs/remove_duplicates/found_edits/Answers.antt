use Rattle.std.proofs.Common.{◌∙◌, sym, subst}
use Rattle.zone_select.specs.Alike.{AreAlike}
use Rattle.mixer.proofs.AlikeLaws.{AreAlike-refl, AreAlike-trans}
use Rattle.plan_take.proofs.DuplicateLaws.{removing}
use Rattle.plan_take.proofs.remove_duplicates.found_edits.Goals as goal

pub loop-pass-init : goal.loop-pass-init
loop-pass-init c =
    let b = c.args.bank.now in
    let first = c.in_ok-draft.draft.bank in (
      c.in_ok-tidy_draft.ensures.adds.first ∙ c.in_ok-draft.ensures.first,
      AreAlike-trans b first c.tidy_draft.new.draft.bank
          (subst (AreAlike b) (sym c.in_ok-draft.ensures.same) (AreAlike-refl b)) c.in_ok-tidy_draft.ensures.adds.alike,
    )

pub loop-pass-preserved : goal.loop-pass-preserved
loop-pass-preserved c =
    let b = c.args.bank.now in
    let before = c.loop-pass.draft.bank in
    let used = c.use_first_equal.new.draft.bank in
    let tidied = c.tidy_draft-in-loop-pass.new.draft.bank in (
      c.in_ok-tidy_draft-2.ensures.adds.first
          ∙ (c.use_first_equal.ensures.first ∙ c.loop-pass.invariant.0),
      AreAlike-trans b before tidied c.loop-pass.invariant.1
          (AreAlike-trans before used tidied c.in_ok-has_duplicates.ensures.alike
          c.in_ok-tidy_draft-2.ensures.adds.alike),
    )

pub returns-then-not-has_duplicates : goal.returns-then-not-has_duplicates
returns-then-not-has_duplicates c =
    let b = c.args.bank.now in
    let before = c.loop-pass.draft.bank in
    let used = c.use_first_equal.new.draft.bank in
    let tidied = c.tidy_draft-in-loop-pass.new.draft.bank in
    removing b c.tidy_draft-in-loop-pass.new.draft.first tidied c.into_edits.result.items
    (c.in_ok-tidy_draft-2.ensures.adds.first
    ∙ (c.use_first_equal.ensures.first ∙ c.loop-pass.invariant.0))
    (AreAlike-trans b before tidied c.loop-pass.invariant.1
    (AreAlike-trans before used tidied c.in_ok-has_duplicates.ensures.alike c.in_ok-tidy_draft-2.ensures.adds.alike))
    c.into_edits.ensures.leads c.in_ok-tidy_draft-2.ensures.used
