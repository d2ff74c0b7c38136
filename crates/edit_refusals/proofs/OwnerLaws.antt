-- When a preset or an instrument may be added to `count` of them, with targets below `targets`, and the result of the
-- refusal functions.
use Rattle.std.proofs.Common.{◌≡◌, ◌≤◌, ℕ, List, [], ◌∷◌, Option, Result, sym, ◌∙◌, ap}
use Rattle.std.specs.Option.{option_map}
use Rattle.sf_base.specs.Names.{IsName}
use Rattle.generators.specs.declared.level.Level.{Level}
use Rattle.bank_parts.specs.declared.parts.ZoneOwner.{ZoneOwner}
use Rattle.bank_validity.specs.declared.limits.Limit.{Limit}
use Rattle.bank_parts.specs.declared.counting.Records.{Records}
use Rattle.bank_validity.specs.declared.totals.Totals.{Totals}
use Rattle.bank_parts.specs.declared.parts.Parts.{Parts}
use Rattle.bank_parts.specs.Valid.{IsOwner}
use Rattle.bank_parts.specs.Counts.{records_of_owner, all_counted}
use Rattle.bank_validity.specs.Limits.{totals_of, broken, broken_limit, with_owner}
use Rattle.bank_parts.proofs.ContentLaws.{owner_from_tests, tests_from_owner}
use Rattle.edit_forms.specs.declared.step.Step.{Step}
use Rattle.edit_forms.specs.declared.cause.Cause.{Cause}
use Rattle.edit_forms.specs.declared.cause.Cause.TheVariants.{Full}
use Rattle.edit_forms.specs.Causes.{Test, no_such_target, bad_insert_index, bad_generator, bad_range}
use Rattle.edit_forms.specs.Steps.{raw, causes, refusal}
use Rattle.edit_refusals.specs.Answers.{IsRefuseResult}
use Rattle.edit_refusals.proofs.Accepted.{NoneApplies, by_limit, up_to, not_above}

module _ {H : Type 0} (name_of : H → List ℕ) (at : Level) (targets count i : ℕ) (x : ZoneOwner H) where
  pub record AddOwnerAllowed : Type 0 where
    pub place : i ≤ count
    pub is : IsOwner name_of at targets x

  module _ (cause : Cause) where
    abbrev tests_of : List Test
    tests_of = no_such_target targets x cause ∷ bad_insert_index count i ∷ bad_generator at x ∷ bad_range x ∷ []

    pub add_owner_allowed : IsName (name_of x.head) → NoneApplies tests_of → AddOwnerAllowed
    add_owner_allowed named (target, (place, (generator, (range, end)))) = record {
      place = up_to count i place;
      is =
          owner_from_tests name_of at targets x named
          (record { targets = target; operators = generator; ranges = range });
    }

    pub tests_add : AddOwnerAllowed → NoneApplies tests_of
    tests_add g =
        let t = tests_from_owner name_of at targets x g.is in
        (t.targets, (not_above count i g.place, (t.operators, (t.ranges, tt))))

-- if no test applies, the result is the limit broken by the added records
pub by_records : {H : Type 0} (b : Parts) (s : Step) (at : Level) (x : ZoneOwner H) (t : Totals) (more : Records)
    (found : Option Limit) (r : Result (Unit {0}) Cause)
    → NoneApplies (causes b s) → broken_limit (raw b s) ≡ broken (with_owner at (totals_of b) (records_of_owner x))
    → t ≡ totals_of b → more ≡ all_counted (records_of_owner x)
    → ((n : Records) → more ≡ all_counted n → found ≡ broken (with_owner at t n)) → IsRefuseResult (option_map Full found) r
    → IsRefuseResult (refusal b s) r
by_records b s at x t more found r tests limit same counted sums h =
    by_limit b s found r tests
    (limit
    ∙ sym
    (sums (records_of_owner x) counted
    ∙ ap (λ (u : Totals). broken (with_owner at u (records_of_owner x))) same))
    h
