-- The edits of a small bank, as a computed example.
use Rattle.std.proofs.Common.{◌≡◌, ℕ, ℤ, List, [], ◌∷◌, None, refl}
use Rattle.std.specs.Prelude.{codes}
use Rattle.bank_parts.specs.declared.texts.InfoId.TheVariants.{Engine, Comment}
use Rattle.bank_parts.specs.declared.parts.Kind.{Kind}
use Rattle.bank_parts.specs.declared.parts.Kind.TheVariants.{Mono, Right, Left}
use Rattle.bank_parts.specs.declared.parts.Sample.{Sample}
use Rattle.bank_parts.specs.declared.parts.Parts.{Parts}
use Rattle.edit_forms.specs.declared.samples.SampleStep.TheVariants.{AddSample}
use Rattle.edit_forms.specs.declared.points.PointStep.TheVariants.{SetKind}
use Rattle.edit_forms.specs.declared.texts.TextStep.TheVariants.{SetInfo}
use Rattle.edit_forms.specs.declared.step.Step.TheVariants as steps
use Rattle.edit_forms.specs.declared.edit.Edit.TheVariants.{One}
use Rattle.bank_edits.specs.Runs.{after_all}
use Rattle.script_of_bank.specs.BankEdits.{empty, edits_of_bank}

abbrev side : ℤ → List ℕ → Kind → Sample
side correction name kind =
    record {
      name =
          name;
      points = 1 ∷ 2 ∷ [];
      looped = None;
      rate = 44100;
      key = 60;
      correction = correction;
      kind = kind;
    }

-- two samples that link to each other, a third, and a comment
abbrev tiny : ℤ → Parts
tiny c = record {
  minor = 1;
  texts =
      record {
        engine =
            codes "X";
        name =
            [];
        date = [];
        engineers = [];
        product = [];
        copyright = [];
        comment = codes "c";
        software = [];
      };
  presets = [];
  instruments = [];
  samples = side c (codes "L") (Left 1) ∷ side c (codes "R") (Right 0) ∷ side c (codes "M") Mono ∷ [];
}

tiny_edits : (c : ℤ) → edits_of_bank (tiny c) ≡
    One (steps.Text (SetInfo Engine (codes "X"))) ∷ One (steps.Text (SetInfo Comment (codes "c")))
    ∷ One (steps.Sample (AddSample 0 (side c (codes "L") Mono)))
    ∷ One (steps.Sample (AddSample 1 (side c (codes "R") Mono)))
    ∷ One (steps.Sample (AddSample 2 (side c (codes "M") Mono)))
    ∷ One (steps.Points 0 (SetKind (Left 1))) ∷ One (steps.Points 1 (SetKind (Right 0))) ∷ []
tiny_edits c = refl

tiny_back : (c : ℤ) → after_all (empty 1) (edits_of_bank (tiny c)) ≡ tiny c
tiny_back c = refl
