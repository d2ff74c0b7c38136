-- Laws of checks of outputs.
use Rattle.std.proofs.Common.{◌≡◌, ◌<◌, ℕ, List, map, length, get_or, Option, Some, None, Err, Bool, true, false}
use Rattle.std.proofs.Common.{refl, sym, ap, ◌∙◌, arith}
use Rattle.std.proofs.lemmas.List.{length-map, get_or-map}
use Rattle.std.proofs.lemmas.List.Folds.{list_any_at}
use Rattle.base_outputs.specs.declared.output_fault.OutputFault.TheVariants.{SameFile}
use Rattle.sf_base.specs.declared.memory.Failure.TheVariants.{Fault}
use Rattle.file_host.specs.World.{World}
use Rattle.file_host.specs.Checks.{IsApart, IsOneFile, is_one_file, is_one_of}

-- the output is one file with none of these, as far as is known
abbrev pub IsNoneOf : Option World → List ℕ → List (List ℕ) → Type 0
IsNoneOf None output others = Unit {0}
IsNoneOf (Some world) output others = is_one_of world output others ≡ false

-- the output is one file with one of these
pub one_is_rejected : (U : Type 0) {X : Type 0} (world : Option World) (output : List ℕ) (name : X → List ℕ)
    (others : List X) (i : ℕ) (other : X) (found : Bool) → i < length others
    → IsOneFile world output (name (get_or others i other)) found → found ≡ true
    → IsApart {U = U} world output (map name others) (Err (Fault SameFile))
one_is_rejected U None output name others i other found lt one e = tt
one_is_rejected U (Some w) output name others i other found lt one e =
    let here : get_or (map name others) i (name other) ≡ name (get_or others i other) =
    get_or-map name others i other (name other) lt in
    let within : i < length (map name others) = omega (arith, length-map others name) in (
      list_any_at (is_one_file w output) (map name others) i (name other) within
          (ap (is_one_file w output) here ∙ sym one ∙ e),
      refl,
    )
