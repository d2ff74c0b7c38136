-- The loops over lines.
use Rattle.std.proofs.Common.{◌≡◌, ◌<◌, ◌+◌, ◌++◌, ℕ, Bool, true, false, List, [], ◌∷◌, length, get_or, take, drop}
use Rattle.std.proofs.Common.{refl, Option, Some, None, sym, ap, ◌∙◌, arith}
use Rattle.std.specs.Prelude.{if◌then◌else◌}
use Rattle.std.specs.Option.{option_to_list}
use Rattle.std.specs.List.{cons_option}
use Rattle.std.proofs.lemmas.Grind.{take_at_read}
use Rattle.std.proofs.lemmas.List.{append_assoc, append-nil}
use Rattle.std.proofs.lemmas.List.Elements.{filter_map-append}
use Rattle.edit_script.specs.declared.parsing.Line.{Line}
use Rattle.bank_folders.specs.declared.bare.BareSample.{BareSample}
use Rattle.bank_folders.specs.Folders.{bare_in, bare_samples, is_bare, with_first, filled}

-- ---- samples without points

as_list : {X : Type 0} (o : Option X) → option_to_list o ≡ cons_option o []
as_list None = refl
as_list (Some x) = refl

-- the samples of one more line
pub bare_on : (lines : List Line) (i : ℕ) (l : Line) (old new : List BareSample) → i < length lines
    → l ≡ get_or lines i l → old ≡ bare_samples (take i lines) → new ≡ old ++ option_to_list (bare_in l)
    → new ≡ bare_samples (take (i + 1) lines)
bare_on lines i l old new h e was is =
    let more : take (i + 1) lines ≡ take i lines ++ l ∷ [] =
    (take_at_read lines i l h).1 ∙ ap (λ (x : Line). take i lines ++ x ∷ []) (sym e) in
    is
    ∙ (λ i. was i ++ as_list (bare_in l) i)
    ∙ sym (filter_map-append bare_in (take i lines) (l ∷ []))
    ∙ ap bare_samples (sym more)

-- ---- lines with points

-- the first line, and then the others
choose : (b : Bool) (x y : Line) (f : List (List ℕ) → List Line) (p q : List (List ℕ))
    → (if b then x ∷ f p else y ∷ f q) ≡ (if b then x else y) ∷ f (if b then p else q)
choose true x y f p q = refl
choose false x y f p q = refl

-- one more line, with the points that remain after it
pub filled_on : (line done : Line) (old new rest others all : List Line) (points later : List (List ℕ))
    → rest ≡ line ∷ others → done ≡ (if is_bare line then with_first line points else line)
    → later ≡ (if is_bare line then drop 1 points else points) → new ≡ old ++ done ∷ []
    → old ++ filled rest points ≡ all → new ++ filled others later ≡ all
unfolding filled
filled_on line done old new rest others all points later here is remain push was =
    (λ i. push i ++ filled others later)
    ∙ append_assoc old (done ∷ []) (filled others later)
    ∙ (λ i. old ++ (is i ∷ filled others (remain i)))
    ∙ ap (λ (ls : List Line). old ++ ls)
    (sym (choose (is_bare line) (with_first line points) line (filled others) (drop 1 points) points))
    ∙ ap (λ (ls : List Line). old ++ filled ls points) (sym here)
    ∙ was

-- no more lines
pub filled_end : (full rest all : List Line) (points : List (List ℕ)) → length rest ≡ 0
    → full ++ filled rest points ≡ all → full ≡ all
unfolding filled
filled_end full [] all points none was = sym (append-nil full) ∙ was
filled_end full (l ∷ rest) all points none was = absurd (omega (arith, none))
