-- The lines that list a bank without points: the samples that they add, and the lines with points.
use Rattle.std.proofs.Common.{◌≡◌, ◌++◌, ℕ, suc, List, [], ◌∷◌, map, Option, None, refl, sym, ap, subst, ◌∙◌}
use Rattle.std.specs.List.{AllByRecursion, AllZip, cons_option}
use Rattle.bank_format.proofs.AllLaws.{all-append}
use Rattle.bank_parts.specs.declared.texts.InfoId.{InfoId}
use Rattle.bank_parts.specs.declared.texts.InfoId.TheVariants as id
use Rattle.bank_parts.specs.declared.texts.Texts.{Texts}
use Rattle.bank_parts.specs.declared.parts.Kind.{Kind}
use Rattle.bank_parts.specs.declared.parts.Kind.TheVariants.{Mono, Right, Left, Linked}
use Rattle.bank_parts.specs.declared.parts.Sample.{Sample}
use Rattle.bank_changes.specs.Points.{with_kind}
use Rattle.edit_forms.specs.declared.edit.Edit.{Edit}
use Rattle.edit_forms.specs.declared.edit.Edit.TheVariants.{One}
use Rattle.edit_forms.specs.declared.samples.SampleStep.TheVariants.{AddSample}
use Rattle.edit_forms.specs.declared.step.Step.TheVariants as steps
use Rattle.edit_script.specs.declared.parsing.Line.{Line}
use Rattle.edit_script.specs.Printing.{numbered}
use Rattle.script_of_bank.specs.declared.samples.SamplePoints.TheVariants.{LeftOut}
use Rattle.script_of_bank.specs.BankEdits.{in_turn, text_edits, texts_edits, kind_edits, sample_edits}
use Rattle.script_of_bank.specs.BankScript.{selected_sample}
use Rattle.bank_folders.specs.declared.bare.BareSample.{BareSample}
use Rattle.bank_folders.specs.SampleFiles.{sample_file}
use Rattle.bank_folders.specs.Folders.{bare_of, bare_in, bare_samples, filled}
use Rattle.bank_folders.specs.Laws.{files_from, file_of_bare, GetsPoints}

-- ---- edits that add no sample without points

abbrev AddsNone : Edit → Type 0
AddsNone e = (line : ℕ) → bare_of line e ≡ None

abbrev pub AddNone : List Edit → Type 0
AddNone es = AllByRecursion AddsNone es

pub both_none : (es fs : List Edit) → AddNone es → AddNone fs → AddNone (es ++ fs)
both_none es fs h k = all-append AddsNone es fs h k

text_none : (i : InfoId) (text : List ℕ) → AddNone (text_edits i text)
text_none i [] = tt
text_none i (b ∷ text) = (λ line. refl, tt)

pub texts_none : (t : Texts) → AddNone (texts_edits t)
texts_none t =
    both_none (text_edits id.Engine t.engine) _ (text_none id.Engine t.engine)
    (both_none (text_edits id.Name t.name) _ (text_none id.Name t.name)
    (both_none (text_edits id.Date t.date) _ (text_none id.Date t.date)
    (both_none (text_edits id.Engineers t.engineers) _ (text_none id.Engineers t.engineers)
    (both_none (text_edits id.Product t.product) _ (text_none id.Product t.product)
    (both_none (text_edits id.Copyright t.copyright) _ (text_none id.Copyright t.copyright)
    (both_none (text_edits id.Comment t.comment) _ (text_none id.Comment t.comment)
    (text_none id.Software t.software)))))))

pub kind_none : (i : ℕ) (kind : Kind) → AddNone (kind_edits i kind)
kind_none i Mono = tt
kind_none i (Right link) = (λ line. refl, tt)
kind_none i (Left link) = (λ line. refl, tt)
kind_none i (Linked link) = (λ line. refl, tt)

pub turns_none : {X : Type 0} (edits : ℕ → X → List Edit) → ((i : ℕ) (x : X) → AddNone (edits i x))
    → (i : ℕ) (xs : List X) → AddNone (in_turn edits i xs)
turns_none edits each i [] = tt
turns_none edits each i (x ∷ xs) =
    both_none (edits i x) (in_turn edits (suc i) xs) (each i x) (turns_none edits each (suc i) xs)

-- ---- their lines

no_samples : (n : ℕ) (es : List Edit) → AddNone es → bare_samples (numbered n es) ≡ []
no_samples n [] h = refl
no_samples n (e ∷ es) h =
    ap (λ (o : Option BareSample). cons_option o (bare_samples (numbered (suc n) es))) (h.0 n)
    ∙ no_samples (suc n) es h.1

-- what holds for the samples of the lines that follow
pub samples_after : (P : List BareSample → Type 0) (n : ℕ) (es fs : List Edit) → AddNone es
    → ((m : ℕ) → P (bare_samples (numbered m fs))) → P (bare_samples (numbered n (es ++ fs)))
samples_after P n [] fs h holds = holds n
samples_after P n (e ∷ es) fs h holds =
    subst (λ (o : Option BareSample). P (cons_option o (bare_samples (numbered (suc n) (es ++ fs))))) (sym (h.0 n))
    (samples_after P (suc n) es fs h.1 holds)

other_stays : (l : Line) (lines : List Line) (points : List (List ℕ)) → bare_in l ≡ None
    → filled (l ∷ lines) points ≡ l ∷ filled lines points
unfolding filled
other_stays l lines points e = rw e refl

lines_stay : (n : ℕ) (es : List Edit) (points : List (List ℕ)) → AddNone es
    → filled (numbered n es) points ≡ numbered n es
unfolding filled
lines_stay n [] points h = refl
lines_stay n (e ∷ es) points h =
    let l : Line = record { number = n; edit = e } in
    other_stays l (numbered (suc n) es) points (h.0 n)
    ∙ ap (λ (ls : List Line). l ∷ ls) (lines_stay (suc n) es points h.1)

pub filled_after : (n : ℕ) (es fs gs : List Edit) (points : List (List ℕ)) → AddNone es
    → ((m : ℕ) → filled (numbered m fs) points ≡ numbered m gs)
    → filled (numbered n (es ++ fs)) points ≡ numbered n (es ++ gs)
filled_after n [] fs gs points h rest = rest n
filled_after n (e ∷ es) fs gs points h rest =
    let l : Line = record { number = n; edit = e } in
    other_stays l (numbered (suc n) (es ++ fs)) points (h.0 n)
    ∙ ap (λ (ls : List Line). l ∷ ls) (filled_after (suc n) es fs gs points h.1 rest)

-- ---- the lines that add the samples, before such edits

abbrev bare_edits : ℕ → List Sample → List Edit
bare_edits i ss = in_turn sample_edits i (map (selected_sample LeftOut) ss)

pub files_listed : (n i : ℕ) (ss : List Sample) (fs : List Edit) → AddNone fs
    → map file_of_bare (bare_samples (numbered n (bare_edits i ss ++ fs))) ≡ files_from i ss
files_listed n i [] fs h = ap (map file_of_bare) (no_samples n fs h)
files_listed n i (s ∷ ss) fs h =
    ap (λ (files : List (List ℕ)). sample_file i s.name ∷ files) (files_listed (suc n) (suc i) ss fs h)

-- the sample that a line adds without points
abbrev pub bare_sample : ℕ → ℕ → Sample → BareSample
bare_sample line i s = record { line = line; number = i; name = s.name; rate = s.rate; looped = s.looped }

pub points_listed : (n i : ℕ) (ss : List Sample) (fs : List Edit) → AddNone fs
    → AllByRecursion (λ (s : Sample). (line i : ℕ) → GetsPoints (bare_sample line i s) s) ss
    → AllZip GetsPoints (bare_samples (numbered n (bare_edits i ss ++ fs))) ss
points_listed n i [] fs h each =
    subst (λ (bare : List BareSample). AllZip GetsPoints bare []) (sym (no_samples n fs h)) tt
points_listed n i (s ∷ ss) fs h each = (each.0 n i, points_listed (suc n) (suc i) ss fs h each.1)

pub samples_filled : (n i : ℕ) (ss : List Sample) (fs : List Edit) → AddNone fs
    → filled (numbered n (bare_edits i ss ++ fs)) (map (λ (s : Sample). s.points) ss)
    ≡ numbered n (in_turn sample_edits i ss ++ fs)
unfolding filled
samples_filled n i [] fs h = lines_stay n fs [] h
samples_filled n i (s ∷ ss) fs h =
    ap (λ (ls : List Line). record { number = n; edit = One (steps.Sample (AddSample i (with_kind Mono s))) } ∷ ls)
    (samples_filled (suc n) (suc i) ss fs h)
