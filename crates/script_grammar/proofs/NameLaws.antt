-- A value that a word names has that word.
use Rattle.std.proofs.Common.{◌≡◌, ◌≤◌, ◌<◌, ◌+◌, ℕ, suc, length, get_or, drop, drop-cons, arith, Bool, true, false}
use Rattle.std.proofs.Common.{cond, List, [], ◌∷◌, Option, Some, None, refl, sym, ap, ◌∙◌}
use Rattle.std.specs.Str.{bytes_eq}
use Rattle.std.proofs.lemmas.List.{drop_all}
use Rattle.std.proofs.lemmas.Slice.Eq.{bytes_eq-Decides}
use Rattle.bank_parts.specs.declared.texts.InfoId.{InfoId}
use Rattle.bank_parts.specs.declared.texts.InfoId.TheVariants.{Engine, Name, Date, Engineers, Product, Copyright}
use Rattle.bank_parts.specs.declared.texts.InfoId.TheVariants.{Comment, Software}
use Rattle.bank_zone_ranges.specs.declared.axes.Axis.{Axis}
use Rattle.bank_zone_ranges.specs.declared.axes.Axis.TheVariants as axis
use Rattle.bank_zone_ranges.specs.declared.axes.Keep.{Keep}
use Rattle.bank_zone_ranges.specs.declared.axes.Keep.TheVariants as keep
use Rattle.script_grammar.specs.Names.{named}
use Rattle.script_grammar.specs.Texts.{id_word, ids}
use Rattle.script_grammar.specs.Ranges.{axis_word, axes, keep_word, keeps}

pub named_is : {X : Type 0} (word_of : X → List ℕ) (xs : List X) (w : List ℕ) (x : X) → named word_of xs w ≡ Some x
    → w ≡ word_of x
named_is word_of [] w x e = cc
named_is {X} word_of (y ∷ ys) w x e = from (λ h. named_is word_of ys w x h) (bytes_eq w (word_of y)) refl e
  where
    from : (named word_of ys w ≡ Some x → w ≡ word_of x) → (b : Bool) → bytes_eq w (word_of y) ≡ b
        → cond {A = Option X} b (Some y) (named word_of ys w) ≡ Some x → w ≡ word_of x
    from on true k h = let same : y ≡ x = cc in (bytes_eq-Decides w (word_of y)).0 k ∙ ap word_of same
    from on false k h = on h

-- ---- in a loop over all of them

named_on : {X : Type 0} (word_of : X → List ℕ) (xs : List X) (x : X) (i : ℕ) (w : List ℕ) → i < length xs
    → x ≡ get_or xs i x
    → named word_of (drop i xs) w ≡ cond (bytes_eq w (word_of x)) (Some x) (named word_of (drop (i + 1) xs) w)
named_on {X} word_of xs x i w h e =
    ap (λ (ys : List X). named word_of ys w) (drop-cons xs i x h ∙ ap (λ (y : X). y ∷ drop (suc i) xs) (sym e))
    ∙ (let n : i + 1 ≡ suc i = omega arith in rw n refl)

pub named_here : {X : Type 0} (word_of : X → List ℕ) (xs : List X) (x : X) (i : ℕ) (w text : List ℕ)
    (whole : Option X)
    → named word_of (drop i xs) w ≡ whole → i < length xs → x ≡ get_or xs i x → text ≡ word_of x
    → bytes_eq w text ≡ true → whole ≡ Some x
named_here word_of xs x i w text whole s h e t k =
    let on = named_on word_of xs x i w h e in
    let same : bytes_eq w (word_of x) ≡ true = rw (sym t) k in sym s ∙ on ∙ rw same refl

pub named_later : {X : Type 0} (word_of : X → List ℕ) (xs : List X) (x : X) (i : ℕ) (w text : List ℕ)
    (whole : Option X)
    → named word_of (drop i xs) w ≡ whole → i < length xs → x ≡ get_or xs i x → text ≡ word_of x
    → bytes_eq w text ≡ false
    → named word_of (drop (i + 1) xs) w ≡ whole
named_later word_of xs x i w text whole s h e t k =
    let on = named_on word_of xs x i w h e in
    let same : bytes_eq w (word_of x) ≡ false = rw (sym t) k in (let m = rw same at on in sym m ∙ s)

pub named_nowhere : {X : Type 0} (word_of : X → List ℕ) (xs : List X) (i : ℕ) (w : List ℕ) (whole : Option X)
    → named word_of (drop i xs) w ≡ whole → length xs ≤ i → whole ≡ None
named_nowhere {X} word_of xs i w whole s h = sym s ∙ ap (λ (ys : List X). named word_of ys w) (drop_all i xs h)

-- ---- each of the values

pub id_named : (id : InfoId) → named id_word ids (id_word id) ≡ Some id
id_named Engine = refl
id_named Name = refl
id_named Date = refl
id_named Engineers = refl
id_named Product = refl
id_named Copyright = refl
id_named Comment = refl
id_named Software = refl

pub axis_named : (a : Axis) → named axis_word axes (axis_word a) ≡ Some a
axis_named axis.Key = refl
axis_named axis.Vel = refl

pub keep_named : (k : Keep) → named keep_word keeps (keep_word k) ≡ Some k
keep_named keep.Keep = refl
keep_named keep.Bare = refl
