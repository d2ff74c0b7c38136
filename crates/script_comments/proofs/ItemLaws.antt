-- Items that are put one after another: two rows of them, and in a loop.
use Rattle.std.proofs.Common.{◌≡◌, ◌<◌, ◌≤◌, ◌+◌, ℕ, Bool, true, List, [], ◌∷◌, ◌++◌, length, drop, get_or, Option, refl}
use Rattle.std.proofs.Common.{sym, ap, subst, ◌∙◌, append_assoc}
use Rattle.std.specs.Prelude.{if◌then◌else◌}
use Rattle.std.specs.List.{flat_map}
use Rattle.std.proofs.lemmas.List.{append-nil, at_drop_more, drop_all}
use Rattle.base_outputs.specs.declared.output.Output.{Output}
use Rattle.base_outputs.specs.Output.{Puts}
use Rattle.base_outputs.proofs.OutputLaws.{puts_nothing, puts_then, puts_as}
use Rattle.generator_rows.specs.declared.row.GeneratorRow.{GeneratorRow}
use Rattle.script_tokens.specs.declared.printing.Piece.{Piece}
use Rattle.script_tokens.specs.Printing.{spaced}
use Rattle.script_comments.specs.declared.lead.Lead.{Lead}
use Rattle.script_comments.specs.Items.{lead_text, items_text}
use Rattle.script_comments.specs.Names.{numbered_operator}
use Rattle.script_comments.specs.Putting.{lead_after, PutsItems}

-- the text of items after this lead
abbrev pub text_after : Lead → List (List Piece) → List ℕ
text_after lead items = items_text lead.is_begun lead.has_commas items

begun : (commas : Bool) (xs ys : List (List Piece))
    → items_text true commas (xs ++ ys) ≡ items_text true commas xs ++ items_text true commas ys
begun commas [] ys = refl
begun commas (x ∷ xs) ys =
    ap (λ (t : List ℕ). lead_text true commas ++ (flat_map spaced x ++ t)) (begun commas xs ys)
    ∙ ap (λ (t : List ℕ). lead_text true commas ++ t)
    (sym (append_assoc (flat_map spaced x) (items_text true commas xs) (items_text true commas ys)))
    ∙ sym
    (append_assoc (lead_text true commas) (flat_map spaced x ++ items_text true commas xs) (items_text true commas ys))

text_both : (lead : Lead) (xs ys : List (List Piece))
    → text_after lead (xs ++ ys) ≡ text_after lead xs ++ text_after (lead_after lead xs) ys
text_both lead [] ys = refl
text_both lead (x ∷ xs) ys =
    let first = lead_text lead.is_begun lead.has_commas in
    ap (λ (t : List ℕ). first ++ (flat_map spaced x ++ t)) (begun lead.has_commas xs ys)
    ∙ ap (λ (t : List ℕ). first ++ t)
    (sym (append_assoc (flat_map spaced x) (items_text true lead.has_commas xs) (items_text true lead.has_commas ys)))
    ∙ sym
    (append_assoc first (flat_map spaced x ++ items_text true lead.has_commas xs)
    (items_text true lead.has_commas ys))

after_both : (lead : Lead) (xs ys : List (List Piece)) → lead_after lead (xs ++ ys) ≡ lead_after (lead_after lead xs) ys
after_both lead [] ys = refl
after_both lead (x ∷ xs) [] = refl
after_both lead (x ∷ xs) (y ∷ ys) = refl

module _ {W : Type 0} {c : W → Option (List ℕ)} where
  -- No items are put.
  pub no_items : (o : Output W) (lead : Lead) → PutsItems c o o lead lead []
  no_items o lead = record { puts = puts_nothing o; next_lead = refl }

  -- Some items, then others.
  pub items_then : {o p q : Output W} {lead next last : Lead} (xs ys : List (List Piece))
      → PutsItems c o p lead next xs → PutsItems c p q next last ys → PutsItems c o q lead last (xs ++ ys)
  items_then {o} {p} {q} {lead} {next} {last} xs ys h k =
      let after = subst (λ (l : Lead). Puts c p q (text_after l ys)) h.next_lead k.puts in
      record {
        puts =
            puts_as (text_after lead xs ++ text_after (lead_after lead xs) ys) (text_after lead (xs ++ ys))
            (sym (text_both lead xs ys))
            (puts_then (text_after lead xs) (text_after (lead_after lead xs) ys) h.puts after);
        next_lead =
            k.next_lead ∙ ap (λ (l : Lead). lead_after l ys) h.next_lead ∙ sym (after_both lead xs ys);
      }

  -- Items under an equal expression.
  pub items_as : {o p : Output W} {lead next : Lead} (xs ys : List (List Piece)) → xs ≡ ys
      → PutsItems c o p lead next xs → PutsItems c o p lead next ys
  items_as {o} {p} {lead} {next} xs ys e h = subst (λ (zs : List (List Piece)). PutsItems c o p lead next zs) e h

-- ---- in a loop

-- The rest of the items is still to be put.
pub record Listing {W : Type 0} (c : W → Option (List ℕ)) (old now : Output W) (lead next : Lead)
    (whole rest : List (List Piece)) : Type 0 where
  pub done : List (List Piece)
  pub parts : whole ≡ done ++ rest
  pub puts : PutsItems c old now lead next done

module _ {W : Type 0} {c : W → Option (List ℕ)} {o : Output W} {lead : Lead} where
  pub listing_start : (whole : List (List Piece)) → Listing c o o lead lead whole whole
  listing_start whole = record { done = []; parts = refl; puts = no_items o lead }

  pub listing_step : {p q : Output W} {next last : Lead} {whole rest : List (List Piece)} (xs others : List (List Piece))
      → Listing c o p lead next whole rest → rest ≡ xs ++ others → PutsItems c p q next last xs
      → Listing c o q lead last whole others
  listing_step {whole = whole} xs others s e h = record {
    done = s.done ++ xs;
    parts =
        s.parts ∙ ap (λ (ys : List (List Piece)). s.done ++ ys) e ∙ sym (append_assoc s.done xs others);
    puts = items_then s.done xs s.puts h;
  }

  -- After the items of a member, in a loop over the members.
  pub listing_member : {X : Type 0} {p q : Output W} {next last : Lead} {whole : List (List Piece)}
      (f : X → List (List Piece)) (xs : List X) (i : ℕ) (d : X)
      → Listing c o p lead next whole (flat_map f (drop i xs)) → i < length xs
      → PutsItems c p q next last (f (get_or xs i d))
      → Listing c o q lead last whole (flat_map f (drop (i + 1) xs))
  listing_member f xs i d s lt h =
      listing_step (f (get_or xs i d)) (flat_map f (drop (i + 1) xs)) s (at_drop_more (flat_map f) xs i d lt) h

  pub listing_end : {p : Output W} {next : Lead} {whole : List (List Piece)} → Listing c o p lead next whole []
      → PutsItems c o p lead next whole
  listing_end {whole = whole} s = items_as s.done whole (sym (s.parts ∙ append-nil s.done)) s.puts

  -- The same where the member is read.
  pub listing_item : {X : Type 0} {p q : Output W} {next last : Lead} {whole : List (List Piece)}
      (f : X → List (List Piece)) (xs : List X) (z : X) (i : ℕ)
      → Listing c o p lead next whole (flat_map f (drop i xs)) → i < length xs → z ≡ get_or xs i z
      → PutsItems c p q next last (f z)
      → Listing c o q lead last whole (flat_map f (drop (i + 1) xs))
  listing_item {p = p} {q} {next} {last} f xs z i s lt e h =
      listing_member f xs i z s lt (subst (λ y. PutsItems c p q next last (f y)) e h)

  pub listing_over : {X : Type 0} {p : Output W} {next : Lead} {whole : List (List Piece)} (f : X → List (List Piece))
      (xs : List X) (i : ℕ)
      → Listing c o p lead next whole (flat_map f (drop i xs)) → length xs ≤ i → PutsItems c o p lead next whole
  listing_over {p = p} {next} {whole} f xs i s over =
      listing_end (subst (λ (rest : List (List Piece)). Listing c o p lead next whole rest)
      (ap (flat_map f) (drop_all i xs over)) s)

-- the item of a row that passes
abbrev pub listed_row : (ℕ → Bool) → GeneratorRow → List (List Piece)
listed_row has row = if has row.number then numbered_operator row ∷ [] else []
