-- Texts that are put into an output one after another: two in a row, and in a loop.
use Rattle.std.proofs.Common.{◌≡◌, ◌<◌, ◌+◌, ℕ, List, [], ◌++◌, length, drop, get_or, Option, refl, sym, ap, subst}
use Rattle.std.proofs.Common.{◌∙◌, append_assoc}
use Rattle.std.specs.List.{flat_map}
use Rattle.std.proofs.lemmas.List.{append-nil, at_drop_more}
use Rattle.base_outputs.specs.declared.output.Output.{Output}
use Rattle.base_outputs.specs.Output.{HasPut, Puts}

-- ---- in a row

module _ {W : Type 0} {c : W → Option (List ℕ)} where
  -- The empty text is put.
  pub puts_nothing : (o : Output W) → Puts c o o []
  puts_nothing o = record {
    same_writer = refl;
    grows = λ start before h. subst (λ (t : List ℕ). HasPut c start o t) (sym (append-nil before)) h;
  }

  -- One text, then another.
  pub puts_then : {o p q : Output W} (t u : List ℕ) → Puts c o p t → Puts c p q u → Puts c o q (t ++ u)
  puts_then {o} {p} {q} t u h k = record {
    same_writer = k.same_writer ∙ h.same_writer;
    grows =
        λ start before d.
        subst (λ (x : List ℕ). HasPut c start q x) (append_assoc before t u)
        (k.grows start (before ++ t) (h.grows start before d));
  }

  -- A text under an equal expression.
  pub puts_as : {o p : Output W} (t u : List ℕ) → t ≡ u → Puts c o p t → Puts c o p u
  puts_as {o} {p} t u e h = subst (λ (x : List ℕ). Puts c o p x) e h

  -- Two texts whose concatenation is the whole.
  pub puts_row : {o p q : Output W} (whole t u : List ℕ) → whole ≡ t ++ u → Puts c o p t → Puts c p q u
      → Puts c o q whole
  puts_row whole t u e h k = puts_as (t ++ u) whole (sym e) (puts_then t u h k)

-- ---- in a loop

-- The rest of the whole text is still to be put.
pub record Putting {W : Type 0} (c : W → Option (List ℕ)) (old now : Output W) (whole rest : List ℕ) : Type 0 where
  pub prefix : List ℕ
  pub parts : whole ≡ prefix ++ rest
  pub puts : Puts c old now prefix

module _ {W : Type 0} {c : W → Option (List ℕ)} {o : Output W} where
  -- At the start all of the text remains.
  pub putting_start : (whole : List ℕ) → Putting c o o whole whole
  putting_start whole = record { prefix = []; parts = refl; puts = puts_nothing o }

  pub putting_from : (whole rest : List ℕ) → whole ≡ rest → Putting c o o whole rest
  putting_from whole rest e = subst (λ (t : List ℕ). Putting c o o whole t) e (putting_start whole)

  -- After a piece of the text is put, the rest remains.
  pub putting_step : {p q : Output W} {whole rest : List ℕ} (x others : List ℕ) → Putting c o p whole rest
      → rest ≡ x ++ others → Puts c p q x → Putting c o q whole others
  putting_step {whole = whole} x others s e h = record {
    prefix = s.prefix ++ x;
    parts = s.parts ∙ ap (λ (y : List ℕ). s.prefix ++ y) e ∙ sym (append_assoc s.prefix x others);
    puts = puts_then s.prefix x s.puts h;
  }

  -- After the text of a member is put, in a loop over the members.
  pub putting_member : {X : Type 0} {p q : Output W} {whole : List ℕ} (f : X → List ℕ) (xs : List X) (i : ℕ) (d : X)
      → Putting c o p whole (flat_map f (drop i xs)) → i < length xs → Puts c p q (f (get_or xs i d))
      → Putting c o q whole (flat_map f (drop (i + 1) xs))
  putting_member f xs i d s lt h =
      putting_step (f (get_or xs i d)) (flat_map f (drop (i + 1) xs)) s (at_drop_more (flat_map f) xs i d lt) h

  -- At the end nothing remains.
  pub putting_end : {p : Output W} {whole : List ℕ} → Putting c o p whole [] → Puts c o p whole
  putting_end {whole = whole} s = puts_as s.prefix whole (sym (s.parts ∙ append-nil s.prefix)) s.puts

  -- The last put is all that remains.
  pub putting_last : {p q : Output W} {whole rest : List ℕ} → Putting c o p whole rest → Puts c p q rest
      → Puts c o q whole
  putting_last {whole = whole} {rest} s h =
      puts_as (s.prefix ++ rest) whole (sym s.parts) (puts_then s.prefix rest s.puts h)
