-- Appending bags to flat lists of records.
use Rattle.std.proofs.Common.{◌≡◌, ◌≢◌, ◌==◌, false, ℕ, ◌+◌, ◌-◌, List, [], ◌∷◌, ◌++◌, length, refl, sym, ap, subst}
use Rattle.std.proofs.Common.{◌∙◌, append_assoc, append-nil, ◌⊎◌, inl, inr, arith}
use Rattle.std.specs.FinMap.{entries, len, len-entries}
use Rattle.std.proofs.lemmas.Bool.{ne_eqb}
use Rattle.std.proofs.lemmas.List.{length-append, flat_map_more}
use Rattle.modulators.specs.declared.modulator.Modulator.{Modulator}
use Rattle.bank_parts.specs.declared.parts.GlobalZone.{GlobalZone}
use Rattle.bank_parts.specs.Bagged.{global_bag, global_bags}
use Rattle.sf_reader.specs.declared.records.RecordsSoFar.{RecordsSoFar}
use Rattle.flat_records.specs.Runs.{starts}
use Rattle.flat_records.specs.Bags.{Bag, past_bag, gens_in, mods_in, no_modulator, tables_of}
use Rattle.flat_records.proofs.Starts.{length-starts}
use Rattle.sf_reader.specs.Records.{AreSoFar, Appends, HoldsGens, EndsBag}

no_members : {X : Type 0} (xs : List X) → length xs ≡ 0 → xs ≡ []
no_members [] e = refl
no_members (x ∷ xs) e = absurd (omega (arith, e))

-- ---- appending nothing, and appending twice

pub adds_none : (r : RecordsSoFar) → Appends r r []
adds_none r = λ all a. subst (AreSoFar r) (sym (append-nil all)) a

-- nothing changes
pub adds_same : (a b : RecordsSoFar) → b.bags.items ≡ a.bags.items → b.gens.items ≡ a.gens.items
    → b.mods.items ≡ a.mods.items → Appends a b []
adds_same a b bags gens mods =
    λ all h. adds_none b all (record { bags = bags ∙ h.bags; gens = gens ∙ h.gens; mods = mods ∙ h.mods })

pub adds_both : (a b c : RecordsSoFar) (xs ys : List Bag) → Appends a b xs → Appends b c ys → Appends a c (xs ++ ys)
adds_both a b c xs ys first second =
    λ all h. subst (AreSoFar c) (append_assoc all xs ys) (second (all ++ xs) (first all h))

pub adds_as : (a b : RecordsSoFar) (xs ys : List Bag) → xs ≡ ys → Appends a b xs → Appends a b ys
adds_as a b xs ys same h = subst (Appends a b) same h

-- ---- appending one bag

-- the starts of an appended list end with its total
starts-last : (at : ℕ × ℕ) (xs : List Bag) (b : Bag)
    → starts past_bag at (xs ++ b ∷ [])
    ≡ starts past_bag at xs ++ (at.0 + length (gens_in (xs ++ b ∷ [])), at.1 + length (mods_in (xs ++ b ∷ []))) ∷ []
starts-last at [] b =
    let gens : at.0 + length b.gens ≡ at.0 + length (b.gens ++ []) =
    ap (λ gs. at.0 + length gs) (sym (append-nil b.gens)) in
    let mods : at.1 + length b.mods ≡ at.1 + length (b.mods ++ []) =
    ap (λ ms. at.1 + length ms) (sym (append-nil b.mods)) in
    λ i. at ∷ (gens i, mods i) ∷ []
starts-last at (x ∷ xs) b =
    let gens : (at.0 + length x.gens) + length (gens_in (xs ++ b ∷ []))
    ≡ at.0 + length (x.gens ++ gens_in (xs ++ b ∷ [])) =
    omega (arith, length-append x.gens (gens_in (xs ++ b ∷ []))) in
    let mods : (at.1 + length x.mods) + length (mods_in (xs ++ b ∷ []))
    ≡ at.1 + length (x.mods ++ mods_in (xs ++ b ∷ [])) =
    omega (arith, length-append x.mods (mods_in (xs ++ b ∷ []))) in
    ap (λ is. at ∷ is) (starts-last (past_bag at x) xs b)
    ∙ (λ i. at ∷ (starts past_bag (past_bag at x) xs ++ (gens i, mods i) ∷ []))

module _ (old new : RecordsSoFar) (b : Bag) (gens : new.gens.items ≡ old.gens.items ++ b.gens)
    (mods : new.mods.items ≡ old.mods.items ++ b.mods)
    (bags : new.bags.items ≡ old.bags.items ++ (length new.gens.items, length new.mods.items) ∷ []) where
  adds_bag : Appends old new (b ∷ [])
  adds_bag = λ all h.
      let gens_are : new.gens.items ≡ gens_in (all ++ b ∷ []) =
      gens ∙ ap (λ gs. gs ++ b.gens) h.gens ∙ flat_map_more (λ (x : Bag). x.gens) [] all b in
      let mods_are : new.mods.items ≡ mods_in (all ++ b ∷ []) =
      mods ∙ ap (λ ms. ms ++ b.mods) h.mods ∙ flat_map_more (λ (x : Bag). x.mods) [] all b in
      let last : (length new.gens.items, length new.mods.items)
      ≡ (0 + length (gens_in (all ++ b ∷ [])), 0 + length (mods_in (all ++ b ∷ []))) =
      (let g : length new.gens.items ≡ 0 + length (gens_in (all ++ b ∷ [])) = omega (arith, ap length gens_are) in
      let m : length new.mods.items ≡ 0 + length (mods_in (all ++ b ∷ [])) = omega (arith, ap length mods_are) in
      λ i. (g i, m i)) in
      record {
        bags = bags ∙ (λ i. h.bags i ++ last i ∷ []) ∙ sym (starts-last (0, 0) all b);
        gens = gens_are;
        mods = mods_are;
      }

-- the generators of the bag were appended before
pub adds_held : (before mid new : RecordsSoFar) (gens more : List (ℕ × ℕ)) (mods : List Modulator)
    → HoldsGens before mid gens → EndsBag mid new more mods
    → Appends before new (record { gens = gens ++ more; mods = mods } ∷ [])
adds_held before mid new gens more mods h e =
    adds_bag before new (record { gens = gens ++ more; mods = mods })
    (e.gens_grow ∙ ap (λ gs. gs ++ more) h.gens_grow ∙ append_assoc before.gens.items gens more)
    (e.mods_grow ∙ ap (λ ms. ms ++ mods) h.mods_stay)
    (e.bags_grow ∙ ap (λ is. is ++ (length new.gens.items, length new.mods.items) ∷ []) h.bags_stay)

-- ---- the bag of a global zone, if it is not empty

module _ (before now : RecordsSoFar) (g : GlobalZone) (gens mods : ℕ) (h : HoldsGens before now (entries g.gens))
    (gens_are : gens ≡ length now.gens.items - length before.gens.items)
    (mods_are : mods ≡ length g.mods) where
  held_count : gens ≡ len g.gens
  held_count =
      omega (
        arith,
        gens_are,
        len-entries g.gens,
        ap length h.gens_grow,
        length-append before.gens.items (entries g.gens),
      )

  pub global_none : gens ≡ 0 → mods ≡ 0 → Appends before now (global_bags g)
  global_none zero zero_too =
      let none : len g.gens + length g.mods ≡ 0 = omega (arith, held_count, mods_are, zero, zero_too) in
      let bags : global_bags g ≡ [] = rw none refl in
      let gens : now.gens.items ≡ before.gens.items =
      h.gens_grow
      ∙ ap (λ gs. before.gens.items ++ gs)
      (no_members (entries g.gens) (omega (arith, none, len-entries g.gens)))
      ∙ append-nil before.gens.items in
      adds_as before now [] (global_bags g) (sym bags) (adds_same before now h.bags_stay gens h.mods_stay)

  pub global_some : (new : RecordsSoFar) → ((gens ≡ 0) × (mods ≢ 0)) ⊎ (gens ≢ 0) → EndsBag now new [] g.mods
      → Appends before new (global_bags g)
  global_some new some ends =
      let more : len g.gens + length g.mods ≢ 0 = λ z. elim some as (λ s. ⊥) [
        | inl b ↦ b.1 (omega (arith, mods_are, z))
        | inr n ↦ n (omega (arith, held_count, z))
      ] in
      let there : (len g.gens + length g.mods == 0) ≡ false = ne_eqb _ _ more in
      let bags : global_bags g ≡ global_bag g ∷ [] = rw there refl in
      let same : record { gens = entries g.gens ++ []; mods = g.mods } ≡ global_bag g =
      λ i. record { gens = append-nil (entries g.gens) i; mods = g.mods } in
      adds_as before new (record { gens = entries g.gens ++ []; mods = g.mods } ∷ []) (global_bags g)
      (ap (λ (b : Bag). b ∷ []) same ∙ sym bags)
      (adds_held before now new (entries g.gens) [] g.mods h ends)

-- ---- the terminals

pub terminals : (r : RecordsSoFar) (gens : List (ℕ × ℕ)) (mods : List Modulator) → gens ≡ r.gens.items ++ (0, 0) ∷ []
    → mods ≡ r.mods.items ++ no_modulator ∷ [] → (all : List Bag) → AreSoFar r all
    → record { bags = r.bags.items; gens = gens; mods = mods } ≡ tables_of all
terminals r gens mods g m all h =
    let gens_are = g ∙ ap (λ gs. gs ++ (0, 0) ∷ []) h.gens in
    let mods_are = m ∙ ap (λ (ms : List Modulator). ms ++ no_modulator ∷ []) h.mods in
    λ i. record { bags = h.bags i; gens = gens_are i; mods = mods_are i }

-- the number of bags
pub bags_so_far : (r : RecordsSoFar) (all : List Bag) → AreSoFar r all → length r.bags.items - 1 ≡ length all
bags_so_far r all h = omega (arith, ap length h.bags, length-starts past_bag (0, 0) all)
