-- The flat lists of owners with f applied to each bag.
use Rattle.std.proofs.Common.{◌≡◌, ℕ, ◌+◌, List, [], ◌∷◌, ◌++◌, map, refl, sym, ◌∙◌, ap}
use Rattle.std.proofs.lemmas.List.{length-map, map-append}
use Rattle.flat_records.specs.Runs.{starts}
use Rattle.flat_records.specs.Bags.{Bag}
use Rattle.flat_records.specs.Owned.{Flat, past_owner, all_bags}
use Rattle.flat_records.proofs.Owners.{AreOf}

module _ (f : Bag → Bag) where
  starts_stay : (at : ℕ) (owners : List (List Bag))
      → starts past_owner at (map (map f) owners) ≡ starts past_owner at owners
  starts_stay at [] = refl
  starts_stay at (xs ∷ os) =
      ap (λ n. at ∷ starts past_owner (at + n) (map (map f) os)) (length-map xs f)
      ∙ ap (λ ms. at ∷ ms) (starts_stay (past_owner at xs) os)

  bags_follow : (owners : List (List Bag)) → all_bags (map (map f) owners) ≡ map f (all_bags owners)
  bags_follow [] = refl
  bags_follow (xs ∷ os) = ap (λ bs. map f xs ++ bs) (bags_follow os) ∙ sym (map-append f xs (all_bags os))

  pub each_sent : {t : Flat} {owners : List (List Bag)} → AreOf t owners → {new : List Bag} → new ≡ map f t.bags
      → AreOf (record { begins = t.begins; bags = new }) (map (map f) owners)
  each_sent {t} {owners} are n =
      let begins = ap (λ (t : Flat). t.begins) are.same ∙ sym (starts_stay 0 owners) in
      let bags = n ∙ (ap (λ (t : Flat). map f t.bags) are.same ∙ sym (bags_follow owners)) in
      record { same = λ i. record { begins = begins i; bags = bags i } }
