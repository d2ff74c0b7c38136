-- Setting, inserting or removing a generator or a modulator of a place, as a change of the bag of the place.
use Rattle.std.proofs.Common.{◌≡◌, ◌≢◌, ℕ, ◌<◌, ◌≤◌, ◌^◌, List, [], ◌∷◌, ◌++◌, length, insert, remove, set, get_or}
use Rattle.std.proofs.Common.{Option, Some, None, refl, sym, ◌∙◌, ap, arith}
use Rattle.std.specs.FinMap as map
use Rattle.std.specs.FinMap.{entries}
use Rattle.std.specs.Option.{IfSome, IsSome}
use Rattle.std.proofs.Math.ListN.{length-set}
use Rattle.base_numbered_lists.specs.Moved.{changed}
use Rattle.generators.specs.Indexes.{IsAt, IsInsertionIndex}
use Rattle.modulators.specs.declared.modulator.Modulator.{Modulator}
use Rattle.flat_records.specs.Runs.{put, cut}
use Rattle.flat_records.specs.Bags.{Bag, with_gens, with_mods}
use Rattle.flat_records.specs.Owned.{bag_at, bag_changed}
use Rattle.bank_parts.specs.declared.parts.ZoneOwner.{ZoneOwner}
use Rattle.bank_parts.specs.declared.owners.ZonePlace.{ZonePlace}
use Rattle.bank_parts.specs.Owners.{entries_at, mods_at, amount_at}
use Rattle.bank_parts.specs.Settings as settings
use Rattle.bank_parts.specs.ZoneChanges.{gen_set, gen_cleared, mod_added, mod_removed, mod_set}
use Rattle.bank_parts.specs.Changes.{gen_record_removed, mod_record_removed}
use Rattle.bank_parts.specs.Flat.{RepresentOwners}
use Rattle.bank_parts.proofs.ListLaws.{set-left, put-left, cut-left, put-one, cut-one, length-insert, length-cut}
use Rattle.bank_parts.proofs.BagSettings.{PlaceAt}
use Rattle.bank_parts.proofs.PlaceChanges.{BagPlace, BarePlace, entries_are, place_at, place_gap, amount_is, of_mods}
use Rattle.bank_parts.proofs.PlaceChanges.{no_entries, gens_size, place_kept}
use Rattle.bank_parts.proofs.PlaceChanges.{place_opened, place_sent, place_record_removed}
use Rattle.bank_parts.proofs.GenLaws.{found_amount, no_amount, entries-set, entries-removed, nothing_removed}
use Rattle.bank_parts.proofs.GenLaws.{entries-inserted, empty_gap, plain-insert, plain-remove}

-- ---- the old amount

module _ {H : Type 0} {op : ℕ} {bags : List (List Bag)} {owners : List (ZoneOwner H)} {i : ℕ} {at : ZonePlace}
    (p : PlaceAt op bags owners i at) where
  pub no_target : amount_at owners i at op ≡ None
  no_target = amount_is p op ∙ p.plain.unset

  module _ {es : List (ℕ × ℕ)} {o j : ℕ} (e : entries_at owners i at ≡ Some es) where
    pub was_found : IsAt es o j → Some (get_or {A = ℕ × ℕ} es j (0, 0)).1 ≡ amount_at owners i at o
    was_found is_at =
        ap (λ es. Some (get_or {A = ℕ × ℕ} es j (0, 0)).1) (sym (entries_are p e))
        ∙ sym (amount_is p o ∙ found_amount p.settings.gens p.plain.fit o j (place_at p e is_at) (0, 0))

    pub was_missing : IsInsertionIndex es o j → None ≡ amount_at owners i at o
    was_missing gap = sym (amount_is p o ∙ no_amount p.settings.gens p.plain.fit o j (place_gap p e gap))

    -- clearing an operator that is not set changes nothing
    pub none_cleared : IsInsertionIndex es o j → owners ≡ gen_cleared owners i at o
    none_cleared gap =
        place_kept p (λ s. settings.with_gens (map.remove s.gens o) s)
        (ap (λ gens. settings.with_gens gens p.settings)
        (nothing_removed p.settings.gens p.plain.fit o j (place_gap p e gap)))

-- no value is set in none
pub none_is_set : {X : Type 0} (r : Option X) (Q : Type 0) → None ≡ r → IsSome r → Q
none_is_set None Q e h = cc
none_is_set (Some x) Q e h = cc

-- ---- a place without a bag

module _ {H : Type 0} {op : ℕ} {heads : List H} {bags : List (List Bag)} {owners : List (ZoneOwner H)} {i : ℕ}
    {at : ZonePlace} (b : BarePlace op heads bags owners i at) where
  pub was_none : (o : ℕ) → None ≡ amount_at owners i at o
  was_none o = was_missing b.place (no_entries b) (empty_gap [] o refl)

  pub bare_cleared : (o : ℕ) → owners ≡ gen_cleared owners i at o
  bare_cleared o = none_cleared b.place (no_entries b) (empty_gap [] o refl)

  pub first_gen : (o w : ℕ) (bs : List (List Bag)) → op ≢ o → o < 2 ^ 16 → w < 2 ^ 16
      → bs ≡ changed bags i (λ own. insert own 0 (record { gens = (o, w) ∷ []; mods = [] }))
      → RepresentOwners op heads bs (gen_set owners i at o w)
  first_gen o w bs other fit_o fit_w e =
      let p = b.place in
      let m = p.settings.gens in
      let gap = empty_gap (entries m) o b.none.gens in
      place_opened b.held p (λ s. settings.with_gens (map.insert s.gens o w) s)
      (plain-insert op m o w other fit_o fit_w p.plain) bs b.none ((o, w) ∷ []) []
      (entries-inserted m p.plain.fit o 0 gap w fit_o fit_w ∙ ap (λ es. insert es 0 (o, w)) b.none.gens) b.none.mods
      (omega arith) e

  pub first_mod : (j : ℕ) (w : Modulator) (bs : List (List Bag))
      → IfSome (mods_at owners i at) (λ (mods : List Modulator). j ≤ length mods)
      → bs ≡ changed bags i (λ own. insert own 0 (record { gens = []; mods = w ∷ [] }))
      → RepresentOwners op heads bs (mod_added owners i at j w)
  first_mod j w bs h e =
      let within = of_mods b.place (λ (mods : List Modulator). j ≤ length mods) h in
      let none = ap length b.none.mods in
      let at_first : j ≡ 0 = omega arith in
      place_opened b.held b.place (λ s. settings.with_mods (insert s.mods j w) s) b.place.plain bs b.none [] (w ∷ [])
      b.none.gens
      ((λ t. insert (b.none.mods t) (at_first t) w)) (omega arith) e

-- ---- a place with a bag

module _ {H : Type 0} {op : ℕ} {heads : List H} {bags : List (List Bag)} {owners : List (ZoneOwner H)} {i : ℕ}
    {at : ZonePlace} {n : ℕ} (b : BagPlace op heads bags owners i at n) where
  module _ {es : List (ℕ × ℕ)} {o j : ℕ} (there : entries_at owners i at ≡ Some es) where
    pub gen_is_set : (w : ℕ) (bs : List (List Bag)) → op ≢ o → o < 2 ^ 16 → w < 2 ^ 16 → IsAt es o j
        → bs ≡ bag_changed bags i n (λ (b : Bag). with_gens (set b.gens j (o, w)) b)
        → RepresentOwners op heads bs (gen_set owners i at o w)
    gen_is_set w bs other fit_o fit_w found e =
        let p = b.place in
        let own = b.own in
        let m = p.settings.gens in
        let is_at = place_at p there found in
        let size = length-set own.bag.gens j (o, w) in
        let some = gens_size b in
        place_sent b.held p (λ s. settings.with_gens (map.insert s.gens o w) s)
        (plain-insert op m o w other fit_o fit_w p.plain) bs own (λ (b : Bag). with_gens (set b.gens j (o, w)) b)
        ((λ t. record { gens = set (own.gens t) j (o, w); mods = own.mods t })
        ∙ ap (λ gens. record { gens = gens; mods = p.settings.mods })
        (set-left (entries m) own.last j (o, w) is_at.within
        ∙ ap (λ es. es ++ own.last) (sym (entries-set m p.plain.fit o j is_at w fit_o fit_w))))
        (omega arith) e

    -- the bags do not change when memory is reserved
    pub gen_is_put : (w : ℕ) (bs : List (List Bag)) {room : List (List Bag)} → op ≢ o → o < 2 ^ 16 → w < 2 ^ 16
        → IsInsertionIndex es o j → room ≡ bags
        → bs ≡ bag_changed room i n (λ (b : Bag). with_gens (put b.gens j ((o, w) ∷ [])) b)
        → RepresentOwners op heads bs (gen_set owners i at o w)
    gen_is_put w bs other fit_o fit_w missing kept e =
        let p = b.place in
        let own = b.own in
        let m = p.settings.gens in
        let gap = place_gap p there missing in
        let some = gens_size b in
        let size = ap length (put-one own.bag.gens j (o, w)) ∙ length-insert own.bag.gens j (o, w) (omega arith) in
        place_sent b.held p (λ s. settings.with_gens (map.insert s.gens o w) s)
        (plain-insert op m o w other fit_o fit_w p.plain) bs own
        (λ (b : Bag). with_gens (put b.gens j ((o, w) ∷ [])) b)
        ((λ t. record { gens = put (own.gens t) j ((o, w) ∷ []); mods = own.mods t })
        ∙ ap (λ gens. record { gens = gens; mods = p.settings.mods })
        (put-left (entries m) own.last j (o, w) gap.within
        ∙ ap (λ es. es ++ own.last) (sym (entries-inserted m p.plain.fit o j gap w fit_o fit_w))))
        (omega arith)
        (e ∙ ap (λ bags. bag_changed bags i n (λ (b : Bag). with_gens (put b.gens j ((o, w) ∷ [])) b)) kept)

    pub gen_is_removed : (bs : List (List Bag)) → IsAt es o j
        → IfSome (bag_at bags i n) (λ (b : Bag). bs ≡ gen_record_removed bags i n j b)
        → RepresentOwners op heads bs (gen_cleared owners i at o)
    gen_is_removed bs found h =
        let p = b.place in
        let own = b.own in
        let m = p.settings.gens in
        let is_at = place_at p there found in
        let some = gens_size b in
        let size = ap length (cut-one own.bag.gens j (omega arith)) in
        let fewer = length-cut own.bag.gens j (omega arith) in
        place_record_removed b.held p (λ s. settings.with_gens (map.remove s.gens o) s) (plain-remove op m o p.plain) bs own
        (λ (b : Bag). with_gens (cut b.gens j 1) b)
        ((λ t. record { gens = cut (own.gens t) j 1; mods = own.mods t })
        ∙ ap (λ gens. record { gens = gens; mods = p.settings.mods })
        (cut-left (entries m) own.last j is_at.within
        ∙ ap (λ es. es ++ own.last) (sym (entries-removed m p.plain.fit o j is_at))))
        (omega arith) (omega arith) h

  module _ (j : ℕ) where
    pub mod_is_put : (w : Modulator) (bs : List (List Bag)) {room : List (List Bag)}
        → IfSome (mods_at owners i at) (λ (mods : List Modulator). j ≤ length mods) → room ≡ bags
        → bs ≡ bag_changed room i n (λ (b : Bag). with_mods (put b.mods j (w ∷ [])) b)
        → RepresentOwners op heads bs (mod_added owners i at j w)
    mod_is_put w bs h kept e =
        let own = b.own in
        let within = of_mods b.place (λ (mods : List Modulator). j ≤ length mods) h in
        let same = ap length own.mods in
        let size = ap length (put-one own.bag.mods j w) ∙ length-insert own.bag.mods j w (omega arith) in
        place_sent b.held b.place (λ s. settings.with_mods (insert s.mods j w) s) b.place.plain bs own
        (λ (b : Bag). with_mods (put b.mods j (w ∷ [])) b)
        (λ t. record { gens = own.gens t; mods = put (own.mods t) j (w ∷ []) }) (omega arith)
        (e ∙ ap (λ bags. bag_changed bags i n (λ (b : Bag). with_mods (put b.mods j (w ∷ [])) b)) kept)

    pub mod_is_set : (w : Modulator) (bs : List (List Bag))
        → IfSome (mods_at owners i at) (λ (mods : List Modulator). j < length mods)
        → bs ≡ bag_changed bags i n (λ (b : Bag). with_mods (set b.mods j w) b)
        → RepresentOwners op heads bs (mod_set owners i at j w)
    mod_is_set w bs h e =
        let own = b.own in
        let within = of_mods b.place (λ (mods : List Modulator). j < length mods) h in
        let same = ap length own.mods in
        let size = length-set own.bag.mods j w in
        place_sent b.held b.place (λ s. settings.with_mods (set s.mods j w) s) b.place.plain bs own
        (λ (b : Bag). with_mods (set b.mods j w) b)
        (λ t. record { gens = own.gens t; mods = set (own.mods t) j w }) (omega arith) e

    pub mod_is_removed : (bs : List (List Bag))
        → IfSome (mods_at owners i at) (λ (mods : List Modulator). j < length mods)
        → IfSome (bag_at bags i n) (λ (b : Bag). bs ≡ mod_record_removed bags i n j b)
        → RepresentOwners op heads bs (mod_removed owners i at j)
    mod_is_removed bs h removed =
        let own = b.own in
        let within = of_mods b.place (λ (mods : List Modulator). j < length mods) h in
        let same = ap length own.mods in
        let size = ap length (cut-one own.bag.mods j (omega arith)) in
        let fewer = length-cut own.bag.mods j (omega arith) in
        place_record_removed b.held b.place (λ s. settings.with_mods (remove s.mods j) s) b.place.plain bs own
        (λ (b : Bag). with_mods (cut b.mods j 1) b)
        ((λ t. record { gens = own.gens t; mods = cut (own.mods t) j 1 })
        ∙ ap (λ mods. record { gens = entries b.place.settings.gens ++ own.last; mods = mods })
        (cut-one b.place.settings.mods j within))
        (omega arith) (omega arith) removed
