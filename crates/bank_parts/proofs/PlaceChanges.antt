-- The heads and bags of presets or instruments after a change of a place.
use Rattle.std.proofs.Common.{if◌then◌else◌, ◌≡◌, ℕ, ◌<◌, ◌≤◌, ◌+◌, ◌==◌, true, false, suc, List, [], ◌++◌, length}
use Rattle.std.proofs.Common.{insert, remove, slice_get, get_or, Option, Some, None, refl, sym, subst, ◌∙◌, ap}
use Rattle.std.proofs.Common.{length-append, arith}
use Rattle.std.specs.FinMap.{entries, len, get, len-entries}
use Rattle.std.specs.Option.{IfSome, IsSome, IsSomeAnd, option_map, option_and_then}
use Rattle.std.proofs.lemmas.Option.{same_Some, get_or_from_slice_get}
use Rattle.std.proofs.lemmas.Bool.Decides.{nat_tests}
use Rattle.base_numbered_lists.specs.Moved.{changed}
use Rattle.base_numbered_lists.proofs.Lists.{slice_get-found}
use Rattle.generators.specs.Gens.{Gens, FitGens, AreInOrder}
use Rattle.generators.specs.Indexes.{IsAt, IsInsertionIndex}
use Rattle.modulators.specs.declared.modulator.Modulator.{Modulator}
use Rattle.flat_records.specs.Bags.{Bag}
use Rattle.flat_records.specs.Owned.{bag_at, bag_changed}
use Rattle.bank_parts.specs.declared.parts.ZoneOwner.{ZoneOwner}
use Rattle.bank_parts.specs.declared.owners.ZonePlace.{ZonePlace}
use Rattle.bank_parts.specs.Owners.{HasPlace, gens_at, entries_at, mods_at, amount_at, mod_at}
use Rattle.bank_parts.specs.Settings.{Settings, settings_changed, place_changed}
use Rattle.bank_parts.specs.Bagged.{bags_of, bag_number, without_target, IsPlain}
use Rattle.bank_parts.specs.Changes.{bag_size, record_removed}
use Rattle.bank_parts.specs.Flat.{RepresentOwners}
use Rattle.bank_parts.proofs.MemberLaws.{sent}
use Rattle.bank_parts.proofs.PlaceLaws.{of_some, to_some}
use Rattle.bank_parts.proofs.BagSettings.{PlaceAt, BagAt, NoBag, place_there, bag_there, no_bag_there, settings_kept}
use Rattle.bank_parts.proofs.BagSettings.{changed_kept, head_stays, plain_after}
use Rattle.bank_parts.proofs.GenLaws.{in_order}

-- ---- the contents of a place

pub counted : (o : Option Gens) (es : List (ℕ × ℕ)) → option_map entries o ≡ Some es
    → option_map len o ≡ Some (length es)
counted None es e = cc
counted (Some m) es e = let same : entries m ≡ es = cc in ap Some (len-entries m ∙ ap length same)

pub ordered : (o : Option Gens) (es : List (ℕ × ℕ)) → option_map entries o ≡ Some es → AreInOrder es
ordered None es e = cc
ordered (Some m) es e = let same : entries m ≡ es = cc in in_order m es same

-- ---- a place with a bag, and a place without one

pub record BagPlace {H : Type 0} (op : ℕ) (heads : List H) (bags : List (List Bag)) (owners : List (ZoneOwner H))
    (i : ℕ) (at : ZonePlace) (n : ℕ) : Type 0 where
  pub held : RepresentOwners op heads bags owners
  pub place : PlaceAt op bags owners i at
  pub own : BagAt op at place.found.owner place.settings n

pub record BarePlace {H : Type 0} (op : ℕ) (heads : List H) (bags : List (List Bag)) (owners : List (ZoneOwner H))
    (i : ℕ) (at : ZonePlace) : Type 0 where
  pub held : RepresentOwners op heads bags owners
  pub place : PlaceAt op bags owners i at
  pub none : NoBag op at place.found.owner place.settings

module _ {H : Type 0} {op : ℕ} {heads : List H} {bags : List (List Bag)} {owners : List (ZoneOwner H)}
    (a : RepresentOwners op heads bags owners) (i : ℕ) (at : ZonePlace) (h : HasPlace owners i at) where
  pub bag_place : (n : ℕ) → IfSome (slice_get owners i) (λ (x : ZoneOwner H). Some n ≡ bag_number at x)
      → BagPlace op heads bags owners i at n
  bag_place n is =
      let p = place_there a i at h in
      let number = sym (of_some (λ (x : ZoneOwner H). Some n ≡ bag_number at x) p.found.there is) in
      record { held = a; place = p; own = bag_there op at p.found.owner p.settings n p.has p.plain number }

  pub bare_place : IfSome (slice_get owners i) (λ (x : ZoneOwner H). None ≡ bag_number at x)
      → BarePlace op heads bags owners i at
  bare_place is =
      let p = place_there a i at h in
      let number = sym (of_some (λ (x : ZoneOwner H). None ≡ bag_number at x) p.found.there is) in
      record { held = a; place = p; none = no_bag_there op at p.found.owner p.settings p.has number }

module _ {H : Type 0} {op : ℕ} {bags : List (List Bag)} {owners : List (ZoneOwner H)} {i : ℕ} {at : ZonePlace}
    (p : PlaceAt op bags owners i at) where
  pub entries_are : {es : List (ℕ × ℕ)} → entries_at owners i at ≡ Some es → entries p.settings.gens ≡ es
  entries_are {es} e = same_Some (entries p.settings.gens) es (sym (ap (option_map entries) p.gens) ∙ e)

  pub place_at : {es : List (ℕ × ℕ)} {o j : ℕ} → entries_at owners i at ≡ Some es → IsAt es o j
      → IsAt (entries p.settings.gens) o j
  place_at {es} {o} {j} e = subst (λ es. IsAt es o j) (sym (entries_are e))

  pub place_gap : {es : List (ℕ × ℕ)} {o j : ℕ} → entries_at owners i at ≡ Some es → IsInsertionIndex es o j
      → IsInsertionIndex (entries p.settings.gens) o j
  place_gap {es} {o} {j} e = subst (λ es. IsInsertionIndex es o j) (sym (entries_are e))

  pub amount_is : (o : ℕ) → amount_at owners i at o ≡ get p.settings.gens o
  amount_is o = ap (option_and_then (λ (gens : Gens). get gens o)) p.gens

  pub gens_fit : IfSome (gens_at owners i at) FitGens
  gens_fit = to_some FitGens p.gens p.plain.fit

  pub of_mods : (P : List Modulator → Type 0) → IfSome (mods_at owners i at) P → P p.settings.mods
  of_mods P q = of_some P p.mods q

  bag_found : {n : ℕ} (b : BagAt op at p.found.owner p.settings n) → bag_at bags i n ≡ Some b.bag
  bag_found {n} b = ap (option_and_then (λ (own : List Bag). slice_get own n)) p.found.own ∙ b.found

module _ {H : Type 0} {op : ℕ} {heads : List H} {bags : List (List Bag)} {owners : List (ZoneOwner H)} {i : ℕ}
    {at : ZonePlace} (b : BarePlace op heads bags owners i at) where
  pub no_entries : entries_at owners i at ≡ Some []
  no_entries = ap (option_map entries) b.place.gens ∙ ap Some b.none.gens

  pub no_mods : mods_at owners i at ≡ Some []
  no_mods = b.place.mods ∙ ap Some b.none.mods

module _ {H : Type 0} {op : ℕ} {heads : List H} {bags : List (List Bag)} {owners : List (ZoneOwner H)} {i : ℕ}
    {at : ZonePlace} {n : ℕ} (b : BagPlace op heads bags owners i at n) where
  own_found : {bs : List (List Bag)} → bs ≡ bags → bag_at bs i n ≡ Some b.own.bag
  own_found kept = ap (λ bags. bag_at bags i n) kept ∙ bag_found b.place b.own

  pub bag_is_found : IsSome (bag_at bags i n)
  bag_is_found = subst IsSome (sym (own_found refl)) refl

  pub entries_read : (gens result : List (ℕ × ℕ)) → IfSome (bag_at bags i n) (λ (b : Bag). gens ≡ b.gens)
      → result ≡ without_target op gens → entries_at owners i at ≡ Some result
  entries_read gens result h e =
      ap (option_map entries) b.place.gens
      ∙ ap Some
      (sym
      (e
      ∙
      (ap (without_target op) (of_some (λ (b : Bag). gens ≡ b.gens) (own_found refl) h)
      ∙ b.own.entries_held)))

  pub mods_read : (mods : List Modulator) → IfSome (bag_at bags i n) (λ (b : Bag). mods ≡ b.mods)
      → mods_at owners i at ≡ Some mods
  mods_read mods h = b.place.mods ∙ ap Some (sym (of_some (λ (b : Bag). mods ≡ b.mods) (own_found refl) h ∙ b.own.mods))

  pub gens_size : length b.own.bag.gens ≡ length (entries b.place.settings.gens) + length b.own.last
  gens_size = ap length b.own.gens ∙ length-append (entries b.place.settings.gens) b.own.last

  -- the index of one of its generators, and an index at which a generator may be inserted
  pub gen_within : {es : List (ℕ × ℕ)} {o j : ℕ} → entries_at owners i at ≡ Some es → IsAt es o j
      → IsSomeAnd (bag_at bags i n) (λ (b : Bag). j < length b.gens)
  gen_within {es} {o} {j} e is =
      let within = (place_at b.place e is).within in
      let size = gens_size in
      subst (λ o. IsSomeAnd o (λ (b : Bag). j < length b.gens)) (sym (own_found refl)) (omega arith)

  pub gen_place : {es : List (ℕ × ℕ)} {o j : ℕ} {bs : List (List Bag)} → entries_at owners i at ≡ Some es
      → IsInsertionIndex es o j → bs ≡ bags → IsSomeAnd (bag_at bs i n) (λ (b : Bag). j ≤ length b.gens)
  gen_place {es} {o} {j} e gap kept =
      let within = (place_gap b.place e gap).within in
      let size = gens_size in
      subst (λ o. IsSomeAnd o (λ (b : Bag). j ≤ length b.gens)) (sym (own_found kept)) (omega arith)

  -- the same for its modulators
  module _ (j : ℕ) where
    pub mod_within : IfSome (mods_at owners i at) (λ (mods : List Modulator). j < length mods)
        → IsSomeAnd (bag_at bags i n) (λ (b : Bag). j < length b.mods)
    mod_within h =
        let within = of_mods b.place (λ (mods : List Modulator). j < length mods) h in
        let size = ap length b.own.mods in
        subst (λ o. IsSomeAnd o (λ (b : Bag). j < length b.mods)) (sym (own_found refl)) (omega arith)

    pub mod_place : {bs : List (List Bag)}
        → IfSome (mods_at owners i at) (λ (mods : List Modulator). j ≤ length mods) → bs ≡ bags
        → IsSomeAnd (bag_at bs i n) (λ (b : Bag). j ≤ length b.mods)
    mod_place h kept =
        let within = of_mods b.place (λ (mods : List Modulator). j ≤ length mods) h in
        let size = ap length b.own.mods in
        subst (λ o. IsSomeAnd o (λ (b : Bag). j ≤ length b.mods)) (sym (own_found kept)) (omega arith)

    -- a modulator that the code reads
    module _ (mods : List Modulator) (h : IfSome (mods_at owners i at) (λ (mods : List Modulator). j < length mods))
        (e : IfSome (bag_at bags i n) (λ (b : Bag). mods ≡ b.mods)) where
      pub mod_inside : j < length mods
      mod_inside = of_some (λ (mods : List Modulator). j < length mods) (mods_read mods e) h

      pub mod_read : (d : Modulator) → mod_at owners i at j ≡ Some (get_or mods j d)
      mod_read d =
          let (m, there) = slice_get-found mods j mod_inside in
          ap (option_and_then (λ (mods : List Modulator). slice_get mods j)) (mods_read mods e)
          ∙ (there ∙ ap Some (sym (get_or_from_slice_get mods j m d there)))

-- ---- a change of a place

pub place_kept : {H : Type 0} {op : ℕ} {bags : List (List Bag)} {owners : List (ZoneOwner H)} {i : ℕ}
    {at : ZonePlace} (p : PlaceAt op bags owners i at) (f : Settings → Settings)
    → f p.settings ≡ p.settings → owners ≡ place_changed owners i at f
place_kept {H} {op} {bags} {owners} {i} {at} p f kept =
    sym
    (changed_kept owners i (settings_changed at f) p.found.owner p.found.there
    (settings_kept at f p.found.owner p.settings p.has kept))

is_one : (n : ℕ) → (n == 1) ≡ true → n ≡ 1
is_one n e = grind (arith, nat_tests)

not_one : (n : ℕ) → (n == 1) ≡ false → 0 < n → 1 < n
not_one n e h = grind (arith, nat_tests)

module _ {H : Type 0} {op : ℕ} {heads : List H} {bags : List (List Bag)} {owners : List (ZoneOwner H)}
    (a : RepresentOwners op heads bags owners) {i : ℕ} {at : ZonePlace} (p : PlaceAt op bags owners i at)
    (f : Settings → Settings) (plain : IsPlain op (f p.settings).gens) (bs : List (List Bag)) where
  pub place_opened : NoBag op at p.found.owner p.settings → (gens : List (ℕ × ℕ)) (mods : List Modulator)
      → entries (f p.settings).gens ≡ gens → (f p.settings).mods ≡ mods
      → 0 < length gens + length mods
      → bs ≡ changed bags i (λ own. insert own 0 (record { gens = gens; mods = mods }))
      → RepresentOwners op heads bs (place_changed owners i at f)
  place_opened b gens mods g m some e =
      let x = p.found.owner in
      let gs = ap length g in
      let ms = ap length m in
      sent a i x (settings_changed at f) (λ own. insert own 0 (record { gens = gens; mods = mods })) bs p.found.there
      (head_stays at f x) (plain_after op at f x p.settings p.has p.found.plain plain)
      ((λ t. insert (bags_of op x) 0 (record { gens = sym g t; mods = sym m t })) ∙ b.opens f (omega arith)) e

  module _ {n : ℕ} (b : BagAt op at p.found.owner p.settings n) (F : Bag → Bag)
      (same : F b.bag ≡ record { gens = entries (f p.settings).gens ++ b.last; mods = (f p.settings).mods }) where
    pub place_sent : 0 < length (F b.bag).gens + length (F b.bag).mods → bs ≡ bag_changed bags i n F
        → RepresentOwners op heads bs (place_changed owners i at f)
    place_sent some e =
        let x = p.found.owner in
        let gs = ap (λ (b : Bag). length b.gens) same in
        let ms = ap (λ (b : Bag). length b.mods) same in
        sent a i x (settings_changed at f) (λ own. changed own n F) bs p.found.there (head_stays at f x)
        (plain_after op at f x p.settings p.has p.found.plain plain)
        (b.changes f F same (omega arith)) e

    pub place_closed : length b.bag.gens + length b.bag.mods ≡ 1
        → 0 < length (entries p.settings.gens) + length p.settings.mods
        → length (F b.bag).gens + length (F b.bag).mods ≡ 0
        → bs ≡ changed bags i (λ own. remove own n) → RepresentOwners op heads bs (place_changed owners i at f)
    place_closed one held none e =
        let x = p.found.owner in
        let gs = ap (λ (b : Bag). length b.gens) same ∙ length-append (entries (f p.settings).gens) b.last in
        let ms = ap (λ (b : Bag). length b.mods) same in
        sent a i x (settings_changed at f) (λ own. remove own n) bs p.found.there (head_stays at f x)
        (plain_after op at f x p.settings p.has p.found.plain plain)
        (b.closes f one held (omega arith)) e

    -- a record is removed, and the bag too if it was the last record
    pub place_record_removed : length b.bag.gens + length b.bag.mods ≡ suc (length (F b.bag).gens + length (F b.bag).mods)
        → 0 < length (entries p.settings.gens) + length p.settings.mods
        → IfSome (bag_at bags i n) (λ (b : Bag). bs ≡ record_removed bags i n F b)
        → RepresentOwners op heads bs (place_changed owners i at f)
    place_record_removed fewer held h =
        let e : bs ≡ record_removed bags i n F b.bag =
        of_some (λ (b : Bag). bs ≡ record_removed bags i n F b) (bag_found p b) h in
        elim (bag_size b.bag == 1) as
        (λ c.
        (bag_size b.bag == 1) ≡ c
        → bs ≡ (if c then changed bags i (λ own. remove own n) else bag_changed bags i n F)
        → RepresentOwners op heads bs (place_changed owners i at f)) [
          | true ↦ λ is g. let one = is_one (bag_size b.bag) is in place_closed one held (omega arith) g
          | false ↦ λ is g. let more = not_one (bag_size b.bag) is (omega arith) in place_sent (omega arith) g
        ] refl e
