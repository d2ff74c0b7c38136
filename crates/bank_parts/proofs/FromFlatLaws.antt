-- Presets or instruments read from their flat lists.
use Rattle.std.proofs.Common.{if◌then◌else◌, ◌≡◌, ℕ, ◌+◌, ◌==◌, ◌&&◌, Bool, true, false, true≢false, not, suc, zero}
use Rattle.std.proofs.Common.{List, [], ◌∷◌, ◌++◌, length, map, slice_get, Some, None, refl, sym, subst, ◌∙◌, ap}
use Rattle.std.proofs.Common.{arith}
use Rattle.std.specs.Prelude.{IsTrue}
use Rattle.std.specs.List.{AllByRecursion, list_any}
use Rattle.std.specs.FinMap.{entries, from_sorted, len, get, is_sorted, entries-from_sorted, len-entries, len-empty}
use Rattle.std.specs.FinMap.{get-empty}
use Rattle.std.proofs.lemmas.Bool.Decides.{nat_tests}
use Rattle.std.proofs.lemmas.List.Concat.{flat_map-append}
use Rattle.std.proofs.lemmas.Option.{same_Some}
use Rattle.generators.specs.Gens.{Gens, operator_cmp, FitsEntry, FitEntries}
use Rattle.generators.specs.Levels.{target_operator}
use Rattle.generators.specs.declared.level.Level.{Level}
use Rattle.generators.proofs.Entries.{both_true}
use Rattle.generators.proofs.EntryLaws.{set_is_entry}
use Rattle.generators.proofs.Maps.{entries_rise, entries-no_gens}
use Rattle.flat_records.specs.Bags.{Bag, Tables, gens_in, bags_in}
use Rattle.flat_records.specs.Owned.{all_bags}
use Rattle.flat_records.specs.Owned as flat
use Rattle.flat_records.specs.Begins as owned
use Rattle.flat_records.proofs.OwnerConverse.{same_owners}
use Rattle.flat_records.proofs.Owners as stored
use Rattle.flat_records.proofs.TableLaws as tables
use Rattle.bank_parts.specs.declared.parts.GlobalZone.{GlobalZone}
use Rattle.bank_parts.specs.declared.parts.Zone.{Zone}
use Rattle.bank_parts.specs.declared.parts.ZoneOwner.{ZoneOwner}
use Rattle.bank_parts.specs.Bagged.{zone_bag, global_bag, global_bags, bags_of, ends_in, without_last, last_amount}
use Rattle.bank_parts.specs.Bagged.{zone_in, no_global, owner_in, IsPlain, IsPlainOwner}
use Rattle.bank_parts.specs.Flat.{RepresentOwners, AreRead}
use Rattle.bank_parts.specs.FlatLists.{FlatLists, AreFlat, lists_with}
use Rattle.bank_parts.specs.OwnBags.{is_plain, is_own_bag, AreAllBags}
use Rattle.bank_parts.proofs.Everywhere.{none_passes, passes_none}
use Rattle.bank_parts.proofs.ListLaws.{everywhere-found}
use Rattle.bank_parts.proofs.ReadLaws.{zone-ends, without-last, plain-ends}
use Rattle.bank_parts.proofs.RecordLaws.{same_op, others}
use Rattle.bank_parts.proofs.ValidLaws.{all-front, all-back}

-- ---- maps

is_op : (a op : ℕ) → (a == op) ≡ true → a ≡ op
is_op a op e = grind (arith, nat_tests, e)

not_zero : (k : ℕ) → (suc k == 0) ≡ false
not_zero k = grind (arith, nat_tests)

not_true : (b : Bool) → not b ≡ true → b ≡ false
not_true true h = cc
not_true false h = refl

both : (a b : Bool) → IsTrue a → IsTrue b → IsTrue (a && b)
both true b h k = k
both false b h k = h

unset_in : (op : ℕ) (m : Gens) → list_any (λ (e : ℕ × ℕ). e.0 == op) (entries m) ≡ false → get m op ≡ None
unset_in op m none =
    elim (get m op) as (λ g. get m op ≡ g → g ≡ None) [
      | None ↦ λ h. refl
      | Some w ↦ λ h.
          let s = set_is_entry m op w h in
          let other =
          everywhere-found (λ (e : ℕ × ℕ). (e.0 == op) ≡ false) (entries m) s.0 (op, w) s.1
          (none_passes (λ (e : ℕ × ℕ). e.0 == op) (entries m) none) in
          absurd (true≢false (sym (same_op op) ∙ other))
    ] refl

map_of : List (ℕ × ℕ) → Gens
map_of es = from_sorted es

record PlainMap (op : ℕ) (es : List (ℕ × ℕ)) : Type 0 where
  same : entries (map_of es) ≡ es
  plain : IsPlain op (map_of es)

plain_map : (op : ℕ) (es : List (ℕ × ℕ)) → is_plain op es ≡ true → FitEntries es → PlainMap op es
unfolding map_of
plain_map op es h fit =
    let two = both_true (is_sorted operator_cmp es) (not (list_any (λ (e : ℕ × ℕ). e.0 == op) es)) h in
    let same : entries (map_of es) ≡ es = entries-from_sorted operator_cmp es (rw two.0 tt) in
    let none =
    subst (λ es. list_any (λ (e : ℕ × ℕ). e.0 == op) es ≡ false) (sym same)
    (not_true (list_any (λ (e : ℕ × ℕ). e.0 == op) es) two.1) in
    record
    { same = same; plain = record { unset = unset_in op (map_of es) none; fit = subst FitEntries (sym same) fit } }

map_plain : (op : ℕ) (m : Gens) → IsPlain op m → is_plain op (entries m) ≡ true
map_plain op m p =
    both _ _ (entries_rise m) (ap not (passes_none (λ (e : ℕ × ℕ). e.0 == op) (entries m) (others op m p)))

-- ---- zones

target_is_last : (op : ℕ) (es : List (ℕ × ℕ)) → ends_in op es ≡ true → es ≡ without_last es ++ (op, last_amount es) ∷ []
target_is_last op [] h = cc
target_is_last op (e ∷ []) h = let same = is_op e.0 op h in λ i. (same i, e.1) ∷ []
target_is_last op (e ∷ (f ∷ es)) h = ap (λ xs. e ∷ xs) (target_is_last op (f ∷ es) h)

record ZoneRead (op : ℕ) (b : Bag) : Type 0 where
  same : zone_bag op (zone_in b) ≡ b
  plain : IsPlain op (zone_in b).gens

zone_read : (op : ℕ) (b : Bag) → ends_in op b.gens ≡ true → is_plain op (without_last b.gens) ≡ true
    → FitEntries b.gens → ZoneRead op b
unfolding map_of
zone_read op b ends plain fit =
    let ends_with_target = target_is_last op b.gens ends in
    let front =
    all-front FitsEntry (without_last b.gens) ((op, last_amount b.gens) ∷ []) (subst FitEntries ends_with_target fit) in
    let m = plain_map op (without_last b.gens) plain front in
    let gens : entries (zone_in b).gens ++ (op, last_amount b.gens) ∷ [] ≡ b.gens =
    ap (λ es. es ++ (op, last_amount b.gens) ∷ []) m.same ∙ sym ends_with_target in
    record { same = λ i. record { gens = gens i; mods = b.mods }; plain = m.plain }

a_zone : (op : ℕ) (b : Bag) → is_own_bag op false b ≡ true
    → (ends_in op b.gens ≡ true) × (is_plain op (without_last b.gens) ≡ true)
a_zone op b h =
    elim (ends_in op b.gens) as
    (λ e.
    ends_in op b.gens ≡ e → (if e then is_plain op (without_last b.gens) else false) ≡ true
    → (ends_in op b.gens ≡ true) × (is_plain op (without_last b.gens) ≡ true)) [
      | true ↦ λ e h. (e, h)
      | false ↦ λ e h. absurd (true≢false (sym h))
    ] refl h

record ZonesRead (op : ℕ) (bs : List Bag) : Type 0 where
  same : map (zone_bag op) (map zone_in bs) ≡ bs
  plain : AllByRecursion (λ (z : Zone). IsPlain op z.gens) (map zone_in bs)

zones_read : (op : ℕ) (bs : List Bag) → ((k : ℕ) (b : Bag) → slice_get bs k ≡ Some b → is_own_bag op false b ≡ true)
    → FitEntries (gens_in bs) → ZonesRead op bs
zones_read op [] h fit = record { same = refl; plain = tt }
zones_read op (b ∷ bs) h fit =
    let own = a_zone op b (h 0 b refl) in
    let z = zone_read op b own.0 own.1 (all-front FitsEntry b.gens (gens_in bs) fit) in
    let rest = zones_read op bs (λ k c e. h (suc k) c e) (all-back FitsEntry b.gens (gens_in bs) fit) in
    record { same = λ i. z.same i ∷ rest.same i; plain = (z.plain, rest.plain) }

-- ---- a preset or an instrument from its bags

no_bags : global_bags no_global ≡ []
no_bags = ap (λ n. if n + 0 == 0 then [] else (global_bag no_global ∷ [])) (len-empty operator_cmp ℕ)

no_plain : (op : ℕ) → IsPlain op no_global.gens
no_plain op = record { unset = get-empty operator_cmp op; fit = rw entries-no_gens tt }

module _ {H : Type 0} where
  record ReadAs (op : ℕ) (head : H) (own : List Bag) (x : ZoneOwner H) : Type 0 where
    same : own ≡ bags_of op x
    named : x.head ≡ head
    plain : IsPlainOwner op x

  with_target : (op : ℕ) (head : H) (b : Bag) (bs : List Bag) → ends_in op b.gens ≡ true
      → is_own_bag op true b ≡ true → FitEntries b.gens → ZonesRead op bs
      → ReadAs op head (b ∷ bs) (owner_in op head (b ∷ bs))
  with_target op head b bs e h fit rest =
      let z = zone_read op b e (rw e at h) fit in
      let x : ZoneOwner H = record { head = head; global = no_global; zones = map zone_in (b ∷ bs) } in
      let is : owner_in op head (b ∷ bs) ≡ x = rw e refl in
      subst (ReadAs op head (b ∷ bs)) (sym is) (record {
        same = λ i. sym no_bags i ++ (sym z.same i ∷ sym rest.same i);
        named = refl;
        plain = record { global = no_plain op; zones = (z.plain, rest.plain) };
      })

  without : (op : ℕ) (head : H) (b : Bag) (bs : List Bag) → ends_in op b.gens ≡ false → is_own_bag op true b ≡ true
      → FitEntries b.gens → ZonesRead op bs → ReadAs op head (b ∷ bs) (owner_in op head (b ∷ bs))
  unfolding map_of
  without op head b bs e h fit rest =
      let two = both_true (not (length b.gens + length b.mods == 0)) (is_plain op b.gens) (rw e at h) in
      let m = plain_map op b.gens two.1 fit in
      let global : GlobalZone = record { gens = map_of b.gens; mods = b.mods } in
      let x : ZoneOwner H = record { head = head; global = global; zones = map zone_in bs } in
      let is : owner_in op head (b ∷ bs) ≡ x = rw e refl in
      let size : len global.gens ≡ length b.gens = len-entries global.gens ∙ ap length m.same in
      let some : (len global.gens + length b.mods == 0) ≡ false =
      ap (λ n. n + length b.mods == 0) size ∙ not_true (length b.gens + length b.mods == 0) two.0 in
      let one : global_bags global ≡ global_bag global ∷ [] =
      ap (λ c. if c then [] else (global_bag global ∷ [])) some in
      let bag : global_bag global ≡ b = λ i. record { gens = m.same i; mods = b.mods } in
      subst (ReadAs op head (b ∷ bs)) (sym is) (record {
        same = (λ i. sym bag i ∷ sym rest.same i) ∙ ap (λ own. own ++ map (zone_bag op) (map zone_in bs)) (sym one);
        named = refl;
        plain = record { global = m.plain; zones = rest.plain };
      })

  owner_read : (op : ℕ) (head : H) (own : List Bag)
      → ((k : ℕ) (b : Bag) → slice_get own k ≡ Some b → IsTrue (is_own_bag op (k == 0) b)) → FitEntries (gens_in own)
      → ReadAs op head own (owner_in op head own)
  owner_read op head [] h fit = record {
    same = λ i. sym no_bags i ++ [];
    named = refl;
    plain = record { global = no_plain op; zones = tt };
  }
  owner_read op head (b ∷ bs) h fit =
      let first = subst (λ f. is_own_bag op f b ≡ true) (same_op 0) (h 0 b refl) in
      let own = all-front FitsEntry b.gens (gens_in bs) fit in
      let rest =
      zones_read op bs (λ k c e. subst (λ f. is_own_bag op f c ≡ true) (not_zero k) (h (suc k) c e))
      (all-back FitsEntry b.gens (gens_in bs) fit) in
      elim (ends_in op b.gens) as (λ e. ends_in op b.gens ≡ e → ReadAs op head (b ∷ bs) (owner_in op head (b ∷ bs))) [
        | true ↦ λ e. with_target op head b bs e first own rest
        | false ↦ λ e. without op head b bs e first own rest
      ] refl

  pub owners_read : (op : ℕ) (heads : List H) (bags : List (List Bag)) → length heads ≡ length bags
      → AreAllBags op bags → FitEntries (gens_in (all_bags bags)) → AreRead op heads bags
  owners_read op [] [] size are fit = record { heads = refl; bags = refl; plain = tt }
  owners_read op [] (own ∷ rest) size are fit = absurd (omega arith)
  owners_read op (head ∷ heads) [] size are fit = absurd (omega arith)
  owners_read op (head ∷ heads) (own ∷ rest) size are fit =
      let fits = subst FitEntries (flat_map-append (λ (b : Bag). b.gens) own (all_bags rest)) fit in
      let o =
      owner_read op head own (λ k b e. are 0 k b e)
      (all-front FitsEntry (gens_in own) (gens_in (all_bags rest)) fits) in
      let a =
      owners_read op heads rest (omega arith) (λ i k b e. are (suc i) k b e)
      (all-back FitsEntry (gens_in own) (gens_in (all_bags rest)) fits) in
      record { heads = λ i. sym o.named i ∷ a.heads i; bags = λ i. o.same i ∷ a.bags i; plain = (o.plain, a.plain) }

  -- as the code tests them
  pub owners_tested : (op : ℕ) (heads : List H) (bags : List (List Bag)) {o n m : ℕ} {es : List (ℕ × ℕ)}
      → n ≡ length heads → m ≡ length bags → n ≡ m → o ≡ op → AreAllBags o bags
      → es ≡ gens_in (all_bags bags) ++ (0, 0) ∷ [] → FitEntries es → AreRead op heads bags
  owners_tested op heads bags many owners same is are records fit =
      owners_read op heads bags (sym many ∙ (same ∙ owners)) (subst (λ o. AreAllBags o bags) is are)
      (all-front FitsEntry (gens_in (all_bags bags)) ((0, 0) ∷ []) (subst FitEntries records fit))

-- ---- the bags of presets or instruments

zone_own : (op : ℕ) (f : Bool) (z : Zone) → IsPlain op z.gens → is_own_bag op f (zone_bag op z) ≡ true
zone_own op f z p =
    let front = ap (is_plain op) (without-last op (entries z.gens) z.target) ∙ map_plain op z.gens p in
    rw (zone-ends op z) front

zones_own : (op : ℕ) (f : Bool) (zones : List Zone) (k : ℕ) (b : Bag)
    → AllByRecursion (λ (z : Zone). IsPlain op z.gens) zones → slice_get (map (zone_bag op) zones) k ≡ Some b
    → is_own_bag op f b ≡ true
zones_own op f [] k b p e = cc
zones_own op f (z ∷ zs) zero b p e =
    subst (λ b. is_own_bag op f b ≡ true) (same_Some (zone_bag op z) b e) (zone_own op f z p.0)
zones_own op f (z ∷ zs) (suc k) b p e = zones_own op f zs k b p.1 e

global_own : (op : ℕ) (g : GlobalZone) → (len g.gens + length g.mods == 0) ≡ false → IsPlain op g.gens
    → is_own_bag op true (global_bag g) ≡ true
global_own op g e p =
    let some : not (length (entries g.gens) + length g.mods == 0) ≡ true =
    ap not (ap (λ n. n + length g.mods == 0) (sym (len-entries g.gens)) ∙ e) in
    let two = both _ _ some (map_plain op g.gens p) in
    rw (plain-ends op g.gens p.unset) two

module _ {H : Type 0} where
  own_cases : (op : ℕ) (x : ZoneOwner H) (c : Bool) → (len x.global.gens + length x.global.mods == 0) ≡ c
      → IsPlainOwner op x → (k : ℕ) (b : Bag)
      → slice_get ((if c then [] else (global_bag x.global ∷ [])) ++ map (zone_bag op) x.zones) k ≡ Some b
      → is_own_bag op (k == 0) b ≡ true
  own_cases op x true e p k b there = zones_own op (k == 0) x.zones k b p.zones there
  own_cases op x false e p zero b there =
      subst (λ f. is_own_bag op f b ≡ true) (sym (same_op 0))
      (subst (λ b. is_own_bag op true b ≡ true) (same_Some (global_bag x.global) b there)
      (global_own op x.global e p.global))
  own_cases op x false e p (suc k) b there = zones_own op (suc k == 0) x.zones k b p.zones there

  pub owners_own : (op : ℕ) (owners : List (ZoneOwner H)) → AllByRecursion (IsPlainOwner op) owners
      → AreAllBags op (map (bags_of op) owners)
  owners_own op [] p i k b there = cc
  owners_own op (x ∷ xs) p zero k b there =
      own_cases op x (len x.global.gens + length x.global.mods == 0) refl p.0 k b there
  owners_own op (x ∷ xs) p (suc i) k b there = owners_own op xs p.1 i k b there

-- ---- flat lists

-- the indexes and records of flat lists are those of the bags of their owners
pub owned_by : {H : Type 0} (at : Level) (hs : List H) (places : List ℕ) (t : Tables) (owners : List (ZoneOwner H))
    → AreFlat at hs (record { first_bags = places; bags = t.bags; gens = t.gens; mods = t.mods }) owners
    → owned.AreFlat places t (map (bags_of (target_operator at)) owners)
owned_by at hs places t owners are =
    let flat = are.flat in
    record {
      begins = ap (λ (l : FlatLists). l.first_bags) flat;
      records = ap (λ (l : FlatLists). record { bags = l.bags; gens = l.gens; mods = l.mods }) flat;
    }

pub flat_by : {H : Type 0} (at : Level) (hs : List H) (places : List ℕ) (t : Tables) (bags : List (List Bag))
    (owners : List (ZoneOwner H))
    → owned.AreFlat places t bags → RepresentOwners (target_operator at) hs bags owners
    → AreFlat at hs (record { first_bags = places; bags = t.bags; gens = t.gens; mods = t.mods }) owners
flat_by at hs places t bags owners are a =
    let own = subst (owned.AreFlat places t) a.bags are in
    let begins = own.begins in
    let records = own.records in
    record {
      heads = a.heads;
      flat =
          λ i.
          record
          { first_bags = begins i; bags = (records i).bags; gens = (records i).gens; mods = (records i).mods };
    }

-- owners with these flat lists have these bags
pub bags_by : {H : Type 0} (at : Level) (hs : List H) (places : List ℕ) (t : Tables) (bags : List (List Bag))
    (owners : List (ZoneOwner H))
    → owned.AreFlat places t bags
    → AreFlat at hs (record { first_bags = places; bags = t.bags; gens = t.gens; mods = t.mods }) owners
    → bags ≡ map (bags_of (target_operator at)) owners
bags_by at hs places t bags owners own are =
    same_owners places t bags (map (bags_of (target_operator at)) owners) own (owned_by at hs places t owners are)

-- the bags of owners with these flat lists are those read from the lists
pub read_by : {H : Type 0} (at : Level) (hs : List H) (places : List ℕ) (t : Tables) (owners : List (ZoneOwner H))
    → AreFlat at hs (lists_with places t) owners
    → flat.owners_in (record { begins = places; bags = bags_in t }) ≡ map (bags_of (target_operator at)) owners
read_by at hs places t owners are =
    let own = owned_by at hs places t owners are in
    let begins = own.begins in
    let bags = tables.read t (all_bags (map (bags_of (target_operator at)) owners)) own.records in
    stored.read (record { same = λ i. record { begins = begins i; bags = bags i } })
