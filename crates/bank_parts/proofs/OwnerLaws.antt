-- Presets, instruments and zones that are inserted: which are plain, and that there is capacity for them.
use Rattle.std.proofs.Common.{◌≡◌, ℕ, ◌<◌, ◌+◌, ◌^◌, ◌||◌, Bool, true, false, List, [], ◌∷◌, ◌++◌, length, insert}
use Rattle.std.proofs.Common.{Option, Some, None, refl, sym, subst, ◌∙◌, ap, length-append, arith}
use Rattle.std.specs.Prelude.{is_some}
use Rattle.std.specs.List.{AllByRecursion, list_any}
use Rattle.std.specs.FinMap.{get}
use Rattle.base_numbered_lists.specs.Moved.{moved}
use Rattle.flat_records.specs.Bags.{Bag, gens_in, mods_in}
use Rattle.flat_records.specs.Owned.{all_bags}
use Rattle.flat_records.specs.OwnersStored.{Stored}
use Rattle.bank_parts.specs.declared.counting.Records.{Records}
use Rattle.bank_parts.specs.declared.parts.Zone.{Zone}
use Rattle.bank_parts.specs.declared.parts.ZoneOwner.{ZoneOwner}
use Rattle.bank_parts.specs.Counts.{all_counted, counted}
use Rattle.bank_parts.specs.Fits.{FitsZone, FitsOwner}
use Rattle.bank_parts.specs.Bagged.{bags_of, IsPlain, IsPlainOwner}
use Rattle.bank_parts.specs.Room.{HasRoom, has_operator}
use Rattle.bank_parts.specs.Flat.{RepresentOwners}
use Rattle.bank_parts.proofs.ListLaws.{moved-last}
use Rattle.bank_parts.proofs.MemberLaws.{member_put}

-- ---- plain

none_of_test : {X : Type 0} (o : Option X) → is_some o ≡ false → o ≡ None
none_of_test None e = refl
none_of_test (Some x) e = cc

pub zone_plain : (op : ℕ) (z : Zone) (r : Bool) → r ≡ is_some (get z.gens op) → r ≡ false → FitsZone z
    → IsPlain op z.gens
zone_plain op z r e is fits = record { unset = none_of_test (get z.gens op) (sym e ∙ is); fit = fits.gens }

either : (a b : Bool) → (a || b) ≡ false → (a ≡ false) × (b ≡ false)
either true b e = cc
either false b e = (refl, e)

zones_plain : (op : ℕ) (zones : List Zone) → list_any (λ (z : Zone). is_some (get z.gens op)) zones ≡ false
    → AllByRecursion FitsZone zones → AllByRecursion (λ (z : Zone). IsPlain op z.gens) zones
zones_plain op [] e fits = tt
zones_plain op (z ∷ zs) e fits =
    let both = either (is_some (get z.gens op)) (list_any (λ (z : Zone). is_some (get z.gens op)) zs) e in
    let own = fits.0 in
    (record { unset = none_of_test (get z.gens op) both.0; fit = own.gens }, zones_plain op zs both.1 fits.1)

pub owner_plain : {H : Type 0} (IsFit : H → Type 0) (op : ℕ) (x : ZoneOwner H) (r : Bool) → r ≡ has_operator op x
    → r ≡ false → FitsOwner IsFit x → IsPlainOwner op x
owner_plain IsFit op x r e is fits =
    let both =
    either (is_some (get x.global.gens op)) (list_any (λ (z : Zone). is_some (get z.gens op)) x.zones)
    (sym e ∙ is) in
    let global = fits.global in
    record {
      global =
          record { unset = none_of_test (get x.global.gens op) both.0; fit = global.gens };
      zones =
          zones_plain op x.zones both.1 fits.zones;
    }

-- ---- capacity

below : (n m : ℕ) → m + counted n < 2 ^ 16 → counted n ≡ n
below n m h = omega arith

pub room_counted : (s : Stored) (r more : Records) → more ≡ all_counted r → HasRoom s more → HasRoom s r
room_counted s r more e h =
    let k = subst (HasRoom s) e h in
    let zones = below r.zones (length (all_bags s.owners)) k.held.zones in
    let gens = below r.gens (length (gens_in (all_bags s.owners))) k.held.gens in
    let mods = below r.mods (length (mods_in (all_bags s.owners))) k.held.mods in
    record {
      held =
          record { zones = omega arith; gens = omega arith; mods = omega arith };
      zones =
          omega arith;
      gens = omega arith;
      mods = omega arith;
    }

-- ---- the last owner moved to its number, after memory was reserved

pub owner_put : {H : Type 0} {op : ℕ} {heads : List H} {bags : List (List Bag)} {owners : List (ZoneOwner H)}
    (a : RepresentOwners op heads bags owners) (i last : ℕ) (x : ZoneOwner H) (hs : List H) (first bs : List (List Bag))
    {o : ℕ} {room : List (List Bag)}
    → o ≡ op → IsPlainOwner o x → hs ≡ insert heads i x.head → room ≡ bags → last ≡ length room
    → first ≡ room ++ bags_of o x ∷ [] → bs ≡ moved first last i → RepresentOwners op hs bs (insert owners i x)
owner_put {H} {op} {heads} {bags} {owners} a i last x hs first bs is plain h kept l f e =
    member_put a i x hs bs (subst (λ op. IsPlainOwner op x) is plain) h
    (e
    ∙
    ((λ t. moved (f t) (l t) i)
    ∙
    ((λ t. moved (kept t ++ bags_of (is t) x ∷ []) (length (kept t)) i)
    ∙ moved-last bags (bags_of op x) i)))

pub last_within : (bags first : List (List Bag)) (own : List Bag) (last : ℕ) → last ≡ length bags
    → first ≡ bags ++ own ∷ [] → last < length first
last_within bags first own last l f = let size = ap length f ∙ length-append bags (own ∷ []) in omega arith
