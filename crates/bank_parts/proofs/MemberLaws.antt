-- The heads and bags of presets or instruments, at one number and after a change there.
use Rattle.std.proofs.Common.{◌≡◌, ℕ, ◌<◌, List, [], length, insert, remove, slice_get, set, Some, sym, subst, ◌∙◌, ap}
use Rattle.std.specs.Option.{option_map}
use Rattle.std.proofs.lemmas.List.{length-map}
use Rattle.std.proofs.lemmas.Option.{slice_get-map}
use Rattle.base_numbered_lists.specs.Moved.{moved, changed}
use Rattle.base_numbered_lists.proofs.Lists.{slice_get-found, changed-found, map-slice_set, map-moved, map-insert}
use Rattle.base_numbered_lists.proofs.Lists.{map-remove, slice_set_same}
use Rattle.flat_records.specs.Bags.{Bag}
use Rattle.bank_parts.specs.declared.parts.ZoneOwner.{ZoneOwner}
use Rattle.bank_parts.specs.Owners.{head_at, with_head}
use Rattle.bank_parts.specs.Bagged.{bags_of, IsPlainOwner}
use Rattle.bank_parts.specs.Flat.{RepresentOwners}
use Rattle.bank_parts.proofs.ListLaws.{everywhere-found, everywhere-set, everywhere-remove, everywhere-insert}
use Rattle.bank_parts.proofs.ListLaws.{everywhere-moved}

pub none_held : {H : Type 0} {op : ℕ} (heads : List H) (bags : List (List Bag)) → heads ≡ [] → bags ≡ []
    → RepresentOwners op heads bags []
none_held heads bags e f = record { heads = e; bags = f; plain = tt }

module _ {H : Type 0} {op : ℕ} {heads : List H} {bags : List (List Bag)} {owners : List (ZoneOwner H)}
    (a : RepresentOwners op heads bags owners) where
  pub heads_size : length heads ≡ length owners
  heads_size = ap length a.heads ∙ length-map owners (λ (x : ZoneOwner H). x.head)

  pub bags_size : length bags ≡ length owners
  bags_size = ap length a.bags ∙ length-map owners (bags_of op)

  pub heads_at : (i : ℕ) → head_at owners i ≡ slice_get heads i
  heads_at i = sym (ap (λ hs. slice_get hs i) a.heads ∙ slice_get-map (λ (x : ZoneOwner H). x.head) owners i)

  pub bags_at : (i : ℕ) (x : ZoneOwner H) → slice_get owners i ≡ Some x → slice_get bags i ≡ Some (bags_of op x)
  bags_at i x e =
      ap (λ bs. slice_get bs i) a.bags ∙ (slice_get-map (bags_of op) owners i ∙ ap (option_map (bags_of op)) e)

  pub plain_at : (i : ℕ) (x : ZoneOwner H) → slice_get owners i ≡ Some x → IsPlainOwner op x
  plain_at i x e = everywhere-found (IsPlainOwner op) owners i x e a.plain

  pub same_held : (hs : List H) (bs : List (List Bag)) → hs ≡ heads → bs ≡ bags → RepresentOwners op hs bs owners
  same_held hs bs e f = record { heads = e ∙ a.heads; bags = f ∙ a.bags; plain = a.plain }

  -- ---- one owner changed

  pub head_replaced : (i : ℕ) (h : H) (new : List H) → i < length owners → new ≡ set heads i h
      → RepresentOwners op new bags (changed owners i (with_head h))
  head_replaced i h new within e =
      let (x, there) = slice_get-found owners i within in
      let y = with_head h x in
      let own = bags_at i x there in
      let p = plain_at i x there in
      subst (RepresentOwners op new bags) (sym (changed-found owners i (with_head h) x there)) (record {
        heads = e ∙ (ap (λ hs. set hs i h) a.heads ∙ sym (map-slice_set (λ (x : ZoneOwner H). x.head) owners i y));
        bags =
            sym (slice_set_same bags i (bags_of op x) own)
            ∙ (ap (λ bs. set bs i (bags_of op x)) a.bags ∙ sym (map-slice_set (bags_of op) owners i y));
        plain = everywhere-set (IsPlainOwner op) owners i y (record { global = p.global; zones = p.zones }) a.plain;
      })

  -- owner i changed by f, its bags by F, with the same head
  pub sent : (i : ℕ) (x : ZoneOwner H) (f : ZoneOwner H → ZoneOwner H) (F : List Bag → List Bag)
      (bs : List (List Bag))
      → slice_get owners i ≡ Some x
      → (f x).head ≡ x.head → IsPlainOwner op (f x) → F (bags_of op x) ≡ bags_of op (f x) → bs ≡ changed bags i F
      → RepresentOwners op heads bs (changed owners i f)
  sent i x f F bs there same plain own e =
      let y = f x in
      let head : slice_get heads i ≡ Some y.head =
      sym (heads_at i) ∙ (ap (option_map (λ (x : ZoneOwner H). x.head)) there ∙ ap Some (sym same)) in
      subst (RepresentOwners op heads bs) (sym (changed-found owners i f x there)) (record {
        heads =
            sym (slice_set_same heads i y.head head)
            ∙
            (ap (λ hs. set hs i y.head) a.heads
            ∙ sym (map-slice_set (λ (x : ZoneOwner H). x.head) owners i y));
        bags =
            e ∙ (changed-found bags i F (bags_of op x) (bags_at i x there)
            ∙ (ap (set bags i) own
            ∙ (ap (λ bs. set bs i (bags_of op y)) a.bags ∙ sym (map-slice_set (bags_of op) owners i y))));
        plain = everywhere-set (IsPlainOwner op) owners i y plain a.plain;
      })

  -- ---- one owner inserted, removed or moved

  pub member_moved : (i j : ℕ) (hs : List H) (bs : List (List Bag)) → i < length owners → hs ≡ moved heads i j
      → bs ≡ moved bags i j → RepresentOwners op hs bs (moved owners i j)
  member_moved i j hs bs within e f = record {
    heads = e ∙ (ap (λ hs. moved hs i j) a.heads ∙ sym (map-moved (λ (x : ZoneOwner H). x.head) owners i j within));
    bags = f ∙ (ap (λ bs. moved bs i j) a.bags ∙ sym (map-moved (bags_of op) owners i j within));
    plain = everywhere-moved (IsPlainOwner op) owners i j within a.plain;
  }

  pub member_put : (i : ℕ) (x : ZoneOwner H) (hs : List H) (bs : List (List Bag)) → IsPlainOwner op x
      → hs ≡ insert heads i x.head → bs ≡ insert bags i (bags_of op x) → RepresentOwners op hs bs (insert owners i x)
  member_put i x hs bs plain e f = record {
    heads = e ∙ (ap (λ hs. insert hs i x.head) a.heads ∙ sym (map-insert (λ (x : ZoneOwner H). x.head) owners i x));
    bags = f ∙ (ap (λ bs. insert bs i (bags_of op x)) a.bags ∙ sym (map-insert (bags_of op) owners i x));
    plain = everywhere-insert (IsPlainOwner op) owners i x plain a.plain;
  }

  pub member_removed : (i : ℕ) (hs : List H) (bs : List (List Bag)) → hs ≡ remove heads i → bs ≡ remove bags i
      → RepresentOwners op hs bs (remove owners i)
  member_removed i hs bs e f = record {
    heads = e ∙ (ap (λ hs. remove hs i) a.heads ∙ sym (map-remove (λ (x : ZoneOwner H). x.head) owners i));
    bags = f ∙ (ap (λ bs. remove bs i) a.bags ∙ sym (map-remove (bags_of op) owners i));
    plain = everywhere-remove (IsPlainOwner op) owners i a.plain;
  }
