-- The table of numbers after moves, and the walks that renumber by it.
use Rattle.std.proofs.Common.{◌≡◌, ◌<◌, ◌≤◌, ◌+◌, ◌++◌, ◌∷◌, [], suc, zero, ℕ, List, length, map, take, drop}
use Rattle.std.proofs.Common.{get_or, set, slice_get, drop-cons, Option, Some, None, refl, sym, ◌∙◌, ap, subst, arith}
use Rattle.std.specs.Prelude.{IfSome}
use Rattle.std.specs.List.{AllByRecursion, range_with_len}
use Rattle.std.specs.Option.{IsSomeAnd, option_map, option_and_then}
use Rattle.std.proofs.lemmas.List.{append-nil, take_all, drop_all}
use Rattle.std.proofs.lemmas.List.Edits.{map_over_more}
use Rattle.std.proofs.lemmas.List.Elements.{All-get_or, All-from_recursion}
use Rattle.std.proofs.lemmas.List.FromFn.{get_or-range_with_len, length-range_with_len}
use Rattle.std.proofs.lemmas.Option.{get_or_from_slice_get, slice_get_within, slice_get-get_or}
use Rattle.base_numbered_lists.specs.declared.renumbering.Renumbering.{Renumbering}
use Rattle.base_numbered_lists.specs.declared.renumbering.Renumbering.TheVariants.{Move}
use Rattle.base_numbered_lists.specs.Renumbered.{renumbered}
use Rattle.base_numbered_lists.specs.Moved.{moved, changed}
use Rattle.base_numbered_lists.proofs.Changing.{all_done, next_changed, next_same, same_length}
use Rattle.base_numbered_lists.proofs.Following.{move_followed}
use Rattle.base_numbered_lists.proofs.Lists.{changed-found, length-moved, slice_get-changed, slice_get-found, slice_set_same}
use Rattle.base_numbered_lists.proofs.Numbers.{move_below, move_returned}
use Rattle.generators.specs.declared.level.Level.TheVariants as level
use Rattle.bank_parts.specs.declared.parts.Kind.{Kind}
use Rattle.bank_parts.specs.declared.parts.Kind.TheVariants.{Mono, Right, Left, Linked}
use Rattle.bank_parts.specs.declared.parts.Parts.{Parts}
use Rattle.bank_parts.specs.declared.parts.Sample.{Sample}
use Rattle.bank_parts.specs.declared.parts.Zone.{Zone}
use Rattle.bank_parts.specs.declared.parts.ZoneOwner.{ZoneOwner}
use Rattle.bank_parts.specs.Owners.{zone_count_at, target_at}
use Rattle.bank_parts.specs.Links.{IfLinked}
use Rattle.bank_parts.specs.Renumbered.{kind_renumbered, sample_renumbered, zone_renumbered, owner_renumbered, samples_renumbered}
use Rattle.bank_parts.specs.Settings.{zones_changed}
use Rattle.bank_parts.specs.Valid.{IsValid, IsInstrument, IsSample, IsZone}
use Rattle.bank_parts.proofs.RoomLaws.{set-twice}
use Rattle.bank_changes.specs.declared.sample_moves.SampleMove.{SampleMove}
use Rattle.bank_changes.specs.SampleMoves.{IsMove, AreMoves, list_moved, samples_moved}
use Rattle.bank_changes.specs.SampleNumbers.{AreNumbers, number_along, number_in}
use Rattle.bank_parts.specs.Renumbered.{kind_with, sample_with, zone_with, owner_with}
use Rattle.bank_changes.specs.SampleNumbers.{LinksBelow, TargetsBelow}
use Rattle.bank_changes.proofs.Everywhere.{all_weaker}
use Rattle.bank_changes.proofs.SampleMoveLaws.{all_list_moved, renumbered_along, arranged_moved}

-- ---- the table

range_suc : (a n : ℕ) → range_with_len a (suc n) ≡ range_with_len a n ++ (a + n) ∷ []
range_suc a zero = let same : a ≡ a + 0 = omega arith in λ i. same i ∷ []
range_suc a (suc n) =
    let same : a + 1 + n ≡ a + suc n = omega arith in
    ap (λ xs. a ∷ xs) (range_suc (a + 1) n ∙ ap (λ m. range_with_len (a + 1) n ++ m ∷ []) same)

pub range_more : (n : ℕ) → range_with_len 0 (n + 1) ≡ range_with_len 0 n ++ n ∷ []
range_more n =
    let next : n + 1 ≡ suc n = omega arith in
    let same : 0 + n ≡ n = omega arith in
    ap (range_with_len 0) next ∙ (range_suc 0 n ∙ ap (λ m. range_with_len 0 n ++ m ∷ []) same)

pub numbers_start : (numbers : List ℕ) → numbers ≡ range_with_len 0 (length numbers)
    → AreNumbers (length numbers) [] numbers
numbers_start numbers e = record {
  size = refl;
  after = λ k h. ap (λ ns. slice_get ns k) e ∙ (slice_get-get_or (range_with_len 0 (length numbers)) k 0 (let s = length-range_with_len 0 (length numbers) in omega (arith, s)) ∙ ap Some (get_or-range_with_len 0 (length numbers) k 0 h ∙ omega arith));
}

pub numbers_more : (n : ℕ) (ms : List SampleMove) (m : SampleMove) (numbers : List ℕ) → IsMove n m → AreNumbers n ms numbers
    → AreNumbers n (m ∷ ms) (moved numbers m.to m.from)
numbers_more n ms m numbers is t =
    let size = t.size in
    let from : m.from < length numbers = let h = is.from in omega (arith, size, h) in
    let to : m.to < length numbers = let h = is.to in omega (arith, size, h) in
    record {
      size = length-moved numbers m.to m.from to from ∙ size;
      after =
          λ k h.
          let number = renumbered (Move m.from m.to) k in
          sym (ap (λ j. slice_get (moved numbers m.to m.from) j) (move_returned m.from m.to k))
          ∙ (move_followed numbers m.to m.from number to from
          ∙ t.after number (move_below m.from m.to k n is.from is.to h));
    }

-- the moves from number i on, with move i first
pub next_numbers : (n : ℕ) (ms : List SampleMove) (i : ℕ) (d : SampleMove) (numbers : List ℕ) → i < length ms
    → AreMoves n ms → AreNumbers n (drop (i + 1) ms) numbers
    → AreNumbers n (drop i ms) (moved numbers (get_or ms i d).to (get_or ms i d).from)
next_numbers n ms i d numbers lt moves t =
    let m = get_or ms i d in
    let is : IsMove n m = All-get_or (IsMove n) ms i d lt (All-from_recursion (IsMove n) ms moves) in
    let cons : drop i ms ≡ m ∷ drop (i + 1) ms =
    drop-cons ms i d lt ∙ (let a : i + 1 ≡ suc i = omega arith in rw a refl) in
    subst (λ rest. AreNumbers n rest (moved numbers m.to m.from)) (sym cons)
    (numbers_more n (drop (i + 1) ms) m numbers is t)

-- ---- the zones of an owner

pub counted : {H : Type 0} (owners : List (ZoneOwner H)) (i n : ℕ) (x : ZoneOwner H) → slice_get owners i ≡ Some x
    → zone_count_at owners i ≡ Some n → n ≡ length x.zones
counted {H} owners i n x at count =
    let size : Some (length x.zones) ≡ Some n =
    sym (ap (option_map (λ (y : ZoneOwner H). length y.zones)) at) ∙ count in
    subst (λ (o : Option ℕ). IfSome o (λ m. m ≡ length x.zones)) size refl

module _ {H : Type 0} (f : ℕ → ℕ) (owners : List (ZoneOwner H)) (i : ℕ) where
  abbrev so_far : ℕ → List Zone → List Zone
  so_far k zones = map (zone_with f) (take k zones) ++ drop k zones

  abbrev with : List Zone → ZoneOwner H → ZoneOwner H
  with zones x = record x { zones = zones }

  module _ (x : ZoneOwner H) (at : slice_get owners i ≡ Some x) where
    now_at : (k : ℕ) → slice_get (zones_changed owners i (so_far k)) i ≡ Some (with (so_far k x.zones) x)
    now_at k = slice_get-changed owners i (λ (y : ZoneOwner H). with (so_far k y.zones) y) x at

    pub zones_start : owners ≡ zones_changed owners i (so_far 0)
    zones_start =
        sym
        (changed-found owners i (λ (y : ZoneOwner H). with (so_far 0 y.zones) y) x at
        ∙ slice_set_same owners i x at)

    pub zone_there : (k n : ℕ) → zone_count_at owners i ≡ Some n → k < n
        → IsSomeAnd (zone_count_at (zones_changed owners i (so_far k)) i) (λ count. k < count)
    zone_there k n count h =
        let size : Some (length x.zones) ≡ Some n =
        sym (ap (option_map (λ (y : ZoneOwner H). length y.zones)) at) ∙ count in
        let now : zone_count_at (zones_changed owners i (so_far k)) i ≡ Some n =
        ap (option_map (λ (y : ZoneOwner H). length y.zones)) (now_at k)
        ∙ (ap Some (same_length (zone_with f) x.zones k) ∙ size) in
        subst (λ o. IsSomeAnd o (λ count. k < count)) (sym now) h

    pub zone_below : (k n : ℕ) → k < length x.zones → TargetsBelow n x
        → IfSome (target_at (zones_changed owners i (so_far k)) i k) (λ target. target < n)
    zone_below k n h below =
        let (z, e) = slice_get-found x.zones k h in
        let now : target_at (zones_changed owners i (so_far k)) i k ≡ Some z.target =
        ap (λ o. option_map (λ (z : Zone). z.target) (option_and_then (λ (y : ZoneOwner H). slice_get y.zones k) o)) (now_at k)
        ∙ ap (option_map (λ (z : Zone). z.target)) (next_same (zone_with f) x.zones k ∙ e) in
        let fits : z.target < n =
        subst (λ (z : Zone). z.target < n) (get_or_from_slice_get x.zones k z z e)
        (All-get_or (λ (z : Zone). z.target < n) x.zones k z h
        (All-from_recursion (λ (z : Zone). z.target < n) x.zones below)) in
        subst (λ o. IfSome o (λ target. target < n)) (sym now) fits

    pub zone_done : (k : ℕ) → k < length x.zones
        → zones_changed (zones_changed owners i (so_far k)) i (λ zones. changed zones k (zone_with f))
        ≡ zones_changed owners i (so_far (k + 1))
    zone_done k h =
        let (z, e) = slice_get-found x.zones k h in
        let now = zones_changed owners i (so_far k) in
        let there : ZoneOwner H = with (so_far k x.zones) x in
        changed-found now i (λ (y : ZoneOwner H). with (changed y.zones k (zone_with f)) y) there (now_at k)
        ∙ (ap (λ os. set os i (with (changed (so_far k x.zones) k (zone_with f)) x))
        (changed-found owners i (λ (y : ZoneOwner H). with (so_far k y.zones) y) x at)
        ∙ (set-twice owners i there (with (changed (so_far k x.zones) k (zone_with f)) x)
        ∙ (ap (λ zones. set owners i (with zones x)) (next_changed (zone_with f) x.zones k z e)
        ∙ sym (changed-found owners i (λ (y : ZoneOwner H). with (so_far (k + 1) y.zones) y) x at))))

    pub zones_done : (k : ℕ) → length x.zones ≤ k
        → zones_changed owners i (so_far k) ≡ changed owners i (owner_with f)
    zones_done k h =
        changed-found owners i (λ (y : ZoneOwner H). with (so_far k y.zones) y) x at
        ∙ (ap (λ zones. set owners i (with zones x)) (all_done (zone_with f) x.zones k h)
        ∙ sym (changed-found owners i (owner_with f) x at))

-- ---- one renumbering for all moves

kind_along : (by : Renumbering) (g : ℕ → ℕ) (kind : Kind)
    → kind_with g (kind_renumbered by kind) ≡ kind_with (λ n. g (renumbered by n)) kind
kind_along by g Mono = refl
kind_along by g (Right link) = refl
kind_along by g (Left link) = refl
kind_along by g (Linked link) = refl

samples_along : (by : Renumbering) (g : ℕ → ℕ) (ss : List Sample)
    → map (sample_with g) (map (sample_renumbered by) ss) ≡ map (sample_with (λ n. g (renumbered by n))) ss
samples_along by g [] = refl
samples_along by g (s ∷ ss) = λ i. record s { kind = kind_along by g s.kind i } ∷ samples_along by g ss i

zones_along : (by : Renumbering) (g : ℕ → ℕ) (zs : List Zone)
    → map (zone_with g) (map (zone_renumbered by) zs) ≡ map (zone_with (λ n. g (renumbered by n))) zs
zones_along by g [] = refl
zones_along by g (z ∷ zs) = ap (λ rest. zone_with (λ n. g (renumbered by n)) z ∷ rest) (zones_along by g zs)

owners_along : {H : Type 0} (by : Renumbering) (g : ℕ → ℕ) (xs : List (ZoneOwner H))
    → map (owner_with g) (map (owner_renumbered by) xs) ≡ map (owner_with (λ n. g (renumbered by n))) xs
owners_along by g [] = refl
owners_along by g (x ∷ xs) = λ i. record x { zones = zones_along by g x.zones i } ∷ owners_along by g xs i

-- ---- no move

kind_same : (kind : Kind) → kind_with (number_along []) kind ≡ kind
kind_same Mono = refl
kind_same (Right link) = refl
kind_same (Left link) = refl
kind_same (Linked link) = refl

samples_same : (ss : List Sample) → map (sample_with (number_along [])) ss ≡ ss
samples_same [] = refl
samples_same (s ∷ ss) = λ i. record s { kind = kind_same s.kind i } ∷ samples_same ss i

zones_same : (zs : List Zone) → map (zone_with (number_along [])) zs ≡ zs
zones_same [] = refl
zones_same (z ∷ zs) = ap (λ rest. z ∷ rest) (zones_same zs)

owners_same : {H : Type 0} (xs : List (ZoneOwner H)) → map (owner_with (number_along [])) xs ≡ xs
owners_same [] = refl
owners_same (x ∷ xs) = λ i. record x { zones = zones_same x.zones i } ∷ owners_same xs i

-- targets and links of a bank, each replaced by f of it
abbrev bank_with : (ℕ → ℕ) → Parts → Parts
bank_with f b =
    record b { samples = map (sample_with f) b.samples; instruments = map (owner_with f) b.instruments }

along : (b : Parts) (ms : List SampleMove) → bank_with (number_along ms) b ≡ renumbered_along b ms
along b [] = λ i. record b { samples = samples_same b.samples i; instruments = owners_same b.instruments i }
along b (m ∷ ms) =
    let by = Move m.from m.to in
    let once : bank_with (number_along ms) (samples_renumbered by b) ≡ bank_with (number_along (m ∷ ms)) b =
    λ i. record b {
      samples = samples_along by (number_along ms) b.samples i;
      instruments = owners_along by (number_along ms) b.instruments i;
    } in
    sym once ∙ along (samples_renumbered by b) ms

-- ---- the table in place of the moves

module _ (n : ℕ) (ms : List SampleMove) (numbers : List ℕ) (t : AreNumbers n ms numbers) where
  number_same : (k : ℕ) → k < n → number_in numbers k ≡ number_along ms k
  number_same k h = get_or_from_slice_get numbers k (number_along ms k) 0 (t.after k h)

  link_same : (kind : Kind) → IfLinked (λ link. link < n) kind
      → kind_with (number_in numbers) kind ≡ kind_with (number_along ms) kind
  link_same Mono h = refl
  link_same (Right link) h = ap Right (number_same link h)
  link_same (Left link) h = ap Left (number_same link h)
  link_same (Linked link) h = ap Linked (number_same link h)

  links_same : (ss : List Sample) → AllByRecursion (LinksBelow n) ss
      → map (sample_with (number_in numbers)) ss ≡ map (sample_with (number_along ms)) ss
  links_same [] h = refl
  links_same (s ∷ ss) h = λ i. record s { kind = link_same s.kind h.0 i } ∷ links_same ss h.1 i

  zone_targets_same : (zs : List Zone) → AllByRecursion (λ (z : Zone). z.target < n) zs
      → map (zone_with (number_in numbers)) zs ≡ map (zone_with (number_along ms)) zs
  zone_targets_same [] h = refl
  zone_targets_same (z ∷ zs) h =
      λ i. record z { target = number_same z.target h.0 i } ∷ zone_targets_same zs h.1 i

  targets_same : {H : Type 0} (xs : List (ZoneOwner H)) → AllByRecursion (TargetsBelow n) xs
      → map (owner_with (number_in numbers)) xs ≡ map (owner_with (number_along ms)) xs
  targets_same [] h = refl
  targets_same (x ∷ xs) h = λ i. record x { zones = zone_targets_same x.zones h.0 i } ∷ targets_same xs h.1 i

-- ---- the whole bank

zones_below : (n : ℕ) (zs : List Zone) → AllByRecursion (IsZone level.Inst n) zs
    → AllByRecursion (λ (z : Zone). z.target < n) zs
zones_below n zs h = all_weaker (IsZone level.Inst n) (λ (z : Zone). z.target < n) (λ z v. v.target) zs h

module _ (b : Parts) (ms : List SampleMove) (v : IsValid b) (h : AreMoves (length b.samples) ms)
    (numbers : List ℕ) (t : AreNumbers (length b.samples) ms numbers) where
  pub targets_below : AllByRecursion (TargetsBelow (length b.samples)) b.instruments
  targets_below =
      all_weaker (IsInstrument (length b.samples)) (TargetsBelow (length b.samples))
      (λ x own. zones_below (length b.samples) x.zones own.zones.zones) b.instruments v.instruments

  pub links_below : AllByRecursion (LinksBelow (length b.samples)) (list_moved b.samples ms)
  links_below =
      all_list_moved (LinksBelow (length b.samples)) b.samples ms h
      (all_weaker (IsSample (length b.samples)) (LinksBelow (length b.samples)) (λ s own. own.kind) b.samples v.samples)

  pub numbered_moved : (let t : Parts = record b {
    samples = map (sample_with (number_in numbers)) (list_moved b.samples ms);
    instruments = map (owner_with (number_in numbers)) b.instruments;
  } in t) ≡ samples_moved b ms
  numbered_moved =
      let links = links_same (length b.samples) ms numbers t (list_moved b.samples ms) links_below in
      let targets = targets_same (length b.samples) ms numbers t b.instruments targets_below in
      (λ i. record b { samples = links i; instruments = targets i })
      ∙ (along (let t : Parts = record b { samples = list_moved b.samples ms } in t) ms
      ∙ arranged_moved b ms (list_moved b.samples ms) h refl)
