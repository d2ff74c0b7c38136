-- Lists that are joined of two, the second with its members changed.
use Rattle.std.proofs.Common.{◌≡◌, ◌+◌, ◌<◌, ℕ, zero, suc, List, [], ◌∷◌, ◌++◌, length, map, Option, Some, None}
use Rattle.std.proofs.Common.{slice_get, refl, sym, ap, ◌∙◌, arith}
use Rattle.std.specs.Option.{option_map}
use Rattle.std.proofs.lemmas.Option.{slice_get-map}
use Rattle.bank_parts.specs.declared.parts.Zone.{Zone}
use Rattle.bank_parts.specs.declared.parts.ZoneOwner.{ZoneOwner}
use Rattle.bank_parts.specs.declared.parts.Sample.{Sample}
use Rattle.bank_parts.specs.Owners.{with_head, head_at}
use Rattle.plan_take.specs.Matches.{AreBoth, SamplesMatch, ZonesMatch, OwnersMatch}
use Rattle.plan_take.specs.Shifted.{zone_shifted, targets_shifted, kind_shifted, sample_shifted}

pub same_members : {X : Type 0} (xs ys : List X) → length xs ≡ length ys
    → ((i : ℕ) → i < length xs → slice_get xs i ≡ slice_get ys i) → xs ≡ ys
same_members [] [] l h = refl
same_members [] (y ∷ ys) l h = absurd (omega (arith, l))
same_members (x ∷ xs) [] l h = absurd (omega (arith, l))
same_members (x ∷ xs) (y ∷ ys) l h =
    let first : x ≡ y = (let e = h zero (omega arith) in cc) in
    let rest = same_members xs ys (omega (arith, l)) (λ i lt. h (suc i) (omega arith)) in
    λ i. first i ∷ rest i

pub length-mapped : {X Y : Type 0} (f : X → Y) (xs : List X) → length (map f xs) ≡ length xs
length-mapped f [] = refl
length-mapped f (x ∷ xs) = ap suc (length-mapped f xs)

pub joined : {X Y : Type 0} (f : X → Y) (xs : List Y) (ys : List X) (zs : List Y) → length zs ≡ length xs + length ys
    → ((i : ℕ) → i < length xs → slice_get zs i ≡ slice_get xs i)
    → ((i : ℕ) → i < length ys → slice_get zs (length xs + i) ≡ option_map f (slice_get ys i)) → zs ≡ xs ++ map f ys
joined f [] ys zs l h g =
    let as_many : length zs ≡ length ys = omega (arith, l) in
    same_members zs (map f ys) (as_many ∙ sym (length-mapped f ys))
    (λ i lt.
    (let same : i ≡ 0 + i = omega arith in
    ap (slice_get zs) same ∙ g i (omega (arith, as_many)) ∙ sym (slice_get-map f ys i)))
joined f (x ∷ xs) ys [] l h g = absurd (omega (arith, l))
joined f (x ∷ xs) ys (z ∷ zs) l h g =
    let first : z ≡ x = (let e = h zero (omega arith) in cc) in
    let next : (i : ℕ) → suc (length xs + i) ≡ suc (length xs) + i = λ i. omega arith in
    let rest = joined f xs ys zs (omega (arith, l)) (λ i lt. h (suc i) (omega arith))
    (λ i lt. ap (slice_get (z ∷ zs)) (next i) ∙ g i lt) in
    λ i. first i ∷ rest i

-- the members of the second list, by number
pub added_at : {X Y : Type 0} (f : X → Y) (xs : List Y) (ys : List X) (i : ℕ)
    → slice_get (xs ++ map f ys) (length xs + i) ≡ option_map f (slice_get ys i)
added_at f [] ys i =
    let same : 0 + i ≡ i = omega arith in ap (slice_get (map f ys)) same ∙ slice_get-map f ys i
added_at f (x ∷ xs) ys i =
    let next : suc (length xs) + i ≡ suc (length xs + i) = omega arith in
    ap (slice_get (x ∷ (xs ++ map f ys))) next ∙ added_at f xs ys i

-- ---- samples

pub same_shifted : (n : ℕ) (s t : Sample) → s.name ≡ t.name → s.kind ≡ kind_shifted n t.kind → SamplesMatch s t
    → s ≡ sample_shifted n t
same_shifted n s t name kind m = λ i. record {
  name = name i;
  points = m.points i;
  looped = m.looped i;
  rate = m.rate i;
  key = m.key i;
  correction = m.correction i;
  kind = kind i;
}

-- ---- presets and instruments

-- targets that are increased
abbrev pub Adds : ℕ → ℕ → ℕ → Type 0
Adds n t s = s ≡ n + t

shifted_zone : (n : ℕ) (T : ℕ → ℕ → Type 0) → ((t s : ℕ) → T t s → Adds n t s) → (o p : Option Zone)
    → AreBoth (ZonesMatch T) o p → p ≡ option_map (zone_shifted n) o
shifted_zone n T adds None p m = absurd m
shifted_zone n T adds (Some z) None m = absurd m
shifted_zone n T adds (Some z) (Some w) m =
    let target = adds z.target w.target m.target in
    λ i. Some (record { target = target i; gens = sym m.gens i; mods = sym m.mods i })

shifted_zones : (n : ℕ) (T : ℕ → ℕ → Type 0) → ((t s : ℕ) → T t s → Adds n t s) → (zs ws : List Zone)
    → length zs ≡ length ws
    → ((k : ℕ) → k < length zs → AreBoth (ZonesMatch T) (slice_get zs k) (slice_get ws k))
    → ws ≡ map (zone_shifted n) zs
shifted_zones n T adds zs ws l m =
    same_members ws (map (zone_shifted n) zs) (sym l ∙ sym (length-mapped (zone_shifted n) zs))
    (λ k lt.
    shifted_zone n T adds (slice_get zs k) (slice_get ws k) (m k (omega (arith, l)))
    ∙ sym (slice_get-map (zone_shifted n) zs k))

-- an owner with its head changed by f, and its targets increased
abbrev pub changed_and_shifted : {H : Type 0} → (H → H) → ℕ → ZoneOwner H → ZoneOwner H
changed_and_shifted f n x = with_head (f x.head) (targets_shifted n x)

shifted_owner : {H : Type 0} (f : H → H) (n : ℕ) (T : ℕ → ℕ → Type 0) → ((t s : ℕ) → T t s → Adds n t s)
    → (o p : Option (ZoneOwner H)) → AreBoth (OwnersMatch T) o p
    → option_map (λ (x : ZoneOwner H). x.head) p ≡ option_map f (option_map (λ (x : ZoneOwner H). x.head) o)
    → p ≡ option_map (changed_and_shifted f n) o
shifted_owner f n T adds None p m h = absurd m
shifted_owner f n T adds (Some x) None m h = absurd m
shifted_owner f n T adds (Some x) (Some y) m h =
    let head : y.head ≡ f x.head = cc in
    let zones = shifted_zones n T adds x.zones y.zones m.count m.zones in
    λ i. Some (record { head = head i; global = sym m.global i; zones = zones i })

pub joined_owners : {H : Type 0} (f : H → H) (n : ℕ) (T : ℕ → ℕ → Type 0) → ((t s : ℕ) → T t s → Adds n t s)
    → (first added all : List (ZoneOwner H)) (k : ℕ) → k ≡ length first → length all ≡ length first + length added
    → ((i : ℕ) → i < length first → slice_get all i ≡ slice_get first i)
    → ((i : ℕ) → i < length added → AreBoth (OwnersMatch T) (slice_get added i) (slice_get all (k + i)))
    → ((i : ℕ) → i < length added → head_at all (k + i) ≡ option_map f (head_at added i))
    → all ≡ first ++ map (changed_and_shifted f n) added
joined_owners f n T adds first added all k e l same zones heads =
    joined (changed_and_shifted f n) first added all l same
    (λ i lt.
    ap (λ m. slice_get all (m + i)) (sym e)
    ∙ shifted_owner f n T adds (slice_get added i) (slice_get all (k + i)) (zones i lt) (heads i lt))

option_same : {X : Type 0} (o : Option X) → option_map (λ x. x) o ≡ o
option_same None = refl
option_same (Some x) = refl

-- the same with equal heads
pub joined_names : {H : Type 0} (n : ℕ) (T : ℕ → ℕ → Type 0) → ((t s : ℕ) → T t s → Adds n t s)
    → (first added all : List (ZoneOwner H)) (k : ℕ) → k ≡ length first → length all ≡ length first + length added
    → ((i : ℕ) → i < length first → slice_get all i ≡ slice_get first i)
    → ((i : ℕ) → i < length added → AreBoth (OwnersMatch T) (slice_get added i) (slice_get all (k + i)))
    → ((i : ℕ) → i < length added → head_at all (k + i) ≡ head_at added i)
    → all ≡ first ++ map (targets_shifted n) added
joined_names n T adds first added all k e l same zones heads =
    joined_owners (λ h. h) n T adds first added all k e l same zones
    (λ i lt. heads i lt ∙ sym (option_same (head_at added i)))
