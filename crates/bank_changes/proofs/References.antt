-- The references of a bank after a renumbering and after its inverse.
use Rattle.std.proofs.Common.{◌≡◌, ◌<◌, ◌^◌, ◌==◌, ℕ, Bool, false, List, length, map, remove, refl, ap}
use Rattle.std.specs.List.{AllByRecursion, list_any}
use Rattle.base_numbered_lists.specs.declared.renumbering.Renumbering.{Renumbering}
use Rattle.base_numbered_lists.specs.Renumbered.{renumbered}
use Rattle.sf_base.specs.Names.{IsName}
use Rattle.generators.specs.declared.level.Level.TheVariants as level
use Rattle.bank_parts.specs.declared.parts.Kind.{Kind}
use Rattle.bank_parts.specs.declared.parts.Kind.TheVariants.{Mono, Right, Left, Linked}
use Rattle.bank_parts.specs.declared.parts.ZoneOwner.{ZoneOwner}
use Rattle.bank_parts.specs.declared.parts.Sample.{Sample}
use Rattle.bank_parts.specs.declared.parts.Parts.{Parts}
use Rattle.bank_parts.specs.Links.{IfLinked}
use Rattle.bank_parts.specs.Renumbered.{kind_renumbered, sample_renumbered, owner_renumbered, samples_renumbered}
use Rattle.bank_parts.specs.Owners.{targets}
use Rattle.bank_parts.specs.Links.{links_to}
use Rattle.bank_changes.specs.Samples.{sample_in_use}
use Rattle.bank_parts.specs.Valid.{IsInstrument, IsSample, IsValid}
use Rattle.bank_parts.specs.Fits.{Fits, FitsSample}
use Rattle.bank_changes.proofs.OwnerReferences.{OfOwners, owners_always, owners_weaker, owners_both, owners_sent}
use Rattle.bank_changes.proofs.OwnerReferences.{owners_within, owners_valid, owners_fit, owners_kept, owners_back}
use Rattle.bank_changes.proofs.OwnerReferences.{untargeted, not_targeted}
use Rattle.bank_changes.proofs.Everywhere.{all_weaker, all_always, all_map, all_sent, all_both, map_kept, map_back}
use Rattle.bank_changes.proofs.Everywhere.{or_left, or_right, or_none, none_passes, passes_none}

-- P holds of every target and link to the bank's samples
pub record OfSampleRefs (P : ℕ → Type 0) (b : Parts) : Type 0 where
  pub links : AllByRecursion (λ (s : Sample). IfLinked P s.kind) b.samples
  pub targets : OfOwners P b.instruments

-- ---- weaker properties

pub link_weaker : (P Q : ℕ → Type 0) → ((x : ℕ) → P x → Q x) → (k : Kind) → IfLinked P k → IfLinked Q k
link_weaker P Q to Mono h = tt
link_weaker P Q to (Right x) h = to x h
link_weaker P Q to (Left x) h = to x h
link_weaker P Q to (Linked x) h = to x h

link_always : (P : ℕ → Type 0) → ((x : ℕ) → P x) → (k : Kind) → IfLinked P k
link_always P h Mono = tt
link_always P h (Right x) = h x
link_always P h (Left x) = h x
link_always P h (Linked x) = h x

pub refs_weaker : (P Q : ℕ → Type 0) → ((x : ℕ) → P x → Q x) → (b : Parts) → OfSampleRefs P b → OfSampleRefs Q b
refs_weaker P Q to b h = record {
  links =
      all_weaker (λ (s : Sample). IfLinked P s.kind) (λ (s : Sample). IfLinked Q s.kind) (λ s. link_weaker P Q to s.kind)
      b.samples h.links;
  targets = owners_weaker P Q to b.instruments h.targets;
}

pub refs_always : (P : ℕ → Type 0) → ((x : ℕ) → P x) → (b : Parts) → OfSampleRefs P b
refs_always P h b = record {
  links = all_always (λ (s : Sample). IfLinked P s.kind) (λ s. link_always P h s.kind) b.samples;
  targets = owners_always P h b.instruments;
}

link_both : (P Q : ℕ → Type 0) (k : Kind) → IfLinked P k → IfLinked Q k → IfLinked (λ x. P x × Q x) k
link_both P Q Mono h g = tt
link_both P Q (Right x) h g = (h, g)
link_both P Q (Left x) h g = (h, g)
link_both P Q (Linked x) h g = (h, g)

pub refs_both : (P Q : ℕ → Type 0) (b : Parts) → OfSampleRefs P b → OfSampleRefs Q b → OfSampleRefs (λ x. P x × Q x) b
refs_both P Q b h g = record {
  links =
      all_both (λ (s : Sample). IfLinked P s.kind) (λ (s : Sample). IfLinked Q s.kind)
      (λ (s : Sample). IfLinked (λ x. P x × Q x) s.kind) (λ s. link_both P Q s.kind) b.samples h.links g.links;
  targets = owners_both P Q b.instruments h.targets g.targets;
}

module _ (P Q : ℕ → Type 0) (by : Renumbering) (to : (x : ℕ) → P x → Q (renumbered by x)) where
  pub link_sent : (k : Kind) → IfLinked P k → IfLinked Q (kind_renumbered by k)
  link_sent Mono h = tt
  link_sent (Right x) h = to x h
  link_sent (Left x) h = to x h
  link_sent (Linked x) h = to x h

  -- a property of the renumbered references
  pub refs_renumbered : (b : Parts) → OfSampleRefs P b → OfSampleRefs Q (samples_renumbered by b)
  refs_renumbered b h = record {
    links =
        all_sent (λ (s : Sample). IfLinked P s.kind) (λ (s : Sample). IfLinked Q s.kind) (sample_renumbered by)
        (λ s. link_sent s.kind) b.samples h.links;
    targets = owners_sent P Q by to b.instruments h.targets;
  }

-- ---- the references of a valid bank

pub refs_within : (b : Parts) → IsValid b → OfSampleRefs (λ x. x < length b.samples) b
refs_within b v =
    let n : ℕ = length b.samples in
    record {
      links = all_weaker (IsSample n) (λ (s : Sample). IfLinked (λ x. x < n) s.kind) (λ s h. h.kind) b.samples v.samples;
      targets = owners_within (λ name. name) level.Inst n b.instruments v.instruments;
    }

-- ---- validity after renumbering

module _ (P : ℕ → Type 0) (by : Renumbering) (n m : ℕ) (to : (x : ℕ) → P x → renumbered by x < m) where
  pub samples_valid : (ss : List Sample) → AllByRecursion (IsSample n) ss
      → AllByRecursion (λ (s : Sample). IfLinked P s.kind) ss
      → AllByRecursion (IsSample m) (map (sample_renumbered by) ss)
  samples_valid = all_map (IsSample n) (λ (s : Sample). IfLinked P s.kind) (IsSample m) (sample_renumbered by)
      (λ s v h. record { name = v.name; looped = v.looped; kind = link_sent P (λ x. x < m) by to s.kind h })

  pub instruments_valid : (is : List (ZoneOwner (List ℕ))) → AllByRecursion (IsInstrument n) is → OfOwners P is
      → AllByRecursion (IsInstrument m) (map (owner_renumbered by) is)
  instruments_valid = owners_valid (λ name. name) level.Inst n P by m to

-- ---- ranges of fields

module _ (by : Renumbering) (n : ℕ) (to : (x : ℕ) → x < n → renumbered by x < 2 ^ 16) where
  pub fits_refs : (b : Parts) → Fits b → OfSampleRefs (λ x. x < n) b → Fits (samples_renumbered by b)
  fits_refs b f h = record {
    minor = f.minor;
    texts = f.texts;
    presets = f.presets;
    instruments = owners_fit IsName (λ x. x < n) by to b.instruments f.instruments h.targets;
    samples = all_map FitsSample (λ (s : Sample). IfLinked (λ x. x < n) s.kind) FitsSample (sample_renumbered by)
        (λ s g h.
        record {
          name =
              g.name;
          points =
              g.points;
          looped =
              g.looped;
          rate =
              g.rate;
          key =
              g.key;
          correction =
              g.correction;
          kind =
              link_sent (λ x. x < n) (λ x. x < 2 ^ 16) by to s.kind h;
        })
        b.samples f.samples h.links;
  }

-- ---- references that a renumbering keeps, or restores

module _ (by : Renumbering) where
  kind_kept : (k : Kind) → IfLinked (λ x. renumbered by x ≡ x) k → kind_renumbered by k ≡ k
  kind_kept Mono h = refl
  kind_kept (Right x) h = ap Right h
  kind_kept (Left x) h = ap Left h
  kind_kept (Linked x) h = ap Linked h

  pub refs_kept : (b : Parts) → OfSampleRefs (λ x. renumbered by x ≡ x) b → samples_renumbered by b ≡ b
  refs_kept b h =
      let links : map (sample_renumbered by) b.samples ≡ b.samples =
      map_kept (sample_renumbered by) b.samples (all_weaker
      (λ (s : Sample). IfLinked (λ x. renumbered by x ≡ x) s.kind) (λ (s : Sample). sample_renumbered by s ≡ s)
      (λ s k. ap (λ (kind : Kind). let t : Sample = record s { kind = kind } in t)
      (kind_kept s.kind k)) b.samples h.links) in
      let targets = owners_kept by b.instruments h.targets in
      λ i. record b { samples = links i; instruments = targets i }

module _ (by back : Renumbering) where
  kind_back : (k : Kind) → IfLinked (λ x. renumbered back (renumbered by x) ≡ x) k
      → kind_renumbered back (kind_renumbered by k) ≡ k
  kind_back Mono h = refl
  kind_back (Right x) h = ap Right h
  kind_back (Left x) h = ap Left h
  kind_back (Linked x) h = ap Linked h

  pub refs_back : (b : Parts) → OfSampleRefs (λ x. renumbered back (renumbered by x) ≡ x) b
      → samples_renumbered back (samples_renumbered by b) ≡ b
  refs_back b h =
      let links : map (sample_renumbered back) (map (sample_renumbered by) b.samples) ≡ b.samples =
      map_back (sample_renumbered by) (sample_renumbered back) b.samples
      (all_weaker (λ (s : Sample). IfLinked (λ x. renumbered back (renumbered by x) ≡ x) s.kind)
      (λ (s : Sample). sample_renumbered back (sample_renumbered by s) ≡ s)
      (λ s k. ap (λ (kind : Kind). let t : Sample = record s { kind = kind } in t)
      (kind_back s.kind k)) b.samples h.links) in
      let targets = owners_back by back b.instruments h.targets in
      λ i. record b { samples = links i; instruments = targets i }

-- ---- a number that nothing refers to

not_linked : (i : ℕ) (k : Kind) → links_to i k ≡ false → IfLinked (λ x. (x == i) ≡ false) k
not_linked i Mono h = tt
not_linked i (Right x) h = h
not_linked i (Left x) h = h
not_linked i (Linked x) h = h

linked_not : (i : ℕ) (k : Kind) → IfLinked (λ x. (x == i) ≡ false) k → links_to i k ≡ false
linked_not i Mono h = refl
linked_not i (Right x) h = h
linked_not i (Left x) h = h
linked_not i (Linked x) h = h

-- if the sample is not in use, no other reference has its number
pub unused : (b : Parts) (i : ℕ) → sample_in_use b i ≡ false
    → OfSampleRefs (λ x. (x == i) ≡ false) (record b { samples = remove b.samples i })
unfolding sample_in_use
unused b i h =
    let used : Bool = list_any (targets i) b.instruments in
    let linked : Bool = list_any (λ (s : Sample). links_to i s.kind) (remove b.samples i) in
    record {
      links =
          all_weaker (λ (s : Sample). links_to i s.kind ≡ false)
          (λ (s : Sample). IfLinked (λ x. (x == i) ≡ false) s.kind) (λ s. not_linked i s.kind) (remove b.samples i)
          (none_passes (λ (s : Sample). links_to i s.kind) (remove b.samples i) (or_right used linked h));
      targets = untargeted i b.instruments (or_left used linked h);
    }

pub not_in_use : (b : Parts) (i : ℕ)
    → OfSampleRefs (λ x. (x == i) ≡ false) (record b { samples = remove b.samples i }) → sample_in_use b i ≡ false
unfolding sample_in_use
not_in_use b i h =
    or_none (list_any (targets i) b.instruments) (list_any (λ (s : Sample). links_to i s.kind) (remove b.samples i))
    (not_targeted i b.instruments h.targets)
    (passes_none (λ (s : Sample). links_to i s.kind) (remove b.samples i)
    (all_weaker (λ (s : Sample). IfLinked (λ x. (x == i) ≡ false) s.kind)
    (λ (s : Sample). links_to i s.kind ≡ false) (λ s. linked_not i s.kind) (remove b.samples i) h.links))
