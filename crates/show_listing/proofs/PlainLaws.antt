-- A listing without details.
use Rattle.std.proofs.Common.{◌≡◌, ◌++◌, ℕ, suc, false, List, [], ◌∷◌, None, refl, codes}
use Rattle.std.proofs.lemmas.List.{append-nil}
use Rattle.bank_parts.specs.declared.parts.Sample.{Sample}
use Rattle.bank_parts.specs.declared.parts.ZoneOwner.{ZoneOwner}
use Rattle.bank_parts.specs.declared.parts.Parts.{Parts}
use Rattle.bank_format.specs.declared.fault.Counts.{Counts}
use Rattle.show_listing.specs.Listing.{listing, bank_line, counts_line, preset_line, instrument_line, sample_line}
use Rattle.show_listing.specs.Listing.{lines_from, owner_line}
use Rattle.show_listing.specs.Details.{owner_lines, sample_lines, listing_with}

-- lines that are equal member by member
same_lines : {X : Type 0} (line other : ℕ → X → List ℕ) → ((n : ℕ) (x : X) → line n x ≡ other n x)
    → (n : ℕ) (xs : List X) → lines_from line n xs ≡ lines_from other n xs
same_lines line other same n [] = refl
same_lines line other same n (x ∷ xs) = (λ i. same n x i ++ same_lines line other same (suc n) xs i)

plain_owners : {H : Type 0} (line : ℕ → H → ℕ → List ℕ) (member : List ℕ) (xs : List (ZoneOwner H))
    → lines_from (owner_lines line member None false) 0 xs ≡ lines_from (owner_line line) 0 xs
plain_owners line member xs =
    same_lines (owner_lines line member None false) (owner_line line) (λ n x. append-nil (owner_line line n x)) 0 xs

plain_samples : (xs : List Sample) → lines_from (sample_lines None) 0 xs ≡ lines_from sample_line 0 xs
plain_samples xs = same_lines (sample_lines None) sample_line (λ n s. append-nil (sample_line n s)) 0 xs

pub plain : (b : Parts) (counts : Counts) → listing_with false None b counts ≡ listing b counts
unfolding listing listing_with
plain b counts = (λ i.
    bank_line b
    ++ (counts_line counts
    ++ (plain_owners preset_line (codes "preset") b.presets i
    ++ (plain_owners instrument_line (codes "inst") b.instruments i
    ++ plain_samples b.samples i))))
