-- The first preset that can't be added with its bank number increased.
use Rattle.std.proofs.Common.{◌≡◌, ◌+◌, ◌<◌, ◌≤◌, ℕ, zero, suc, Bool, cond, List, [], ◌∷◌, ◌++◌}
use Rattle.std.proofs.Common.{Option, Some, None, length, map, take, drop, refl, sym, ap, ◌∙◌, arith}
use Rattle.std.specs.Option.{option_or}
use Rattle.std.specs.List.Sorted.{IsPermutation}
use Rattle.std.proofs.lemmas.Bool.{lt-ltb, le-ltb}
use Rattle.bank_parts.specs.declared.parts.Head.{Head}
use Rattle.bank_parts.specs.declared.parts.ZoneOwner.{ZoneOwner}
use Rattle.bank_parts.specs.declared.parts.Parts.{Parts}
use Rattle.bank_parts.specs.Owners.{head_at}
use Rattle.plan_presets.specs.declared.fault.PresetFault.{PresetFault}
use Rattle.plan_presets.specs.declared.fault.PresetFault.TheVariants.{InUse, BankTooHigh}
use Rattle.plan_take.specs.Taking.{has_preset}
use Rattle.plan_take.specs.Sorted.{pair_of, has_pair}
use Rattle.plan_take.specs.Merging.{shift_fault, shifted_numbers, first_shift_fault, BANKS}
use Rattle.plan_take.proofs.SortedLaws.{used_in}

-- the numbers of the presets before the next
pub pairs_next : (ps : List (ZoneOwner Head)) (i : ℕ) (h : Head) → head_at ps i ≡ Some h
    → map pair_of (take i ps) ++ (h.bank, h.number) ∷ [] ≡ map pair_of (take (suc i) ps)
pairs_next [] i h e = absurd cc
pairs_next (p ∷ ps) zero h e = let same : p.head ≡ h = cc in ap (λ (x : Head). (x.bank, x.number) ∷ []) (sym same)
pairs_next (p ∷ ps) (suc i) h e = ap (λ xs. pair_of p ∷ xs) (pairs_next ps i h e)

-- ---- one preset

-- where the bank number fits, it depends on whether the numbers are in use
fault_if_fits : (b : Parts) (shift : ℕ) (h : Head) (used : Bool) → h.bank + shift < BANKS
    → used ≡ has_preset b.presets (shifted_numbers shift h)
    → cond used (Some (InUse (shifted_numbers shift h))) None ≡ shift_fault b shift h
fault_if_fits b shift h used fits e =
    let at = shifted_numbers shift h in
    let low = lt-ltb (h.bank + shift) BANKS fits in
    sym (λ i. cond (low i) (cond (sym e i) (Some (InUse at)) None) (Some (BankTooHigh (record { bank = h.bank; number = h.number }))))

-- the same by a search among the numbers in use
pub fault_if_found : (b : Parts) (shift : ℕ) (h : Head) (bank : ℕ) (pairs : List (ℕ × ℕ)) (used : Bool)
    → (h.bank + shift < BANKS) × (bank ≡ h.bank + shift) → used ≡ has_pair pairs bank h.number
    → IsPermutation (map pair_of b.presets) pairs
    → cond used (Some (InUse (record { bank = bank; number = h.number }))) None ≡ shift_fault b shift h
fault_if_found b shift h bank pairs used sum found same =
    ap (λ x. cond used (Some (InUse (record { bank = x; number = h.number }))) None) sum.1
    ∙ fault_if_fits b shift h used sum.0
    (found ∙ ap (λ x. has_pair pairs x h.number) sum.1 ∙ used_in b.presets pairs (shifted_numbers shift h) same)

pub fault_if_high : (b : Parts) (shift : ℕ) (h : Head) → BANKS ≤ h.bank + shift
    → Some (BankTooHigh (record { bank = h.bank; number = h.number })) ≡ shift_fault b shift h
fault_if_high b shift h high =
    let at = shifted_numbers shift h in
    let low = le-ltb (h.bank + shift) BANKS high in
    sym (λ i. cond (low i) (cond (has_preset b.presets at) (Some (InUse at)) None) (Some (BankTooHigh (record { bank = h.bank; number = h.number }))))

-- ---- a list of presets

-- the fault of the next preset, or the first of the rest
pub shift_from : (b : Parts) (shift : ℕ) (ps : List (ZoneOwner Head)) (i : ℕ) (h : Head) (r : Option PresetFault)
    → head_at ps i ≡ Some h → r ≡ shift_fault b shift h
    → first_shift_fault b shift (drop i ps) ≡ option_or r (first_shift_fault b shift (drop (suc i) ps))
unfolding first_shift_fault
shift_from b shift [] i h r at e = absurd cc
shift_from b shift (p ∷ ps) zero h r at e =
    let same : p.head ≡ h = cc in
    ap (λ o. option_or o (first_shift_fault b shift ps)) (ap (shift_fault b shift) same ∙ sym e)
shift_from b shift (p ∷ ps) (suc i) h r at e = shift_from b shift ps i h r at e

pub no_more : (b : Parts) (shift : ℕ) (ps : List (ZoneOwner Head)) (i : ℕ) → length ps ≤ i
    → first_shift_fault b shift (drop i ps) ≡ None
unfolding first_shift_fault
no_more b shift [] zero h = refl
no_more b shift [] (suc i) h = refl
no_more b shift (p ∷ ps) zero h = absurd (omega arith)
no_more b shift (p ∷ ps) (suc i) h = no_more b shift ps i (omega arith)
