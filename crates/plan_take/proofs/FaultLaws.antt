-- The first preset of a list that can't be taken.
use Rattle.std.proofs.Common.{◌≡◌, ◌==◌, ◌&&◌, ◌||◌, ℕ, zero, suc, ◌<◌, ◌≤◌, Bool, true, false, cond, List, [], ◌∷◌, ◌++◌}
use Rattle.std.proofs.Common.{Option, Some, None, length, map, take, drop, slice_get, get_or, refl, sym, ap, subst, ◌∙◌, arith}
use Rattle.std.specs.List.{list_any, find}
use Rattle.std.specs.Option.{option_or, is_some}
use Rattle.std.proofs.lemmas.List.{append_assoc, append-nil}
use Rattle.std.proofs.lemmas.List.Folds.{list_any-append}
use Rattle.std.proofs.lemmas.Option.{slice_get-get_or}
use Rattle.bank_parts.specs.declared.parts.Head.{Head}
use Rattle.bank_parts.specs.declared.parts.ZoneOwner.{ZoneOwner}
use Rattle.bank_parts.specs.declared.parts.Parts.{Parts}
use Rattle.plan_presets.specs.declared.fault.PresetFault.{PresetFault}
use Rattle.plan_presets.specs.declared.fault.PresetFault.TheVariants.{Missing, InUse}
use Rattle.plan_presets.specs.declared.numbers.PresetNumbers.{PresetNumbers}
use Rattle.plan_presets.specs.declared.numbers.TakenPreset.{TakenPreset}
use Rattle.plan_take.specs.Taking.{has_preset, is_numbered, OfEach, IsTakeable}
use Rattle.plan_take.specs.TakeFaults.{numbers_of, numbers_in, new_numbers, is_used, fault_of, first_fault, preset_fault}

-- ---- numbers in use

pub any_of_map : {X Y : Type 0} (f : Y → Bool) (g : X → Y) (xs : List X) → list_any f (map g xs) ≡ list_any (λ x. f (g x)) xs
any_of_map f g [] = refl
any_of_map f g (x ∷ xs) = ap (λ r. f (g x) || r) (any_of_map f g xs)

some_found : {X : Type 0} (q : Bool) (x : X) (o : Option X) (r : Bool) → is_some o ≡ r
    → is_some (cond q (Some x) o) ≡ (q || r)
some_found true x o r h = refl
some_found false x o r h = h

pub find_any : {X : Type 0} (f : X → Bool) (xs : List X) → is_some (find f xs) ≡ list_any f xs
find_any f [] = refl
find_any f (x ∷ xs) = some_found (f x) x (find f xs) (list_any f xs) (find_any f xs)

-- the numbers that presets of the bank have
pub used_if_there : (presets : List (ZoneOwner Head)) (k : PresetNumbers)
    → is_used (numbers_in presets) k ≡ has_preset presets k
used_if_there presets k =
    any_of_map (λ (u : PresetNumbers). u.bank == k.bank && u.number == k.number) numbers_of presets
    ∙ sym (find_any (λ (p : ZoneOwner Head). is_numbered k p.head) presets)

-- the numbers that presets of the bank have or that other presets get
used_there : (presets : List (ZoneOwner Head)) (others : List TakenPreset) (k : PresetNumbers)
    → is_used (numbers_in presets ++ new_numbers others) k
    ≡ (has_preset presets k || list_any (λ (p : TakenPreset). p.to.bank == k.bank && p.to.number == k.number) others)
used_there presets others k =
    let f : PresetNumbers → Bool = λ u. u.bank == k.bank && u.number == k.number in
    list_any-append f (numbers_in presets) (new_numbers others)
    ∙ ap (λ r. r || list_any f (new_numbers others)) (used_if_there presets k)
    ∙ ap (λ r. has_preset presets k || r) (any_of_map f (λ (p : TakenPreset). p.to) others)

-- some of the presets gets these numbers
abbrev pub are_given : List TakenPreset → PresetNumbers → Bool
are_given presets k = list_any (λ (p : TakenPreset). p.to.bank == k.bank && p.to.number == k.number) presets

-- the fault of a preset whose numbers are in use, and of one whose numbers are free
pub fault_if_used : (from b : Parts) (others : List TakenPreset) (p : TakenPreset)
    → has_preset from.presets p.from ≡ true → (has_preset b.presets p.to || are_given others p.to) ≡ true
    → Some (InUse p.to) ≡ fault_of from (numbers_in b.presets ++ new_numbers others) p
fault_if_used from b others p there used =
    let in_use = used_there b.presets others p.to ∙ used in
    sym (λ i. cond (there i) (cond (in_use i) (Some (InUse p.to)) None) (Some (Missing p.from)))

pub fault_if_free : (from b : Parts) (others : List TakenPreset) (p : TakenPreset)
    → has_preset from.presets p.from ≡ true → has_preset b.presets p.to ≡ false → are_given others p.to ≡ false
    → None ≡ fault_of from (numbers_in b.presets ++ new_numbers others) p
fault_if_free from b others p there free more =
    let in_use = used_there b.presets others p.to ∙ (λ i. free i || more i) in
    sym (λ i. cond (there i) (cond (in_use i) (Some (InUse p.to)) None) (Some (Missing p.from)))

-- ---- the first fault

-- the fault of preset k, or the first of the rest
pub fault_from : (from : Parts) (used : List PresetNumbers) (ps : List TakenPreset) (k : ℕ) (p : TakenPreset)
    → slice_get ps k ≡ Some p
    → first_fault from (used ++ new_numbers (take k ps)) (drop k ps)
    ≡ option_or (fault_of from (used ++ new_numbers (take k ps)) p)
    (first_fault from (used ++ new_numbers (take (suc k) ps)) (drop (suc k) ps))
unfolding first_fault
fault_from from used [] zero p at = absurd cc
fault_from from used [] (suc k) p at = absurd cc
fault_from from used (q ∷ ps) zero p at =
    let same : q ≡ p = cc in
    let none : used ++ [] ≡ used = append-nil used in
    λ i. option_or (fault_of from (used ++ []) (same i)) (first_fault from (none i ++ q.to ∷ []) ps)
fault_from from used (q ∷ ps) (suc k) p at =
    let next : (m : ℕ) → (used ++ q.to ∷ []) ++ new_numbers (take m ps) ≡ used ++ q.to ∷ new_numbers (take m ps) =
    λ m. append_assoc used (q.to ∷ []) (new_numbers (take m ps)) in
    ap (λ u. first_fault from u (drop k ps)) (sym (next k))
    ∙ fault_from from (used ++ q.to ∷ []) ps k p at
    ∙ (λ i. option_or (fault_of from (next k i) p) (first_fault from (next (suc k) i) (drop (suc k) ps)))

-- the same for the fault that is found
pub fault_at : (from b : Parts) (ps : List TakenPreset) (k : ℕ) (r : Option PresetFault) (d : TakenPreset)
    → k < length ps → r ≡ fault_of from (numbers_in b.presets ++ new_numbers (take k ps)) (get_or ps k d)
    → first_fault from (numbers_in b.presets ++ new_numbers (take k ps)) (drop k ps)
    ≡ option_or r (first_fault from (numbers_in b.presets ++ new_numbers (take (suc k) ps)) (drop (suc k) ps))
fault_at from b ps k r d lt e =
    fault_from from (numbers_in b.presets) ps k (get_or ps k d) (slice_get-get_or ps k d lt)
    ∙ ap (λ f. option_or f (first_fault from (numbers_in b.presets ++ new_numbers (take (suc k) ps)) (drop (suc k) ps)))
    (sym e)

pub found_first : (p : PresetFault) (o r : Option PresetFault) → o ≡ Some p → option_or o r ≡ Some p
found_first p None r h = absurd cc
found_first p (Some f) r h = h

pub not_found : (o r : Option PresetFault) → o ≡ None → option_or o r ≡ r
not_found None r h = refl
not_found (Some f) r h = absurd cc

-- no preset is left past the end
pub none_past_end : (from : Parts) (used : List PresetNumbers) (ps : List TakenPreset) (k : ℕ) → length ps ≤ k
    → first_fault from used (drop k ps) ≡ None
unfolding first_fault
none_past_end from used [] zero h = refl
none_past_end from used [] (suc k) h = refl
none_past_end from used (p ∷ ps) zero h = absurd (omega arith)
none_past_end from used (p ∷ ps) (suc k) h = none_past_end from used ps k (omega arith)

pub left_true : (a b : Bool) → a ≡ true → (a || b) ≡ true
left_true a b h = ap (λ q. q || b) h

pub right_true : (a b : Bool) → b ≡ true → (a || b) ≡ true
right_true true b h = refl
right_true false b h = h

-- ---- no fault

first_none : (o r : Option PresetFault) → option_or o r ≡ None → o ≡ None
first_none None r h = refl
first_none (Some f) r h = absurd cc

rest_none : (o r : Option PresetFault) → option_or o r ≡ None → r ≡ None
rest_none None r h = h
rest_none (Some f) r h = absurd cc

no_fault_of : (there used : Bool) (k l : PresetNumbers)
    → cond there (cond used (Some (InUse k)) None) (Some (Missing l)) ≡ None → (there ≡ true) × (used ≡ false)
no_fault_of true true k l h = absurd cc
no_fault_of true false k l h = (refl, refl)
no_fault_of false used k l h = absurd cc

left_false : (a b : Bool) → (a || b) ≡ false → a ≡ false
left_false true b h = h
left_false false b h = refl

each_taken : (from : Parts) (used : List PresetNumbers) (ps : List TakenPreset) → first_fault from used ps ≡ None
    → (i : ℕ) (p : TakenPreset) → slice_get ps i ≡ Some p
    → (has_preset from.presets p.from ≡ true) × (is_used used p.to ≡ false)
unfolding first_fault
each_taken from used [] h i p at = absurd cc
each_taken from used (q ∷ ps) h zero p at =
    let same : q ≡ p = cc in
    let none = first_none (fault_of from used q) (first_fault from (used ++ q.to ∷ []) ps) h in
    subst (λ (x : TakenPreset). (has_preset from.presets x.from ≡ true) × (is_used used x.to ≡ false)) same
    (no_fault_of (has_preset from.presets q.from) (is_used used q.to) q.to q.from none)
each_taken from used (q ∷ ps) h (suc i) p at =
    let more = used ++ q.to ∷ [] in
    let rest = each_taken from more ps (rest_none (fault_of from used q) (first_fault from more ps) h) i p at in
    let f : PresetNumbers → Bool = λ u. u.bank == p.to.bank && u.number == p.to.number in
    (rest.0, left_false (is_used used p.to) (list_any f (q.to ∷ [])) (sym (list_any-append f used (q.to ∷ [])) ∙ rest.1))

-- where there is no fault, all presets can be taken
pub takeable : (from b : Parts) (presets : List TakenPreset) → preset_fault from b presets ≡ None
    → OfEach (IsTakeable from b) presets
takeable from b presets h i p at =
    let taken = each_taken from (numbers_in b.presets) presets h i p at in
    record { there = taken.0; free = sym (used_if_there b.presets p.to) ∙ taken.1 }
