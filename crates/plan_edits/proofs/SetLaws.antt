-- Sets of presets by their MIDI numbers.
use Rattle.std.proofs.Common.{◌≡◌, ◌==◌, ◌&&◌, Bool, List, ap, sym, ◌∙◌, arith}
use Rattle.std.specs.List.{list_any}
use Rattle.std.specs.declared.cmp.Ordering.{Ordering}
use Rattle.std.specs.Ordering.{nat_cmp, ordering_then, is_eq}
use Rattle.std.specs.BTreeSet.{BTreeSet, IsFromIterResult}
use Rattle.bank_parts.specs.declared.parts.Parts.{Parts}
use Rattle.plan_presets.specs.declared.numbers.PresetNumbers.{PresetNumbers}
use Rattle.plan_edits.specs.Keeping.{is_listed, HaveSameNumbers, OnlyKept, KeepsNotes}

-- the order of presets by their numbers
abbrev pub order : PresetNumbers → PresetNumbers → Ordering
order k l = ordering_then (nat_cmp k.bank l.bank) (nat_cmp k.number l.number)

-- only the same numbers are equal in this order
is_same : (k l : PresetNumbers) → is_eq (order k l) ≡ (l.bank == k.bank && l.number == k.number)
is_same k l = grind arith

pub same_numbers : (list : List PresetNumbers) (set : BTreeSet PresetNumbers) → IsFromIterResult order list set
    → HaveSameNumbers set.keys list
same_numbers list set h bank number =
    let k : PresetNumbers = record { bank = bank; number = number } in
    let found : (xs : List PresetNumbers) → list_any (λ (l : PresetNumbers). is_eq (order k l)) xs ≡ is_listed xs bank number =
    λ xs. ap (λ (f : PresetNumbers → Bool). list_any f xs) (λ i l. is_same k l i) in
    sym (found set.keys) ∙ h.0 k ∙ found list

-- ---- lists with the same numbers keep the same

pub keeps_notes_too : (keys list : List PresetNumbers) (b c : Parts) → HaveSameNumbers keys list → KeepsNotes keys b c
    → KeepsNotes list b c
keeps_notes_too keys list b c same h n played = h n (same n.bank n.number ∙ played)

pub only_kept_too : (keys list : List PresetNumbers) (b : Parts) → HaveSameNumbers keys list → OnlyKept keys b → OnlyKept list b
only_kept_too keys list b same h i p at = sym (same p.head.bank p.head.number) ∙ h i p at
