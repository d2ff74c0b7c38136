-- Presets that an earlier preset hides.
use Rattle.std.specs.Prelude.{ℕ, Bool, ◌==◌, ◌&&◌, ◌+◌, ◌*◌, List, length, take, map, slice_index, Option}
use Rattle.std.specs.List.{filter_map, position_from}
use Rattle.std.specs.Option.{option_map, option_and_then}
use Rattle.bank_parts.specs.declared.parts.Head.{Head}
use Rattle.bank_parts.specs.declared.parts.ZoneOwner.{ZoneOwner}
use Rattle.bank_parts.specs.declared.parts.Parts.{Parts}
use Rattle.bank_changes.specs.Members.{head_of}
use Rattle.show_findings.specs.declared.finding.Finding.{Finding}
use Rattle.show_findings.specs.declared.finding.Finding.TheVariants.{HiddenPreset}
use Rattle.show_findings.specs.Numbers.{numbers}

-- a preset has the bank and the number of this head, so the same notes select it
abbrev pub has_numbers_of : Head → ZoneOwner Head → Bool
has_numbers_of h x = x.head.bank == h.bank && x.head.number == h.number

-- the number of the first preset that passes a test
abbrev pub first_preset : (ZoneOwner Head → Bool) → List (ZoneOwner Head) → Option ℕ
first_preset test presets = position_from test 0 presets

-- a preset is hidden by the first of the presets before it with its bank and number, if there is one
abbrev pub hidden_preset : Parts → ℕ → Option Finding
hidden_preset b p =
    option_and_then
    (λ (h : Head). option_map (λ (q : ℕ). HiddenPreset p q) (first_preset (has_numbers_of h) (take p b.presets)))
    (head_of b p)

unfoldable pub hidden_presets : Parts → List Finding
hidden_presets b = filter_map (hidden_preset b) (numbers (length b.presets))

-- ---- the same with one number for the bank and the number of each preset

abbrev pub key_of : Head → ℕ
key_of h = 65536 * h.bank + h.number

abbrev pub keys_in : Parts → List ℕ
keys_in b = map (λ (x : ZoneOwner Head). key_of x.head) b.presets

abbrev pub repeated : List ℕ → ℕ → Option Finding
repeated keys p =
    option_map (λ (q : ℕ). HiddenPreset p q) (position_from (λ k. k == slice_index keys p) 0 (take p keys))
