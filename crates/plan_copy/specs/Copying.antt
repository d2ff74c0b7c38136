-- A copy of one member of a bank, at the end of its list.
use Rattle.std.specs.Prelude.{◌≡◌, ◌==◌, ◌++◌, ◌∷◌, [], ℕ, List, map, slice_get, Option, Some, None, Result, Ok, Err}
use Rattle.std.specs.Prelude.{not, if◌then◌else◌, unwrap_or, ok_or}
use Rattle.std.specs.List.{find, range_with_len}
use Rattle.std.specs.Option.{option_map_or}
use Rattle.std.specs.Result.{result_map_both}
use Rattle.bank_parts.specs.declared.parts.Kind.TheVariants.{Mono}
use Rattle.bank_parts.specs.declared.parts.Head.{Head}
use Rattle.bank_parts.specs.declared.parts.ZoneOwner.{ZoneOwner}
use Rattle.bank_parts.specs.declared.parts.Sample.{Sample}
use Rattle.bank_parts.specs.declared.parts.Parts.{Parts}
use Rattle.bank_parts.specs.Owners.{with_head}
use Rattle.bank_changes.specs.Presets.{with_name_and_numbers}
use Rattle.edit_forms.specs.declared.cause.Cause.{Cause}
use Rattle.edit_forms.specs.declared.cause.Cause.TheVariants.{NoSuchPreset, NoSuchInstrument, NoSuchSample}
use Rattle.edit_forms.specs.declared.edit.Edit.{Edit}
use Rattle.bank_edits.specs.Runs.{AllAccepted, after_all}
use Rattle.plan_presets.specs.declared.fault.PresetFault.{PresetFault}
use Rattle.plan_presets.specs.declared.fault.PresetFault.TheVariants.{InUse, NoneFree}
use Rattle.plan_presets.specs.declared.numbers.PresetNumbers.{PresetNumbers}
use Rattle.plan_presets.specs.declared.numbers.TakenPreset.{TakenPreset}
use Rattle.plan_presets.specs.declared.numbers.CopiedMember.{CopiedMember}
use Rattle.plan_presets.specs.declared.numbers.CopiedMember.TheVariants as variant
use Rattle.plan_take.specs.Taking.{has_preset, preset_with, OfEach, IsCopied, CopyRenders, KeepsOthers}
use Rattle.plan_take.specs.TakeFaults.{numbers_of}
use Rattle.plan_copy.specs.declared.fault.CopyFault.{CopyFault}
use Rattle.plan_copy.specs.declared.fault.CopyFault.TheVariants.{NoMember, Numbers}
use Rattle.plan_copy.specs.declared.numbers.TheConstants.{PERCUSSION_BANK, CANDIDATES}

-- ---- the numbers of a preset's copy

-- Candidate n for the copy of a preset with the numbers k. A percussion preset keeps its bank number, and any other its
-- preset number.
abbrev pub candidate : PresetNumbers → ℕ → PresetNumbers
candidate k n = if k.bank == PERCUSSION_BANK then record k { number = n } else record k { bank = n }

-- all candidates, the preferred ones first
unfoldable pub candidates : PresetNumbers → List PresetNumbers
candidates k = map (candidate k) (range_with_len 0 CANDIDATES)

-- the first candidate that no preset has
abbrev pub free_numbers : Parts → PresetNumbers → Option PresetNumbers
free_numbers b k = find (λ (n : PresetNumbers). not (has_preset b.presets n)) (candidates k)

-- the given numbers or else free ones, for the copy of a preset with the numbers k
abbrev pub numbers_for : Parts → PresetNumbers → Option PresetNumbers → Result PresetNumbers PresetFault
numbers_for b k (Some given) = if has_preset b.presets given then Err (InUse given) else Ok given
numbers_for b k None = ok_or (free_numbers b k) (NoneFree k)

-- ---- the copy

-- the given name, or else that of the original
abbrev pub name_or : Option (List ℕ) → List ℕ → List ℕ
name_or given name = unwrap_or given name

-- a preset with the given name and the numbers k
abbrev pub preset_copy : Option (List ℕ) → PresetNumbers → ZoneOwner Head → ZoneOwner Head
preset_copy name k p = with_head (with_name_and_numbers (name_or name p.head.name) k.number k.bank p.head) p

-- an instrument with the given name
abbrev pub instrument_copy : Option (List ℕ) → ZoneOwner (List ℕ) → ZoneOwner (List ℕ)
instrument_copy name x = with_head (name_or name x.head) x

-- a sample with the given name, linked to no other
abbrev pub sample_copy : Option (List ℕ) → Sample → Sample
sample_copy name s = record s { name = name_or name s.name; kind = Mono }

-- the bank with a preset, an instrument or a sample at the end of its list

abbrev pub preset_appended : Parts → ZoneOwner Head → Parts
preset_appended b p = record b { presets = b.presets ++ p ∷ [] }

abbrev pub instrument_appended : Parts → ZoneOwner (List ℕ) → Parts
instrument_appended b x = record b { instruments = b.instruments ++ x ∷ [] }

abbrev pub sample_appended : Parts → Sample → Parts
sample_appended b s = record b { samples = b.samples ++ s ∷ [] }

-- f of member i, or the fault if there is no such member
abbrev pub of_member : {X Y : Type 0} → Cause → List X → ℕ → (X → Result Y CopyFault) → Result Y CopyFault
of_member cause xs i f = option_map_or f (slice_get xs i) (Err (NoMember cause))

-- the bank with the copy of preset p, or why there is none
abbrev pub preset_copied : Parts → Option PresetNumbers → Option (List ℕ) → ZoneOwner Head → Result Parts CopyFault
preset_copied b given name p =
    result_map_both (λ (k : PresetNumbers). preset_appended b (preset_copy name k p)) Numbers
    (numbers_for b (numbers_of p) given)

-- the bank with the copy of a member, or why there is none
unfoldable pub copied : Parts → CopiedMember → Option (List ℕ) → Result Parts CopyFault
copied b (variant.Preset i given) name = of_member NoSuchPreset b.presets i (preset_copied b given name)
copied b (variant.Inst i) name =
    of_member NoSuchInstrument b.instruments i
    (λ (x : ZoneOwner (List ℕ)). Ok (instrument_appended b (instrument_copy name x)))
copied b (variant.Sample i) name =
    of_member NoSuchSample b.samples i (λ (s : Sample). Ok (sample_appended b (sample_copy name s)))

-- ---- the promise

-- the numbers of a preset and of its copy, if this gets numbers
abbrev pub copy_of : PresetNumbers → Result PresetNumbers PresetFault → List TakenPreset
copy_of k (Ok numbers) = record { from = k; to = numbers } ∷ []
copy_of k (Err fault) = []

-- the preset that is copied, by its numbers and those of the copy
unfoldable pub copies : Parts → CopiedMember → List TakenPreset
copies b (variant.Preset i given) =
    option_map_or (λ (p : ZoneOwner Head). copy_of (numbers_of p) (numbers_for b (numbers_of p) given))
    (slice_get b.presets i) []
copies b (variant.Inst i) = []
copies b (variant.Sample i) = []

-- the preset that is copied
abbrev pub original : Parts → CopiedMember → Option (ZoneOwner Head)
original b (variant.Preset i given) = slice_get b.presets i
original b (variant.Inst i) = None
original b (variant.Sample i) = None

-- notes on the numbers of the original play it, and not an earlier preset with the same numbers
abbrev pub IsPlayed : Parts → CopiedMember → TakenPreset → Type 0
IsPlayed b member t = original b member ≡ preset_with b.presets t.from

-- each note has the same voices on the copy in c as on the original in b, and each list of notes renders identically
abbrev pub PlaysSame : Parts → Parts → TakenPreset → Type 0
PlaysSame b c t = IsCopied b c t × CopyRenders b c t

-- The edits are accepted in order, and add the copy. A preset that its numbers play and its copy render identically;
-- notes on other presets render as before.
pub record IsCopying (member : CopiedMember) (name : Option (List ℕ)) (b : Parts) (edits : List Edit) : Type 0 where
  pub is_accepted : AllAccepted b edits
  pub result : copied b member name ≡ Ok (after_all b edits)
  pub renders : OfEach (λ t. IsPlayed b member t → PlaysSame b (after_all b edits) t) (copies b member)
  pub others : KeepsOthers (copies b member) b (after_all b edits)
