-- What remains of a bank of which what some notes play is kept.
use Rattle.std.proofs.Common.{◌≡◌, ◌<◌, ◌+◌, ⊎_elim, ℕ, zero, suc, true, List, [], ◌∷◌, Some, sym, subst, ◌∙◌, arith, length, slice_get}
use Rattle.std.specs.List.{AllByRecursion}
use Rattle.std.proofs.lemmas.Bool.{cases_order}
use Rattle.std.specs.Option.{option_map}
use Rattle.std.specs.List.Sorted.{IsPermutation}
use Rattle.std.proofs.lemmas.List.Sorted.{IsPermutation-refl}
use Rattle.bank_parts.specs.declared.parts.ZoneOwner.{ZoneOwner}
use Rattle.bank_parts.specs.declared.parts.Parts.{Parts}
use Rattle.bank_changes.specs.declared.members.Owner.TheVariants.{Preset, Inst}
use Rattle.script_notes.specs.Notes.{Numbers}
use Rattle.zone_select.specs.Select.{selected}
use Rattle.mixer.specs.Alike.{AreAlikeFor}
use Rattle.mixer.proofs.AlikeLaws.{alike_notes_render}
use Rattle.edit_forms.specs.declared.edit.Edit.{Edit}
use Rattle.bank_edits.specs.Runs.{after_all}
use Rattle.script_of_bank.specs.LeadsTo.{Leads}
use Rattle.plan_edits.specs.declared.zone_set.ZoneSet.{ZoneSet}
use Rattle.plan_edits.specs.Playing.{is_among, HaveLikeNotes, HasZonesOf, HasAllZones, HasNoUnselected, HasSameVoices, HaveSameVoices, RendersPlayed, OnlyPlayedIsLeft, IsKeepingPlayed}
use Rattle.plan_edits.proofs.TimeLaws.{all_alike}

-- ---- the zones of all owners

-- what holds below i and of i holds below i + 1
pub one_more : (P : ℕ → Type 0) (i : ℕ) → ((j : ℕ) → j < i → P j) → P i → (j : ℕ) → j < i + 1 → P j
one_more P i h here j lt =
    ⊎_elim (λ e. subst P (sym e) here) (⊎_elim (λ less. h j less) (λ more. absurd (omega arith))) (cases_order j i)

there : {H : Type 0} (xs : List (ZoneOwner H)) (i count : ℕ)
    → option_map (λ (x : ZoneOwner H). length x.zones) (slice_get xs i) ≡ Some count → i < length xs
there [] i count e = absurd cc
there (x ∷ xs) zero count e = omega arith
there (x ∷ xs) (suc i) count e = let h = there xs i count e in omega arith

pub all_zones : (b : Parts) (set : ZoneSet) → ((i : ℕ) → i < length b.presets → HasZonesOf b set (Preset i))
    → ((i : ℕ) → i < length b.instruments → HasZonesOf b set (Inst i)) → HasAllZones b set
all_zones b set h g (Preset i) count e = h i (there b.presets i count e) count e
all_zones b set h g (Inst i) count e = g i (there b.instruments i count e) count e

-- ---- the sound of all notes

-- each note that is like one of the list has the same voices
abbrev KeepsPlayed : List Numbers → Parts → Parts → Type 0
KeepsPlayed notes b c = (n : Numbers) → is_among notes n ≡ true → HasSameVoices b c n

alike_for : (notes : List Numbers) (b c : Parts) → KeepsPlayed notes b c → (ns : List Numbers)
    → AllByRecursion (λ n. is_among notes n ≡ true) ns → AreAlikeFor b c ns
alike_for notes b c h [] all = tt
alike_for notes b c h (n ∷ ns) all = (
  subst (λ vs. IsPermutation (selected b n) vs) (h n all.0) (IsPermutation-refl (selected b n)),
  alike_for notes b c h ns all.1,
)

renders_played : (notes : List Numbers) (b c : Parts) → KeepsPlayed notes b c → RendersPlayed notes b c
renders_played notes b c h ns all = alike_notes_render b c ns (alike_for notes b c h ns all)

pub voices_too : (played notes : List Numbers) (b c : Parts) → HaveLikeNotes played notes → HaveSameVoices played b c
    → (n : Numbers) → is_among notes n ≡ true → HasSameVoices b c n
voices_too played notes b c like h n among = all_alike played b c h n (like n ∙ among)

pub selected_too : (played notes : List Numbers) (c : Parts) → HaveLikeNotes played notes → HasNoUnselected played c
    → HasNoUnselected notes c
selected_too played notes c like h o count e k lt =
    let s = h o count e k lt in (s.0, sym (like s.0) ∙ s.1, s.2)

pub keeping_played : (notes : List Numbers) (b now : Parts) (edits : List Edit) → Leads b edits now
    → OnlyPlayedIsLeft notes b now → IsKeepingPlayed notes b edits
keeping_played notes b now edits leads left =
    let here = subst (OnlyPlayedIsLeft notes b) (sym leads.given) left in
    record {
      is_accepted = leads.is_accepted;
      same = renders_played notes b (after_all b edits) here.voices;
      only = here.only;
      selected = here.selected;
      used = here.used;
    }
