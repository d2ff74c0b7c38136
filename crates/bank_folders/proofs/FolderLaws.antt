-- A bank as a folder gives back the edits that list the bank.
use Rattle.std.proofs.Common.{◌≡◌, ◌++◌, List, map, refl, sym, ap, ◌∙◌}
use Rattle.std.specs.List.{AllZip}
use Rattle.bank_parts.specs.declared.parts.Sample.{Sample}
use Rattle.bank_parts.specs.declared.parts.Parts.{Parts}
use Rattle.bank_parts.specs.Sound.{IsSound}
use Rattle.edit_forms.specs.declared.edit.Edit.{Edit}
use Rattle.edit_script.specs.Printing.{numbered}
use Rattle.script_of_bank.specs.declared.samples.SamplePoints.TheVariants.{LeftOut}
use Rattle.script_of_bank.specs.BankEdits.{in_turn, texts_edits, sample_edits, link_edits}
use Rattle.script_of_bank.specs.BankEdits.{instrument_edits, preset_edits, edits_of_bank}
use Rattle.script_of_bank.specs.BankScript.{selected_sample}
use Rattle.script_of_bank.proofs.ListedLaws.{text_lists}
use Rattle.script_of_bank.proofs.TextLaws.{link_turns}
use Rattle.bank_folders.specs.declared.bare.BareSample.{BareSample}
use Rattle.bank_folders.specs.Folders.{bare_samples, filled}
use Rattle.bank_folders.specs.Laws.{files_of, file_of_bare, bare_lines, GetsPoints, FoldersGiveBank}
use Rattle.bank_folders.proofs.MinorLaws.{minor_read}
use Rattle.bank_folders.proofs.LineLaws.{AddNone, both_none, texts_none, kind_none, turns_none}
use Rattle.bank_folders.proofs.LineLaws.{samples_after, filled_after, files_listed, points_listed, samples_filled}
use Rattle.bank_folders.proofs.PointLaws.{all_get}

module _ (b : Parts) where
  -- the edits before the samples, those of the samples without points, and those after them
  abbrev before : List Edit
  before = texts_edits b.texts

  abbrev bare : List Edit
  bare = in_turn sample_edits 0 (map (selected_sample LeftOut) b.samples)

  abbrev owners : List Edit
  owners = in_turn instrument_edits 0 b.instruments ++ in_turn preset_edits 0 b.presets

  abbrev after : List Edit
  after = in_turn link_edits 0 (map (selected_sample LeftOut) b.samples) ++ owners

  after_none : AddNone after
  after_none =
      both_none (in_turn link_edits 0 (map (selected_sample LeftOut) b.samples)) owners
      (turns_none link_edits (λ i s. kind_none i s.kind) 0 (map (selected_sample LeftOut) b.samples))
      (both_none (in_turn instrument_edits 0 b.instruments) (in_turn preset_edits 0 b.presets)
      (turns_none instrument_edits (λ i x. (λ line. refl, tt)) 0 b.instruments)
      (turns_none preset_edits (λ i x. (λ line. refl, tt)) 0 b.presets))

  files_are : map file_of_bare (bare_samples (bare_lines b)) ≡ files_of b
  files_are =
      samples_after (λ (samples : List BareSample). map file_of_bare samples ≡ files_of b) 2 before (bare ++ after)
      (texts_none b.texts) (λ m. files_listed m 0 b.samples after after_none)

  points_are : IsSound b → AllZip GetsPoints (bare_samples (bare_lines b)) b.samples
  points_are s =
      samples_after (λ (samples : List BareSample). AllZip GetsPoints samples b.samples) 2 before (bare ++ after)
      (texts_none b.texts) (λ m. points_listed m 0 b.samples after after_none (all_get b s))

  given_back : filled (bare_lines b) (map (λ (s : Sample). s.points) b.samples) ≡ numbered 2 (edits_of_bank b)
  given_back =
      filled_after 2 before (bare ++ after) (in_turn sample_edits 0 b.samples ++ after)
      (map (λ (s : Sample). s.points) b.samples) (texts_none b.texts)
      (λ m. samples_filled m 0 b.samples after after_none)
      ∙ ap (λ (links : List Edit). numbered 2 (before ++ (in_turn sample_edits 0 b.samples ++ (links ++ owners))))
      (sym (link_turns LeftOut 0 b.samples))

pub give_bank : FoldersGiveBank
give_bank b s = record {
  read = text_lists LeftOut b s;
  minor = minor_read b s;
  files = files_are b;
  points = points_are b s;
  given = given_back b;
}
