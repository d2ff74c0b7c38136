-- Moves of samples as edits.
use Rattle.std.proofs.Common.{◌≡◌, ◌<◌, ◌++◌, ◌^◌, List, [], ◌∷◌, length, map, refl, sym, ap, subst}
use Rattle.std.proofs.Common.{ℕ, arith}
use Rattle.std.specs.Prelude.{Result, Ok, Err}
use Rattle.std.specs.Option.{option_map}
use Rattle.bank_parts.specs.declared.parts.Parts.{Parts}
use Rattle.bank_parts.specs.Sound.{IsSound}
use Rattle.bank_changes.specs.declared.sample_moves.SampleMove.{SampleMove}
use Rattle.bank_changes.specs.Samples.{sample_moved}
use Rattle.bank_changes.specs.SampleMoves.{AreMoves, samples_moved}
use Rattle.bank_changes.proofs.SampleLaws.{length-sample_moved, moved_sound}
use Rattle.edit_forms.specs.declared.samples.SampleStep.TheVariants.{MoveSample}
use Rattle.edit_forms.specs.declared.step.Step.TheVariants as steps
use Rattle.edit_forms.specs.declared.edit.Edit.{Edit}
use Rattle.edit_forms.specs.declared.cause.Cause.TheVariants.{NoSuchSample}
use Rattle.edit_refusals.specs.declared.refusal.Refusal.TheVariants.{Of}
use Rattle.edit_refusals.proofs.Accepted.{accepted_by}
use Rattle.edit_refusals.proofs.Moves.{tests_move}
use Rattle.bank_edits.specs.Runs.{AllAccepted, after_all}
use Rattle.script_of_bank.specs.LeadsTo.{Leads}
use Rattle.script_of_bank.proofs.SequenceLaws.{after-then, is_accepted-then}
use Rattle.bank_edits.specs.MoveEdits.{move_edit}
use Rattle.bank_edits.proofs.MoveLaws.{moves_after}
use Rattle.edit_drafts.specs.Drafts.{AreMovesResult}

-- a sound bank accepts each move in turn
pub moves_accepted : (b : Parts) (ms : List SampleMove) → IsSound b → AreMoves (length b.samples) ms
    → AllAccepted b (map move_edit ms)
moves_accepted b [] s h = tt
moves_accepted b (m ∷ ms) s h =
    let n : ℕ = length b.samples in
    let few = s.valid.limits.samples in
    let from = h.0.from in
    let to = h.0.to in
    let sound = moved_sound b m.from m.to from to s in
    let fits : (m.from < 2 ^ 32) × (m.to < 2 ^ 32) = (omega (arith, few, from), omega (arith, few, to)) in (
      record {
        fits = fits;
        accepted =
            ap (option_map Of)
            (accepted_by b (steps.Sample (MoveSample m.from m.to))
            (tests_move n m.from m.to NoSuchSample (record { there = from; place = to })) sound);
      },
      moves_accepted (sample_moved b m.from m.to) ms sound
          (subst (λ k. AreMoves k ms) (sym (length-sample_moved b m.from m.to from to)) h.1),
    )

pub leads_with_moves : {Why : Type 0} → (first old new : Parts) (was now : List Edit) (ms : List SampleMove)
    (r : Result (Unit {0}) Why) → AreMovesResult old new was now ms r → Leads first was old → Leads first now new
leads_with_moves first old new was now ms (Ok done) d l =
    let more : Leads first (was ++ map move_edit ms) (samples_moved old ms) = record {
      is_accepted = is_accepted-then first old was (map move_edit ms) l.given l.is_accepted d.are_accepted;
      given = after-then first old (samples_moved old ms) was (map move_edit ms) l.given (moves_after old ms);
    } in
    subst (λ (b : Parts). Leads first now b) (sym d.changed)
    (subst (λ (es : List Edit). Leads first es (samples_moved old ms)) (sym d.listed) more)
leads_with_moves first old new was now ms (Err why) d l =
    subst (λ (b : Parts). Leads first now b) (sym d.bank)
    (subst (λ (es : List Edit). Leads first es old) (sym d.list) l)
