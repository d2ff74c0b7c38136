use Rattle.std.proofs.Common.{◌∙◌, sym, inl, refl}
use Rattle.std.proofs.KnownBytes.{Keeps-refl}
use Rattle.show_listing.specs.Listing.{listing}
use Rattle.sfbank.specs.PlanParts.{listing_outcome}
use Rattle.sfbank.proofs.OutcomeLaws.{prints_same, prints_text}
use Rattle.sfbank.proofs.CommandLaws.{listing_fails, listing_is_plain, listing_is_detailed}
use Rattle.sfbank.proofs.program.show.print_listing.Goals as goal

pub returns-then-has_details : goal.returns-then-has_details
returns-then-has_details g c =
    let p = c.args.paths in
    prints_same (listing_outcome p c.args.file.now) _ _ _ c.print_details.result
    (listing_is_detailed p c.args.file.now c.in-Ok.bank c.in-Ok.counts c.in-Ok.ensures
    (sym c.has_details.ensures ∙ c.if-has_details.true)) c.print_details.ensures

pub returns-in-Ok : goal.returns-in-Ok
returns-in-Ok g c =
    let p = c.args.paths in
    prints_text (listing_outcome p c.args.file.now) (listing c.in-Ok.bank c.in-Ok.counts) _ _ c.print.result
    (listing_is_plain p c.args.file.now c.in-Ok.bank c.in-Ok.counts c.in-Ok.ensures
    (sym c.has_details.ensures ∙ c.if-has_details.false)) (rw c.plain.ensures at c.print.ensures)

pub returns : goal.returns
returns g c =
    inl (c.in-Err.fault, _, refl, refl, listing_fails (λ both. both) c.args.paths c.in-Err.fault c.args.file.now c.in-Err.ensures, Keeps-refl _)
