use Rattle.std.proofs.Common.{refl}
use Rattle.program_commands.specs.declared.words.Request.TheVariants.{Show}
use Rattle.sfbank.specs.PlanParts.{listing_outcome, with_print}
use Rattle.sfbank.proofs.PlanLaws.{no_checks, one_goes_on, one_fails}
use Rattle.sfbank.proofs.OutcomeLaws.{outcome_prints}
use Rattle.sfbank.proofs.program.show.show.Goals as goal

pub returns-in-Ok : goal.returns-in-Ok
returns-in-Ok g c =
    let p = c.args.paths in
    let old = g.H.Host.world c.args.host.now in
    one_goes_on (Show p) (λ w rest. rest) (λ w file. with_print (listing_outcome p file)) p.input.now old old _ _ _ _
    c.print_listing.result tt c.in-Ok.file.items (λ w i. refl) (λ w r s others h k. (h, tt, tt)) (no_checks old tt) c.in-Ok.ensures
    (outcome_prints _ (listing_outcome p c.in-Ok.file.items) _ _ _ c.print_listing.result
    (rw c.as_slice.ensures.value at c.print_listing.ensures))

pub returns-in-Err : goal.returns-in-Err
returns-in-Err g c =
    let p = c.args.paths in
    let old = g.H.Host.world c.args.host.now in
    one_fails (Show p) (λ w rest. rest) (λ w file. with_print (listing_outcome p file)) p.input.now old old _ _ _
    c.in-Err.fault tt (λ w i. refl) (λ w r s others h k. (h, tt, tt)) (no_checks old tt) c.in-Err.ensures
