use Rattle.std.proofs.Common.{◌≡◌, ◌++◌, ◌∷◌, [], ℤ, List, Some, ap, sym, ◌∙◌}
use Rattle.std.specs.Int.{w16}
use Rattle.std.proofs.lemmas.Int.{to_z-of_z}
use Rattle.bank_parts.specs.declared.parts.Zone.{Zone}
use Rattle.kit_edits.specs.Zones.{zone_of, left_pan, right_pan}
use Rattle.kit_edits.proofs.ZoneLaws.{both_pushed, stereo_zones}
use Rattle.kit_edits.proofs.instrument.push_zones.Goals as goal

pub returns-in_ok-push-2 : goal.returns-in_ok-push-2
returns-in_ok-push-2 c =
    let r = c.args.recording in
    let z = c.args.zone in
    let old = c.args.made.now.items in
    let first = c.in_ok-zone_of.field-0 in
    let second = c.in_ok-zone_of-2.field-0 in
    let left_fits = c.left_pan.type_inv in
    let right_fits = c.right_pan.type_inv in
    let left : first ≡ zone_of r.left z (Some (left_pan z.pan)) r.is_looped =
    c.in_ok-zone_of.ensures
    ∙ ap (λ (p : ℤ). zone_of r.left z (Some p) r.is_looped) (to_z-of_z w16 c.left_pan.result (record { sfits = left_fits }) ∙ c.left_pan.ensures) in
    let right : second ≡ zone_of r.right z (Some (right_pan z.pan)) r.is_looped =
    c.in_ok-zone_of-2.ensures
    ∙ ap (λ (p : ℤ). zone_of r.right z (Some p) r.is_looped)
    (to_z-of_z w16 c.right_pan.result (record { sfits = right_fits }) ∙ c.right_pan.ensures) in
    c.in_ok-push-2.ensures.items
    ∙ ap (λ (xs : List Zone). xs ++ second ∷ []) c.in_ok-push.ensures.items
    ∙ both_pushed old first second _ _ left right
    ∙ ap (λ (xs : List Zone). old ++ xs) (sym (stereo_zones z r c.if-is_stereo.true))
