use Rattle.std.proofs.Common.{◌≡◌, ◌∙◌, List, Ok, ap, map, sym}
use Rattle.std.specs.List.{zip}
use Rattle.kit_tables.specs.Files.{NamedFile, files_of, index_among, named_file}
use Rattle.kit_tables.specs.Rows.{row_of}
use Rattle.sfbank.specs.KitPlans.{entry_at, listing_in}
use Rattle.sfbank.specs.KitSteps.{row_zone}
use Rattle.sfbank.proofs.KitPlans.{zones_of_rows}
use Rattle.sfbank.proofs.program.listing.list_table.Goals as goal

pub returns : goal.returns
returns c =
    let rows = c.in_ok-rows.rows.items in
    let first = c.as_slice.ensures.value in
    let third = c.as_slice-3.ensures.value in
    let listed = c.in_ok-listed.listed in
    let named = c.in_ok-listed.ensures.files ∙ (λ i. files_of (map row_of (first i))) in
    let numbered = c.in_ok-listed.ensures.of_rows
    ∙ (λ i. map (index_among (files_of (map row_of (first i)))) (map row_of (first i))) in
    let entries = c.in_ok-files.ensures
    ∙ (λ i. map (entry_at (c.folder_of.ensures i)) (map named_file (c.as_slice-2.ensures.value i)))
    ∙ ap (map (entry_at _)) named in
    let zones = c.in_ok-zones.ensures
    ∙ (λ i. map row_zone (zip (third i) (c.as_slice-4.ensures.value i)))
    ∙ ap (λ ns. map row_zone (zip rows ns)) numbered
    ∙ zones_of_rows (index_among (files_of (map row_of rows))) rows in
    ap (listing_in c.args.table.now) c.in_ok-rows.ensures.parsed
    ∙ (λ i. Ok (record { entries = sym entries i; zones = sym zones i }))
