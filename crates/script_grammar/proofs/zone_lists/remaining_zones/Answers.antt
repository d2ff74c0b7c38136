use Rattle.std.proofs.Common.{◌≡◌, ◌∙◌, sym, ap, List, rules}
use Rattle.std.proofs.lemmas.Result.{err_from_is_err_and}
use Rattle.bank_parts.specs.declared.parts.Zone.{Zone}
use Rattle.script_grammar.specs.Zones.{zone, with_zone, remaining_zones}
use Rattle.script_grammar.proofs.ItemLaws.{zone_shortens, zones_end, zones_go_on, zones_fail}
use Rattle.script_grammar.proofs.MemoryLaws.{also_out_of_memory}
use Rattle.script_grammar.proofs.zone_lists.remaining_zones.Goals as goal

pub returns-in_err-zone : goal.returns-in_err-zone
returns-in_err-zone c =
    let p = err_from_is_err_and c.from_residual.result c.from_residual.ensures.1 in
    rw (p.1, p.2) (also_out_of_memory zone (remaining_zones c.args.zones) (λ z. z) (λ zs. zs) c.loop-alloc.line c.args.line.now
    c.zone.new.line c.in_err-zone.field-0.0
    (λ d e. sym c.loop-alloc.invariant.0 ∙ zones_fail c.loop-alloc.zones c.loop-alloc.line.token_values d
    (sym c.is_end.ensures ∙ c.loop-alloc-test.true) e) c.in_err-zone.ensures)

pub loop-alloc-smaller : goal.loop-alloc-smaller
loop-alloc-smaller c = zone_shortens c.loop-alloc.line.token_values _ c.in_ok-zone.ensures.0

pub loop-alloc-preserved : goal.loop-alloc-preserved
loop-alloc-preserved c =
    let on =
    zones_go_on c.loop-alloc.zones c.loop-alloc.line.token_values _ (sym c.is_end.ensures ∙ c.loop-alloc-test.true)
    c.in_ok-zone.ensures.0 in
    let pushed : c.push.new.self ≡ with_zone c.loop-alloc.zones c.in_ok-zone.zone = search rules in (
      ap (λ (zs : List Zone). remaining_zones zs c.zone.new.line.token_values) pushed ∙ sym on
          ∙ c.loop-alloc.invariant.0,
      c.in_ok-zone.ensures.1 ∙ c.loop-alloc.invariant.1,
    )

pub returns : goal.returns
returns c = (
  sym c.loop-alloc.invariant.0
      ∙ zones_end c.loop-alloc.zones c.loop-alloc.line.token_values (sym c.is_end.ensures ∙ c.loop-alloc-test.false),
  c.loop-alloc.invariant.1,
)
