use Rattle.std.proofs.Common.{◌≡◌, ◌++◌, ◌<◌, ℕ, [], length, take, slice_index, ap, ◌∙◌, arith}
use Rattle.std.specs.Prelude.{◌==◌}
use Rattle.std.specs.List.{cons_option, position_from}
use Rattle.std.specs.Option.{option_map}
use Rattle.std.specs.Map.{lookup}
use Rattle.std.specs.Ordering.{nat_cmp}
use Rattle.std.specs.BTreeMap.{is_at, get}
use Rattle.show_findings.specs.declared.finding.Finding.TheVariants.{HiddenPreset}
use Rattle.show_findings.specs.Presets.{repeated}
use Rattle.show_findings.proofs.GatherLaws.{options_start, options_more, options_all}
use Rattle.show_findings.proofs.FirstLaws.{firsts_more}
use Rattle.show_findings.proofs.hidden.push_repeated.Goals as goal

pub loop-index-init : goal.loop-index-init
loop-index-init c =
    record {
      found = options_start (repeated c.args.keys.now) (length c.args.keys.now) c.args.found.now.items;
      firsts = λ q. ap (λ es. lookup (is_at (nat_cmp q)) es) c.new-firsts.ensures.empty;
    }

pub loop-index-preserved : goal.loop-index-preserved
loop-index-preserved c =
    let keys = c.args.keys.now in
    let i = c.loop-index.index in
    let lt : i < length keys = omega arith in
    let first : c.in_ok-first.first ≡ position_from (λ k. k == slice_index keys i) 0 (take i keys) =
    c.in_ok-first.ensures.value ∙ c.loop-index.invariant.firsts (slice_index keys i) in
    let made : c.hidden_preset.result ≡ repeated keys i = c.hidden_preset.ensures ∙ ap (option_map (λ (q : ℕ). HiddenPreset i q)) first in
    record {
      found =
          options_more (repeated keys) (length keys) c.args.found.now.items c.loop-index.found.items
          c.push_option.new.found.items i lt
          (c.in_ok-push_option.ensures ∙ ap (λ o. c.loop-index.found.items ++ cons_option o []) made)
          c.loop-index.invariant.found;
      firsts =
          firsts_more keys i (λ q. get nat_cmp c.loop-index.firsts q) (λ q. get nat_cmp c.earlier.new.firsts q) lt
          c.loop-index.invariant.firsts c.in_ok-first.ensures.first;
    }

pub returns : goal.returns
returns c =
    options_all (repeated c.args.keys.now) (length c.args.keys.now) c.args.found.now.items c.loop-index.found.items
    c.loop-index.index c.loop-index-test.false c.loop-index.invariant.found
