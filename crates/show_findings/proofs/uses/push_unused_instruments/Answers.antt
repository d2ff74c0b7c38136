use Rattle.std.proofs.Common.{◌≡◌, ◌<◌, ◌++◌, List, [], length, get_or, Bool, false, cond, Some, None, ap, ◌∙◌, arith}
use Rattle.show_findings.specs.declared.finding.Finding.TheVariants.{UnusedInstrument}
use Rattle.std.specs.List.{cons_option}
use Rattle.show_findings.specs.Uses.{unused_instrument, unused_instruments}
use Rattle.show_findings.proofs.GatherLaws.{options_start, options_more, options_all}
use Rattle.show_findings.proofs.uses.push_unused_instruments.Goals as goal

pub loop-instrument-init : goal.loop-instrument-init
loop-instrument-init c = options_start (unused_instrument c.args.bank.now) (length c.args.bank.now.instruments) c.args.found.now.items

pub loop-instrument-preserved : goal.loop-instrument-preserved
loop-instrument-preserved c =
    let b = c.args.bank.now in
    let i = c.loop-instrument.instrument in
    let test = c.loop-instrument-test.true in
    let end = c.count_in-instrument-end.ensures in
    let lt : i < length b.instruments = omega (arith, test, end) in
    let made : c.unused_instrument.result ≡ unused_instrument b i =
    c.unused_instrument.ensures
    ∙ ap (λ (t : Bool). cond t None (Some (UnusedInstrument i)))
    (ap (λ (us : List Bool). get_or us i false) c.as_slice.ensures.value ∙ c.in_ok-used.ensures i lt) in
    options_more (unused_instrument b) (length b.instruments) c.args.found.now.items c.loop-instrument.found.items _ i lt
    (c.in_ok-push_option.ensures ∙ ap (λ o. c.loop-instrument.found.items ++ cons_option o []) made) c.loop-instrument.invariant

pub returns : goal.returns
unfolding unused_instruments
returns c =
    let test = c.loop-instrument-test.false in
    let end = c.count_in-instrument-end.ensures in
    options_all (unused_instrument c.args.bank.now) (length c.args.bank.now.instruments) c.args.found.now.items
    c.loop-instrument.found.items c.loop-instrument.instrument (omega (arith, test, end)) c.loop-instrument.invariant
