use Rattle.std.proofs.Common.{arith, ◌≡◌, ◌*◌, ◌/◌, ◌∙◌, ℕ, List, length, ap, sym, subst}
use Rattle.script_notes.specs.Notes.{Numbers}
use Rattle.mixer.specs.Render as whole
use Rattle.mixer.specs.Order as order
use Rattle.mixer.specs.Order.{IsRising, StartWithin}
use Rattle.mixer.proofs.Orders.{rising-in_order}
use Rattle.mixer.proofs.Counts.{within-count, half_of, take_prefix, rendered_fits}
use Rattle.mixer.proofs.StartOrder.{render_is}
use Rattle.mixer.proofs.rendering.render_with_progress.Goals as goal

pub play-played-requires-clause-rising : goal.play-played-requires-clause-rising
play-played-requires-clause-rising g c =
    let sorted : c.as_slice.result.now ≡ order.in_order c.args.notes.now =
    c.as_slice.ensures.value ∙ c.in_ok-sorted.ensures in
    subst (λ (ms : List Numbers). IsRising 0 ms) (sym sorted) (rising-in_order c.args.notes.now)

pub play-played-requires-clause-within : goal.play-played-requires-clause-within
play-played-requires-clause-within g c =
    let sorted : c.as_slice.result.now ≡ order.in_order c.args.notes.now =
    c.as_slice.ensures.value ∙ c.in_ok-sorted.ensures in
    let long : length c.as_mut_slice.result.now ≡ 2 * c.frame_count-count.result =
    c.as_mut_slice.ensures.len ∙ c.in_ok-out.ensures.len in
    let half : whole.frame_count c.args.bank.now c.args.notes.now ≡ length c.as_mut_slice.result.now / 2 =
    sym c.frame_count-count.ensures.value ∙ sym (half_of c.frame_count-count.result)
    ∙ ap (λ (k : ℕ). k / 2) (sym long) in
    subst (λ (ms : List Numbers). StartWithin (length c.as_mut_slice.result.now / 2) ms) (sym sorted)
    (subst (λ (m : ℕ). StartWithin m (order.in_order c.args.notes.now)) half
    (within-count c.args.bank.now c.args.notes.now))

pub returns-clause-value : goal.returns-clause-value
returns-clause-value g c =
    let sorted : c.as_slice.result.now ≡ order.in_order c.args.notes.now =
    c.as_slice.ensures.value ∙ c.in_ok-sorted.ensures in
    let long : length c.as_mut_slice.result.now ≡ 2 * c.frame_count-count.result =
    c.as_mut_slice.ensures.len ∙ c.in_ok-out.ensures.len in
    let half : length c.as_mut_slice.result.now / 2 ≡ whole.frame_count c.args.bank.now c.args.notes.now =
    ap (λ (k : ℕ). k / 2) long ∙ half_of c.frame_count-count.result ∙ c.frame_count-count.ensures.value in
    take_prefix c.in_ok-out.out.len c.play-played.new.out _ (c.play-played.auto.out ∙ c.as_mut_slice.ensures.len)
    ∙ (rw c.in_ok-played.was at c.play-played.ensures)
    ∙ (λ j. order.frames_of c.args.bank.now (sorted j) (half j))
    ∙ render_is c.args.bank.now c.args.notes.now

pub returns-clause-fits : goal.returns-clause-fits
returns-clause-fits g c =
    rendered_fits c.args.bank.now c.args.notes.now _ (returns-clause-value g c)
    (let e = c.frame_count-count.ensures.value in let h = c.frame_count-count.ensures.most in omega (arith, e, h))
