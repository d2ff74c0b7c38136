use Rattle.std.proofs.Common.{ℕ, List, length, Option, Some, IfSome, ap, subst, sym, ◌∙◌}
use Rattle.std.specs.Option.{option_map}
use Rattle.zone_select.specs.Playable.{IsPlayable}
use Rattle.zone_select.specs.Select.{Voice}
use Rattle.voices.specs.Sound.{Live}
use Rattle.voices.specs.Starts.{at_first_frame}
use Rattle.voices.proofs.StartLaws.{voice_is}
use Rattle.voices.proofs.voice.Voice.start.Goals as goal

pub of-requires : goal.of-requires
of-requires c =
    let played = c.in-Some.played in
    let is =
    voice_is c.args.bank.now c.args.note.now c.args.pair played.sample played.voice c.in-Some-sample.sample.now
    c.in-Some.ensures.sample c.in-Some.ensures.voice c.in-Some-sample.ensures in
    subst (λ (x : List ℕ). IsPlayable (length x) played.voice) (sym c.in_ok-copy.ensures)
    (subst (λ (o : Option Voice). IfSome o (λ (v : Voice). IsPlayable (length v.points) v.parameters)) is
    c.params.ensures.playable)

pub returns-clause-value : goal.returns-clause-value
returns-clause-value c =
    let played = c.in-Some.played in
    let is =
    voice_is c.args.bank.now c.args.note.now c.args.pair played.sample played.voice c.in-Some-sample.sample.now
    c.in-Some.ensures.sample c.in-Some.ensures.voice c.in-Some-sample.ensures in
    ap (option_map at_first_frame) is
    ∙ ap (λ (x : List ℕ). let v : Voice = record { points = x; parameters = played.voice } in Some (at_first_frame v))
    (sym c.in_ok-copy.ensures)
    ∙ ap (λ (l : Live). Some l) (sym c.of.ensures)
