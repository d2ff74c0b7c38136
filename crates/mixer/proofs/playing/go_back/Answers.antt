use Rattle.std.proofs.Common.{◌≡◌, ◌<◌, ◌≤◌, get_or, length, set, sym, ap, ◌∙◌, arith}
use Rattle.std.proofs.lemmas.List.Edits.{map_over_more}
use Rattle.mixer.specs.declared.playing.PlayingVoice.{PlayingVoice}
use Rattle.mixer.specs.Ahead.{rewound}
use Rattle.mixer.proofs.Aging.{still}
use Rattle.mixer.proofs.Rewinding.{rewound_is}
use Rattle.mixer.proofs.playing.go_back.Goals as goal

pub go_back-requires : goal.go_back-requires
go_back-requires c =
    let i = c.loop-p.p-index in
    let n = c.args.frames in
    let xs = c.args.voices.now in
    let lt : i < length xs = omega arith in
    let e = still (rewound n) xs c.loop-p.voices i c.p-item.result lt c.loop-p.invariant in
    let given : n ≤ (get_or xs i c.p-item.result).voice.age = c.requires.given i c.p-item.result lt in
    let age : (get_or c.loop-p.voices i c.p-item.result).voice.age ≡ (get_or xs i c.p-item.result).voice.age =
    ap (λ (p : PlayingVoice). p.voice.age) e in
    omega (arith, given, age)

pub loop-p-preserved : goal.loop-p-preserved
loop-p-preserved c =
    let i = c.loop-p.p-index in
    let n = c.args.frames in
    let xs = c.args.voices.now in
    let ys = c.loop-p.voices in
    let lt : i < length xs = omega arith in
    let p = get_or ys i c.p-item.result in
    ap (λ (q : PlayingVoice). set ys i q) (rewound_is n p c.go_back.new.self c.go_back.ensures)
    ∙ ap (λ (q : PlayingVoice). set ys i (rewound n q)) (sym c.p-item.is)
    ∙ map_over_more (rewound n) xs ys i c.p-item.result lt c.loop-p.invariant c.p-item.is
