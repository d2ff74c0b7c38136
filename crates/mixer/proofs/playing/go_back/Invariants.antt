use Rattle.std.proofs.Common.{◌≡◌, ◌++◌, map, take, drop}
use Rattle.mixer.specs.Ahead.{rewound}
use Rattle.mixer.proofs.playing.go_back.Given as goal

abbrev pub invariant-loop-p : goal.invariant-loop-p
invariant-loop-p l = l.voices ≡ map (rewound l.fn.frames) (take l.p-index l.fn.voices) ++ drop l.p-index l.fn.voices
