use Rattle.std.proofs.Common.{◌≡◌, ◌++◌, map, take, drop, length, refl, sym, ap, subst, ◌∙◌, arith}
use Rattle.std.proofs.lemmas.Grind.{common_steps}
use Rattle.mixer.specs.Ahead.{rewound, IsAhead, playing_now}
use Rattle.mixer.proofs.AheadLaws.{rewound_ahead, rewound_playing}
use Rattle.mixer.proofs.ahead.discard.Goals as goal
use Rattle.mixer.proofs.ahead.discard.Goals.{After-go_back}

all_back : (c : After-go_back)
    → take c.args.voices.now.len (c.go_back.new.voices ++ drop (length c.go_back.new.voices) c.args.voices.now.items)
    ≡ map (rewound c.args.ahead.now.left) c.args.voices.now.items
all_back c = grind (arith, common_steps)

pub returns-clause-ahead : goal.returns-clause-ahead
returns-clause-ahead c =
    subst (IsAhead _) (sym (all_back (goal.at.returns-clause-ahead c).After-go_back))
    (rewound_ahead c.args.ahead.now _ c.args.voices.now.items refl c.requires)

pub returns-clause-same : goal.returns-clause-same
returns-clause-same c =
    ap (playing_now _) (all_back (goal.at.returns-clause-same c).After-go_back)
    ∙ rewound_playing c.args.ahead.now _ c.args.voices.now.items refl
