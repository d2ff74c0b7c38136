use Rattle.std.proofs.Common.{◌++◌, ◌∷◌, [], ◌+◌, ◌-◌, length, ap, ◌∙◌, arith}
use Rattle.sf_base.specs.Names.{before_zero}
use Rattle.wave_file.proofs.ImportLaws.{are_bytes}
use Rattle.kit_edits.proofs.NameLaws.{front_text, two_texts, digits_text}
use Rattle.kit_edits.proofs.names.candidate.Goals as goal

pub joined-requires : goal.joined-requires
joined-requires c =
    let fits = c.requires.fits in
    let own =
    front_text c.args.most c.args.stem.now c.before_zero.result.now (are_bytes c.args.stem.now c.type_inv.stem)
    (c.before_zero.ensures ∙ ap before_zero c.front_of.ensures) in
    two_texts c.args.most 0 20 c.before_zero.result.now [] own (omega arith, tt) (omega (arith, fits))

pub returns-then-k-eq1-clause-short : goal.returns-then-k-eq1-clause-short
returns-then-k-eq1-clause-short c =
    let own =
    front_text c.args.most c.args.stem.now c.before_zero.result.now (are_bytes c.args.stem.now c.type_inv.stem)
    (c.before_zero.ensures ∙ ap before_zero c.front_of.ensures) in
    let all = two_texts c.args.most 0 c.args.most c.before_zero.result.now [] own (omega arith, tt) (omega arith) in
    rw c.joined.ensures all.0

pub joined-marked-requires : goal.joined-marked-requires
joined-marked-requires c =
    let fits = c.requires.fits in
    let n = c.args.most - 1 - length c.as_bytes-digits.result.now in
    let own =
    front_text n c.args.stem.now c.before_zero-own.result.now (are_bytes c.args.stem.now c.type_inv.stem)
    (c.before_zero-own.ensures ∙ ap before_zero c.front_of-2.ensures) in
    two_texts n 1 20 c.before_zero-own.result.now (126 ∷ []) own (omega arith, ((omega arith, omega arith), tt))
    (omega (arith, fits))

pub joined-requires-2 : goal.joined-requires-2
joined-requires-2 c =
    let fits = c.requires.fits in
    let room = c.requires.room in
    let digits = c.as_bytes-digits.result.now in
    let n = c.args.most - 1 - length digits in
    let own =
    front_text n c.args.stem.now c.before_zero-own.result.now (are_bytes c.args.stem.now c.type_inv.stem)
    (c.before_zero-own.ensures ∙ ap before_zero c.front_of-2.ensures) in
    let tail =
    digits_text c.args.k digits c.requires.counted c.requires.few (c.as_bytes-digits.ensures.value ∙ c.format.ensures.text) in
    let short = tail.0.0 in
    let marked =
    two_texts n 1 (n + 1) c.before_zero-own.result.now (126 ∷ []) own (omega arith, ((omega arith, omega arith), tt))
    (omega arith) in
    rw (c.bytes.ensures.value, c.joined-marked.ensures)
    (two_texts (n + 1) (length digits) 20 (c.before_zero-own.result.now ++ 126 ∷ []) digits marked tail.1
    (omega (arith, fits, room, short)))

pub returns-clause-short : goal.returns-clause-short
returns-clause-short c =
    let room = c.requires.room in
    let digits = c.as_bytes-digits.result.now in
    let n = c.args.most - 1 - length digits in
    let own =
    front_text n c.args.stem.now c.before_zero-own.result.now (are_bytes c.args.stem.now c.type_inv.stem)
    (c.before_zero-own.ensures ∙ ap before_zero c.front_of-2.ensures) in
    let tail =
    digits_text c.args.k digits c.requires.counted c.requires.few (c.as_bytes-digits.ensures.value ∙ c.format.ensures.text) in
    let short = tail.0.0 in
    let marked =
    two_texts n 1 (n + 1) c.before_zero-own.result.now (126 ∷ []) own (omega arith, ((omega arith, omega arith), tt))
    (omega arith) in
    let all =
    two_texts (n + 1) (length digits) c.args.most (c.before_zero-own.result.now ++ 126 ∷ []) digits marked tail.1
    (omega (arith, room, short)) in
    rw (c.joined-2.ensures, c.bytes.ensures.value, c.joined-marked.ensures) all.0
