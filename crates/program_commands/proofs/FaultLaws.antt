-- The faults of words depend on the parser of an argument only by which values it accepts and how they are read.
use Rattle.std.proofs.Common.{◌≡◌, ◌∙◌, ◌∷◌, ◌&&◌, ◌||◌, ℕ, Bool, not, List, [], Option, Some, None, ap, ap₂, map}
use Rattle.std.proofs.Common.{option_map, refl, zero, suc}
use Rattle.std.specs.Prelude.{if◌then◌else◌, drop, encode_utf8, is_some, length, slice_get}
use Rattle.std.specs.List.{list_any}
use Rattle.std.specs.Option.{option_map_or}
use Rattle.std.specs.Str.{bytes_eq, chars}
use Rattle.clap.specs.Facts.{explicit_source, parser_of_value, unwrap_or_range}
use Rattle.clap.specs.Values.{reading_of}
use Rattle.clap.specs.Lexer.{long_of, short_of}
use Rattle.clap.specs.Takes.{is_given}
use Rattle.clap.specs.Kinds.{Kinds, check_kinds, or_else, range_kinds, value_kinds, values_kinds, request_kinds}
use Rattle.clap.specs.Simple.{Shape}
use Rattle.clap.specs.Walk.{Held, Names, Row, Rule, Step, Text, Waiting, Walk, action_of, arg_by_id, arg_by_index}
use Rattle.clap.specs.Walk.{arg_by_long, arg_by_short, attached_value, finished, has_row, is_empty, is_pending}
use Rattle.clap.specs.Walk.{most_values, next, nothing_held, reacted, settled, subcommand, subcommand_met}
use Rattle.clap.specs.Walk.{takes_several, takes_values, trailing, value, values_or_missing, walk, walk_from, walked}
use Rattle.clap.specs.Walk.{with_default, word_met}
use Rattle.clap.specs.Faults.{action_fault, bundle_fault, bundle_step_fault, check_fault, count_fault, default_fault}
use Rattle.clap.specs.Faults.{defaults_fault, flag_word_fault, flags_fault, level_fault, long_fault, option_fault}
use Rattle.clap.specs.Faults.{other_fault, positional_fault, react_fault, repeat_fault, settle_fault, short_fault}
use Rattle.clap.specs.Faults.{step_fault, stray_fault, turn_fault, use_fault, values_fault, walk_fault, word_fault}
use Rattle.clap.specs.declared.error.kind.ErrorKind.TheVariants as kind
use Rattle.clap.specs.declared.builder.ArgAction.{ArgAction}
use Rattle.clap.specs.declared.builder.ArgAction.TheVariants.{Set, Append, SetTrue, SetFalse, Count}
use Rattle.clap.specs.declared.builder.ValueParser.{ValueParser}
use Rattle.program_commands.proofs.WalkLaws.{by_id_same, by_index_same, by_long_same, by_short_same, default_same}
use Rattle.program_commands.proofs.WalkLaws.{finished_same, reacted_same, settled_same, walk_same, walked_same}
use Rattle.program_commands.proofs.WalkLaws.{with_other, word_met_same}

module _ (h : ValueParser → ValueParser) (reads : (p : ValueParser) → reading_of (h p) ≡ reading_of p)
    (accepts_same : (ignore_case : Bool) (p : ValueParser) (text : Text) → value_kinds ignore_case (h p) text
    ≡ value_kinds ignore_case p text)
  where
    abbrev pub other : Rule → Rule
    other = with_other h reads

    abbrev pub others : List Rule → List Rule
    others = map other

    -- the shape with the other parsers
    abbrev pub shape_with : Shape → Shape
    shape_with s = record s { rules = others s.rules }

    values_same : (ignore_case : Bool) (p : ValueParser) (vs : List Text)
        → values_kinds ignore_case (h p) vs ≡ values_kinds ignore_case p vs
    values_same ignore_case p [] = refl
    values_same ignore_case p (v ∷ vs) = ap₂ or_else (accepts_same ignore_case p v) (values_same ignore_case p vs)

    given_same : (ignore_case : Bool) (p : Option ValueParser) (vs : List Text)
        → values_kinds ignore_case (parser_of_value (option_map h p)) vs
        ≡ values_kinds ignore_case (parser_of_value p) vs
    given_same ignore_case None vs = refl
    given_same ignore_case (Some p) vs = values_same ignore_case p vs

    one_given_same : (ignore_case : Bool) (p : Option ValueParser) (v : Text)
        → value_kinds ignore_case (parser_of_value (option_map h p)) v ≡ value_kinds ignore_case (parser_of_value p) v
    one_given_same ignore_case None v = refl
    one_given_same ignore_case (Some p) v = accepts_same ignore_case p v

    values_fault_same : (a : Rule) (vs : List Text) → values_fault (other a) vs ≡ values_fault a vs
    values_fault_same a vs = given_same a.ignore_case a.parser vs

    count_fault_same : (a : Rule) (vs : List Text) (rows : List Row) → count_fault (other a) vs rows
        ≡ count_fault a vs rows
    count_fault_same a [] rows = one_given_same a.ignore_case a.parser _
    count_fault_same a (v ∷ vs) rows = values_fault_same a (v ∷ vs)

    action_fault_same : (action : ArgAction) (again : Bool) (a : Rule) (vs : List Text) (rows : List Row)
        → action_fault action again (other a) vs rows ≡ action_fault action again a vs rows
    action_fault_same Set again a vs rows = ap (or_else (repeat_fault again a.id rows)) (values_fault_same a vs)
    action_fault_same SetTrue again a vs rows = ap (or_else (repeat_fault again a.id rows)) (values_fault_same a vs)
    action_fault_same SetFalse again a vs rows = ap (or_else (repeat_fault again a.id rows)) (values_fault_same a vs)
    action_fault_same Append again a vs rows = values_fault_same a vs
    action_fault_same Count again a vs rows = count_fault_same a vs rows
    action_fault_same _ again a vs rows = refl

    use_fault_same : (again : Bool) (a : Rule) (vs : List Text) (rows : List Row)
        → use_fault again (other a) vs rows ≡ use_fault again a vs rows
    use_fault_same again a vs rows =
        ap (or_else (range_kinds (unwrap_or_range a.range).start_inclusive (most_values a) (length vs)))
        (action_fault_same (action_of a) again a (values_or_missing a vs) rows)

    use_by_id_same : (again : Bool) (o : Option Rule) (vs : List Text) (rows : List Row)
        → option_map_or (λ a. use_fault again a vs rows) (option_map other o) []
        ≡ option_map_or (λ a. use_fault again a vs rows) o []
    use_by_id_same again None vs rows = refl
    use_by_id_same again (Some a) vs rows = use_fault_same again a vs rows

    settle_at_same : (c : List Rule) (again : Bool) (p : Option (Text × List Text)) (rows : List Row)
        → option_map_or (λ (q : Text × List Text). option_map_or (λ a. use_fault again a q.1 rows) (arg_by_id
        (others c) q.0) []) p []
        ≡ option_map_or (λ (q : Text × List Text). option_map_or (λ a. use_fault again a q.1 rows)
        (arg_by_id c q.0) []) p []
    settle_at_same c again None rows = refl
    settle_at_same c again (Some q) rows =
        ap (λ o. option_map_or (λ a. use_fault again a q.1 rows) o []) (by_id_same h reads c q.0)
        ∙ use_by_id_same again (arg_by_id c q.0) q.1 rows

    settle_fault_same : (c : List Rule) (again : Bool) (held : Held)
        → settle_fault (others c) again held ≡ settle_fault c again held
    settle_fault_same c again held = settle_at_same c again held.pending held.rows

    react_fault_same : (c : List Rule) (again : Bool) (a : Rule) (vs : List Text) (held : Held)
        → react_fault (others c) again (other a) vs held ≡ react_fault c again a vs held
    react_fault_same c again a vs held =
        ap₂ or_else (settle_fault_same c again held)
        (use_fault_same again a vs (settled (others c) held).rows
        ∙ ap (λ (k : Held). use_fault again a vs k.rows) (settled_same h reads c held))

    option_fault_same : (c : List Rule) (again : Bool) (a : Rule) (v : Option Text) (held : Held)
        → option_fault (others c) again (other a) v held ≡ option_fault c again a v held
    option_fault_same c again a (Some v) held = react_fault_same c again a (v ∷ []) held
    option_fault_same c again a None held = settle_fault_same c again held

    long_fault_same : (c : List Rule) (again : Bool) (o : Option Rule) (v : Option Text) (held : Held)
        → long_fault (others c) again (option_map other o) v held ≡ long_fault c again o v held
    long_fault_same c again None v held = refl
    long_fault_same c again (Some a) v held =
        ap₂ (λ (x y : Kinds). if takes_values a then x else (if is_some v then kind.TooManyValues ∷ [] else y))
        (option_fault_same c again a v held) (react_fault_same c again a [] held)

    short_fault_same : (c : List Rule) (again : Bool) (o : Option Rule) (rest : Text) (held : Held) (go with : Held
        → Kinds)
        → ((k : Held) → with k ≡ go k)
        → short_fault (others c) again (option_map other o) rest held with ≡ short_fault c again o rest held go
    short_fault_same c again None rest held go with same = refl
    short_fault_same c again (Some a) rest held go with same =
        ap₂ (λ (x y : Kinds). if takes_values a then x else y) (option_fault_same c again a (attached_value rest) held)
        (ap₂ or_else (react_fault_same c again a [] held)
        (same (reacted (others c) (other a) [] held) ∙ ap go (reacted_same h reads c a [] held)))

    bundle_step_fault_same : (c : List Rule) (again : Bool) (x : Option ℕ) (flags : Text) (skip : ℕ) (held : Held)
        (go with : Text → ℕ → Held → Kinds) → ((t : Text) (n : ℕ) (k : Held) → with t n k ≡ go t n k)
        → bundle_step_fault (others c) again x flags skip held with ≡ bundle_step_fault c again x flags skip held go
    bundle_step_fault_same c again None flags skip held go with same = refl
    bundle_step_fault_same c again (Some x) flags zero held go with same =
        let rest = drop (length (encode_utf8 x)) flags in
        ap (λ o. short_fault (others c) again o rest held (with rest 0)) (by_short_same h reads c x)
        ∙ short_fault_same c again (arg_by_short c x) rest held (go rest 0) (with rest 0) (λ k. same rest 0 k)
    bundle_step_fault_same c again (Some x) flags (suc skip) held go with same =
        same (drop (length (encode_utf8 x)) flags) skip held

    flags_fault_same : (c : List Rule) (again : Bool) (k : ℕ) (flags : Text) (skip : ℕ) (held : Held)
        → flags_fault (others c) again k flags skip held ≡ flags_fault c again k flags skip held
    unfolding flags_fault
    flags_fault_same c again zero flags skip held = refl
    flags_fault_same c again (suc k) flags skip held =
        bundle_step_fault_same c again (slice_get (chars flags) 0) flags skip held (flags_fault c again k)
        (flags_fault (others c) again k) (flags_fault_same c again k)

    bundle_at_same : (c : List Rule) (again : Bool) (o : Option Text) (held : Held)
        → option_map_or (λ flags. bundle_fault (others c) again flags held) o []
        ≡ option_map_or (λ flags. bundle_fault c again flags held) o []
    bundle_at_same c again None held = refl
    bundle_at_same c again (Some flags) held =
        flags_fault_same c again (length flags) flags held.skip (record held { skip = 0 })

    flag_word_fault_same : (c : List Rule) (again : Bool) (o : Option (Text × Option Text)) (word : Text) (held : Held)
        → flag_word_fault (others c) again o word held ≡ flag_word_fault c again o word held
    flag_word_fault_same c again (Some p) word held =
        ap (λ o. long_fault (others c) again o p.1 held) (by_long_same h reads c p.0)
        ∙ long_fault_same c again (arg_by_long c p.0) p.1 held
    flag_word_fault_same c again None word held = bundle_at_same c again (short_of word) held

    other_fault_same : (s : Shape) (o : Option Text) (word : Text) (held : Held)
        → other_fault (shape_with s) o word held ≡ other_fault s o word held
    other_fault_same s (Some name) word held = refl
    other_fault_same s None word held =
        ap (λ (x : Kinds). if bytes_eq word (45 ∷ 45 ∷ []) then [] else x)
        (flag_word_fault_same s.rules s.args_override_self (long_of word) word held)

    word_fault_same : (s : Shape) (names : Names) (is_trailing : Bool) (waiting : Waiting) (word : Text) (held : Held)
        → word_fault (shape_with s) names is_trailing waiting word held
        ≡ word_fault s names is_trailing waiting word held
    word_fault_same s names is_trailing waiting word held =
        ap (λ (x : Kinds). if is_trailing then [] else x) (other_fault_same s
        (subcommand_met names waiting word) word held)

    positional_at_same : (s : Shape) (o : Option Rule) (held : Held)
        → option_map_or (λ a. positional_fault (others s.rules) s.args_override_self a held) (option_map other o)
        (stray_fault s)
        ≡ option_map_or (λ a. positional_fault s.rules s.args_override_self a held) o (stray_fault s)
    positional_at_same s None held = refl
    positional_at_same s (Some a) held =
        ap (λ (x : Kinds). if is_pending a held.pending && takes_several a then [] else x)
        (settle_fault_same s.rules s.args_override_self held)

    step_fault_same : (s : Shape) (position : ℕ) (held : Held) (step : Step)
        → step_fault (shape_with s) position held step ≡ step_fault s position held step
    step_fault_same s position held (next waiting) = refl
    step_fault_same s position held (trailing n) = refl
    step_fault_same s position held (subcommand name) = refl
    step_fault_same s position held value =
        ap (λ o. option_map_or (λ a. positional_fault (others s.rules) s.args_override_self a held) o (stray_fault s))
        (by_index_same h reads s.rules position)
        ∙ positional_at_same s (arg_by_index s.rules position) held

    turn_fault_same : (s : Shape) (names : Names) (w : Walk) (word : Text)
        → turn_fault (shape_with s) names w word ≡ turn_fault s names w word
    turn_fault_same s names w word =
        ap₂ (λ (x y : Kinds). if is_some w.stopped then [] else or_else x y)
        (word_fault_same s names w.is_trailing w.waiting word w.held)
        (ap (λ (m : Held × Step). step_fault (shape_with s) w.position m.0 m.1)
        (word_met_same h reads s.rules names w.is_trailing w.waiting w.position word w.held)
        ∙ step_fault_same s w.position (word_met s.rules names w.is_trailing w.waiting w.position word w.held).0
        (word_met s.rules names w.is_trailing w.waiting w.position word w.held).1)

    walk_fault_same : (s : Shape) (names : Names) (w : Walk) (words : List Text)
        → walk_fault (shape_with s) names w words ≡ walk_fault s names w words
    unfolding walk_fault
    walk_fault_same s names w [] = refl
    walk_fault_same s names w (word ∷ rest) =
        ap₂ or_else (turn_fault_same s names w word)
        (ap (λ v. walk_fault (shape_with s) names v rest) (walked_same h reads s.rules names w word)
        ∙ walk_fault_same s names (walked s.rules names w word) rest)

    default_fault_same : (rows : List Row) (a : Rule) → default_fault rows (other a) ≡ default_fault rows a
    default_fault_same rows a =
        ap (λ (x : Kinds). if has_row a.id rows || is_empty a.defaults then [] else or_else (request_kinds
        (action_of a)) x)
        (values_fault_same a a.defaults)

    defaults_fault_same : (rows : List Row) (c : List Rule) → defaults_fault rows (others c) ≡ defaults_fault rows c
    unfolding defaults_fault
    defaults_fault_same rows [] = refl
    defaults_fault_same rows (a ∷ c) =
        ap₂ or_else (default_fault_same rows a)
        (ap (λ k. defaults_fault k (others c)) (default_same h reads rows a)
        ∙ defaults_fault_same (with_default rows a) c)

    wanted_same : (rows : List Row) (c : List Rule)
        → list_any (λ a. a.required && not (is_given a.id rows)) (others c)
        ≡ list_any (λ a. a.required && not (is_given a.id rows)) c
    wanted_same rows [] = refl
    wanted_same rows (a ∷ c) = ap (λ b. (a.required && not (is_given a.id rows)) || b) (wanted_same rows c)

    check_fault_same : (s : Shape) (rows : List Row) (has_subcommand : Bool)
        → check_fault (shape_with s) rows has_subcommand ≡ check_fault s rows has_subcommand
    check_fault_same s rows has_subcommand =
        ap (λ b. check_kinds
        (not has_subcommand && (s.arg_required_else_help && not (list_any (λ r. explicit_source r.source) rows)))
        (not has_subcommand && s.subcommand_required) (not (s.subcommand_negates_reqs && has_subcommand) && b))
        (wanted_same rows s.rules)

    -- a level of the parse has the same faults
    pub level_fault_same : (s : Shape) (names : Names) (words : List Text) (has_subcommand : Bool) (below : Kinds)
        → level_fault (shape_with s) names nothing_held words has_subcommand below
        ≡ level_fault s names nothing_held words has_subcommand below
    level_fault_same s names words has_subcommand below =
        let end = (walk s.rules names nothing_held words).held in
        let end_with = (walk (others s.rules) names nothing_held words).held in
        let ends : end_with ≡ end = ap (λ (w : Walk). w.held) (walk_same h reads s.rules names
        (walk_from nothing_held) words) in
        let settles : settle_fault (others s.rules) s.args_override_self end_with
        ≡ settle_fault s.rules s.args_override_self end =
        ap (λ (k : Held). settle_fault (others s.rules) s.args_override_self k) ends
        ∙ settle_fault_same s.rules s.args_override_self end in
        let rows : (settled (others s.rules) end_with).rows ≡ (settled s.rules end).rows =
        ap (λ (k : Held). (settled (others s.rules) k).rows) ends
        ∙ ap (λ (k : Held). k.rows) (settled_same h reads s.rules end) in
        let defaults : defaults_fault (settled (others s.rules) end_with).rows (others s.rules)
        ≡ defaults_fault (settled s.rules end).rows s.rules =
        ap (λ r. defaults_fault r (others s.rules)) rows ∙ defaults_fault_same (settled s.rules end).rows s.rules in
        let checks : check_fault (shape_with s) (finished (others s.rules) end_with) has_subcommand
        ≡ check_fault s (finished s.rules end) has_subcommand =
        ap (λ r. check_fault (shape_with s) r has_subcommand)
        (ap (λ (k : Held). finished (others s.rules) k) ends ∙ finished_same h reads s.rules end)
        ∙ check_fault_same s (finished s.rules end) has_subcommand in
        ap₂ or_else (walk_fault_same s names (walk_from nothing_held) words)
        (ap (or_else below) (ap₂ or_else settles (ap₂ or_else defaults checks)))
