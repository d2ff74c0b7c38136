-- What a parse finds depends on the parser of an argument only by how its values are read.
use Rattle.std.proofs.Common.{◌≡◌, ◌∙◌, ◌∷◌, ℕ, Bool, true, false, List, [], Option, Some, None, ap, ap₂, map}
use Rattle.std.proofs.Common.{option_map, refl, zero, suc}
use Rattle.std.specs.Prelude.{find, if◌then◌else◌, drop, encode_utf8, length, slice_get}
use Rattle.std.specs.List.{fold}
use Rattle.std.specs.Str.{bytes_eq, chars}
use Rattle.clap.specs.Values.{reading_of}
use Rattle.clap.specs.Lexer.{long_of, short_of}
use Rattle.clap.specs.Walk.{Held, Names, Outcome, Row, Rule, Step, Text, Waiting, Walk, action_of, after_flag}
use Rattle.clap.specs.Walk.{after_step, arg_by_id, arg_by_index, arg_by_long, arg_by_short, attached_value, bundle}
use Rattle.clap.specs.Walk.{bundle_met, bundle_step, done, finished, flag_met, has_row, idle, long_met, long_or_other}
use Rattle.clap.specs.Walk.{long_word, next, nothing_held, option, option_met, option_word, plain, plain_word}
use Rattle.clap.specs.Walk.{positional, reacted, reading_by, refused, rows_after, settled, settled_rows, short_met}
use Rattle.clap.specs.Walk.{short_or_plain, short_word, subcommand, subcommand_met, subcommand_or_other, takes_values}
use Rattle.clap.specs.Walk.{to_positional, trailing, used, used_as, used_by_id, value, values_or_missing, waits}
use Rattle.clap.specs.Walk.{walk_from, walked, walked_from, with_default, default_rows, word_met}
use Rattle.clap.specs.declared.builder.ValueParser.{ValueParser}

module _ (h : ValueParser → ValueParser) (reads : (p : ValueParser) → reading_of (h p) ≡ reading_of p) where
  -- the argument with the other parser
  abbrev pub with_other : Rule → Rule
  with_other a = record a { parser = option_map h a.parser }

  reading_same : (a : Rule) → reading_by (with_other a) ≡ reading_by a
  reading_same a = go a.parser
    where
      go : (p : Option ValueParser) → reading_by (record a { parser = option_map h p })
          ≡ reading_by (record a { parser = p })
      go None = refl
      go (Some p) = reads p

  found_same : (test : Rule → Bool) → ((a : Rule) → test (with_other a) ≡ test a) → (c : List Rule)
      → find test (map with_other c) ≡ option_map with_other (find test c)
  found_same test same [] = refl
  found_same test same (a ∷ c) = rw (same a) (ap (λ o. if test a then Some (with_other a) else o)
      (found_same test same c)
      ∙ go (test a))
    where
      go : (b : Bool) → (if b then Some (with_other a) else option_map with_other (find test c))
          ≡ option_map with_other (if b then Some a else find test c)
      go true = refl
      go false = refl

  used_same : (a : Rule) (vs : List Text) (rows : List Row) → used (with_other a) vs rows ≡ used a vs rows
  used_same a vs rows = ap (λ r. used_as (action_of a) a.id r (values_or_missing a vs) rows) (reading_same a)

  used_by_id_same : (o : Option Rule) (vs : List Text) (rows : List Row)
      → used_by_id (option_map with_other o) vs rows ≡ used_by_id o vs rows
  used_by_id_same None vs rows = refl
  used_by_id_same (Some a) vs rows = used_same a vs rows

  pub by_id_same : (c : List Rule) (id : Text) → arg_by_id (map with_other c) id
      ≡ option_map with_other (arg_by_id c id)
  by_id_same c id = found_same _ (λ a. refl) c

  pub by_long_same : (c : List Rule) (name : Text)
      → arg_by_long (map with_other c) name ≡ option_map with_other (arg_by_long c name)
  by_long_same c name = found_same _ (λ a. refl) c

  pub by_short_same : (c : List Rule) (x : ℕ)
      → arg_by_short (map with_other c) x ≡ option_map with_other (arg_by_short c x)
  by_short_same c x = found_same _ (λ a. refl) c

  pub by_index_same : (c : List Rule) (i : ℕ)
      → arg_by_index (map with_other c) i ≡ option_map with_other (arg_by_index c i)
  by_index_same c i = found_same _ (λ a. refl) c

  settled_rows_same : (c : List Rule) (p : Option (Text × List Text)) (rows : List Row)
      → settled_rows (map with_other c) p rows ≡ settled_rows c p rows
  settled_rows_same c None rows = refl
  settled_rows_same c (Some p) rows =
      ap (λ o. used_by_id o p.1 rows) (by_id_same c p.0) ∙ used_by_id_same (arg_by_id c p.0) p.1 rows

  pub settled_same : (c : List Rule) (held : Held) → settled (map with_other c) held ≡ settled c held
  settled_same c held =
      ap (λ (rows : List Row). record held { rows = rows; pending = None }) (settled_rows_same c held.pending held.rows)

  pub reacted_same : (c : List Rule) (a : Rule) (vs : List Text) (held : Held)
      → reacted (map with_other c) (with_other a) vs held ≡ reacted c a vs held
  reacted_same c a vs held =
      ap (λ (rows : List Row). record held { rows = rows; pending = None })
      (used_same a vs (settled (map with_other c) held).rows
      ∙ ap (λ (k : Held). used a vs k.rows) (settled_same c held))

  option_met_same : (c : List Rule) (a : Rule) (v : Option Text) (held : Held)
      → option_met (map with_other c) (with_other a) v held ≡ option_met c a v held
  option_met_same c a (Some v) held = ap (λ (k : Held). (k, done)) (reacted_same c a (v ∷ []) held)
  option_met_same c a None held =
      ap (λ (k : Held). (record k { pending = Some (a.id, []) }, waits a.id)) (settled_same c held)

  flag_met_same : (c : List Rule) (a : Rule) (v : Option Text) (held : Held)
      → flag_met (map with_other c) (with_other a) v held ≡ flag_met c a v held
  flag_met_same c a (Some v) held = refl
  flag_met_same c a None held = ap (λ (k : Held). (k, done)) (reacted_same c a [] held)

  long_met_same : (c : List Rule) (o : Option Rule) (v : Option Text) (held : Held)
      → long_met (map with_other c) (option_map with_other o) v held ≡ long_met c o v held
  long_met_same c None v held = refl
  long_met_same c (Some a) v held =
      ap₂ (λ (x y : Held × Outcome). if takes_values a then x else y) (option_met_same c a v held)
      (flag_met_same c a v held)

  short_met_same : (c : List Rule) (o : Option Rule) (rest : Text) (held : Held) (go other : Held → Held × Outcome)
      → ((k : Held) → other k ≡ go k)
      → short_met (map with_other c) (option_map with_other o) rest held other ≡ short_met c o rest held go
  short_met_same c None rest held go other same = refl
  short_met_same c (Some a) rest held go other same =
      ap₂ (λ (x y : Held × Outcome). if takes_values a then x else y) (option_met_same c a (attached_value rest) held)
      (same (reacted (map with_other c) (with_other a) [] held) ∙ ap go (reacted_same c a [] held))

  bundle_step_same : (c : List Rule) (x : Option ℕ) (flags : Text) (skip : ℕ) (so_far : Outcome) (held : Held)
      (go other : Text → ℕ → Outcome → Held → Held × Outcome)
      → ((t : Text) (n : ℕ) (o : Outcome) (k : Held) → other t n o k ≡ go t n o k)
      → bundle_step (map with_other c) x flags skip so_far held other ≡ bundle_step c x flags skip so_far held go
  bundle_step_same c None flags skip so_far held go other same = refl
  bundle_step_same c (Some x) flags zero so_far held go other same =
      let rest = drop (length (encode_utf8 x)) flags in
      ap (λ o. short_met (map with_other c) o rest held (other rest 0 done)) (by_short_same c x)
      ∙ short_met_same c (arg_by_short c x) rest held (go rest 0 done) (other rest 0 done) (λ k. same rest 0 done k)
  bundle_step_same c (Some x) flags (suc skip) so_far held go other same =
      same (drop (length (encode_utf8 x)) flags) skip so_far held

  bundle_met_same : (c : List Rule) (k : ℕ) (flags : Text) (skip : ℕ) (so_far : Outcome) (held : Held)
      → bundle_met (map with_other c) k flags skip so_far held ≡ bundle_met c k flags skip so_far held
  unfolding bundle_met
  bundle_met_same c zero flags skip so_far held = refl
  bundle_met_same c (suc k) flags skip so_far held =
      bundle_step_same c (slice_get (chars flags) 0) flags skip so_far held (bundle_met c k) (bundle_met
      (map with_other c) k)
      (bundle_met_same c k)

  option_word_same : (o : Option Rule) (id word : Text) (held : Held)
      → option_word (option_map with_other o) id word held ≡ option_word o id word held
  option_word_same None id word held = refl
  option_word_same (Some a) id word held = refl

  plain_word_same : (c : List Rule) (waiting : Waiting) (word : Text) (held : Held)
      → plain_word (map with_other c) waiting word held ≡ plain_word c waiting word held
  plain_word_same c (option id) word held =
      ap (λ (p : Held × Waiting). (p.0, next p.1))
      (ap (λ o. option_word o id word held) (by_id_same c id) ∙ option_word_same (arg_by_id c id) id word held)
  plain_word_same c idle word held = refl
  plain_word_same c positional word held = refl

  after_flag_same : (c : List Rule) (waiting : Waiting) (word : Text) (held : Held) (o : Outcome)
      → after_flag (map with_other c) waiting word held o ≡ after_flag c waiting word held o
  after_flag_same c waiting word held done = refl
  after_flag_same c waiting word held (waits id) = refl
  after_flag_same c waiting word held plain = plain_word_same c waiting word held
  after_flag_same c waiting word held refused = plain_word_same c waiting word held

  long_word_same : (c : List Rule) (waiting : Waiting) (word name : Text) (v : Option Text) (held : Held)
      → long_word (map with_other c) waiting word name v held ≡ long_word c waiting word name v held
  long_word_same c waiting word name v held =
      let met : long_met (map with_other c) (arg_by_long (map with_other c) name) v held
      ≡ long_met c (arg_by_long c name) v held =
      ap (λ o. long_met (map with_other c) o v held) (by_long_same c name)
      ∙ long_met_same c (arg_by_long c name) v held in
      ap (λ (m : Held × Outcome). after_flag (map with_other c) waiting word m.0 m.1) met
      ∙ after_flag_same c waiting word (long_met c (arg_by_long c name) v held).0 (long_met c
      (arg_by_long c name) v held).1

  short_word_same : (c : List Rule) (waiting : Waiting) (word flags : Text) (held : Held)
      → short_word (map with_other c) waiting word flags held ≡ short_word c waiting word flags held
  short_word_same c waiting word flags held =
      ap (λ (m : Held × Outcome). after_flag (map with_other c) waiting word m.0 m.1)
      (bundle_met_same c (length flags) flags held.skip plain (record held { skip = 0 }))
      ∙ after_flag_same c waiting word (bundle c flags held).0 (bundle c flags held).1

  short_or_plain_same : (c : List Rule) (waiting : Waiting) (word : Text) (flags : Option Text) (held : Held)
      → short_or_plain (map with_other c) waiting word flags held ≡ short_or_plain c waiting word flags held
  short_or_plain_same c waiting word (Some flags) held = short_word_same c waiting word flags held
  short_or_plain_same c waiting word None held = plain_word_same c waiting word held

  long_or_other_same : (c : List Rule) (waiting : Waiting) (word : Text) (o : Option (Text × Option Text)) (held : Held)
      → long_or_other (map with_other c) waiting word o held ≡ long_or_other c waiting word o held
  long_or_other_same c waiting word (Some p) held = long_word_same c waiting word p.0 p.1 held
  long_or_other_same c waiting word None held = short_or_plain_same c waiting word (short_of word) held

  subcommand_or_other_same : (c : List Rule) (o : Option Text) (waiting : Waiting) (position : ℕ) (word : Text)
      (held : Held)
      → subcommand_or_other (map with_other c) o waiting position word held
      ≡ subcommand_or_other c o waiting position word held
  subcommand_or_other_same c (Some name) waiting position word held = refl
  subcommand_or_other_same c None waiting position word held =
      ap (λ (m : Held × Step). if bytes_eq word (45 ∷ 45 ∷ []) then (held, trailing position) else m)
      (long_or_other_same c waiting word (long_of word) held)

  pub word_met_same : (c : List Rule) (names : Names) (is_trailing : Bool) (waiting : Waiting) (position : ℕ)
      (word : Text)
      (held : Held) → word_met (map with_other c) names is_trailing waiting position word held
      ≡ word_met c names is_trailing waiting position word held
  word_met_same c names is_trailing waiting position word held =
      ap (λ (m : Held × Step). if is_trailing then (held, value) else m)
      (subcommand_or_other_same c (subcommand_met names waiting word) waiting position word held)

  to_positional_same : (c : List Rule) (o : Option Rule) (word : Text) (w : Walk) (held : Held)
      → to_positional (map with_other c) (option_map with_other o) word w held ≡ to_positional c o word w held
  to_positional_same c None word w held = refl
  to_positional_same c (Some a) word w held = rw (settled_same c held) refl

  after_step_same : (c : List Rule) (word : Text) (w : Walk) (held : Held) (s : Step)
      → after_step (map with_other c) word w held s ≡ after_step c word w held s
  after_step_same c word w held (next waiting) = refl
  after_step_same c word w held (trailing position) = refl
  after_step_same c word w held (subcommand name) = refl
  after_step_same c word w held value =
      ap (λ o. to_positional (map with_other c) o word w held) (by_index_same c w.position)
      ∙ to_positional_same c (arg_by_index c w.position) word w held

  walked_from_same : (c : List Rule) (names : Names) (o : Option (Text × List Text)) (w : Walk) (word : Text)
      → walked_from (map with_other c) names o w word ≡ walked_from c names o w word
  walked_from_same c names (Some p) w word = refl
  walked_from_same c names None w word =
      ap (λ (m : Held × Step). after_step (map with_other c) word w m.0 m.1)
      (word_met_same c names w.is_trailing w.waiting w.position word w.held)
      ∙ after_step_same c word w (word_met c names w.is_trailing w.waiting w.position word w.held).0
      (word_met c names w.is_trailing w.waiting w.position word w.held).1

  pub walked_same : (c : List Rule) (names : Names) (w : Walk) (word : Text)
      → walked (map with_other c) names w word ≡ walked c names w word
  unfolding walked
  walked_same c names w word = walked_from_same c names w.stopped w word

  pub walk_same : (c : List Rule) (names : Names) (w : Walk) (words : List Text)
      → fold (walked (map with_other c) names) w words ≡ fold (walked c names) w words
  walk_same c names w [] = refl
  walk_same c names w (word ∷ rest) =
      ap (λ v. fold (walked (map with_other c) names) v rest) (walked_same c names w word)
      ∙ walk_same c names (walked c names w word) rest

  pub default_same : (rows : List Row) (a : Rule) → with_default rows (with_other a) ≡ with_default rows a
  default_same rows a =
      ap (λ r. if has_row a.id rows then rows else default_rows a.id r a.defaults rows) (reading_same a)

  defaults_same : (c : List Rule) (rows : List Row)
      → fold with_default rows (map with_other c) ≡ fold with_default rows c
  defaults_same [] rows = refl
  defaults_same (a ∷ c) rows =
      ap (λ k. fold with_default k (map with_other c)) (default_same rows a) ∙ defaults_same c (with_default rows a)

  pub finished_same : (c : List Rule) (held : Held) → finished (map with_other c) held ≡ finished c held
  finished_same c held =
      ap (λ (k : Held). fold with_default k.rows (map with_other c)) (settled_same c held)
      ∙ defaults_same c (settled c held).rows

  -- the same rows are found
  pub rows_same : (c : List Rule) (names : Names) (words : List Text)
      → rows_after (map with_other c) names words ≡ rows_after c names words
  rows_same c names words =
      ap (λ (w : Walk). finished (map with_other c) w.held) (walk_same c names (walk_from nothing_held) words)
      ∙ finished_same c (fold (walked c names) (walk_from nothing_held) words).held
