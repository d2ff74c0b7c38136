-- Requests of the command that was used.
use Rattle.std.proofs.Common.{◌≡◌, ◌∙◌, ◌⊎◌, ◌&&◌, Bool, true, false, refl, IsSome, Result, Ok, Err, List, Option}
use Rattle.std.proofs.Common.{Some, None, ap, codes, option_map, sym, subst, arith}
use Rattle.clap.specs.Words.{App, HasKind, HasMatchesOf, Kinds, Row, Text, fault_of, first_of, is_simple_and_free}
use Rattle.clap.specs.Words.{subcommand_of, subcommand_rows_of}
use Rattle.clap.specs.declared.error.Error.{Error}
use Rattle.clap.specs.declared.parser.matches.ArgMatches.{ArgMatches}
use Rattle.program_commands.specs.declared.explain.Topic.{Topic}
use Rattle.program_commands.specs.declared.words.Request.{Request}
use Rattle.program_commands.specs.declared.words.Request.TheVariants.{Apply, ApplyOnly, Explain, Import, ImportKit}
use Rattle.program_commands.specs.declared.words.Request.TheVariants.{Live}
use Rattle.program_commands.specs.Commands.{IsSfbankApp, app_with, parsers_of, sfbank_app}
use Rattle.program_commands.specs.Words.{AreGiven, AsksFor, AsksForNone, FailsByFault, FindsOne, IsParsedBy}
use Rattle.program_commands.specs.Words.{command_of, kit_operands, operands_of, output_named, standard_word}
use Rattle.program_commands.specs.Words.{topic_operands}
use Rattle.program_commands.proofs.AppLaws.{fault_same, free_app, simple_app, subcommand_same}

-- a request is asked for if its command was used and the words give its operands their values
pub asks : (rows : List Row) {name : Text} {request result : Request} → result ≡ request → name ≡ command_of request
    → AreGiven rows (operands_of request) → AsksFor (Some (name, rows)) result
asks rows {name} {request} {result} is command given =
    let of_result : Request → Type 0 = λ r. AsksFor (Some (name, rows)) r in
    subst of_result (sym is) (command, given)

-- if `explain` was used and any request is asked for, the words give a topic
pub explained : (rows : List Row) {name : Text} → name ≡ codes "explain" → (request : Request)
    → AsksFor (Some (name, rows)) request → (topic : Topic) × AreGiven rows (topic_operands topic)
explained rows {name} command request asked = go request (sym command) asked
  where
    go : (r : Request) → codes "explain" ≡ name → AsksFor (Some (name, rows)) r
        → (topic : Topic) × AreGiven rows (topic_operands topic)
    go (Explain topic) is asked = (topic, asked.1)
    go _ is asked = absurd (grind arith)

-- if `import` was used, and neither one recording nor a kit is given, no request is asked for
pub none_imported : (rows : List Row) → FindsOne None (λ paths. AreGiven rows (operands_of (Import paths)))
    → FindsOne None (λ kit. AreGiven rows (kit_operands kit))
    → FindsOne None (AsksFor (Some (codes "import", rows)))
none_imported rows first second = (tt, go)
  where
    go : (r : Request) → AsksFor (Some (codes "import", rows)) r → false ≡ true
    go (Import paths) asked = first.1 paths asked.1
    go (ImportKit kit) asked = second.1 kit asked.1
    go _ asked = let is = asked.0 in absurd (grind arith)

-- if `apply` was used, with neither UNDO nor the flag in its place, no request is asked for
pub apply_asks_none : (used : Option (Text × List Row)) → option_map (λ u. u.0) used ≡ Some (codes "apply")
    → option_map (λ u. first_of (codes "no-undo") u.1) used ≡ Some (Some (codes "false"))
    → option_map (λ u. first_of (codes "UNDO") u.1) used ≡ Some None → AsksForNone used
apply_asks_none None name flag undo request asked = asked
apply_asks_none (Some used) name flag undo request asked =
    let is : codes "apply" ≡ used.0 = cc in
    go request is asked
  where
    go : (r : Request) → codes "apply" ≡ used.0 → AsksFor (Some used) r → ⊥
    go (Apply paths) is asked =
        let bad : Some (Some paths.undo.now) ≡ Some None =
        ap Some (sym asked.1.1.1.1.0) ∙ ap (option_map (option_map output_named)) undo in
        absurd cc
    go (ApplyOnly paths) is asked =
        let bad : Some (Some (codes "true")) ≡ Some (Some (codes "false")) =
        ap Some (sym asked.1.1.1.1.1.1.1.0) ∙ flag in
        absurd (grind arith)
    go _ is asked = absurd (grind arith)

-- if `live` was used, with `-` for the frames, no request is asked for
pub live_asks_none : (used : Option (Text × List Row)) → option_map (λ u. u.0) used ≡ Some (codes "live")
    → option_map (λ u. first_of (codes "PCM") u.1) used ≡ Some (Some standard_word) → AsksForNone used
live_asks_none None name pcm request asked = asked
live_asks_none (Some used) name pcm request asked =
    let is : codes "live" ≡ used.0 = cc in
    go request is asked
  where
    go : (r : Request) → codes "live" ≡ used.0 → AsksFor (Some used) r → ⊥
    go (Live paths) is asked =
        let same : Some (Some paths.pcm.now) ≡ Some (Some standard_word) = ap Some (sym asked.1.1.0.0) ∙ pcm in
        asked.1.1.0.1 cc
    go _ is asked = absurd (grind arith)

-- what a command with the app of sfbank is asked for, the words ask sfbank for
pub asked_of_sfbank : {app : App} → IsSfbankApp app → (words : List Text) (request : Request)
    → IsParsedBy app words request → AsksFor (subcommand_of sfbank_app words) request
asked_of_sfbank {app} is words request parsed =
    let of_app : App → Type 0 = λ a. IsParsedBy a words request in
    let of_used : Option (Text × List Row) → Type 0 = λ o. AsksFor o request in
    subst of_used (subcommand_same is.0 is.1 words) (subst of_app is.2 parsed (simple_app is.0))

-- a command with the app of sfbank fails by the faults of sfbank
pub fails_as_sfbank : {app : App} → IsSfbankApp app → (words : List Text) (result : Result Request Error)
    → (is_simple_and_free app ≡ true → FailsByFault app words result) → FailsByFault sfbank_app words result
fails_as_sfbank {app} is words (Ok request) fails =
    let of_app : App → Type 0 = λ a. is_simple_and_free a ≡ true → FailsByFault a words (Ok request) in
    sym (fault_same is.0 is.1 words) ∙ subst of_app is.2 fails (free_app is.0)
fails_as_sfbank {app} is words (Err e) fails =
    let of_app : App → Type 0 = λ a. is_simple_and_free a ≡ true → FailsByFault a words (Err e) in
    let Fails : Kinds → Option (Text × List Row) → Type 0 = λ kinds used. HasKind kinds e ⊎ AsksForNone used in
    let with_fault : Kinds → Type 0 = λ kinds. Fails kinds (subcommand_of sfbank_app words) in
    let with_used : Option (Text × List Row) → Type 0 =
    λ used. Fails (fault_of (app_with (parsers_of is.0)) words) used in
    subst with_fault (fault_same is.0 is.1 words)
    (subst with_used (subcommand_same is.0 is.1 words) (subst of_app is.2 fails (free_app is.0)))

-- the first of two conditions that hold
first_of_both : (a b : Bool) → (a && b) ≡ true → a ≡ true
first_of_both true b h = refl
first_of_both false b h = h

-- where no request is found among the matches, the words ask for none
pub none_asked : (app : App) (words : List Text) (matches : ArgMatches) (found : Option Request)
    → HasMatchesOf app words matches → is_simple_and_free app ≡ true
    → FindsOne found (AsksFor (subcommand_rows_of matches)) → found ≡ None → AsksForNone (subcommand_of app words)
none_asked app words matches found has free finds none request asked =
    let of_used : Option (Text × List Row) → Type 0 = λ o. AsksFor o request in
    let some : Option Request → Type 0 = λ o. IsSome o in
    let used = (has (first_of_both _ _ free)).1 in
    let bad : false ≡ true = subst some none (finds.1 request (subst of_used (sym used) asked)) in
    absurd cc
