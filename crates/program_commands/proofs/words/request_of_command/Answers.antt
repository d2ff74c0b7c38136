use Rattle.std.proofs.Common.{Some, refl}
use Rattle.program_commands.specs.Words.{AreGiven, AsksFor, rows_in, tidy_operands, topic_operands}
use Rattle.program_commands.proofs.GetterLaws.{none_found}
use Rattle.program_commands.proofs.PlanLaws.{tidied}
use Rattle.program_commands.proofs.RequestLaws.{asks, explained}
use Rattle.program_commands.proofs.words.request_of_command.Goals as goal
use Rattle.program_commands.proofs.words.request_of_command.Goals.{in-canon+in_ok-read_canon-in-canon}
use Rattle.program_commands.proofs.words.request_of_command.Goals.{in-check+in_ok-read_check-in-check}
use Rattle.program_commands.proofs.words.request_of_command.Goals.{in-diff+in_ok-read_diff-in-diff}
use Rattle.program_commands.proofs.words.request_of_command.Goals.{in-explain+in_ok-read_topic-in-explain}
use Rattle.program_commands.proofs.words.request_of_command.Goals.{in-live+in_ok-read_live-in-live}
use Rattle.program_commands.proofs.words.request_of_command.Goals.{in-map+in_ok-read_map-in-map}
use Rattle.program_commands.proofs.words.request_of_command.Goals.{in-merge+in_ok-read_merge-in-merge}
use Rattle.program_commands.proofs.words.request_of_command.Goals.{in-new+in_ok-read_new-in-new}
use Rattle.program_commands.proofs.words.request_of_command.Goals.{in-pack+in_ok-read_pack-in-pack}
use Rattle.program_commands.proofs.words.request_of_command.Goals.{in-page+in_ok-read_page-in-page}
use Rattle.program_commands.proofs.words.request_of_command.Goals.{in-play+in_ok-read_play-in-play}
use Rattle.program_commands.proofs.words.request_of_command.Goals.{in-replace+in_ok-read_replace-in-replace}
use Rattle.program_commands.proofs.words.request_of_command.Goals.{in-script+in_ok-read_script-in-script}
use Rattle.program_commands.proofs.words.request_of_command.Goals.{in-show+in_ok-read_show-in-show}
use Rattle.program_commands.proofs.words.request_of_command.Goals.{in-tidy+in_ok-read_tidy-in-tidy}
use Rattle.program_commands.proofs.words.request_of_command.Goals.{in-unpack+in_ok-read_unpack-in-unpack}

-- No request of `explain` is asked for without a topic.
pub returns-in_err-read_topic-in-explain : goal.returns-in_err-read_topic-in-explain
returns-in_err-read_topic-in-explain c =
    let rows = rows_in c.args.words.now in
    none_found (AsksFor (Some (c.args.name.now, rows))) (λ topic. AreGiven rows (topic_operands topic))
    c.from_residual-in_err-read_topic-in-explain.result c.read_topic.result
    c.from_residual-in_err-read_topic-in-explain.ensures c.in_err-read_topic-in-explain.was c.read_topic.ensures
    (explained rows c.in-explain.is)

-- No request of `tidy` is asked for without its operands.
pub returns-in_err-read_tidy-in-tidy : goal.returns-in_err-read_tidy-in-tidy
returns-in_err-read_tidy-in-tidy c =
    let rows = rows_in c.args.words.now in
    none_found (AsksFor (Some (c.args.name.now, rows))) (λ tidy. AreGiven rows (tidy_operands tidy))
    c.from_residual-in_err-read_tidy-in-tidy.result c.read_tidy.result
    c.from_residual-in_err-read_tidy-in-tidy.ensures c.in_err-read_tidy-in-tidy.was c.read_tidy.ensures
    (tidied rows c.in-tidy.is)

-- Each arm reads the operands of its own command.
pub returns : goal.returns
returns c = let rows = rows_in c.args.words.now in (
  elim c.match-name.branch [
    | in-canon+in_ok-read_canon-in-canon w ↦
        asks rows w.result-is w.in-canon.is w.in_ok-read_canon-in-canon.ensures.0
    | in-check+in_ok-read_check-in-check w ↦
        asks rows w.result-is w.in-check.is w.in_ok-read_check-in-check.ensures.0
    | in-diff+in_ok-read_diff-in-diff w ↦
        asks rows w.result-is w.in-diff.is w.in_ok-read_diff-in-diff.ensures.0
    | in-explain+in_ok-read_topic-in-explain w ↦
        asks rows w.result-is w.in-explain.is w.in_ok-read_topic-in-explain.ensures.0
    | in-live+in_ok-read_live-in-live w ↦
        asks rows w.result-is w.in-live.is w.in_ok-read_live-in-live.ensures.0
    | in-map+in_ok-read_map-in-map w ↦
        asks rows w.result-is w.in-map.is w.in_ok-read_map-in-map.ensures.0
    | in-merge+in_ok-read_merge-in-merge w ↦
        asks rows w.result-is w.in-merge.is w.in_ok-read_merge-in-merge.ensures.0
    | in-new+in_ok-read_new-in-new w ↦
        asks rows w.result-is w.in-new.is w.in_ok-read_new-in-new.ensures.0
    | in-pack+in_ok-read_pack-in-pack w ↦
        asks rows w.result-is w.in-pack.is w.in_ok-read_pack-in-pack.ensures.0
    | in-page+in_ok-read_page-in-page w ↦
        asks rows w.result-is w.in-page.is w.in_ok-read_page-in-page.ensures.0
    | in-play+in_ok-read_play-in-play w ↦
        asks rows w.result-is w.in-play.is w.in_ok-read_play-in-play.ensures.0
    | in-replace+in_ok-read_replace-in-replace w ↦
        asks rows w.result-is w.in-replace.is w.in_ok-read_replace-in-replace.ensures.0
    | in-script+in_ok-read_script-in-script w ↦
        asks rows w.result-is w.in-script.is w.in_ok-read_script-in-script.ensures.0
    | in-show+in_ok-read_show-in-show w ↦
        asks rows w.result-is w.in-show.is w.in_ok-read_show-in-show.ensures.0
    | in-tidy+in_ok-read_tidy-in-tidy w ↦
        asks rows w.result-is w.in-tidy.is w.in_ok-read_tidy-in-tidy.ensures.0
    | in-unpack+in_ok-read_unpack-in-unpack w ↦
        asks rows w.result-is w.in-unpack.is w.in_ok-read_unpack-in-unpack.ensures.0
  ],
  λ request asked. refl,
)
