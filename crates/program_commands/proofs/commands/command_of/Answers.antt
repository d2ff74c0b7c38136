use Rattle.std.proofs.Common.{◌≡◌, ◌∙◌, ap, ap₂, take, arith}
use Rattle.std.proofs.lemmas.List.{take_all}
use Rattle.std.proofs.lemmas.Result.{IfOk-weaker}
use Rattle.clap.specs.Words.{App, with_rule}
use Rattle.program_commands.proofs.CommandLaws.{command_so_far, one_operand_more, with_explain_flag}
use Rattle.program_commands.proofs.commands.command_of.Goals as goal

-- Each operand adds its rule.
pub loop-operand-preserved : goal.loop-operand-preserved
loop-operand-preserved c =
    c.in_ok-command.ensures.shape c.arg_of.ensures.local
    ∙ ap₂ with_rule c.loop-operand.invariant c.arg_of.ensures.rule
    ∙ one_operand_more c.args.parsers c.args.entry.now.name.now c.args.entry.now.operands.now
    c.loop-operand.operand-index _ c.loop-operand-test.true

-- All operands are added, and the flag of every command.
pub returns : goal.returns
returns c =
    let all : take c.loop-operand.operand-index c.args.entry.now.operands.now ≡ c.args.entry.now.operands.now =
    take_all _ _ (omega arith) in
    let before = c.loop-operand.invariant ∙ ap (command_so_far c.args.parsers c.args.entry.now.name.now) all in
    IfOk-weaker c.arg-2.result _ _ (λ command adds. ap (λ (a : App). a.top)
    (adds.shape c.arg_of-2.ensures.local
    ∙ ap₂ with_rule before c.arg_of-2.ensures.rule
    ∙ with_explain_flag c.args.parsers c.args.entry.now)) c.arg-2.ensures
