-- The option that gives a channel.
use Rattle.std.proofs.Common.{◌≡◌, ℕ, suc, false, true, List, Option, Some, None, codes, subst}
use Rattle.clap.specs.Words.{Row, Text, first_of}
use Rattle.program_commands.specs.Words.{FindsOne, IsDecimal, IsGiven, optional_channel}

-- an option whose text is no number from 1 on gives no channel
pub no_channel : (rows : List Row) (text : Text) → first_of (codes "channel") rows ≡ Some text
    → FindsOne None (λ channel. IsDecimal 16 text (suc channel))
    → FindsOne None (λ channel. IsGiven rows (optional_channel channel))
no_channel rows text used none = (tt, go)
  where
    go : (channel : Option ℕ) → IsGiven rows (optional_channel channel) → false ≡ true
    go None given = absurd cc
    go (Some channel) given =
        let same : given.0 ≡ text = let e = given.1 in cc in
        let named : Text → Type 0 = λ t. IsDecimal 16 t (suc channel) in
        none.1 channel (subst named same given.2)
