-- A word is at most one topic of `explain`. That it is one is the contract of `topic_of`.
use Rattle.std.proofs.Common.{◌≡◌, ◌∙◌, ℕ, arith, sym, subst}
use Rattle.clap.specs.Words.{Text}
use Rattle.program_commands.specs.declared.explain.Topic.{Topic}
use Rattle.program_commands.specs.declared.explain.Topic.TheVariants.{Generators, Name, Number}
use Rattle.program_commands.specs.Words.{IsDecimal, IsTopic, generators_word}

-- topics with the same number or the same name
abbrev pub SameTopic : Topic → Topic → Type 0
SameTopic (Number m) (Number n) = m ≡ n
SameTopic (Name first) (Name second) = first.now ≡ second.now
SameTopic Generators Generators = Unit {0}
SameTopic first second = ⊥

-- the word for the generators is no numeral
generators_not_decimal : (n : ℕ) → IsDecimal 32 generators_word n → ⊥
generators_not_decimal n decimal = absurd (grind arith)

-- a word is at most one topic
pub one_topic : (word : Text) (first second : Topic) → IsTopic word first → IsTopic word second
    → SameTopic first second
one_topic word (Number m) (Number n) a b = a.1 ∙ sym b.1
one_topic word (Number m) (Name name) a b = b.2 m a
one_topic word (Number m) Generators a b =
    let decimal : Text → Type 0 = λ t. IsDecimal 32 t m in
    generators_not_decimal m (subst decimal b a)
one_topic word (Name name) (Number n) a b = a.2 n b
one_topic word (Name first) (Name second) a b = a.0 ∙ sym b.0
one_topic word (Name name) Generators a b = a.1 b
one_topic word Generators (Number n) a b =
    let decimal : Text → Type 0 = λ t. IsDecimal 32 t n in
    generators_not_decimal n (subst decimal a b)
one_topic word Generators (Name name) a b = b.1 a
one_topic word Generators Generators a b = tt
