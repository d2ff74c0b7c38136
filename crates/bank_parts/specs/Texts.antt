-- The eight texts by their ids.
use Rattle.std.specs.Prelude.{ℕ, Bool, true, false, List}
use Rattle.sf_base.specs.declared.limits.TheConstants.{TEXT_LENGTH, COMMENT_LENGTH}
use Rattle.bank_parts.specs.declared.texts.Texts.{Texts}
use Rattle.bank_parts.specs.declared.texts.InfoId.{InfoId}
use Rattle.bank_parts.specs.declared.texts.InfoId.TheVariants.{Engine, Name, Date, Engineers, Product, Copyright}
use Rattle.bank_parts.specs.declared.texts.InfoId.TheVariants.{Comment, Software}

-- the text with this id
abbrev pub text_of : Texts → InfoId → List ℕ
text_of texts Engine = texts.engine
text_of texts Name = texts.name
text_of texts Date = texts.date
text_of texts Engineers = texts.engineers
text_of texts Product = texts.product
text_of texts Copyright = texts.copyright
text_of texts Comment = texts.comment
text_of texts Software = texts.software

-- the maximum length of a text, in bytes
abbrev pub most_bytes : InfoId → ℕ
most_bytes Comment = COMMENT_LENGTH
most_bytes _ = TEXT_LENGTH

-- the id is that of the engine, which is never empty
abbrev pub is_engine : InfoId → Bool
is_engine Engine = true
is_engine _ = false
