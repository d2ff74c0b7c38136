-- The id of one of a bank's texts, on a line.
use Rattle.std.specs.Prelude.{ℕ, List, [], ◌∷◌, codes}
use Rattle.bank_parts.specs.declared.texts.InfoId.{InfoId}
use Rattle.bank_parts.specs.declared.texts.InfoId.TheVariants.{Engine, Name, Date, Engineers, Product, Copyright}
use Rattle.bank_parts.specs.declared.texts.InfoId.TheVariants.{Comment, Software}
use Rattle.script_tokens.specs.Parsers.{Parser}
use Rattle.script_grammar.specs.Names.{next_named}

-- the id of a text's chunk
abbrev pub id_word : InfoId → List ℕ
id_word Engine = codes "isng"
id_word Name = codes "INAM"
id_word Date = codes "ICRD"
id_word Engineers = codes "IENG"
id_word Product = codes "IPRD"
id_word Copyright = codes "ICOP"
id_word Comment = codes "ICMT"
id_word Software = codes "ISFT"

-- the ids of all texts of a bank
abbrev pub ids : List InfoId
ids = Engine ∷ Name ∷ Date ∷ Engineers ∷ Product ∷ Copyright ∷ Comment ∷ Software ∷ []

-- the id of a text
unfoldable pub info_id : Parser InfoId
info_id = next_named id_word ids
