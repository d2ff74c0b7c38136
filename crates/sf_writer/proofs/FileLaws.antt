-- The canonical file as its parts, and its length.
use Rattle.std.proofs.Common.{◌≡◌, ◌+◌, ◌%◌, ℕ, List, ◌++◌, length, refl, ap, arith}
use Rattle.std.proofs.lemmas.List.{length-append, append-nil}
use Rattle.riff_chunks.specs.Walk.{LIST}
use Rattle.riff_chunks.specs.Encoding.{encode}
use Rattle.riff_chunks.proofs.EncodingLaws.{length-chunk}
use Rattle.bank_parts.specs.declared.parts.Parts.{Parts}
use Rattle.bank_format.specs.Ids.{RIFF, SFBK, INFO, SDTA, PDTA}
use Rattle.bank_format.specs.Tables.{tables_of}
use Rattle.bank_format.specs.Canon.{info, sdta, pdta, lists, canon}
use Rattle.sf_writer.specs.Lists.{list_bytes}
use Rattle.sf_writer.proofs.ChunkLaws.{length-form-even, length-LIST}

abbrev info_list : Parts → List ℕ
info_list b = list_bytes INFO (info b)

abbrev sdta_list : Parts → List ℕ
sdta_list b = list_bytes SDTA (sdta b)

abbrev pdta_list : Parts → List ℕ
pdta_list b = list_bytes PDTA (pdta (tables_of b))

-- the three lists
pub lists-is : (b : Parts) → encode (lists b) ≡ info_list b ++ (sdta_list b ++ pdta_list b)
unfolding lists
lists-is b = ap (λ (t : List ℕ). info_list b ++ (sdta_list b ++ t)) (append-nil (pdta_list b))

pub length-lists : (b : Parts)
    → length (encode (lists b)) ≡ length (info_list b) + length (sdta_list b) + length (pdta_list b)
length-lists b =
    omega (
      arith,
      ap length (lists-is b),
      length-append (info_list b) (sdta_list b ++ pdta_list b),
      length-append (sdta_list b) (pdta_list b),
    )

pub length-SFBK : length SFBK ≡ 4
unfolding SFBK
length-SFBK = refl

-- each list has an even length
pub lists-even : (b : Parts) → length (encode (lists b)) % 2 ≡ 0
lists-even b =
    omega (
      arith,
      length-lists b,
      length-chunk LIST (INFO ++ encode (info b)) length-LIST,
      length-chunk LIST (SDTA ++ encode (sdta b)) length-LIST,
      length-chunk LIST (PDTA ++ encode (pdta (tables_of b))) length-LIST,
    )

pub length-canon : (b : Parts) → length (canon b) ≡ 8 + length (SFBK ++ encode (lists b))
unfolding canon RIFF
length-canon b = length-form-even RIFF SFBK (encode (lists b)) refl length-SFBK (lists-even b)

pub ruleset file_size = (length-canon)
