-- The data of a page has no markup.
use Rattle.std.specs.Prelude.{ℕ, Bool, ◌==◌, not, List}
use Rattle.std.specs.List.{AllPass}
use Rattle.bank_parts.specs.declared.parts.Parts.{Parts}
use Rattle.show_findings.specs.declared.finding.Finding.{Finding}
use Rattle.show_page.specs.Data.{page_data}

-- other than `<`
abbrev pub is_inner : ℕ → Bool
is_inner b = not (b == 60)

-- no byte of the data is `<`, so that no name ends its element or begins another one
abbrev pub DataHasNoMarkup : Type 0
DataHasNoMarkup = (b : Parts) (findings : List Finding) → AllPass is_inner (page_data b findings)
