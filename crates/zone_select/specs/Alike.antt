-- Banks that give each note the same voices, and banks whose pairs of zones correspond.
use Rattle.std.specs.Prelude.{◌≡◌, ℕ, List, map}
use Rattle.std.specs.List.Sorted.{IsPermutation}
use Rattle.script_notes.specs.Notes.{Numbers}
use Rattle.bank_parts.specs.declared.parts.Parts.{Parts}
use Rattle.zone_select.specs.Select.{selected}
use Rattle.zone_select.specs.Pairs.{pairs, voice_by}

-- each note has the same voices in both banks, in some order
abbrev pub AreAlike : Parts → Parts → Type 0
AreAlike b c = (n : Numbers) → IsPermutation (selected b n) (selected c n)

-- the pairs that the note selects in b and in c correspond one to one, with the same voice: the same points and
-- parameters
pub record PairsCorrespond (b c : Parts) (n : Numbers) : Type 0 where
  -- the pairs of c, in the order of the corresponding pairs of b
  pub others : List (ℕ × ℕ)
  pub one_to_one : IsPermutation (pairs c n) others
  pub same_voices : map (voice_by b n) (pairs b n) ≡ map (voice_by c n) others

abbrev pub HavePairsAlike : Parts → Parts → Type 0
HavePairsAlike b c = (n : Numbers) → PairsCorrespond b c n

-- the same pairs, in the same order, each with the same voice
abbrev pub HaveSamePairs : Parts → Parts → Type 0
HaveSamePairs b c = (n : Numbers) → (pairs b n ≡ pairs c n) × ((q : ℕ × ℕ) → voice_by b n q ≡ voice_by c n q)
