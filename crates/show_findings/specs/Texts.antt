-- Owners and places in the words of scripts.
use Rattle.std.specs.Prelude.{ℕ, List, ◌++◌, decimal, codes}
use Rattle.bank_changes.specs.declared.members.Owner.{Owner}
use Rattle.bank_changes.specs.declared.members.Owner.TheVariants as owner
use Rattle.bank_changes.specs.declared.members.Place.{Place}
use Rattle.bank_changes.specs.declared.members.Place.TheVariants as place

-- words and a number, such as `preset 3`
abbrev pub numbered : List ℕ → ℕ → List ℕ
numbered words n = words ++ decimal n

abbrev pub owner_text : Owner → List ℕ
owner_text (owner.Preset p) = numbered (codes "preset ") p
owner_text (owner.Inst i) = numbered (codes "inst ") i

-- a place of an owner, after a space
abbrev pub place_text : Place → List ℕ
place_text place.Global = codes " global"
place_text (place.Zone k) = numbered (codes " ") k
