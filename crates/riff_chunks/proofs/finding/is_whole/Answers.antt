use Rattle.std.proofs.Common.{◌≡◌, is_ok, Result, Ok, Err, refl, rules, tests}
use Rattle.std.proofs.lemmas.Iterator.Consumers.{YieldsList-from_first}
use Rattle.std.proofs.lemmas.Iterator.Search.{all_from_yields_List}
use Rattle.std.specs.Result.{result_map_both}
use Rattle.riff_chunks.proofs.finding.is_whole.Goals as goal

-- The value of an item is the same variant.
is_ok-seen : {T U E D : Type 0} (f : T → U) (g : E → D) (x : Result T E) → is_ok (result_map_both f g x) ≡ is_ok x
is_ok-seen f g (Ok x) = refl
is_ok-seen f g (Err e) = refl

pub returns : goal.returns
returns c =
    all_from_yields_List is_ok _ _ _ c.all.ensures.ran
    (YieldsList-from_first _ (λ rest. rest) _ c.over.ensures.value)
    (λ x b q k. rw is_ok-seen (search (rules, tests)))
