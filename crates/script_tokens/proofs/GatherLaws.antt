-- Lists built line by line, and their first fault.
use Rattle.std.proofs.Common.{◌≡◌, ◌≤◌, ℕ, suc, Bool, true, false, cond, List, [], ◌∷◌, length, Result, Ok, Err}
use Rattle.std.proofs.Common.{refl, sym, ◌∙◌, arith}
use Rattle.sf_base.specs.declared.memory.Failure.{Failure}
use Rattle.sf_base.specs.declared.memory.Failure.TheVariants as failures
use Rattle.script_tokens.specs.declared.cursor.TokenValue.{TokenValue}
use Rattle.script_tokens.specs.declared.fault.ScriptFault.{ScriptFault}
use Rattle.script_tokens.specs.Lines.{lines_of, onto, is_feed}
use Rattle.script_tokens.specs.Pool.{ListOrFault, Fails, and_then, gather, literal_of, literals_of}

pub gather_none : {X F : Type 0} (f : ℕ → List TokenValue → List X → Result (List X) F) (n : ℕ) (xs : List X)
    → gather f n [] xs ≡ Ok xs
unfolding gather
gather_none f n xs = refl

pub gather_on : {X F : Type 0} (f : ℕ → List TokenValue → List X → Result (List X) F) (n : ℕ) (l : List TokenValue)
    (ls : List (List TokenValue)) (xs : List X)
    → gather f n (l ∷ ls) xs ≡ and_then (f n l xs) (λ ys. gather f (suc n) ls ys)
unfolding gather
gather_on f n l ls xs = refl

pub literals_none : (n : ℕ) (pool : List ℕ) → literals_of n [] pool ≡ Ok pool
unfolding literals_of
literals_none n pool = refl

pub literals_on : (n : ℕ) (s : TokenValue) (line : List TokenValue) (pool : List ℕ)
    → literals_of n (s ∷ line) pool ≡ and_then (literal_of n s pool) (λ more. literals_of n line more)
unfolding literals_of
literals_on n s line pool = refl

-- ---- in a loop over lines, the remaining lines add to the list so far what completes the whole

pub lines_on : {X F : Type 0} (f : ℕ → List TokenValue → List X → Result (List X) F) (n m : ℕ) (xs ys : List X)
    (l : List TokenValue) (ls all : List (List TokenValue)) (whole : Result (List X) F)
    → m ≡ suc n → all ≡ l ∷ ls
    → gather f n all xs ≡ whole → f n l xs ≡ Ok ys → gather f m ls ys ≡ whole
lines_on f n m xs ys l ls all whole em e h a =
    let on = gather_on f n l ls xs in
    rw em (rw (e, on, a) at h)

pub lines_stop : {X F : Type 0} (f : ℕ → List TokenValue → List X → Result (List X) F) (n : ℕ) (xs : List X)
    (l : List TokenValue) (ls all : List (List TokenValue)) (whole : Result (List X) F) (d : F)
    → all ≡ l ∷ ls
    → gather f n all xs ≡ whole → f n l xs ≡ Err d → whole ≡ Err d
lines_stop f n xs l ls all whole d e h a =
    let on = gather_on f n l ls xs in
    sym (rw (e, on, a) at h)

pub lines_over : {X F : Type 0} (f : ℕ → List TokenValue → List X → Result (List X) F) (n : ℕ) (xs : List X)
    (all : List (List TokenValue)) (whole : Result (List X) F)
    → all ≡ []
    → gather f n all xs ≡ whole → whole ≡ Ok xs
lines_over f n xs all whole e h = sym (rw e at h) ∙ gather_none f n xs

-- ---- the literals of a line

pub all_added : (n : ℕ) (pool more : List ℕ) (s : TokenValue) (line all : List TokenValue) (whole : ListOrFault ℕ)
    → all ≡ s ∷ line
    → literals_of n all pool ≡ whole → literal_of n s pool ≡ Ok more → literals_of n line more ≡ whole
all_added n pool more s line all whole e h a =
    let on = literals_on n s line pool in
    rw (e, on, a) at h

pub literals_stop : (n : ℕ) (pool : List ℕ) (s : TokenValue) (line all : List TokenValue) (whole : ListOrFault ℕ) (d : ScriptFault)
    → all ≡ s ∷ line
    → literals_of n all pool ≡ whole → literal_of n s pool ≡ Err d → whole ≡ Err d
literals_stop n pool s line all whole d e h a =
    let on = literals_on n s line pool in
    sym (rw (e, on, a) at h)

pub literals_over : (n : ℕ) (pool : List ℕ) (all : List TokenValue) (whole : ListOrFault ℕ) → all ≡ []
    → literals_of n all pool ≡ whole → whole ≡ Ok pool
literals_over n pool all whole e h = sym (rw e at h) ∙ literals_none n pool

-- ---- no more lines than bytes

length-onto : (b : ℕ) (ls : List (List ℕ)) → length (onto b ls) ≤ suc (length ls)
length-onto b [] = omega arith
length-onto b (l ∷ ls) = omega arith

pub length-lines_of : (text : List ℕ) → length (lines_of text) ≤ length text
unfolding lines_of
length-lines_of [] = omega arith
length-lines_of (b ∷ text) = from (is_feed b) (length-lines_of text)
  where
    from : (t : Bool) → length (lines_of text) ≤ length text
        → length (cond t ([] ∷ lines_of text) (onto b (lines_of text))) ≤ suc (length text)
    from true h = omega (arith, h)
    from false h = omega (arith, h, length-onto b (lines_of text))

-- ---- a fault of one line is the fault of the whole

pub step_fails : {X Y F : Type 0} (failure : Failure F) (step : Result X F) (whole : Result Y F)
    → Fails failure step → ((fault : F) → step ≡ Err fault → whole ≡ Err fault) → Fails failure whole
step_fails (failures.Fault fault) step whole h f = f fault h
step_fails failures.OutOfMemory step whole h f = tt
