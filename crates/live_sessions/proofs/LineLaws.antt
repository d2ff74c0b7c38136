-- The first line of a text, and reading up to a line feed.
use Rattle.std.proofs.Common.{◌≡◌, ◌≢◌, ℕ, Bool, true, false, not, cond, ◌&&◌, List, [], ◌∷◌, ◌++◌, Option, Some}
use Rattle.std.proofs.Common.{None, IfSome, refl, sym, ap, subst, ◌∙◌}
use Rattle.std.specs.List.{list_all}
use Rattle.std.specs.Io.KnownBytes.{IsAtEnd}
use Rattle.std.specs.Io.BufRead.{take_through, drop_through, DropsThrough}
use Rattle.script_tokens.specs.Lines.{is_feed, onto, lines_of}
use Rattle.live_lines.specs.Requests.{HasNoFeed}
use Rattle.live_sessions.specs.Turns.{Reads}
use Rattle.live_sessions.specs.Runs.{IsFirst, IsRead}

no_lines : lines_of [] ≡ []
unfolding lines_of
no_lines = refl

lines_step : (x : ℕ) (xs : List ℕ) (b : Bool) → is_feed x ≡ b
    → lines_of (x ∷ xs) ≡ cond b ([] ∷ lines_of xs) (onto x (lines_of xs))
unfolding lines_of
lines_step x xs b e = ap (λ (t : Bool). cond t ([] ∷ lines_of xs) (onto x (lines_of xs))) e

take_step : (x : ℕ) (xs : List ℕ) (b : Bool) → is_feed x ≡ b
    → take_through 10 (x ∷ xs) ≡ cond b (x ∷ []) (x ∷ take_through 10 xs)
take_step x xs b e = ap (λ (t : Bool). cond t (x ∷ []) (x ∷ take_through 10 xs)) e

drop_step : (x : ℕ) (xs : List ℕ) (b : Bool) → is_feed x ≡ b → drop_through 10 (x ∷ xs) ≡ cond b xs (drop_through 10 xs)
drop_step x xs b e = ap (λ (t : Bool). cond t xs (drop_through 10 xs)) e

-- the bytes up to the first line feed are the first line
record FirstLine (xs : List ℕ) : Type 0 where
  line : List ℕ
  prefix_is : lines_of (take_through 10 xs) ≡ line ∷ []
  rest : lines_of xs ≡ line ∷ lines_of (drop_through 10 xs)

first_line_at : (x : ℕ) (xs : List ℕ) (b : Bool) → is_feed x ≡ b → FirstLine (x ∷ xs)
first_line_at x xs true e = record {
  line = [];
  prefix_is = ap lines_of (take_step x xs true e) ∙ lines_step x [] true e ∙ ap (λ (ls : List (List ℕ)). [] ∷ ls) no_lines;
  rest = lines_step x xs true e ∙ ap (λ (ys : List ℕ). [] ∷ lines_of ys) (sym (drop_step x xs true e));
}
first_line_at x [] false e = record {
  line = x ∷ [];
  prefix_is = ap lines_of (take_step x [] false e) ∙ lines_step x [] false e ∙ ap (onto x) no_lines;
  rest =
      lines_step x [] false e ∙ ap (onto x) no_lines
      ∙ ap (λ (ls : List (List ℕ)). (x ∷ []) ∷ ls) (sym (ap lines_of (drop_step x [] false e) ∙ no_lines));
}
first_line_at x (y ∷ ys) false e =
    let c : FirstLine (y ∷ ys) = first_line_at y ys (is_feed y) refl in
    record {
      line = x ∷ c.line;
      prefix_is =
          ap lines_of (take_step x (y ∷ ys) false e) ∙ lines_step x (take_through 10 (y ∷ ys)) false e
          ∙ ap (onto x) c.prefix_is;
      rest =
          lines_step x (y ∷ ys) false e ∙ ap (onto x) c.rest
          ∙ ap (λ (zs : List ℕ). (x ∷ c.line) ∷ lines_of zs) (sym (drop_step x (y ∷ ys) false e));
    }

-- what was read is the first line of the input
pub read_one : (old new : Option (List ℕ)) (bytes : List ℕ) → bytes ≢ []
    → IfSome old (λ xs. bytes ≡ take_through 10 xs) → DropsThrough old new 10
    → (line : List ℕ) → IsFirst (lines_of bytes) line → Reads old new (line ∷ [])
read_one None new bytes some h d line f = tt
read_one (Some []) new bytes some h d line f = absurd (some h)
read_one (Some (x ∷ xs)) None bytes some h d line f = absurd cc
read_one (Some (x ∷ xs)) (Some left) bytes some h d line f =
    let c : FirstLine (x ∷ xs) = first_line_at x xs (is_feed x) refl in
    let P : List (List ℕ) → Type 0 = λ ls. IsFirst ls line in
    let is : line ≡ c.line = subst P (ap lines_of h ∙ c.prefix_is) f in
    let left_is : left ≡ drop_through 10 (x ∷ xs) = cc in
    c.rest ∙ (λ i. sym is i ∷ lines_of (sym left_is i))

-- ---- a line has no line feed

first : List (List ℕ) → List ℕ
first [] = []
first (l ∷ ls) = l

is_first : (ls : List (List ℕ)) (l : List ℕ) → IsFirst ls l → l ≡ first ls
unfolding first
is_first [] l h = h
is_first (m ∷ ms) l h = h

put_before : (x : ℕ) (l : List ℕ) → is_feed x ≡ false → HasNoFeed l → HasNoFeed (x ∷ l)
put_before x l e h =
    let P : Bool → Type 0 = λ b. (not b && list_all (λ c. not (is_feed c)) l) ≡ true in
    subst P (sym e) h

onto_bare : (x : ℕ) (ls : List (List ℕ)) → is_feed x ≡ false → HasNoFeed (first ls) → HasNoFeed (first (onto x ls))
unfolding first
onto_bare x [] e h = put_before x [] e refl
onto_bare x (m ∷ ms) e h = put_before x m e h

first_bare : (xs : List ℕ) → HasNoFeed (first (lines_of xs))
unfolding first lines_of
first_bare [] = refl
first_bare (x ∷ xs) =
    let P : Bool → Type 0 = λ b. is_feed x ≡ b → HasNoFeed (first (cond b ([] ∷ lines_of xs) (onto x (lines_of xs)))) in
    let at : (b : Bool) → P b = elim [ true ↦ λ _. refl | false ↦ λ e. onto_bare x (lines_of xs) e (first_bare xs) ] in
    at (is_feed x) refl

pub first_is_bare : (xs l : List ℕ) → IsFirst (lines_of xs) l → HasNoFeed l
first_is_bare xs l h = subst HasNoFeed (sym (is_first (lines_of xs) l h)) (first_bare xs)

pub bare_of : (ls : List (List ℕ)) (xs l : List ℕ) (rest : List (List ℕ)) → ls ≡ lines_of xs → ls ≡ l ∷ rest
    → HasNoFeed l
bare_of ls xs l rest e h = first_is_bare xs l (subst (λ (ms : List (List ℕ)). IsFirst ms l) (sym h ∙ e) refl)

-- the same for a buffer that was empty
pub read_after : (old new : Option (List ℕ)) (buffer bytes : List ℕ) → buffer ≡ [] → bytes ≢ []
    → IfSome old (λ xs. bytes ≡ buffer ++ take_through 10 xs) → DropsThrough old new 10
    → (line : List ℕ) → IsFirst (lines_of bytes) line → Reads old new (line ∷ [])
read_after old new buffer bytes e some h d =
    read_one old new bytes some (subst (λ (b : List ℕ). IfSome old (λ xs. bytes ≡ b ++ take_through 10 xs)) e h) d

pub read_some : (b : Bool) (old new : Option (List ℕ)) (bytes text line : List ℕ) → b ≡ true
    → IsRead b old new bytes → text ≡ bytes → IsFirst (lines_of text) line → Reads old new (line ∷ [])
read_some b old new bytes text line e h same first_is =
    let at : (l : List ℕ) → IsFirst (lines_of bytes) l → Reads old new (l ∷ []) =
    subst (λ (c : Bool). IsRead c old new bytes) e h in
    at line (subst (λ (t : List ℕ). IsFirst (lines_of t) line) same first_is)

pub read_none : (b : Bool) (old new : Option (List ℕ)) (bytes : List ℕ) → b ≡ false → IsRead b old new bytes
    → IsAtEnd old
read_none b old new bytes e h = subst (λ (c : Bool). IsRead c old new bytes) e h
