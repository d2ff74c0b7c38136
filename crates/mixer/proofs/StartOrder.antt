-- Sorting notes by start doesn't change how they render.
use Rattle.std.proofs.Common.{◌≡◌, ℕ, ◌+◌, ◌*◌, ◌/◌, ◌<◌, ◌≤◌, ℤ, pos, ◌+ℤ◌, Bool, true, false, cond, nat_le, ◌&&◌}
use Rattle.std.proofs.Common.{◌||◌, List, [], ◌∷◌, map, refl, sym, ap, ◌∙◌, arith}
use Rattle.std.specs.List.{list_any, range_with_len}
use Rattle.std.proofs.lemmas.Int.{ints}
use Rattle.std.proofs.lemmas.Bool.Decides.{nat_tests}
use Rattle.script_notes.specs.Notes.{Numbers}
use Rattle.bank_parts.specs.declared.parts.Parts.{Parts}
use Rattle.mixer.specs.declared.playing.PlayingVoice.{PlayingVoice}
use Rattle.mixer.specs.StartFrames.{note_voices, silences, is_silenced, voice_at, start_at, sum_at, side_at, frames, clipped, is_left}
use Rattle.mixer.specs.Render.{frame_count, silenced_from, note_with, note_at, notes_at, rendered_side, first_frames, render}
use Rattle.mixer.specs.Order.{placed, in_order, start_of, frames_of, IsRising}
use Rattle.mixer.proofs.Orders.{rising-in_order}

-- sorted notes that follow others
unfoldable sorted_at : Parts → List Numbers → List Numbers → Bool → ℕ → ℤ
sorted_at b before [] left t = pos 0
sorted_at b before (n ∷ after) left t = note_at b before after n left t +ℤ sorted_at b before after left t

pub rising-from : (j k : ℕ) (ms : List Numbers) → j ≤ k → IsRising k ms → IsRising j ms
rising-from j k [] h r = tt
rising-from j k (m ∷ ms) h r = (omega (arith, h, r.0), r.1)

pub at_least : (a b : ℕ) → a ≤ b → nat_le a b ≡ true
at_least a b h = grind (arith, nat_tests)

not_least : (a b : ℕ) → b < a → nat_le a b ≡ false
not_least a b h = grind (arith, nat_tests)

below_of : (a b : ℕ) → nat_le a b ≡ false → b < a
below_of a b h = grind (arith, nat_tests)

above_of : (a b : ℕ) → nat_le a b ≡ true → a ≤ b
above_of a b h = grind (arith, nat_tests)

-- all notes start late enough
all_later : (b : Parts) (k t : ℕ) (q : PlayingVoice) (ms : List Numbers) → IsRising k ms
    → silenced_from b k t q ms ≡ is_silenced (map (start_of b) ms) t q
unfolding silenced_from is_silenced start_of
all_later b k t q [] r = refl
all_later b k t q (m ∷ ms) r =
    λ j.
    (at_least k m.start r.0 j && (nat_le m.start t && silences (note_voices b m) q))
    || all_later b k t q ms (rising-from k m.start ms r.0 r.1) j

in_order_is : (b : Parts) (u : ℕ) (ms : List Numbers) (left : Bool) (t : ℕ) → IsRising u ms
    → sum_at (map (start_of b) ms) left t ≡ sorted_at b [] ms left t
unfolding sum_at sorted_at start_at voice_at start_of note_at note_with silenced_from
in_order_is b u [] left t r = refl
in_order_is b u (m ∷ ms) left t r =
    λ j. note_with b (λ p. sym (all_later b m.start t p ms r.1) j) m left t +ℤ in_order_is b m.start ms left t r.1 j

any_or : (x y z : Bool) → (x || (y || z)) ≡ (y || (x || z))
any_or true y z = elim y as (λ v. true ≡ (v || true)) [ true ↦ refl | false ↦ refl ]
any_or false y z = refl

any-placed : (f : Numbers → Bool) (n : Numbers) (ms : List Numbers) → list_any f (placed n ms) ≡ (f n || list_any f ms)
unfolding placed
any-placed f n [] = refl
any-placed f n (m ∷ ms) =
    let P : Bool → Type 0 = λ c. list_any f (cond c (n ∷ m ∷ ms) (m ∷ placed n ms)) ≡ (f n || (f m || list_any f ms)) in
    let at : (c : Bool) → P c =
    elim [ true ↦ refl | false ↦ ap (λ x. f m || x) (any-placed f n ms) ∙ any_or (f m) (f n) (list_any f ms) ] in
    at (nat_le n.start m.start)

any-in_order : (f : Numbers → Bool) (ns : List Numbers) → list_any f (in_order ns) ≡ list_any f ns
unfolding in_order
any-in_order f [] = refl
any-in_order f (n ∷ ns) = any-placed f n (in_order ns) ∙ ap (λ x. f n || x) (any-in_order f ns)

-- a note that starts no later than the others silences none of them
not_before : (b : Parts) (n : Numbers) (before ms : List Numbers) (left : Bool) (t : ℕ) → IsRising n.start ms
    → sorted_at b (n ∷ before) ms left t ≡ sorted_at b before ms left t
unfolding sorted_at note_at silenced_from
not_before b n before [] left t r = refl
not_before b n before (m ∷ ms) left t r =
    λ j.
    note_with b
    (λ p.
    ((not_least (m.start + 1) n.start (omega (arith, r.0)) j
    && (nat_le n.start t && silences (note_voices b n) p))
    || silenced_from b (m.start + 1) t p before)
    || silenced_from b m.start t p ms)
    m left t
    +ℤ not_before b n before ms left t (rising-from n.start m.start ms r.0 r.1) j

three : (x y z : Bool) → ((x || y) || z) ≡ (y || (x || z))
three true y z = elim y as (λ v. true ≡ (v || true)) [ true ↦ refl | false ↦ refl ]
three false y z = refl

swap_sums : (a c s : ℤ) → a +ℤ (c +ℤ s) ≡ c +ℤ (a +ℤ s)
swap_sums a c s = omega (arith, ints)

-- a note that starts before n is silenced by the same notes wherever n is in the list
earlier : (b : Parts) (n m : Numbers) (before ms : List Numbers) (left : Bool) (t : ℕ) → m.start < n.start
    → note_at b (n ∷ before) ms m left t ≡ note_at b before (placed n ms) m left t
unfolding note_at silenced_from
earlier b n m before ms left t h =
    λ j. note_with b (λ p.
    (let rest : Bool = nat_le n.start t && silences (note_voices b n) p in
    let x : Bool = silenced_from b (m.start + 1) t p before in
    let y : Bool = silenced_from b m.start t p ms in
    let first : (((nat_le (m.start + 1) n.start && rest) || x) || y) ≡ ((rest || x) || y) =
    ap (λ c. ((c && rest) || x) || y) (at_least (m.start + 1) n.start (omega (arith, h))) in
    let last : (x || ((nat_le m.start n.start && rest) || y)) ≡ (x || (rest || y)) =
    ap (λ c. x || ((c && rest) || y)) (at_least m.start n.start (omega (arith, h))) in
    let placed_is : silenced_from b m.start t p (placed n ms) ≡ ((nat_le m.start n.start && rest) || y) =
    any-placed (λ k. nat_le m.start k.start && (nat_le k.start t && silences (note_voices b k) p)) n ms in
    first ∙ three rest x y ∙ sym last ∙ ap (λ z. x || z) (sym placed_is)) j) m left t

-- a note that starts before n doesn't silence n
not_silenced_by_earlier : (b : Parts) (n m : Numbers) (before ms : List Numbers) (left : Bool) (t : ℕ) → m.start < n.start
    → note_at b before (m ∷ ms) n left t ≡ note_at b before ms n left t
unfolding note_at silenced_from
not_silenced_by_earlier b n m before ms left t h =
    λ j.
    note_with b
    (λ p.
    silenced_from b (n.start + 1) t p before
    ||
    ((not_least n.start m.start h j && (nat_le m.start t && silences (note_voices b m) p))
    || silenced_from b n.start t p ms))
    n left t

put_in : (b : Parts) (u : ℕ) (n : Numbers) (before ms : List Numbers) (left : Bool) (t : ℕ) → IsRising u ms
    → note_at b before ms n left t +ℤ sorted_at b (n ∷ before) ms left t ≡ sorted_at b before (placed n ms) left t
unfolding sorted_at placed
put_in b u n before [] left t r = refl
put_in b u n before (m ∷ ms) left t r =
    let P : Bool → Type 0 = λ c. nat_le n.start m.start ≡ c
    → note_at b before (m ∷ ms) n left t +ℤ (note_at b (n ∷ before) ms m left t +ℤ sorted_at b (n ∷ before) ms left t)
    ≡ sorted_at b before (cond c (n ∷ m ∷ ms) (m ∷ placed n ms)) left t in
    let at : (c : Bool) → P c = elim [
      | true ↦ λ e.
          ap (λ (z : ℤ). note_at b before (m ∷ ms) n left t +ℤ z)
          (not_before b n before (m ∷ ms) left t (above_of n.start m.start e, r.1))
      | false ↦ λ e.
          let h : m.start < n.start = below_of n.start m.start e in
          (λ j.
          not_silenced_by_earlier b n m before ms left t h j
          +ℤ (earlier b n m before ms left t h j +ℤ sorted_at b (n ∷ before) ms left t))
          ∙ swap_sums (note_at b before ms n left t) (note_at b before (placed n ms) m left t)
          (sorted_at b (n ∷ before) ms left t)
          ∙ ap (λ (z : ℤ). note_at b before (placed n ms) m left t +ℤ z) (put_in b m.start n before ms left t r.1)
    ] in
    at (nat_le n.start m.start) refl

unordered_is : (b : Parts) (before ns : List Numbers) (left : Bool) (t : ℕ)
    → notes_at b before ns left t ≡ sorted_at b before (in_order ns) left t
unfolding notes_at sorted_at in_order note_at silenced_from
unordered_is b before [] left t = refl
unordered_is b before (n ∷ ns) left t =
    (λ j. note_with b (λ p. silenced_from b (n.start + 1) t p before || sym
    (any-in_order (λ m. nat_le n.start m.start && (nat_le m.start t && silences (note_voices b m) p)) ns) j) n left t
    +ℤ unordered_is b (n ∷ before) ns left t j)
    ∙ put_in b 0 n before (in_order ns) left t (rising-in_order ns)

pub order_free : (b : Parts) (ns : List Numbers) (left : Bool) (t : ℕ)
    → sum_at (map (start_of b) (in_order ns)) left t ≡ notes_at b [] ns left t
order_free b ns left t = in_order_is b 0 (in_order ns) left t (rising-in_order ns) ∙ sym (unordered_is b [] ns left t)

pub frames_are : (b : Parts) (ns : List Numbers) (m : ℕ) → frames_of b (in_order ns) m ≡ first_frames b ns m
unfolding frames_of frames side_at rendered_side
frames_are b ns m =
    λ j.
    map
    (λ i.
    clipped
    ((ap (sum_at (map (start_of b) (in_order ns)) (is_left i))
    (let e : 0 + i / 2 ≡ i / 2 = omega arith in e)
    ∙ order_free b ns (is_left i) (i / 2))
    j))
    (range_with_len 0 (2 * m))

pub render_is : (b : Parts) (ns : List Numbers) → frames_of b (in_order ns) (frame_count b ns) ≡ render b ns
unfolding render
render_is b ns = frames_are b ns (frame_count b ns)
